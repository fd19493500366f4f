-- What the loads of each access do, as a node's act has them (6.3.2.1p2).
use Rattle.std.specs.Prelude.{ℕ, List, Some}
use Rattle.ub_base.specs.declared.names.Event.{Event}
use Rattle.addr_map.specs.declared.map.Row.{Row}
use Rattle.c_types.specs.declared.kind.IntKind.{IntKind}
use Rattle.c_types.specs.Types.{CType}
use Rattle.c_typed.specs.declared.tree.Access.TheVariants as access
use Rattle.mem_spec.specs.Script.{Script, Give, ◌>>=◌}
use Rattle.mem_spec.specs.Acts.{load_int, load_func, load_block}
use Rattle.c_model.specs.Values.{Value, Int, Fun, Whole, Pointer}
use Rattle.c_model.specs.Nodes.{load}

abbrev pub integer_act : List Row → IntKind → Pointer → Script Value
integer_act rows kind p = load_int rows kind p.address p.prov >>= (λ z. Give (Int z))

abbrev pub pointer_act : List Row → Event → CType → Pointer → Script Value
pointer_act rows who ty p = load rows who access.Pointer ty p

abbrev pub function_act : List Row → CType → Pointer → Script Value
function_act rows ty p = load_func rows ty p.address p.prov >>= (λ n. Give (Fun n))

abbrev pub whole_act : List Row → (size align : ℕ) → Pointer → Script Value
whole_act rows size align p = load_block rows size align p.address p.prov >>= (λ bs. Give (Whole bs (Some p.address)))

-- What conversions and comparisons of pointers do, as a node's act has it (6.3.2.3, 6.5.8).
use Rattle.std.specs.Prelude.{ℕ, pos, Bool, true, false}
use Rattle.std.specs.declared.cmp.Ordering.{Ordering}
use Rattle.std.specs.declared.cmp.Ordering.TheVariants as order
use Rattle.ub_base.specs.declared.names.Event.{Event}
use Rattle.ub_base.specs.declared.clause.Clause.TheVariants.{PointerAlignment}
use Rattle.c_types.specs.declared.kind.IntKind.{IntKind}
use Rattle.c_arith.specs.Operators.{conv}
use Rattle.c_typed.specs.declared.tree.RelOp.{RelOp}
use Rattle.c_typed.specs.declared.tree.RelOp.TheVariants as relation
use Rattle.mem_spec.specs.Script.{Script, Give, require, ◌>>=◌, ◌>>◌}
use Rattle.mem_spec.specs.Acts.{is_aligned, expose, from_int, less}
use Rattle.c_model.specs.Values.{Value, Int, Ptr, Pointer, pointer_value}
use Rattle.c_model.specs.Nodes.{bool_value, in_order}

-- the number of a pointer's address
abbrev pub exposed_act : IntKind → Pointer → Script Value
exposed_act kind p = expose p.prov >> Give (Int (conv kind (pos p.address)))

-- the pointer that an address makes
abbrev pub found_act : Event → ℕ → Script Value
found_act who a = from_int who a >>= (λ prov. Give (Ptr a prov))

abbrev pub aligned_act : ℕ → Pointer → Script Value
aligned_act align p = require (is_aligned align p.address) PointerAlignment >> Give (pointer_value p)

abbrev pub less_act : RelOp → Pointer → Pointer → Script Value
less_act op p q = less p.prov q.prov >> Give (bool_value (in_order op (pos p.address) (pos q.address)))

-- whether an operator holds of two operands in this order (6.5.8p6)
abbrev pub holds_in : RelOp → Ordering → Bool
holds_in relation.Less order.Less = true
holds_in relation.Less _ = false
holds_in relation.Greater order.Greater = true
holds_in relation.Greater _ = false
holds_in relation.LessEq order.Greater = false
holds_in relation.LessEq _ = true
holds_in relation.GreaterEq order.Less = false
holds_in relation.GreaterEq _ = true

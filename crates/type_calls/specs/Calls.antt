-- Function calls (6.5.2.2).
use Rattle.std.specs.Prelude.{ℕ, Bool, true, false, List, [], ◌∷◌, Option, Some, None, is_some}
use Rattle.c_types.specs.Layout.{extent}
use Rattle.c_types.specs.Types.{CType, void, array, function, Params, none as no_parameter, more as parameter, Signature}
use Rattle.c_typed.specs.declared.tree.Node.TheOpen as shape
use Rattle.type_operands.specs.Layouts.{Layouts}
use Rattle.type_operands.specs.Terms.{Term, Terms, term, none, type_at, before, Expression, as_value, ◌>>=◌, unless_refused}
use Rattle.type_operands.specs.Conversions.{target_of, value}
use Rattle.type_conversions.specs.Assigned.{as_if_assigned, default_promoted}

-- the next argument: as if assigned to its parameter, or with the default promotions where the ellipsis takes it (6.5.2.2p7)
abbrev pub argument : Layouts → (variadic : Bool) → Params → Expression → Option Term
argument tags variadic (parameter constant ty ps) e = as_if_assigned tags ty e
argument tags true no_parameter e = default_promoted tags e
argument tags false no_parameter e = None

abbrev pub rest : Params → Params
rest no_parameter = no_parameter
rest (parameter constant ty ps) = ps

abbrev pub where_none : Params → Option Terms
where_none no_parameter = Some none
where_none (parameter constant ty ps) = None

-- the arguments in their order: one for each parameter, and further ones where the function ends with an ellipsis (6.5.2.2p2)
abbrev pub arguments : Layouts → (variadic : Bool) → Params → List Expression → Option Terms
arguments tags variadic ps [] = where_none ps
arguments tags variadic ps (e ∷ es) = before (argument tags variadic ps e) (arguments tags variadic (rest ps) es)

-- the type of the function that a pointer points to (6.5.2.2p1)
abbrev pub callee_as : CType → Option Signature
callee_as (function result params variadic) = Some (record { result = result; params = params; variadic = variadic })
callee_as _ = None

abbrev pub callee : CType → Option Signature
callee ty = target_of ty >>= λ target. callee_as target.ty

-- a function gives `void`, or a complete object type that is no array (6.5.2.2p1)
abbrev pub may_return : Layouts → CType → Bool
may_return tags void = true
may_return tags (array constant element count) = false
may_return tags (function result params variadic) = false
may_return tags ty = is_some (extent tags.extents ty)

-- what the node of a call holds: the pointer to the function, and the arguments
abbrev pub operands : Layouts → Term → (variadic : Bool) → Params → List Expression → Option Terms
operands tags pointer variadic ps es = before (Some pointer) (arguments tags variadic ps es)

-- `f(arguments)`: through a pointer to a function, in the type that it returns (6.5.2.2p1, 6.5.2.2p5)
unfoldable pub called : Layouts → Expression → List Expression → ℕ → Option Expression
called tags designator es line = do
  pointer ← value tags designator
  f ← callee (type_at pointer)
  result ← unless_refused (may_return tags f.result) f.result
  ts ← operands tags pointer f.variadic f.params es
  Some (as_value (term (shape.Call false) none result line ts))

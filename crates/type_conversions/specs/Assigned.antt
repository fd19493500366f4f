-- Values as if assigned (6.5.16.1), and the default argument promotions (6.5.2.2p6).
use Rattle.std.specs.Prelude.{Bool, true, false, not, ◌&&◌, ◌||◌, if◌then◌else◌, Option, Some, None}
use Rattle.c_types.specs.declared.kind.IntKind.TheVariants.{Bool as Boolean}
use Rattle.c_types.specs.Types.{CType, int, enumeration, pointer, struct, union, Qualified}
use Rattle.c_types.specs.Same.{same, compatible}
use Rattle.type_operands.specs.Layouts.{Layouts}
use Rattle.type_operands.specs.Terms.{Term, type_at, line_at, Expression, ◌>>=◌}
use Rattle.type_operands.specs.Conversions.{target_of, is_pointer, is_scalar, may_meet, value, promoted, converted}
use Rattle.type_constants.specs.Constants.{is_null, null_pointer}

-- no qualifier is lost (6.5.16.1p1)
abbrev pub may_point : Qualified → Qualified → Bool
may_point from to = (not from.constant || to.constant) && may_meet from.ty to.ty

abbrev pub is_integer : CType → Bool
is_integer (int kind) = true
is_integer (enumeration tag) = true
is_integer _ = false

abbrev pub points : Option Qualified → Qualified → Bool
points None to = false
points (Some from) to = may_point from to

-- a value of the first type may be assigned to an object of the second (6.5.16.1p1)
abbrev pub may_assign : CType → CType → Bool
may_assign from (int Boolean) = is_scalar from
may_assign from (int kind) = is_integer from
may_assign from (enumeration tag) = is_integer from
may_assign from (pointer constant target) = points (target_of from) (record { constant = constant; ty = target })
may_assign from (struct tag) = compatible from (struct tag)
may_assign from (union tag) = compatible from (union tag)
may_assign from _ = false

-- a structure or union stays as it is
abbrev pub assigned_value : Layouts → CType → Term → Option Term
assigned_value tags (struct tag) t = Some t
assigned_value tags (union tag) t = Some t
assigned_value tags to t = converted tags to t

-- a null pointer constant becomes a pointer of the type (6.3.2.3p3)
abbrev pub takes_null : Expression → CType → Bool
takes_null e to = is_pointer to && (not (same (type_at e.tree) to) && is_null e)

abbrev pub put_as : Layouts → CType → Term → Option Term
put_as tags to t = if may_assign (type_at t) to then assigned_value tags to t else None

-- an operand as if assigned to an object of this type (6.5.16.1p2)
unfoldable pub as_if_assigned : Layouts → CType → Expression → Option Term
as_if_assigned tags to e =
    if takes_null e to then Some (null_pointer to (line_at e.tree))
    else (value tags e >>= λ t. put_as tags to t)

-- the default argument promotions (6.5.2.2p6)
abbrev pub promoted_type : CType → Term → Option Term
promoted_type (int kind) t = promoted t >>= λ p. Some p.term
promoted_type (enumeration tag) t = promoted t >>= λ p. Some p.term
promoted_type (pointer constant target) t = Some t
promoted_type (struct tag) t = Some t
promoted_type (union tag) t = Some t
promoted_type _ t = None

unfoldable pub default_promoted : Layouts → Expression → Option Term
default_promoted tags e = value tags e >>= λ t. promoted_type (type_at t) t

-- The values of constant expressions (6.6): what a tree is worth, by its nodes and what their operands are worth. `Unknown` is
-- no constant expression; `Valueless` has constants alone and no value, so it may stand where it isn't evaluated (6.6p3,
-- 6.6p4); `Number` is an integer, or a pointer that is null or a number cast to a pointer; `Address` is an address constant,
-- an offset in bytes from what it names (6.6p9).
use Rattle.std.specs.Prelude.{◌≡◌, ℕ, ◌==◌, Bool, true, false, not, ◌&&◌, if◌then◌else◌, ℤ, pos, ◌+ℤ◌, ◌-ℤ◌, ◌*ℤ◌, int_le, int_lt}
use Rattle.std.specs.Prelude.{unsigned_abs, List, [], ◌∷◌, Option, Some, None, Result, Ok, Err}
use Rattle.std.specs.Int.{int_rem_euclid}
use Rattle.ub_base.specs.declared.clause.Clause.{Clause}
use Rattle.c_types.specs.declared.kind.IntKind.{IntKind}
use Rattle.c_types.specs.declared.kind.IntKind.TheVariants.{ULong}
use Rattle.c_types.specs.declared.kind.BinOp.{BinOp}
use Rattle.c_types.specs.declared.tags.Extent.{Extent}
use Rattle.c_types.specs.Kinds.{holds}
use Rattle.c_types.specs.Types.{CType, kind_of}
use Rattle.c_arith.specs.Operators as arithmetic
use Rattle.c_typed.specs.declared.tree.Conversion.{Conversion}
use Rattle.c_typed.specs.declared.tree.Conversion.TheVariants as conversion
use Rattle.c_typed.specs.declared.tree.RelOp.{RelOp}
use Rattle.c_typed.specs.declared.tree.RelOp.TheVariants as relation
use Rattle.c_typed.specs.declared.tree.EqOp.{EqOp}
use Rattle.c_typed.specs.declared.tree.EqOp.TheVariants as equality
use Rattle.c_typed.specs.declared.tree.UnOp.{UnOp}
use Rattle.c_typed.specs.declared.tree.UnOp.TheVariants as unary_op
use Rattle.c_typed.specs.declared.tree.Slot.{Slot}
use Rattle.c_typed.specs.declared.tree.Slot.TheVariants as slot
use Rattle.c_typed.specs.declared.tree.Target.{Target}
use Rattle.c_typed.specs.declared.tree.Target.TheVariants as target
use Rattle.c_typed.specs.declared.tree.Node.TheOpen as shape
use Rattle.c_typed.specs.Sites.{Head}
use Rattle.type_constants.specs.declared.constant.Folded.{Folded}
use Rattle.type_constants.specs.declared.constant.Folded.TheVariants.{Unknown, Valueless, Number, Address}
use Rattle.type_constants.specs.declared.constant.Part.{Part}
use Rattle.type_operands.specs.declared.operand.Form.{Form}
use Rattle.type_operands.specs.declared.operand.Form.TheVariants as form
use Rattle.type_operands.specs.Terms.{Term, Terms, term, none, more, type_at, constant, Expression, ◌>>=◌}
use Rattle.type_operands.specs.Conversions.{is_pointer}
use Rattle.type_reasons.specs.Places.{Places, nowhere}

abbrev pub is_zero : ℤ → Bool
is_zero z = unsigned_abs z == 0

-- 1. Operators on integers.

-- a value, or that there is none (6.6p4)
abbrev pub outcome : Result ℤ Clause → Folded
outcome (Ok z) = Number z
outcome (Err clause) = Valueless

-- the result of a comparison or a logical operator is 1 or 0 (6.5.8p6, 6.5.9p3, 6.5.13p3, 6.5.14p3)
abbrev pub truth : Bool → Folded
truth b = Number (if b then pos 1 else pos 0)

-- an operand that isn't a value of the operator's kind is no constant here; typing makes none
abbrev pub of_unary : UnOp → ℤ → Folded
of_unary (unary_op.Minus kind) z = if holds kind z then outcome (arithmetic.negated kind z) else Unknown
of_unary (unary_op.Complement kind) z = if holds kind z then Number (arithmetic.complemented kind z) else Unknown
of_unary unary_op.Not z = truth (is_zero z)

abbrev pub of_binary : BinOp → IntKind → ℤ → ℤ → Folded
of_binary op kind a b = if holds kind a && arithmetic.is_operand op kind b then outcome (arithmetic.value op kind a b) else Unknown

abbrev pub in_order : RelOp → ℤ → ℤ → Bool
in_order relation.Less a b = int_lt a b
in_order relation.Greater a b = int_lt b a
in_order relation.LessEq a b = int_le a b
in_order relation.GreaterEq a b = int_le b a

abbrev pub are_equal : EqOp → ℤ → ℤ → Bool
are_equal equality.Equal a b = is_zero (a -ℤ b)
are_equal equality.NotEqual a b = not (is_zero (a -ℤ b))

-- an operator whose operands are all evaluated
abbrev pub with_number : (ℤ → Folded) → Folded → Folded
with_number f (Number a) = f a
with_number f Valueless = Valueless
with_number f _ = Unknown

abbrev pub with_numbers : (ℤ → ℤ → Folded) → Folded → Folded → Folded
with_numbers f (Number a) (Number b) = f a b
with_numbers f (Number a) Valueless = Valueless
with_numbers f Valueless (Number b) = Valueless
with_numbers f Valueless Valueless = Valueless
with_numbers f _ _ = Unknown

-- both values, or what such an operator is worth without them
abbrev pub IsPair : Folded → Folded → Result (ℤ × ℤ) Folded → Type 0
IsPair a b (Ok p) = (a ≡ Number p.0) × (b ≡ Number p.1)
IsPair a b (Err w) = (f : ℤ → ℤ → Folded) → w ≡ with_numbers f a b

-- `&&` and `||`: the second operand isn't evaluated where the first one decides (6.5.13p4, 6.5.14p4)
abbrev pub decided : Bool → Folded → Folded → Folded
decided either (Number a) (Number b) =
    if is_zero a then (if either then truth (not (is_zero b)) else truth false)
    else (if either then truth true else truth (not (is_zero b)))
decided either (Number a) Valueless =
    if is_zero a then (if either then Valueless else truth false)
    else (if either then truth true else Valueless)
decided either Valueless (Number b) = Valueless
decided either Valueless Valueless = Valueless
decided either _ _ = Unknown

abbrev pub is_constant : Folded → Bool
is_constant Unknown = false
is_constant _ = true

abbrev pub picked : Folded → Folded → Folded → Folded
picked (Number test) a b = if is_zero test then b else a
picked Valueless a b = Valueless
picked _ a b = Unknown

-- `?:`: one of the two is evaluated (6.5.15p4), and both are constant expressions
abbrev pub chosen : Folded → Folded → Folded → Folded
chosen test a b = if is_constant a && is_constant b then picked test a b else Unknown

-- 2. Addresses.

abbrev pub is_aligned : ℕ → ℤ → Bool
is_aligned align at = not (align == 0) && is_zero (int_rem_euclid at (pos align))

-- a number in another type
abbrev pub number_as : Conversion → ℤ → Folded
number_as (conversion.Integer kind) z = Number (arithmetic.conv kind z)
number_as conversion.Lookup z = Number (arithmetic.conv ULong z)
number_as (conversion.Pointer align) z = if is_aligned align z then Number z else Unknown
number_as conversion.Function z = if is_zero z then Number (pos 0) else Unknown
number_as _ z = Unknown

-- an address suits the type wherever its object lies (6.3.2.3p7)
abbrev pub realigned : ℕ → Target → ℤ → Option Extent → Folded
realigned align named at None = Unknown
realigned align named at (Some e) = if is_aligned align at && is_aligned align (pos e.align) then Address named at else Unknown

abbrev pub function_at : Target → ℤ → Folded
function_at (target.Function number) at = if is_zero at then Address (target.Function number) (pos 0) else Unknown
function_at _ at = Unknown

abbrev pub address_in : Conversion → Target → ℤ → Option Extent → Folded
address_in (conversion.Pointer align) named at extent = realigned align named at extent
address_in conversion.Function named at extent = function_at named at
address_in _ named at extent = Unknown

abbrev pub converted : Conversion → Folded → Option Extent → Folded
converted c (Number z) extent = number_as c z
converted c (Address named at) extent = address_in c named at extent
converted c Valueless extent = Valueless
converted c Unknown extent = Unknown

-- in the object, or one past it
abbrev pub is_within : Option Extent → ℤ → Bool
is_within None at = false
is_within (Some e) at = int_le (pos 0) at && int_le at (pos e.size)

-- from one place to another of one object (6.5.6p8)
abbrev pub moved : Target → Option Extent → ℤ → ℤ → Folded
moved named extent from to = if is_within extent from && is_within extent to then Address named to else Unknown

abbrev pub member : ℕ → Folded → Option Extent → Folded
member offset (Address named at) extent = moved named extent at (at +ℤ pos offset)
member offset _ extent = Unknown

abbrev pub stepped : ℕ → Bool → ℤ → ℤ → ℤ
stepped size subtract at index = if subtract then at -ℤ index *ℤ pos size else at +ℤ index *ℤ pos size

abbrev pub element : ℕ → Bool → Folded → Option Extent → Folded → Folded
element size subtract (Address named at) extent (Number index) = moved named extent at (stepped size subtract at index)
element size subtract _ extent _ = Unknown

-- 3. Trees.

-- what no constant expression has: the value of an object, an assignment, an increment, a call (6.6p3, 6.6p6, 6.6p9)
abbrev pub never_constant : Head → Bool
never_constant (shape.Load access) = true
never_constant (shape.Part offset access) = true
never_constant (shape.Assign initializing access) = true
never_constant (shape.Update change old) = true
never_constant (shape.Call discarded) = true
never_constant (shape.List object bytes) = true
never_constant (shape.Isolated tree) = true
never_constant _ = false

abbrev pub is_comma : Head → Bool
is_comma shape.Comma = true
is_comma _ = false

-- an operand as it is seen from its node: what it is worth, whether it is a pointer, and the extent of what it names
abbrev pub extent_behind : Places → Folded → Option Extent
extent_behind places (Address named at) = places named
extent_behind places _ = None

abbrev pub part_of : Places → CType → Folded → Part
part_of places ty worth = record { worth = worth; pointer = is_pointer ty; extent = extent_behind places worth }

-- where an integer is wanted: how a pointer compares isn't constant
abbrev pub integer : Part → Folded
integer a = if a.pointer then Unknown else a.worth

abbrev pub of_slot : Slot → Folded
of_slot (slot.Static number) = Address (target.Static number) (pos 0)
of_slot _ = Unknown

abbrev pub of_none : Head → Folded
of_none (shape.Const z) = Number z
of_none (shape.Obj object) = of_slot object
of_none (shape.Func number) = Address (target.Function number) (pos 0)
of_none (shape.Str number) = Address (target.Literal number) (pos 0)
of_none _ = Unknown

abbrev pub of_one : Head → Part → Folded
of_one (shape.Conv c) a = converted c a.worth a.extent
of_one (shape.Un op) a = with_number (of_unary op) (integer a)
of_one (shape.Member offset) a = member offset a.worth a.extent
of_one _ a = Unknown

abbrev pub of_two : Head → Part → Part → Folded
of_two (shape.Bin op kind) a b = with_numbers (of_binary op kind) a.worth b.worth
of_two (shape.Rel op false) a b = with_numbers (λ x y. truth (in_order op x y)) a.worth b.worth
of_two (shape.Eq op) a b = with_numbers (λ x y. truth (are_equal op x y)) (integer a) (integer b)
of_two shape.And a b = decided false (integer a) (integer b)
of_two shape.Or a b = decided true (integer a) (integer b)
of_two (shape.PtrAdd size subtract) a b = element size subtract a.worth a.extent b.worth
of_two _ a b = Unknown

abbrev pub of_three : Head → Part → Part → Part → Folded
of_three shape.Cond a b c = chosen (integer a) b.worth c.worth
of_three _ a b c = Unknown

abbrev pub of_operands : Head → List Part → Folded
of_operands head [] = of_none head
of_operands head (a ∷ []) = of_one head a
of_operands head (a ∷ b ∷ []) = of_two head a b
of_operands head (a ∷ b ∷ c ∷ []) = of_three head a b c
of_operands head _ = Unknown

abbrev pub all_constant : List Part → Bool
all_constant [] = true
all_constant (a ∷ parts) = is_constant a.worth && all_constant parts

-- a comma has no value in a constant expression (6.6p3)
abbrev pub of_comma : List Part → Folded
of_comma parts = if all_constant parts then Valueless else Unknown

abbrev pub of_node : Head → List Part → Folded
of_node head parts =
    if never_constant head then Unknown
    else if is_comma head then of_comma parts else of_operands head parts

abbrev mutual
  -- what the tree is worth as a constant expression
  pub worth : Places → Term → Folded
  worth places (term head own ty line operands) = of_node head (parts places operands)

  pub parts : Places → Terms → List Part
  parts places none = []
  parts places (more t ts) = part_of places (type_at t) (worth places t) ∷ parts places ts

abbrev pub part_at : Places → Term → Part
part_at places t = part_of places (type_at t) (worth places t)

-- 4. Integer constant expressions, and null pointer constants.

abbrev pub number_of : Folded → Option ℤ
number_of (Number z) = Some z
number_of _ = None

-- the value of an integer constant expression: of integer type, and of constants that name no object (6.6p6)
unfoldable pub integer_constant : Term → Option ℤ
integer_constant t = kind_of (type_at t) >>= λ kind. number_of (worth nowhere t)

abbrev pub is_value_zero : Option ℤ → Bool
is_value_zero (Some z) = is_zero z
is_value_zero None = false

-- a null pointer constant: an integer constant expression of value 0, or one cast to `void *` (6.3.2.3p3)
abbrev pub null_as : Form → Term → Bool
null_as form.NullPointer t = true
null_as form.Value t = is_value_zero (integer_constant t)
null_as _ t = false

abbrev pub is_null : Expression → Bool
is_null e = null_as e.form e.tree

abbrev pub null_pointer : CType → ℕ → Term
null_pointer ty line = constant (pos 0) ty line

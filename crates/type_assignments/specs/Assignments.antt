-- Assignments, increments and decrements (6.5.16, 6.5.2.4, 6.5.3.1).
use Rattle.std.specs.Prelude.{ℕ, Bool, true, false, not, ◌&&◌, if◌then◌else◌, pos, Option, Some, None}
use Rattle.c_types.specs.declared.kind.IntKind.{IntKind}
use Rattle.c_types.specs.declared.kind.IntKind.TheVariants.{Int}
use Rattle.c_types.specs.declared.kind.BinOp.{BinOp}
use Rattle.c_types.specs.declared.kind.BinOp.TheVariants.{Add, Sub}
use Rattle.c_types.specs.declared.ty.Ty.{Ty}
use Rattle.c_types.specs.Kinds as kinds
use Rattle.c_types.specs.Types.{CType, int, enumeration, pointer, struct, union, Qualified, type_of, kind_of}
use Rattle.c_typed.specs.declared.tree.Change.{Change}
use Rattle.c_typed.specs.declared.tree.Change.TheVariants as change
use Rattle.c_typed.specs.declared.tree.Node.TheOpen as shape
use Rattle.c_typed.specs.declared.tree.Typed.{Typed}
use Rattle.c_typed.specs.Lawful.{is_shift}
use Rattle.type_operands.specs.Layouts.{Layouts}
use Rattle.type_operands.specs.declared.operand.Form.{Form}
use Rattle.type_operands.specs.declared.operand.Form.TheVariants as form
use Rattle.type_operands.specs.Terms.{Term, term_of, type_at, constant, unary, binary, Expression, as_value, ◌>>=◌, unless_refused}
use Rattle.type_operands.specs.Conversions.{target_of, is_pointer, value, access_of, to_kind, promoted, usual}
use Rattle.type_conversions.specs.Assigned.{as_if_assigned}
use Rattle.type_operands.specs.Conversions.{step}

-- 1. What may be assigned (6.3.2.1p1).

-- which structures and unions have a const member, directly or in a member (6.3.2.1p1)
abbrev pub Constants : Type 0
Constants = ℕ → Bool

-- a type of which an object may be assigned where it isn't const itself: no array, and no const member (6.3.2.1p1)
abbrev pub is_assignable : Constants → CType → Bool
is_assignable constants (int kind) = true
is_assignable constants (enumeration tag) = true
is_assignable constants (pointer constant target) = true
is_assignable constants (struct tag) = not (constants tag)
is_assignable constants (union tag) = not (constants tag)
is_assignable constants _ = false

abbrev pub is_modifiable : Constants → Qualified → Bool
is_modifiable constants object = not object.constant && is_assignable constants object.ty

-- the place of a modifiable lvalue, and the type of its object
pub record Place : Type 0 where
  pub term : Term
  pub ty : CType

abbrev pub place_of : Typed × Ty → Place
place_of p = record { term = term_of p.0; ty = type_of p.1 }

abbrev pub modifiable_object : Constants → Term → Qualified → Option Place
modifiable_object constants t object = unless_refused (is_modifiable constants object) (record { term = t; ty = object.ty })

abbrev pub modifiable_as : Constants → Form → Term → Option Place
modifiable_as constants (form.Place register) t = target_of (type_at t) >>= λ object. modifiable_object constants t object
modifiable_as constants _ t = None

-- what stands on the left of an assignment is a modifiable lvalue (6.5.16p2, 6.5.2.4p1, 6.5.3.1p1)
unfoldable pub modifiable : Constants → Expression → Option Place
modifiable constants e = modifiable_as constants e.form e.tree

-- 2. Compound assignments (6.5.16.2).

-- the type in which an integer object is worked on: of a shift its own promoted one (6.5.7p3)
pub record Work : Type 0 where
  pub own : IntKind
  pub work : IntKind

abbrev pub work_of : IntKind × IntKind → Work
work_of p = record { own = p.0; work = p.1 }

unfoldable pub working_kind : BinOp → CType → CType → Option Work
working_kind op ty right = do
  own ← kind_of ty
  other ← kind_of right
  Some (record { own = own; work = if is_shift op then kinds.promoted own else usual own other })

-- its right operand: of a shift in its own promoted type, otherwise in that type (6.5.7p3, 6.5.16.2p3)
unfoldable pub right_operand : BinOp → IntKind → Term → Option Term
right_operand op work t = if is_shift op then (promoted t >>= λ p. Some p.term) else to_kind work t

-- an integer object changed by an operator
unfoldable pub integer_compound : BinOp → Place → Term → ℕ → Option Expression
integer_compound op place right line = do
  k ← working_kind op place.ty (type_at right)
  t ← right_operand op k.work right
  Some (as_value (binary (shape.Update (change.Integer op k.own k.work) false) place.ty line place.term t))

abbrev pub moves : BinOp → ℕ → Option Change
moves Add size = Some (change.Pointer size false)
moves Sub size = Some (change.Pointer size true)
moves _ size = None

-- a pointer object is changed only by `+=` and `-=` (6.5.16.2p1)
unfoldable pub pointer_change : Layouts → BinOp → CType → Option Change
pointer_change tags op ty = step tags ty >>= λ size. moves op size

-- and only by an integer
unfoldable pub pointer_compound : Layouts → BinOp → Place → Term → ℕ → Option Expression
pointer_compound tags op place right line = do
  c ← pointer_change tags op place.ty
  kind ← kind_of (type_at right)
  Some (as_value (binary (shape.Update c false) place.ty line place.term right))

abbrev pub compound_of : Layouts → BinOp → Place → Term → ℕ → Option Expression
compound_of tags op place right line =
    if is_pointer place.ty then pointer_compound tags op place right line else integer_compound op place right line

-- `a op= b` (6.5.16.2)
unfoldable pub compound : Layouts → Constants → BinOp → Expression → Expression → ℕ → Option Expression
compound tags constants op a b line = do
  place ← modifiable constants a
  right ← value tags b
  compound_of tags op place right line

-- 3. Increments and decrements (6.5.2.4, 6.5.3.1).

-- the change of an object by one, and the type of the constant 1
pub record Step : Type 0 where
  pub change : Change
  pub kind : IntKind

abbrev pub step_of : Change × IntKind → Step
step_of p = record { change = p.0; kind = p.1 }

abbrev pub integer_step : BinOp → IntKind → Step
integer_step op kind = let work = usual kind Int in record { change = change.Integer op kind work; kind = work }

unfoldable pub change_by_one : Layouts → BinOp → CType → Option Step
change_by_one tags op ty =
    if is_pointer ty then (pointer_change tags op ty >>= λ c. Some (record { change = c; kind = Int }))
    else (kind_of ty >>= λ kind. Some (integer_step op kind))

-- `++E` and `--E` are `E += 1` and `E -= 1` (6.5.3.1p2)
unfoldable pub stepped : Layouts → Constants → BinOp → Expression → ℕ → Option Expression
stepped tags constants op e line = do
  place ← modifiable constants e
  by ← change_by_one tags op place.ty
  Some (as_value (binary (shape.Update by.change false) place.ty line place.term (constant (pos 1) (int by.kind) line)))

-- `E++` and `E--` give the value before the change (6.5.2.4p2)
unfoldable pub incremented : Layouts → Constants → BinOp → Expression → ℕ → Option Expression
incremented tags constants op e line = do
  place ← modifiable constants e
  by ← change_by_one tags op place.ty
  Some (as_value (unary (shape.Update by.change true) place.ty line place.term))

-- 4. Simple assignment (6.5.16.1).

-- the store of a value as if assigned; an initialization is one too (6.7.9p11)
unfoldable pub stored : Layouts → Bool → Term → CType → Expression → ℕ → Option Term
stored tags initializing place ty e line = do
  a ← access_of tags ty
  t ← as_if_assigned tags ty e
  Some (binary (shape.Assign initializing a) ty line place t)

-- `a = b`: to a modifiable lvalue (6.5.16p2)
unfoldable pub assigned : Layouts → Constants → Expression → Expression → ℕ → Option Expression
assigned tags constants a b line = do
  place ← modifiable constants a
  t ← stored tags false place.term place.ty b line
  Some (as_value t)

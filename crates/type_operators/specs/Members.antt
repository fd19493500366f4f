-- Members of structures and unions (6.5.2.3).
use Rattle.std.specs.Prelude.{ℕ, Bool, false, ◌||◌, List, Option, Some, None}
use Rattle.c_types.specs.Types.{CType, pointer, struct, union, Qualified, type_of, qualified_of}
use Rattle.c_typed.specs.declared.tree.Access.{Access}
use Rattle.c_typed.specs.declared.tree.Node.TheOpen as shape
use Rattle.layout.specs.Names.{named}
use Rattle.type_operands.specs.Layouts.{Layouts}
use Rattle.type_operators.specs.declared.member.Found.{Found}
use Rattle.type_operators.specs.declared.member.Part.{Part}
use Rattle.type_operands.specs.declared.operand.Form.{Form}
use Rattle.type_operands.specs.declared.operand.Form.TheVariants as form
use Rattle.type_operands.specs.Terms.{Term, type_at, unary, Expression, as_value, as_place, ◌>>=◌}
use Rattle.type_operands.specs.Conversions.{target_of, access_of, value}
use Rattle.type_operands.specs.Qualifiers.{qualified}

abbrev pub tag_of : CType → Option ℕ
tag_of (struct tag) = Some tag
tag_of (union tag) = Some tag
tag_of _ = None

-- a member of an object: where it begins in the object, and its type
pub record Reached : Type 0 where
  pub offset : ℕ
  pub qual : Qualified

abbrev pub found_of : Found → Reached
found_of f = record { offset = f.offset; qual = qualified_of f.qual }

-- the member of this name of an object, const too where the object is, or an unnamed structure or union that the member is in
-- (6.5.2.3p3, 6.7.2.1p13)
unfoldable pub member_of : Layouts → Qualified → List ℕ → Option Reached
member_of tags object name = do
  tag ← tag_of object.ty
  m ← named name (tags.names tag)
  Some (record { offset = m.offset; qual = qualified (m.constant || (m.qual.constant || object.constant)) m.qual.ty })

abbrev pub member_behind : Layouts → CType → List ℕ → Option Reached
member_behind tags ty name = target_of ty >>= λ object. member_of tags object name

-- the place of a member of the object that a pointer points to (6.5.2.3p4)
unfoldable pub member_place : Layouts → Term → List ℕ → Bool → ℕ → Option Expression
member_place tags t name register line = do
  m ← member_behind tags (type_at t) name
  Some (as_place register (unary (shape.Member m.offset) (pointer m.qual.constant m.qual.ty) line t))

-- a member of a value that is no lvalue: a part of it, which is no array (own)
pub record Portion : Type 0 where
  pub offset : ℕ
  pub access : Access
  pub ty : CType

abbrev pub part_of : Part → Portion
part_of p = record { offset = p.offset; access = p.access; ty = type_of p.ty }

unfoldable pub part_behind : Layouts → CType → List ℕ → Option Portion
part_behind tags ty name = do
  tag ← tag_of ty
  m ← named name (tags.names tag)
  a ← access_of tags m.qual.ty
  Some (record { offset = m.offset; access = a; ty = m.qual.ty })

unfoldable pub member_part : Layouts → Term → List ℕ → ℕ → Option Expression
member_part tags t name line = do
  p ← part_behind tags (type_at t) name
  Some (as_value (unary (shape.Part p.offset p.access) p.ty line t))

abbrev pub member_as : Layouts → Form → Term → List ℕ → ℕ → Option Expression
member_as tags (form.Place register) t name line = member_place tags t name register line
member_as tags form.Value t name line = member_part tags t name line
member_as tags _ t name line = None

-- `E.name`: an lvalue where `E` is one (6.5.2.3p3)
abbrev pub member_of_value : Layouts → Expression → List ℕ → ℕ → Option Expression
member_of_value tags e name line = member_as tags e.form e.tree name line

-- `E->name` (6.5.2.3p4)
unfoldable pub member_of_pointer : Layouts → Expression → List ℕ → ℕ → Option Expression
member_of_pointer tags e name line = value tags e >>= λ t. member_place tags t name false line

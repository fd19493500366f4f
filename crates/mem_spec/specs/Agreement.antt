-- Which accesses suit which bytes, as tests (6.5p7; that a declared type counts by its scalars is own).
use Rattle.std.specs.Prelude.{ℕ, ◌-◌, ◌/◌, ◌%◌, Bool, true, false, ◌&&◌, ◌||◌, ◌==◌, nat_lt, nat_le, List, [], ◌∷◌, ◌++◌, Option, Some, None, if◌then◌else◌}
use Rattle.c_types.specs.declared.kind.IntKind.{IntKind}
use Rattle.c_types.specs.declared.kind.IntKind.TheVariants as kinds
use Rattle.c_types.specs.Kinds.{width}
use Rattle.c_types.specs.Types.{CType, int, enumeration, is_character}
use Rattle.c_types.specs.Same.{agrees}
use Rattle.c_types.specs.Shapes.{Form, leaf, repeat, parts, Forms}
use Rattle.c_types.specs.Shapes as shapes

-- the integer types in order
abbrev pub number_of_kind : IntKind → ℕ
number_of_kind kinds.Bool = 1
number_of_kind kinds.Char = 2
number_of_kind kinds.SChar = 3
number_of_kind kinds.UChar = 4
number_of_kind kinds.Short = 5
number_of_kind kinds.UShort = 6
number_of_kind kinds.Int = 7
number_of_kind kinds.UInt = 8
number_of_kind kinds.Long = 9
number_of_kind kinds.ULong = 10
number_of_kind kinds.LLong = 11
number_of_kind kinds.ULLong = 12

abbrev mutual
  -- some scalar that begins at the offset agrees with the type
  pub leaf_agrees : CType → Form → ℕ → Bool
  leaf_agrees a (leaf e) at = at == 0 && agrees a e
  leaf_agrees a (repeat count step part) at = nat_lt 0 step && (nat_lt (at / step) count && leaf_agrees a part (at % step))
  leaf_agrees a (parts ps) at = some_agrees a ps at

  pub some_agrees : CType → Forms → ℕ → Bool
  some_agrees a shapes.none at = false
  some_agrees a (shapes.place offset part ps) at = (nat_le offset at && leaf_agrees a part (at - offset)) || some_agrees a ps at

-- a scalar type suits a declared object at an offset
abbrev pub suits_form : CType → Form → ℕ → Bool
suits_form a form at = is_character a || leaf_agrees a form at

-- an enumeration is read as int
abbrev pub read_as_int : CType → CType
read_as_int (enumeration n) = int kinds.Int
read_as_int ty = ty

-- the bytes of an integer type (own: LP64)
abbrev pub bytes_of_kind : IntKind → ℕ
bytes_of_kind kinds.Bool = 1
bytes_of_kind k = width k / 8

-- the bytes of a scalar type
abbrev pub scalar_size : CType → ℕ
scalar_size (int k) = bytes_of_kind k
scalar_size (enumeration n) = 4
scalar_size ty = 8

-- the scalar type that a byte belongs to, and which of its bytes it is
abbrev pub Tag : Type 0
Tag = CType × ℕ

abbrev mutual
  -- the scalars that span a byte
  pub spanning : Form → ℕ → List Tag
  spanning (leaf ty) at = if nat_lt at (scalar_size ty) then (read_as_int ty, at) ∷ [] else []
  spanning (repeat count step part) at = if nat_lt 0 step && nat_lt (at / step) count then spanning part (at % step) else []
  spanning (parts ps) at = spanning_parts ps at

  pub spanning_parts : Forms → ℕ → List Tag
  spanning_parts shapes.none at = []
  spanning_parts (shapes.place offset part ps) at = (if nat_le offset at then spanning part (at - offset) else []) ++ spanning_parts ps at

-- the one scalar that spans a byte, if there is just one
abbrev pub the_one : List Tag → Option Tag
the_one (tag ∷ []) = Some tag
the_one _ = None

abbrev pub declared_tag : Form → ℕ → Option Tag
declared_tag form at = the_one (spanning form at)

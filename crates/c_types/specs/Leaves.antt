-- The scalars of a type with their offsets: an array's element by element, a structure's or union's member by member (6.2.5p20, 6.5.2.1).
use Rattle.std.specs.Prelude.{ℕ, zero, suc, ◌+◌, ◌*◌, List, [], ◌∷◌, ◌++◌, length, map, slice_get, Option, Some, None}
use Rattle.c_types.specs.Types.{CType, void, int, enumeration, pointer, array, struct, union, function}
use Rattle.c_types.specs.Layout.{size_of, member_offset, type_of_member}
use Rattle.c_types.specs.Shapes.{Form, Forms, leaf, repeat, parts, none, place}
use Rattle.c_types.specs.declared.tags.Member.{Member}
use Rattle.c_types.specs.declared.tags.Tag.{Tag}

pub record Scalar : Type 0 where
  pub offset : ℕ
  pub ty : CType

abbrev pub moved : ℕ → Scalar → Scalar
moved by s = record s { offset = by + s.offset }

-- the same scalars, further on
abbrev pub shifted : ℕ → List Scalar → List Scalar
shifted by scalars = map (moved by) scalars

-- the same scalars again and again
abbrev pub repeated_scalars : ℕ → ℕ → List Scalar → List Scalar
repeated_scalars zero step scalars = []
repeated_scalars (suc n) step scalars = repeated_scalars n step scalars ++ shifted (n * step) scalars

abbrev pub one_scalar : CType → List Scalar
one_scalar t = (record { offset = 0; ty = t }) ∷ []

-- the scalars of a type, by those of each tag
abbrev pub scalars_with : (ℕ → List Scalar) → List Tag → CType → List Scalar
scalars_with of_tag tags void = []
scalars_with of_tag tags (int kind) = one_scalar (int kind)
scalars_with of_tag tags (enumeration tag) = one_scalar (enumeration tag)
scalars_with of_tag tags (pointer c t) = one_scalar (pointer c t)
scalars_with of_tag tags (array c t None) = []
scalars_with of_tag tags (array c t (Some n)) = repeated_scalars n (size_of tags t) (scalars_with of_tag tags t)
scalars_with of_tag tags (struct tag) = of_tag tag
scalars_with of_tag tags (union tag) = of_tag tag
scalars_with of_tag tags (function r ps v) = []

-- those of the members from a number on
abbrev pub member_scalars : (ℕ → List Scalar) → List Tag → ℕ → ℕ → List Member → List Scalar
member_scalars of_tag tags tag i [] = []
member_scalars of_tag tags tag i (m ∷ ms) =
    shifted (member_offset tags tag i) (scalars_with of_tag tags (type_of_member m)) ++ member_scalars of_tag tags tag (i + 1) ms

abbrev pub tag_scalars : (ℕ → List Scalar) → List Tag → ℕ → Option Tag → List Scalar
tag_scalars of_tag tags tag None = []
tag_scalars of_tag tags tag (Some t) = member_scalars of_tag tags tag 0 t.members

-- those of a tag with fewer than so many tags one inside the other
abbrev pub scalars_by : ℕ → List Tag → ℕ → List Scalar
scalars_by zero tags tag = []
scalars_by (suc n) tags tag = tag_scalars (scalars_by n tags) tags tag (slice_get tags tag)

-- the scalars of a type among these tags
abbrev pub scalars : List Tag → CType → List Scalar
scalars tags t = scalars_with (scalars_by (length tags) tags) tags t

abbrev mutual
  -- the scalars of a shape
  pub leaves : Form → List Scalar
  leaves (leaf t) = one_scalar t
  leaves (repeat count step part) = repeated_scalars count step (leaves part)
  leaves (parts ps) = all_leaves ps

  pub all_leaves : Forms → List Scalar
  all_leaves none = []
  all_leaves (place offset part ps) = shifted offset (leaves part) ++ all_leaves ps

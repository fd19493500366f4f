-- The scalars of an object by their places, and which accesses suit them (6.5p7; that the leaves of the declared type count is own).
use Rattle.std.specs.Prelude.{◌≡◌, ℕ, ◌-◌, ◌/◌, ◌%◌, ◌<◌, ◌≤◌, ◌⊎◌, IsTrue, List, [], ◌∷◌}
use Rattle.c_types.specs.Types.{CType, type_of, Agrees, is_character}
use Rattle.c_types.specs.declared.shape.Shape.{Shape, fold-Shape}
use Rattle.c_types.specs.declared.shape.Shape.TheOpen.{Shape-F, Placed-F}
use Rattle.c_types.specs.declared.shape.Placed.{Placed, fold-Placed}

mutual
  pub data Form : Type 0 where
    leaf : CType → Form
    repeat : (count step : ℕ) → (part : Form) → Form
    parts : Forms → Form

  -- parts at offsets
  pub data Forms : Type 0 where
    none : Forms
    place : (offset : ℕ) → Form → Forms → Forms

pub record Put : Type 0 where
  pub offset : ℕ
  pub part : Form

abbrev pub forms_of : List Put → Forms
forms_of [] = none
forms_of (p ∷ ps) = place p.offset p.part (forms_of ps)

abbrev pub shape_step : Shape-F Form Put → Form
shape_step (Shape-F.Leaf ty) = leaf (type_of ty)
shape_step (Shape-F.Repeat count step part) = repeat count step part
shape_step (Shape-F.Parts placed) = parts (forms_of placed)

abbrev pub placed_step : Placed-F Form Put → Put
placed_step p = record { offset = p.offset; part = p.part }

abbrev pub form_of : Shape → Form
form_of = fold-Shape Form Put shape_step placed_step

abbrev pub put_of : Placed → Put
put_of = fold-Placed Form Put shape_step placed_step

abbrev mutual
  -- some scalar that begins at the offset agrees with the type
  pub LeafAgrees : CType → Form → ℕ → Type 0
  LeafAgrees a (leaf e) at = (at ≡ 0) × Agrees a e
  -- the part that holds the offset
  LeafAgrees a (repeat count step part) at = (0 < step) × (at / step < count) × LeafAgrees a part (at % step)
  LeafAgrees a (parts ps) at = SomeAgrees a ps at

  pub SomeAgrees : CType → Forms → ℕ → Type 0
  SomeAgrees a none at = ⊥
  SomeAgrees a (place offset part ps) at = ((offset ≤ at) × LeafAgrees a part (at - offset)) ⊎ SomeAgrees a ps at

-- a scalar type suits a declared object at an offset
abbrev pub Suits : CType → Form → ℕ → Type 0
Suits a form at = IsTrue (is_character a) ⊎ LeafAgrees a form at

-- the same of one part at its offset
abbrev pub PlacedAgrees : CType → Put → ℕ → Type 0
PlacedAgrees a p at = (p.offset ≤ at) × LeafAgrees a p.part (at - p.offset)

-- The tags of declared types as a memory finds them (own).
use Rattle.std.specs.Prelude.{◌≡◌, ℕ, ◌≤◌, ◌+◌, List, [], ◌∷◌, ◌++◌, length, Option, Some, None}
use Rattle.c_types.specs.declared.ty.Ty.{Ty}
use Rattle.c_types.specs.Types.{type_of}
use Rattle.c_types.specs.Shapes.{Form}
use Rattle.mem_objects.specs.declared.types.Spanned.{Spanned}
use Rattle.mem_objects.specs.declared.types.Spanned.TheVariants as spans
use Rattle.mem_spec.specs.Agreement.{Tag, read_as_int, declared_tag}
use Rattle.mem_spec.specs.Store.{TaggedByte}
use Rattle.mem_spec.specs.Acts.{retagged}
use Rattle.mem_objects.specs.declared.cell.Cell.{Cell}
use Rattle.mem_objects.specs.Held.{Held}
use Rattle.mem_objects.specs.Memory.{Kept}
use Rattle.mem_objects.specs.Access.{bytes_in}
use Rattle.mem_objects.specs.Stores.{tagged_all}

-- what was found of the scalars that span a byte
abbrev pub Spans : Spanned → List Tag → Type 0
Spans spans.None tags = tags ≡ []
Spans (spans.One ty index) tags = tags ≡ (read_as_int (type_of ty.now), index) ∷ []
Spans spans.Several tags = 2 ≤ length tags

-- a byte of an object takes the tag of its declared type's scalar there
abbrev pub retagged_byte : Option Form → ℕ → TaggedByte → TaggedByte
retagged_byte None at b = b
retagged_byte (Some form) at b = record b { tag = declared_tag form at }

-- the memory names more types by number, and is otherwise the same
abbrev pub AddsTypes : Kept → Kept → Type 0
AddsTypes old new = (more : List Ty) × (new ≡ record old { types = old.types ++ more })

-- the type of a tag has its number; those of the types that a memory was told of stand behind those of the 12 integer types
abbrev pub IsTagged : ℕ → Cell → Type 0
IsTagged n c = c.tag.number ≤ n + 12

abbrev pub CellsTagged : ℕ → List Cell → Type 0
CellsTagged n [] = Unit {0}
CellsTagged n (c ∷ cs) = IsTagged n c × CellsTagged n cs

abbrev pub ObjectsTagged : ℕ → List Held → Type 0
ObjectsTagged n [] = Unit {0}
ObjectsTagged n (h ∷ hs) = CellsTagged n h.cells × ObjectsTagged n hs

-- each tag has its type from this memory
abbrev pub AreTagged : Kept → Type 0
AreTagged m = ObjectsTagged (length m.types) m.objects

-- the bytes of a range of an object, with the tags that a declared type gives them, as cells
pub record IsTaken (old new : Kept) (h : Held) (declared : Option Form) (from len : ℕ) (cs : List Cell) : Type 0 where
  pub bytes : tagged_all new cs ≡ retagged declared from (bytes_in old h from len)
  pub tags : CellsTagged (length new.types) cs

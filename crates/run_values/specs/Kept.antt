-- Values and fillings that are of a memory (own).
use Rattle.std.specs.Prelude.{List, [], ◌∷◌, length}
use Rattle.mem_objects.specs.declared.value.Value.{Value}
use Rattle.mem_objects.specs.Keeps.{Keeps}
use Rattle.mem_objects.specs.Memory.{Kept, CellsKnown}
use Rattle.mem_objects.specs.Pieces.{IsMadeValue, IsKnownValue, IsTaggedValue}
use Rattle.mem_objects.specs.Tags.{CellsTagged}
use Rattle.run_values.specs.declared.filling.Filling.{Filling}

-- a pointer was made in the memory; the pieces among the bytes of a structure or union name its provenances, their tags its types
pub record IsOf (m : Kept) (v : Value) : Type 0 where
  pub made : IsMadeValue m v
  pub known : IsKnownValue m v
  pub tagged : IsTaggedValue m v

-- the same of the bytes of a filling
abbrev pub IsFillingOf : Kept → Filling → Type 0
IsFillingOf m f = CellsKnown (length m.origins) f.bytes.cells × CellsTagged (length m.types) f.bytes.cells

abbrev pub AreOf : Kept → List Filling → Type 0
AreOf m [] = Unit {0}
AreOf m (f ∷ fs) = IsFillingOf m f × AreOf m fs

-- a value of a memory is one of every memory that keeps it
abbrev pub ValuesStay : Type 0
ValuesStay = (old new : Kept) (v : Value) → Keeps old new → IsOf old v → IsOf new v

abbrev pub FillingsStay : Type 0
FillingsStay = (old new : Kept) (fs : List Filling) → Keeps old new → AreOf old fs → AreOf new fs

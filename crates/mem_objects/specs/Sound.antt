-- What a memory knows of its provenances, which its calls keep (own).
use Rattle.std.specs.Prelude.{◌≡◌, ℕ, true, List, is_some}
use Rattle.ub_base.specs.declared.names.ObjName.{ObjName}
use Rattle.addr_map.specs.declared.map.Row.{Row}
use Rattle.addr_map.specs.Rows.{row_of}
use Rattle.exposure.specs.declared.prov.Prov.{Prov}
use Rattle.exposure.specs.declared.prov.Prov.TheVariants.{Empty, Whole, Either}
use Rattle.mem_spec.specs.Streams.{Io}
use Rattle.mem_objects.specs.Cells.{prov_numbered}
use Rattle.mem_objects.specs.Held.{held_of}
use Rattle.mem_objects.specs.Memory.{Kept, AreKnown, store_of}
use Rattle.mem_objects.specs.Made.{IsMade, AreNamed}

-- each of these provenances was made in the memory
abbrev pub AllMade : Kept → List Prov → Type 0
AllMade m ps = (n : ℕ) → IsMade m (prov_numbered ps n)

-- each provenance that has a number was made
abbrev pub AreMade : Kept → Type 0
AreMade m = AllMade m m.origins

-- each object that was created has a row
abbrev pub AreRowed : Kept → Type 0
AreRowed m = (x : ObjName) → is_some (held_of m.objects x) ≡ true → is_some (row_of m.rows x) ≡ true

-- its pieces name provenances of this memory, each of these was made, each object's number is that of its own, and each object has a row
pub record IsSound (m : Kept) : Type 0 where
  pub known : AreKnown m
  pub named : AreNamed m
  pub made : AreMade m
  pub rowed : AreRowed m

-- each candidate of a provenance has a row
abbrev pub AreIn : List Row → Prov → Type 0
AreIn rows Empty = Unit {0}
AreIn rows (Whole x) = is_some (row_of rows x) ≡ true
AreIn rows (Either id past start) = (is_some (row_of rows past) ≡ true) × (is_some (row_of rows start) ≡ true)

-- in a sound memory each object of its store has a row
abbrev pub ObjectsHaveRows : Type 0
ObjectsHaveRows = (m : Kept) (io : Io) (x : ObjName) → IsSound m → is_some ((store_of m io).life x) ≡ true → is_some (row_of m.rows x) ≡ true

-- in a sound memory each candidate of a provenance that was made has a row
abbrev pub CandidatesHaveRows : Type 0
CandidatesHaveRows = (m : Kept) (p : Prov) → IsSound m → IsMade m p → AreIn m.rows p

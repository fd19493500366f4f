-- What every call of a memory keeps (own).
use Rattle.std.specs.Prelude.{◌≡◌, ℕ, ◌≤◌, ◌+◌, ◌^◌, Bool, true, false, List, [], ◌++◌, map, Some, None, IfSome, if◌then◌else◌}
use Rattle.ub_base.specs.declared.names.Event.{Event}
use Rattle.ub_base.specs.declared.names.ObjName.{ObjName}
use Rattle.addr_map.specs.declared.map.Row.{Row}
use Rattle.addr_map.specs.Rows.{row_of, row_at}
use Rattle.addr_map.specs.Sound.{Above}
use Rattle.exposure.specs.declared.prov.Prov.{Prov}
use Rattle.exposure.specs.Cells.{Cells, kept_in, has_cell}
use Rattle.mem_objects.specs.declared.cell.Via.{Via}
use Rattle.mem_objects.specs.declared.cell.Via.TheVariants as vias
use Rattle.mem_objects.specs.Held.{Held, held_of}
use Rattle.mem_objects.specs.Memory.{Kept, life_in, base_by, rows_with}
use Rattle.mem_objects.specs.Made.{Extends, IsMade}
use Rattle.mem_objects.specs.Sound.{IsSound}
use Rattle.mem_objects.specs.Tags.{AreTagged}
use Rattle.mem_objects.specs.Room.{IsClose}

-- what an object has all its life: its name, place, kind, declared type and number
abbrev pub lasting : Held → Held
lasting h = record h { state = record (h.state) { live = true; exposed = false }; cells = [] }

-- the list may go on
abbrev pub GoesOn : {A : Type 0} → List A → List A → Type 0
GoesOn {A = A} old new = (more : List A) × (new ≡ old ++ more)

-- each row stays
abbrev pub RowsStay : List Row → List Row → Type 0
RowsStay old new = (x : ObjName) (r : Row) → row_of old x ≡ Some r → row_of new x ≡ Some r

-- what was settled stays so
abbrev pub SettledStays : Cells → Cells → Type 0
SettledStays old new = (e : Event) (x : ObjName) → kept_in old e ≡ Some x → kept_in new e ≡ Some x

-- no object of the heap has a declared type (6.5p6)
abbrev pub AreBare : Kept → Type 0
AreBare m = (x : ObjName) → IfSome (life_in (held_of m.objects x)) (λ l. l.kind.heap ≡ true → l.declared ≡ None)

-- rows, objects, provenances, types and ambiguities stay as they are, with more behind them; and what holds of a memory holds on:
-- its rows stand from 16,777,216 on, it is sound, it has the types of its tags, nothing is declared of the heap,
-- and its objects stand close
pub record Keeps (old new : Kept) : Type 0 where
  pub rows : RowsStay old.rows new.rows
  pub high : Above 16777216 old.rows → Above 16777216 new.rows
  pub mode : new.mode ≡ old.mode
  pub objects : GoesOn (map lasting old.objects) (map lasting new.objects)
  pub origins : Extends old.origins new.origins
  pub types : GoesOn old.types new.types
  pub cells : (e : Event) → has_cell old.cells e ≡ true → has_cell new.cells e ≡ true
  pub settled : SettledStays old.cells new.cells
  pub made : (p : Prov) → IsMade old p → IsMade new p
  pub sound : IsSound old → IsSound new
  pub tagged : AreTagged old → AreTagged new
  pub bare : AreBare old → AreBare new
  pub close : IsClose old → IsClose new

-- the type of a scalar access has its number in a memory with so many types
abbrev pub IsNumbered : ℕ → Via → Type 0
IsNumbered n (vias.Scalar ty) = ty.number ≤ n + 12
IsNumbered n _ = Unit {0}

-- the memory with the row of an object that can be created, where it has none; it counts as full
abbrev pub with_row : Kept → ObjName → (size align : ℕ) → Kept
with_row m x size align = record m {
  rows = rows_with (row_of m.rows x) (row_at x (base_by (row_of m.rows x) m.mode m.rows align) size align) m.rows;
  created = 2 ^ 62;
}

-- the memory is as before, or the row of an object that can be created was added and it counts as full
abbrev pub MayHaveRow : Kept → Kept → ObjName → (size align : ℕ) → Type 0
MayHaveRow old new x size align = (is_placed : Bool) × (new ≡ (if is_placed then with_row old x size align else old))

-- New objects of calloc and realloc as a memory makes them (own).
use Rattle.std.specs.Prelude.{◌≡◌, ◌≢◌, ℕ, ◌<◌, ◌≤◌, true, min, List, Option, Some, None, if◌then◌else◌}
use Rattle.ub_base.specs.declared.clause.Clause.TheVariants.{Realloc as ReallocOfOther}
use Rattle.ub_base.specs.declared.names.ObjName.{ObjName}
use Rattle.addr_map.specs.declared.map.Row.{Row}
use Rattle.addr_map.specs.Rows.{row_of, row_at}
use Rattle.addr_map.specs.Sound.{Above}
use Rattle.exposure.specs.declared.prov.Prov.{Prov}
use Rattle.exposure.specs.declared.prov.Prov.TheVariants.{Empty, Whole, Either}
use Rattle.exposure.specs.Cells.{Cells, kept_in, is_other}
use Rattle.mem_spec.specs.Store.{Life, Store, TaggedByte, range_from, with_bytes, born, buried}
use Rattle.mem_spec.specs.Script.{Script, Give, ◌>>◌}
use Rattle.mem_spec.specs.Acts.{size_in}
use Rattle.mem_objects.specs.Held.{held_of}
use Rattle.mem_objects.specs.Memory.{Kept, AreKnown, life_in, cannot_create, base_by, rows_with}
use Rattle.mem_objects.specs.Made.{Settling}
use Rattle.mem_objects.specs.Tags.{AreTagged}
use Rattle.libc_spec.specs.Library.{LibValue, null, free, heap_kind, is_heap_start}
use Rattle.libc_arguments.specs.Answers.{AreBare}

-- an allocated object as it begins
abbrev pub new_life : Life
new_life = record { live = true; kind = heap_kind; declared = None }

-- the rows once an object was asked for: one that can be created has its row
abbrev pub rows_made : Kept → ObjName → ℕ → List Row
rows_made m x n = if cannot_create m x n 16 then m.rows else rows_with (row_of m.rows x) (row_at x (base_by (row_of m.rows x) m.mode m.rows 16) n 16) m.rows

-- a new object stands at the address, with room for so many bytes
pub record IsNewAt (m : Kept) (x : ObjName) (a len : ℕ) : Type 0 where
  pub row : Row
  pub there : row_of m.rows x ≡ Some row
  pub base : row.base ≡ a
  pub above : 0 < a
  pub room : len ≤ row.size
  pub life : life_in (held_of m.objects x) ≡ Some new_life

-- the object that a pointer to the heap means, and what that settles
abbrev pub start_in : Cells → Prov → Option (ObjName × Settling)
start_in cells Empty = None
start_in cells (Whole x) = Some (x, None)
start_in cells (Either id past start) = if is_other (kept_in cells id) start then None else Some (start, Some (id, start))

abbrev pub start_if : Kept → ℕ → Option (ObjName × Settling) → Option (ObjName × Settling)
start_if m a None = None
start_if m a (Some p) = if is_heap_start (row_of m.rows p.0) a (life_in (held_of m.objects p.0)) then Some p else None

-- the same where a live heap object begins at the address
abbrev pub heap_start_in : Kept → ℕ → Prov → Option (ObjName × Settling)
heap_start_in m a prov = start_if m a (start_in m.cells prov)

-- a live heap object begins at the address
pub record IsStart (m : Kept) (x : ObjName) (a : ℕ) : Type 0 where
  pub there : a ≢ 0
  pub begins : is_heap_start (row_of m.rows x) a (life_in (held_of m.objects x)) ≡ true

-- what a realloc takes of a memory: its pieces have their provenances and its tags their types, no object of the heap has a declared
-- type (6.5p6), and no row begins below 16,777,216
pub record CanMove (m : Kept) : Type 0 where
  pub known : AreKnown m
  pub tagged : AreTagged m
  pub bare : AreBare m
  pub high : Above 16777216 m.rows

-- the bytes that an object and one of so many bytes both have
abbrev pub moved_bytes : List Row → ObjName → ℕ → Store → List TaggedByte
moved_bytes rows x n s = range_from (s.bytes x) 0 (min (size_in (row_of rows x)) n)

-- a new object begins with them, and the old one is dead
abbrev pub moved_store : List Row → ObjName → ObjName → ℕ → Store → Store
moved_store rows x new n s = buried (with_bytes (born s new n heap_kind None) new 0 (moved_bytes rows x n s)) x

-- a realloc to no bytes
abbrev pub released : List Row → ℕ → Prov → Script LibValue
released rows a prov = free rows a prov ReallocOfOther >> Give null

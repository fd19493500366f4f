-- Accesses as a memory makes them: where they fall, what they settle and which bytes they meet (own).
use Rattle.std.specs.Prelude.{◌≡◌, ℕ, ◌+◌, ◌-◌, ◌≤◌, Bool, true, false, List, map, slice_get, Some, Result, Ok, Err, if◌then◌else◌}
use Rattle.ub_base.specs.declared.clause.Clause.{Clause}
use Rattle.ub_base.specs.declared.clause.Clause.TheVariants.{DeadObject, InvalidPointer, OutOfBounds}
use Rattle.ub_base.specs.declared.names.Event.{Event}
use Rattle.ub_base.specs.declared.names.ObjName.{ObjName}
use Rattle.addr_map.specs.declared.map.Row.{Row}
use Rattle.addr_map.specs.Rows.{row_of}
use Rattle.exposure.specs.declared.prov.Prov.{Prov}
use Rattle.c_types.specs.Types.{type_of}
use Rattle.mem_objects.specs.declared.cell.Cell.{Cell}
use Rattle.mem_objects.specs.declared.accessed.Accessed.{Accessed as Found}
use Rattle.mem_spec.specs.Store.{TaggedByte, range_from, is_live}
use Rattle.mem_spec.specs.Script.{Script, Give, Ask, touch, require, ◌>>=◌, ◌>>◌}
use Rattle.mem_spec.specs.Acts.{Accessed, in_row, offset_in, is_aligned}
use Rattle.mem_objects.specs.Cells.{cell_at, tagged_in}
use Rattle.mem_objects.specs.Held.{Held, held_of, has_range, Fits}
use Rattle.mem_objects.specs.Memory.{Kept, HasCell, life_in}
use Rattle.mem_objects.specs.Made.{Settling, CanSettle}

-- what the access of a pointer settles can be settled, where its ambiguity has its cell
abbrev pub CanSettleOf : Kept → Prov → Settling → Type 0
CanSettleOf m prov settles = HasCell m prov → CanSettle m.cells settles

-- the candidate, where the ambiguity wasn't settled to the other
abbrev pub chosen_of : Bool → Event → ObjName → Result (ObjName × Settling) Clause
chosen_of true id keep = Err OutOfBounds
chosen_of false id keep = Ok (keep, Some (id, keep))

-- the access falls into a live object
pub record IsReached (hs : List Held) (found : Found) (len : ℕ) : Type 0 where
  pub object : Held
  pub there : slice_get hs found.object ≡ Some object
  pub held : held_of hs found.name ≡ Some object
  pub name : object.name ≡ found.name
  pub live : object.state.live ≡ true
  pub range : found.from + len ≤ object.size
  pub fits : Fits object

pub record IsReachedBy (hs : List Held) (found : Found) (name : ObjName) (settles : Settling) (len : ℕ) : Type 0 where
  pub reached : IsReached hs found len
  pub name_is : found.name ≡ name
  pub settles_is : found.settles ≡ settles

-- the access as its act has it
abbrev pub reached : List Held → Found → Accessed
reached hs found = record { object = found.name; from = found.from; life = life_in (held_of hs found.name) }

-- the checks of an access once its object is known
abbrev pub access_in : List Row → (len align a : ℕ) → ObjName → Script Accessed
access_in rows len align a x = do
  life ← touch (Ask x)
  require (is_live life) DeadObject
  require (in_row (row_of rows x) a len) OutOfBounds
  require (is_aligned align a) InvalidPointer
  Give (record { object = x; from = offset_in (row_of rows x) a; life = life })

-- where an access falls in its object, by the checks that the object decides
abbrev pub checked_offset : Held → (len align a : ℕ) → Result ℕ Clause
checked_offset h len align a =
    if h.state.live then (if has_range h a len then (if is_aligned align a then Ok (a - h.base) else Err InvalidPointer) else Err OutOfBounds) else Err
    DeadObject

-- the bytes of a range of cells
abbrev pub range_in : Kept → List Cell → (from len : ℕ) → List TaggedByte
range_in m cs from len = range_from (λ at. tagged_in m.origins (map type_of m.types) (cell_at cs at)) from len

-- the bytes of a range of an object
abbrev pub bytes_in : Kept → Held → (from len : ℕ) → List TaggedByte
bytes_in m h from len = range_in m h.cells from len

-- What a memory keeps, and the store that it is (own).
use Rattle.std.specs.Prelude.{
  ◌≡◌,
  ℕ,
  ◌+◌,
  ◌≤◌,
  ◌^◌,
  ◌==◌,
  nat_le,
  min,
  max,
  not,
  ◌&&◌,
  ◌||◌,
  is_some,
  Bool,
  true,
  false,
  List,
  [],
  ◌∷◌,
  ◌++◌,
  length,
  map,
  Option,
  Some,
  None,
  option_map,
  Result,
  Ok,
  Err,
}
use Rattle.ub_base.specs.declared.clause.Clause.{Clause}
use Rattle.ub_base.specs.declared.names.Item.{Item}
use Rattle.ub_base.specs.declared.names.ObjName.{ObjName}
use Rattle.addr_map.specs.declared.map.Mode.{Mode}
use Rattle.addr_map.specs.declared.map.Row.{Row}
use Rattle.addr_map.specs.Rows.{row_of, row_at, free_of, is_power, base_of, insert_row}
use Rattle.exposure.specs.declared.prov.Prov.{Prov}
use Rattle.exposure.specs.declared.prov.Prov.TheVariants.{Empty, Whole, Either}
use Rattle.exposure.specs.Cells.{Cells, kept_in, has_cell}
use Rattle.c_types.specs.declared.ty.Ty.{Ty}
use Rattle.c_types.specs.Types.{type_of}
use Rattle.c_types.specs.declared.shape.Shape.{Shape}
use Rattle.c_types.specs.Shapes.{form_of}
use Rattle.mem_spec.specs.declared.kind.ObjKind.{ObjKind}
use Rattle.mem_objects.specs.declared.object.ObjState.{ObjState}
use Rattle.mem_objects.specs.declared.cell.Cell.{Cell}
use Rattle.mem_objects.specs.declared.cell.Origin.{Origin}
use Rattle.mem_objects.specs.declared.cell.MemByte.{MemByte}
use Rattle.mem_objects.specs.declared.cell.MemByte.TheVariants as mem
use Rattle.mem_spec.specs.Store.{Store, Life, TaggedByte, fresh}
use Rattle.mem_spec.specs.Script.{Act, Done, Raised}
use Rattle.mem_spec.specs.Streams.{Io}
use Rattle.mem_objects.specs.Cells.{byte_of, cell_at, tagged_in}
use Rattle.mem_objects.specs.Held.{Held, held_of, changed, uncovered}

pub record Kept : Type 0 where
  pub objects : List Held
  pub rows : List Row
  pub origins : List Prov  -- the provenances of numbers 1, 2 ..
  pub cells : Cells
  pub types : List Ty  -- the types of numbers 13, 14 ..
  pub created : ℕ
  pub mode : Option Mode  -- how objects without a row are placed

-- without objects
abbrev pub empty : List Row → Option Mode → Kept
empty rows mode = record { objects = []; rows = rows; origins = []; cells = []; types = []; created = 0; mode = mode }

abbrev pub state_in : Option Held → Option ObjState
state_in None = None
state_in (Some h) = Some h.state

abbrev pub life_in : Option Held → Option Life
life_in None = None
life_in (Some h) = Some (record { live = h.state.live; kind = h.state.kind; declared = option_map form_of h.declared })

abbrev pub is_shown : Option Held → Bool
is_shown None = false
is_shown (Some h) = h.state.exposed

abbrev pub byte_in_object : Option Held → ℕ → MemByte
byte_in_object None at = mem.Unwritten
byte_in_object (Some h) at = byte_of (cell_at h.cells at)

abbrev pub tagged_in_object : List Prov → List Ty → Option Held → ℕ → TaggedByte
tagged_in_object ps ts None at = fresh
tagged_in_object ps ts (Some h) at = tagged_in ps (map type_of ts) (cell_at h.cells at)

-- the store of a memory, with its streams beside it
abbrev pub store_of : Kept → Io → Store
store_of m io = record {
  life = λ x. life_in (held_of m.objects x);
  exposed = λ x. is_shown (held_of m.objects x);
  bytes = λ x at. tagged_in_object m.origins m.types (held_of m.objects x) at;
  kept = λ e. kept_in m.cells e;
  input = io.input;
  position = io.position;
  output = io.output;
  created = m.created;
}

-- the object's row is there
abbrev pub IsRowOf : Option Row → Held → Type 0
IsRowOf None h = ⊥
IsRowOf (Some r) h = (r.base ≡ h.base) × (r.size ≡ h.size)

abbrev pub HaveRows : List Row → List Held → Type 0
HaveRows rows [] = Unit {0}
HaveRows rows (h ∷ hs) = IsRowOf (row_of rows h.name) h × HaveRows rows hs

-- the ambiguity of a provenance has its cell
abbrev pub HasCell : Kept → Prov → Type 0
HasCell m Empty = Unit {0}
HasCell m (Whole x) = Unit {0}
HasCell m (Either id past start) = has_cell m.cells id ≡ true

-- what an act that may raise did
abbrev pub act_of : {V : Type 0} → Result V Clause → List Item → Store → Act V
act_of (Ok v) items s = Done v items s
act_of (Err c) items s = Raised c

-- each of these objects becomes exposed
abbrev pub uncovered_each : List ObjName → List Held → List Held
uncovered_each [] hs = hs
uncovered_each (x ∷ xs) hs = uncovered_each xs (changed uncovered x hs)

-- each piece among the cells has a provenance of a number up to n
abbrev pub CellsKnown : ℕ → List Cell → Type 0
CellsKnown n [] = Unit {0}
CellsKnown n (c ∷ cs) = (c.origin.number ≤ n) × CellsKnown n cs

abbrev pub ObjectsKnown : ℕ → List Held → Type 0
ObjectsKnown n [] = Unit {0}
ObjectsKnown n (h ∷ hs) = CellsKnown n h.cells × ObjectsKnown n hs

-- each piece of a pointer has its provenance from this memory
abbrev pub AreKnown : Kept → Type 0
AreKnown m = ObjectsKnown (length m.origins) m.objects

-- a new object: live, unexposed and unwritten
abbrev pub newborn : ObjName → (base size : ℕ) → ObjKind → Option Shape → Origin → Held
newborn x base size kind declared origin = record {
  name = x;
  base = base;
  size = size;
  state = record { live = true; exposed = false; kind = kind };
  declared = declared;
  origin = origin;
  cells = [];
}

-- the object was created at its row
pub record IsBorn (old new : Kept) (x : ObjName) (base size align : ℕ) (kind : ObjKind) (declared : Option Shape) : Type 0 where
  pub absent : held_of old.objects x ≡ None
  pub row : row_of new.rows x ≡ Some (row_at x base size align)
  pub objects : (origin : Origin) × (new.objects ≡ old.objects ++ newborn x base size kind declared origin ∷ [])
  pub origins : new.origins ≡ old.origins ++ Whole x ∷ []
  pub cells : new.cells ≡ old.cells
  pub types : new.types ≡ old.types
  pub created : new.created ≡ min (old.created + max size 16) (2 ^ 62)

abbrev pub has_room : List Row → ℕ → ℕ → Bool
has_room rows size align = not (size == 0) && (is_power align && nat_le (free_of rows + size + 32) (2 ^ 47))

-- an object without a row can't be placed, or its row is another's
abbrev pub no_place : Kept → Option Row → Option Mode → ℕ → ℕ → Bool
no_place m (Some r) mode size align = not (r.size == size && r.align == align)
no_place m None None size align = true
no_place m None (Some mode) size align = not (has_room m.rows size align)

-- an object of that name, size and alignment can't be created
abbrev pub cannot_create : Kept → ObjName → ℕ → ℕ → Bool
cannot_create m x size align = is_some (held_of m.objects x) || no_place m (row_of m.rows x) m.mode size align

-- where a new object goes: to its row, or to where the mode places it
abbrev pub base_by : Option Row → Option Mode → List Row → ℕ → ℕ
base_by (Some r) mode rows align = r.base
base_by None (Some mode) rows align = base_of mode rows align
base_by None None rows align = 0

-- the rows with that of a new object
abbrev pub rows_with : Option Row → Row → List Row → List Row
rows_with (Some r) new rows = rows
rows_with None new rows = insert_row new rows

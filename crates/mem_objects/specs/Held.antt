-- The objects of a memory as it keeps them (own).
use Rattle.std.specs.Prelude.{
  ◌≡◌,
  ℕ,
  zero,
  suc,
  ◌+◌,
  ◌≤◌,
  ◌^◌,
  Bool,
  true,
  false,
  ◌&&◌,
  nat_le,
  List,
  [],
  ◌∷◌,
  length,
  slice_get,
  Option,
  Some,
  None,
  is_some,
  if◌then◌else◌,
  ℤ,
  pos,
  int_le,
}
use Rattle.ub_base.specs.declared.names.ObjName.{ObjName}
use Rattle.ub_base.specs.Names.{same_object}
use Rattle.c_types.specs.declared.shape.Shape.{Shape}
use Rattle.mem_objects.specs.declared.object.ObjState.{ObjState}
use Rattle.mem_objects.specs.declared.cell.Cell.{Cell}
use Rattle.mem_objects.specs.declared.cell.Origin.{Origin}
use Rattle.mem_objects.specs.declared.cell.Via.{Via}
use Rattle.mem_objects.specs.Cells.{cell_at, cell_put}

-- an object that was created; what lies behind its cells is unwritten
pub record Held : Type 0 where
  pub name : ObjName
  pub base : ℕ
  pub size : ℕ
  pub state : ObjState
  pub declared : Option Shape
  pub origin : Origin
  pub cells : List Cell

-- the range lies in the object
abbrev pub has_range : Held → ℕ → ℕ → Bool
has_range h a len = nat_le h.base a && nat_le (a + len) (h.base + h.size)

-- the address lies in the object or one past it
abbrev pub is_near : Held → ℤ → Bool
is_near h a = int_le (pos h.base) a && int_le a (pos (h.base + h.size))

abbrev pub emptied : Held → Held
emptied h = record h { cells = [] }

abbrev pub killed : Held → Held
killed h = record h { cells = []; state = record (h.state) { live = false } }

abbrev pub uncovered : Held → Held
uncovered h = record h { state = record (h.state) { exposed = true } }

abbrev pub holding : List Cell → Held → Held
holding cs h = record h { cells = cs }

-- the object of a name
abbrev pub held_of : List Held → ObjName → Option Held
held_of [] x = None
held_of (h ∷ hs) x = if same_object h.name x then Some h else held_of hs x

-- the object of a name is changed
abbrev pub changed : (Held → Held) → ObjName → List Held → List Held
changed f x [] = []
changed f x (h ∷ hs) = (if same_object h.name x then f h else h) ∷ changed f x hs

-- the name at a place
abbrev pub name_at : List Held → ℕ → Option ObjName
name_at [] k = None
name_at (h ∷ hs) zero = Some h.name
name_at (h ∷ hs) (suc k) = name_at hs k

-- the object ends below 2^47, and no cell lies behind its end
abbrev pub Fits : Held → Type 0
Fits h = (h.base + h.size ≤ 2 ^ 47) × (length h.cells ≤ h.size)

abbrev pub AllFit : List Held → Type 0
AllFit [] = Unit {0}
AllFit (h ∷ hs) = Fits h × AllFit hs

-- each object is found at its place by its name
pub record IsIndexed (indices : ObjName → Option ℕ) (hs : List Held) : Type 0 where
  pub there : (x : ObjName) (k : ℕ) → indices x ≡ Some k → name_at hs k ≡ Some x
  pub found : (x : ObjName) (k : ℕ) → name_at hs k ≡ Some x → indices x ≡ Some k
  pub fit : AllFit hs

-- the object at the place is live and has the range from an offset on
abbrev pub IsLiveRange : Option Held → ℕ → ℕ → Type 0
IsLiveRange None from len = Unit {0}
IsLiveRange (Some h) from len = (h.state.live ≡ true) × (from + len ≤ h.size)

abbrev pub FallsIn : List Held → (at from len : ℕ) → Type 0
FallsIn hs at from len = IsLiveRange (slice_get hs at) from len

-- a store put these bytes into the object from an offset on
pub record IsWritten (h g : Held) (from : ℕ) (via : Via) (cs : List Cell) : Type 0 where
  pub rest : g ≡ record h { cells = g.cells }
  pub bytes : (at : ℕ) → cell_at g.cells at ≡ cell_put h.cells from (length cs) (is_some h.declared) via cs at

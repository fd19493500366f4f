-- The bytes of a structure or union that was loaded stand in the row of one object (6.5.16.1p3), so a new object overlaps the source of what it takes exactly,
-- or not at all.
use Rattle.std.specs.Prelude.{◌≡◌, ◌≤◌, ◌⊎◌, ◌+◌, ℕ, false, List, length, Option, Some, slice_get}
use Rattle.std.specs.List.{All}
use Rattle.ub_base.specs.declared.names.ObjName.{ObjName}
use Rattle.addr_map.specs.declared.map.Row.{Row}
use Rattle.addr_map.specs.Rows.{row_of}
use Rattle.addr_map.specs.Sound.{Apart}
use Rattle.mem_spec.specs.Store.{TaggedByte}
use Rattle.c_model.specs.Nodes.{overlap_inexactly}
use Rattle.c_model.specs.Runs.{State, Running, After, step, start, canonical_after}
use Rattle.c_model.specs.Steps.{Pick}
use Rattle.c_model.specs.Values.{Value, Whole}
use Rattle.c_model.specs.World.{World}
use Rattle.value_facts.specs.Held.{AreBytes, HoldsOnly, KeepsSmall}
use Rattle.value_facts.specs.Small.{IsSmall}

-- so many bytes from the address on lie in the row of one object
abbrev pub IsInRow : List Row → (address len : ℕ) → Type 0
IsInRow rows a len = (x : ObjName) × (r : Row) × (row_of rows x ≡ Some r) × (r.base ≤ a) × (a + len ≤ r.base + r.size)

-- those of a value do, from where it was loaded on
abbrev pub IsSourced : List Row → Value → Type 0
IsSourced rows (Whole bs (Some a)) = (length bs ≡ 0) ⊎ IsInRow rows a (length bs)
IsSourced rows v = Unit {0}

abbrev pub IsPlaced : World → Value → Type 0
IsPlaced world v = IsSmall v × IsSourced world.rows v

-- 1. So are all values in the frames of a state of a run.

abbrev pub StartsPlaced : Type 0
StartsPlaced = (world : World) (input : List ℕ) (vs : List Value) (st : State) → KeepsSmall world → AreBytes input → All (IsPlaced world) vs
    → start world input vs ≡ Running st → HoldsOnly (IsPlaced world) st

-- each pick keeps it so, whether or not it is permitted
abbrev pub StepsPlaced : Type 0
StepsPlaced = (world : World) (st after : State) (p : Pick) → KeepsSmall world → HoldsOnly (IsPlaced world) st → step world st p ≡ Running after
    → HoldsOnly (IsPlaced world) after

abbrev pub OrdersPlaced : Type 0
OrdersPlaced = (world : World) (st after : State) (ps : List Pick) → KeepsSmall world → HoldsOnly (IsPlaced world) st
    → After world st ps (Running after) → HoldsOnly (IsPlaced world) after

abbrev pub CanonicalPlaced : Type 0
CanonicalPlaced = (world : World) (n : ℕ) (st after : State) → KeepsSmall world → HoldsOnly (IsPlaced world) st
    → canonical_after world n st ≡ Running after → HoldsOnly (IsPlaced world) after

-- 2. Arguments.

-- two rows are of one extent, or one ends before the other begins
abbrev pub AreApart : Row → Row → Type 0
AreApart r q = ((r.base ≡ q.base) × (r.size ≡ q.size)) ⊎ ((r.base + r.size ≤ q.base) ⊎ (q.base + q.size ≤ r.base))

-- so it is of the rows of an address map
abbrev pub RowsAreApart : Type 0
RowsAreApart = (rows : List Row) (x y : ObjName) (r q : Row) → Apart rows → row_of rows x ≡ Some r → row_of rows y ≡ Some q → AreApart r q

-- An object that is as large as a structure or union among the arguments can take it: it doesn't overlap the value's source inexactly.
abbrev pub ArgumentsFit : Type 0
ArgumentsFit =
    (world : World) (st : State) (k : ℕ) (bs : List TaggedByte) (source : Option ℕ) (x : ObjName) (r : Row) → Apart world.rows
    → HoldsOnly (IsPlaced world) st → slice_get st.top.arguments k ≡ Some (Whole bs source) → row_of world.rows x ≡ Some r → length bs ≡ r.size
    → overlap_inexactly (length bs) r.base source ≡ false

-- Which items conflict (own; 6.5p2 for accesses).
use Rattle.std.specs.Prelude.{◌≡◌, ℕ, ◌+◌, min, max, Bool, true, false, not, ◌&&◌, ◌||◌, nat_lt, List, [], ◌∷◌, Option, Some, None}
use Rattle.ub_base.specs.Names.{same_object, same_event}
use Rattle.ub_base.specs.declared.names.ObjName.{ObjName}
use Rattle.ub_base.specs.declared.names.Item.{Item}
use Rattle.ub_base.specs.declared.names.Item.TheVariants.{Read, Write, Born, Dies, Alive, Expose, Lookup, Narrow, Input, Output, Ending, Any}
use Rattle.addr_map.specs.declared.map.Row.{Row}
use Rattle.addr_map.specs.Rows.{covers, past}

-- n bytes from a on and m bytes from b on share a byte
abbrev pub overlap : ℕ → ℕ → ℕ → ℕ → Bool
overlap a n b m = nat_lt (max a b) (min (a + n) (b + m))

-- The pairs that conflict, in one direction: accesses of one byte of which one is a write; the birth of an object with its
-- use or its exposure; its death with its use, its birth or its death; a lookup of an address with the exposure or the death
-- of an object that stands there; an ambiguity settled to different objects; two uses of one stream; an end of the run and
-- what stands for every event. `stands` says whether an object contains an address or has it one past.
abbrev pub conflicts_one : (ObjName → ℕ → Bool) → Item → Item → Bool
conflicts_one stands (Write x a n) (Read y b m) = same_object x y && overlap a n b m
conflicts_one stands (Write x a n) (Write y b m) = same_object x y && overlap a n b m
conflicts_one stands (Born x) (Alive y) = same_object x y
conflicts_one stands (Born x) (Expose y) = same_object x y
conflicts_one stands (Dies x) (Alive y) = same_object x y
conflicts_one stands (Dies x) (Born y) = same_object x y
conflicts_one stands (Dies x) (Dies y) = same_object x y
conflicts_one stands (Lookup a) (Expose y) = stands y a
conflicts_one stands (Lookup a) (Dies y) = stands y a
conflicts_one stands (Narrow d x) (Narrow e y) = same_event d e && not (same_object x y)
conflicts_one stands Input Input = true
conflicts_one stands Output Output = true
conflicts_one stands Ending Any = true
conflicts_one stands _ _ = false

abbrev pub items_conflict : (ObjName → ℕ → Bool) → Item → Item → Bool
items_conflict stands i j = conflicts_one stands i j || conflicts_one stands j i

-- whether an object contains an address or has it one past
abbrev pub is_object : Option ObjName → ObjName → Bool
is_object None x = false
is_object (Some y) x = same_object y x

abbrev pub stands_at : List Row → ObjName → ℕ → Bool
stands_at rows x a = is_object (covers rows a) x || is_object (past rows a) x

-- a read or a write (3.1)
abbrev pub is_access : Item → Bool
is_access (Read x i n) = true
is_access (Write x i n) = true
is_access _ = false

-- an item conflicts with one of these, under an address map
abbrev pub conflicts_with : List Row → Item → List Item → Bool
conflicts_with rows i [] = false
conflicts_with rows i (j ∷ js) = items_conflict (stands_at rows) i j || conflicts_with rows i js

-- an item of the one list conflicts with one of the other
abbrev pub some_conflict : List Row → List Item → List Item → Bool
some_conflict rows [] js = false
some_conflict rows (i ∷ is) js = conflicts_with rows i js || some_conflict rows is js

-- it doesn't matter which of two comes first
abbrev pub SymmetricConflict : Type 0
SymmetricConflict = (stands : ObjName → ℕ → Bool) (i j : Item) → items_conflict stands i j ≡ items_conflict stands j i

abbrev pub SymmetricConflicts : Type 0
SymmetricConflicts = (rows : List Row) (is js : List Item) → some_conflict rows is js ≡ some_conflict rows js is

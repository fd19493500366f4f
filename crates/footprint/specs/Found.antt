-- Pairs of conflicting items, one of either footprint (own).
use Rattle.std.specs.Prelude.{◌≡◌, Bool, true, List}
use Rattle.ub_base.specs.declared.names.Event.{Event}
use Rattle.ub_base.specs.declared.names.ObjName.{ObjName}
use Rattle.ub_base.specs.declared.names.Item.{Item}
use Rattle.ub_base.specs.declared.names.Item.TheVariants.{Narrow}
use Rattle.footprint.specs.declared.state.State.{State}
use Rattle.footprint.specs.States.{only_at, said_by}
use Rattle.addr_map.specs.declared.map.Row.{Row}
use Rattle.footprint.specs.declared.foot.Foot.{Foot}
use Rattle.addr_map.specs.Conflict.{items_conflict, stands_at, is_access}
use Rattle.footprint.specs.Conflicts.{is_lookup, is_narrow}
use Rattle.footprint.specs.Holds.{holds}

-- an item of a and one of b that conflict, under the address map
abbrev pub ConflictIn : Foot → Foot → List Row → Item → Item → Type 0
ConflictIn a b rows i j = (holds a i ≡ true) × (holds b j ≡ true) × (items_conflict (stands_at rows) i j ≡ true)

-- some item of a and some item of b conflict, under the address map
abbrev pub SomeConflict : Foot → Foot → List Row → Type 0
SomeConflict a b rows = (i : Item) × (j : Item) × ConflictIn a b rows i j

-- accesses of one byte by a and by b, of which one is a write
abbrev pub RaceIn : Foot → Foot → Item → Item → Type 0
RaceIn a b i j = (holds a i ≡ true) × (holds b j ≡ true) × (is_access i ≡ true) × (is_access j ≡ true) × (items_conflict (λ x n. true) i j ≡ true)

abbrev pub SomeRace : Foot → Foot → Type 0
SomeRace a b = (i : Item) × (j : Item) × RaceIn a b i j

-- an item that passes the test and one of the other footprint that conflict
abbrev pub ConflictOf : (Item → Bool) → Foot → Foot → List Row → Item → Item → Type 0
ConflictOf test a b rows i j = (test i ≡ true) × (holds a i ≡ true) × (holds b j ≡ true) × (items_conflict (stands_at rows) i j ≡ true)

-- an item that this state says of the object, with one that conflicts
abbrev pub AtObject : Foot → List Row → ObjName → State → Item → Item → Type 0
AtObject b rows x s i j = (said_by (only_at x s) i ≡ true) × (holds b j ≡ true) × (items_conflict (stands_at rows) i j ≡ true)

-- the same with a lookup
abbrev pub AtAddress : Foot → List Row → ObjName → State → Item → Item → Type 0
AtAddress b rows x s i j = (said_by (only_at x s) i ≡ true) × (is_lookup j ≡ true) × (holds b j ≡ true) × (items_conflict (stands_at rows) i j ≡ true)

-- one ambiguity settled to different objects
abbrev pub NarrowIn : Foot → Foot → Item → Item → Type 0
NarrowIn a b i j = (is_narrow i ≡ true) × (holds a i ≡ true) × (holds b j ≡ true) × (items_conflict (λ x n. true) i j ≡ true)

-- this one, settled to that object
abbrev pub SettledIn : Foot → Event → ObjName → Item → Item → Type 0
SettledIn b d x i j = (i ≡ Narrow d x) × (holds b j ≡ true) × (items_conflict (λ y n. true) i j ≡ true)

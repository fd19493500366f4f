-- The least conflicting pair of two footprints, and of two lists of items.
use Rattle.std.specs.Prelude.{◌≡◌, ◌↔◌, Bool, true, List, Option, Some}
use Rattle.ub_base.specs.declared.names.Item.{Item}
use Rattle.ub_base.specs.Frames.{Row}
use Rattle.footprint.specs.declared.foot.Foot.{Foot}
use Rattle.addr_map.specs.Conflict.{items_conflict, stands_at, is_access}
use Rattle.footprint.specs.Least.{IsLeast}
use Rattle.footprint.specs.Found.{ConflictIn}
use Rattle.c_model.specs.World.{World}
use Rattle.c_model.specs.Runs.{Entry}
use Rattle.c_model.specs.Keys.{all_by_bytes, least_items}
use Rattle.finding_laws.specs.ItemOrder.{IsKnownItem}
use Rattle.finding_laws.specs.Footprints.{IsAmong, AreItems}

-- the frames of all that is named in the list are known
abbrev pub AreKnown : World → List Entry → List Row → List Item → Type 0
AreKnown world trace rows is = (i : Item) → IsAmong (all_by_bytes is) i → IsKnownItem world trace rows i

-- what is the least conflicting pair of two footprints is the one that the definition tells, or neither is any
abbrev pub LeastIsTold : Type 0
LeastIsTold = (world : World) (trace : List Entry) (rows : List Row) (is js : List Item) (f g : Foot) (pair : Option (Item × Item))
    → AreKnown world trace rows is → AreKnown world trace rows js → AreItems f is → AreItems g js → IsLeast rows (ConflictIn f g world.rows) pair →
    pair ≡ least_items world trace is js

-- which items it has, a byte at a time, are those of the list
abbrev pub HasItems : (Item → Bool) → List Item → Type 0
HasItems f is = (i : Item) → (f i ≡ true) ↔ IsAmong (all_by_bytes is) i

-- The same of any two evaluations that have the items of two lists.
abbrev pub LeastOfItems : Type 0
LeastOfItems = (world : World) (trace : List Entry) (rows : List Row) (is js : List Item) (f g : Item → Bool) (pair : Option (Item × Item))
    → AreKnown world trace rows is → AreKnown world trace rows js → HasItems f is → HasItems g js →
    IsLeast rows (λ i j. (f i ≡ true) × (g j ≡ true) × (items_conflict (stands_at world.rows) i j ≡ true)) pair → pair ≡ least_items world trace is js

-- And the least accesses of one byte of which one is a write are the least pair of all items that conflict.
abbrev pub LeastAccesses : Type 0
LeastAccesses = (world : World) (trace : List Entry) (rows : List Row) (is js : List Item) (f g : Item → Bool) (pair : Item × Item)
    → AreKnown world trace rows is → AreKnown world trace rows js → HasItems f is → HasItems g js →
    IsLeast rows (λ i j. (f i ≡ true) × (g j ≡ true) × (is_access i ≡ true) × (is_access j ≡ true) × (items_conflict (λ x n. true) i j ≡ true)) (Some pair) →
    Some pair ≡ least_items world trace is js

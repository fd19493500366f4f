-- Accesses of an object that only one evaluation has to do with (own).
use Rattle.std.specs.Prelude.{◌≡◌, ◌⊎◌, ℕ, Bool, true, false, not, List, [], ◌∷◌, Option, if◌then◌else◌}
use Rattle.std.specs.List.{list_all}
use Rattle.ub_base.specs.declared.names.ObjName.{ObjName}
use Rattle.ub_base.specs.declared.names.Item.{Item}
use Rattle.ub_base.specs.declared.names.Item.TheVariants.{Read, Write, Born, Dies, Alive}
use Rattle.ub_base.specs.Frames.{Row}
use Rattle.ub_base.specs.Names.{same_object}
use Rattle.addr_map.specs.Conflict.{items_conflict, some_conflict, stands_at}
use Rattle.footprint.specs.Holds.{is_forgotten}
use Rattle.footprint.specs.Least.{IsLeast}
use Rattle.c_model.specs.World.{World}
use Rattle.c_model.specs.Runs.{Entry}
use Rattle.c_model.specs.Keys.{all_by_bytes, least_items}
use Rattle.finding_laws.specs.Footprints.{IsAmong}
use Rattle.finding_laws.specs.LeastPairs.{AreKnown, HasItems}

-- the items without the reads, the writes and the uses of an object
abbrev pub without : ObjName → List Item → List Item
without x [] = []
without x (i ∷ is) = if is_forgotten x i then without x is else i ∷ without x is

-- the item is a read, a write, a use, the birth or the death of the object
abbrev pub is_part_of : ObjName → Item → Bool
is_part_of x (Read y a n) = same_object x y
is_part_of x (Write y a n) = same_object x y
is_part_of x (Alive y) = same_object x y
is_part_of x (Born y) = same_object x y
is_part_of x (Dies y) = same_object x y
is_part_of x _ = false

-- no item of the list has to do with the object
abbrev pub IsStrangeTo : ObjName → List Item → Type 0
IsStrangeTo x is = list_all (λ i. not (is_part_of x i)) is ≡ true

-- Where the other evaluation has nothing to do with an object, its accesses make no conflict more, and no lesser pair of items, whichever of
-- the two stands first.
abbrev pub ForgottenTellNothing : Type 0
ForgottenTellNothing = (world : World) (trace : List Entry) (x : ObjName) (is js : List Item) → IsStrangeTo x js →
    (some_conflict world.rows (without x is) js ≡ some_conflict world.rows is js) ×
    (some_conflict world.rows js (without x is) ≡ some_conflict world.rows js is) ×
    (least_items world trace (without x is) js ≡ least_items world trace is js) ×
    (least_items world trace js (without x is) ≡ least_items world trace js is)

-- ---- what has the items of a list but for such accesses
-- the item was forgotten with an object of which the birth and the death are had
abbrev pub IsLost : (Item → Bool) → Item → Type 0
IsLost f i = (x : ObjName) × (is_forgotten x i ≡ true) × (f (Born x) ≡ true) × (f (Dies x) ≡ true)

-- which items it has, a byte at a time, are those of the list, all but such ones
pub record HasItemsBut (f : Item → Bool) (is : List Item) : Type 0 where
  pub only : (i : Item) → f i ≡ true → IsAmong (all_by_bytes is) i
  pub all : (i : Item) → IsAmong (all_by_bytes is) i → (f i ≡ true) ⊎ IsLost f i

-- so it is of a body; another event has just its items
abbrev pub HasItemsOf : (body : Bool) → (Item → Bool) → List Item → Type 0
HasItemsOf true f is = HasItemsBut f is
HasItemsOf false f is = HasItems f is

-- each read and each write of the list stands with the question whether its object lives
pub record AreAsked (is : List Item) : Type 0 where
  pub reads : (x : ObjName) (a n : ℕ) → IsAmong (all_by_bytes is) (Read x a n) → IsAmong (all_by_bytes is) (Alive x)
  pub writes : (x : ObjName) (a n : ℕ) → IsAmong (all_by_bytes is) (Write x a n) → IsAmong (all_by_bytes is) (Alive x)

-- so it is in each entry of a trace
abbrev pub AllAsked : List Entry → Type 0
AllAsked [] = Unit {0}
AllAsked (e ∷ es) = AreAsked e.items × AllAsked es

-- ---- the least pair, where neither of the two accesses an object whose accesses the other has forgotten
-- a read or a write of the object
abbrev pub is_access_of : ObjName → Item → Bool
is_access_of x (Read y a n) = same_object x y
is_access_of x (Write y a n) = same_object x y
is_access_of x _ = false

-- of an object of which the birth and the death are had, the list has none
abbrev pub AccessesAlone : (Item → Bool) → List Item → Type 0
AccessesAlone f js = (x : ObjName) → f (Born x) ≡ true → f (Dies x) ≡ true → (j : Item) → IsAmong (all_by_bytes js) j → is_access_of x j ≡ false

-- Then the least pair that conflicts of what is had is that of all items: beside a question whether an object lives, its death makes a lesser one.
abbrev pub LeastBesides : Type 0
LeastBesides = (world : World) (trace : List Entry) (rows : List Row) (is js : List Item) (f g : Item → Bool) (pair : Option (Item × Item))
    → AreKnown world trace rows is → AreKnown world trace rows js → HasItemsBut f is → HasItemsBut g js → AccessesAlone f js → AccessesAlone g is →
    IsLeast rows (λ i j. (f i ≡ true) × (g j ≡ true) × (items_conflict (stands_at world.rows) i j ≡ true)) pair → pair ≡ least_items world trace is js

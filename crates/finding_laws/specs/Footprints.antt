-- Footprints as lists of items, a byte at a time.
use Rattle.std.specs.Prelude.{◌≡◌, ◌<◌, ◌+◌, ◌^◌, ◌⊎◌, ◌↔◌, true, false, ◌||◌, List, [], ◌∷◌, ◌++◌}
use Rattle.ub_base.specs.declared.names.Item.{Item}
use Rattle.ub_base.specs.declared.names.Item.TheVariants.{Read, Write}
use Rattle.footprint.specs.declared.foot.Foot.{Foot}
use Rattle.footprint.specs.Holds.{holds, stands_for}
use Rattle.c_model.specs.Keys.{all_by_bytes}

-- the item is one of these
abbrev pub IsAmong : List Item → Item → Type 0
IsAmong [] i = ⊥
IsAmong (j ∷ js) i = (j ≡ i) ⊎ IsAmong js i

-- the footprint has just the items of the list, a byte at a time
abbrev pub AreItems : Foot → List Item → Type 0
AreItems f is = (i : Item) → (holds f i ≡ true) ↔ IsAmong (all_by_bytes is) i

-- its bytes end below the last of 64 bits
abbrev pub IsWithin : Item → Type 0
IsWithin (Read x a n) = a + n < 2 ^ 64
IsWithin (Write x a n) = a + n < 2 ^ 64
IsWithin _ = Unit {0}

-- a footprint that holds nothing has the items of the empty list
abbrev pub EmptyIsNone : Type 0
EmptyIsNone = (f : Foot) → ((i : Item) → holds f i ≡ false) → AreItems f []

-- one to which an item was added has that item besides
abbrev pub AddIsMore : Type 0
AddIsMore = (f g : Foot) (item : Item) (is : List Item) → IsWithin item → AreItems f is → ((i : Item) → holds g i ≡ (holds f i || stands_for item i)) →
    AreItems g (item ∷ is)

-- the union of two has the items of both
abbrev pub UnionIsBoth : Type 0
UnionIsBoth = (f g h : Foot) (is js : List Item) → AreItems f is → AreItems g js → ((i : Item) → holds h i ≡ (holds f i || holds g i)) →
    AreItems h (is ++ js)

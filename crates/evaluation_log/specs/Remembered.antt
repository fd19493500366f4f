-- The accesses of which it is remembered that sets of open frames have them (own).
use Rattle.std.specs.Prelude.{◌≡◌, ◌⊎◌, ℕ, Bool, true, false, ◌&&◌, ◌==◌, List, Option, Some, None, slice_get}
use Rattle.ub_base.specs.declared.names.Frame.{Frame}
use Rattle.ub_base.specs.declared.names.Item.{Item}
use Rattle.ub_base.specs.declared.names.Item.TheVariants.{Read, Write, Alive}
use Rattle.ub_base.specs.Names.{same_object}
use Rattle.footprint.specs.declared.foot.Foot.{Foot}
use Rattle.footprint.specs.Holds.{holds, stands_for}
use Rattle.evaluation_log.specs.declared.known.Known.{Known}
use Rattle.evaluation_log.specs.Bodies.{IsLost}

-- the kinds of items that are remembered
abbrev pub is_remembered : Item → Bool
is_remembered (Read x i n) = true
is_remembered (Write x i n) = true
is_remembered (Alive x) = true
is_remembered _ = false

-- they are the same access
abbrev pub same_access : Item → Item → Bool
same_access (Read x f n) (Read y g m) = (same_object x y && (f == g)) && (n == m)
same_access (Write x f n) (Write y g m) = (same_object x y && (f == g)) && (n == m)
same_access (Alive x) (Alive y) = same_object x y
same_access _ _ = false

-- the entry is of this frame and this access
abbrev pub has_entry : Option (Frame × Item) → Frame → Item → Bool
has_entry None frame item = false
has_entry (Some e) frame item = same_access e.1 item && (e.0.0 == frame.0)

-- it is remembered that the frame's set has the item
abbrev pub Knows : Known → Frame → Item → Type 0
Knows known frame item = (is_remembered item ≡ true) × ((p : ℕ) × (slice_get known.entries.items p ≡ Some (frame, item)))

-- the set has the item, or had it until the object died that it is of, and that was born with what the set has
abbrev pub HasHad : Foot → Item → Type 0
HasHad f i = (holds f i ≡ true) ⊎ IsLost f i

-- the set has or had all that the item stands for
abbrev pub HasHadAll : Foot → Item → Type 0
HasHadAll f item = (j : Item) → stands_for item j ≡ true → HasHad f j

-- what is remembered of the frame, its set has or had
abbrev pub AreKnown : Known → Frame → Foot → Type 0
AreKnown known frame f = (item : Item) → Knows known frame item → HasHadAll f item

-- the items of a list, the set has or had
abbrev pub HasHadEach : List Item → Foot → Type 0
HasHadEach items f = (p : ℕ) (item : Item) → slice_get items p ≡ Some item → HasHadAll f item

-- nothing more is remembered of other frames than this one
abbrev pub IsOfOne : Known → Known → Frame → Type 0
IsOfOne old new frame = (other : Frame) (item : Item) → (other ≡ frame → ⊥) → Knows new other item → Knows old other item

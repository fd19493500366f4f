-- What was told of two evaluations clashes exactly where their items do (own; 6.5p2 for accesses).
use Rattle.std.specs.Prelude.{◌≡◌, ◌↔◌, Bool, true, List, Some}
use Rattle.ub_base.specs.Frames.{Row as FrameRow}
use Rattle.ub_base.specs.declared.names.Item.{Item}
use Rattle.addr_map.specs.Conflict.{some_conflict}
use Rattle.addr_map.specs.declared.map.Row.{Row}
use Rattle.c_model.specs.Findings.{accesses}
use Rattle.evaluation_log.specs.Clashes.{Clash, SomeClash}
use Rattle.evaluation_log.specs.declared.sought.Sought.{Sought}
use Rattle.evaluation_log.specs.declared.sought.Sought.TheVariants.{Any, Races}
use Rattle.finding_laws.specs.Forgotten.{AreAsked, HasItemsBut}
use Rattle.finding_laws.specs.LeastPairs.{HasItems}
use Rattle.footprint.specs.Least.{IsLeast}

-- what has the items of two lists clashes where some of these conflict
abbrev pub MeetsByItems : Type 0
MeetsByItems = (rows : List Row) (f g : Item → Bool) (is js : List Item) → HasItems f is → HasItems g js →
    SomeClash Any rows f g ↔ (some_conflict rows is js ≡ true)

-- and races where some of the accesses among them do
abbrev pub RacesByItems : Type 0
RacesByItems = (rows : List Row) (f g : Item → Bool) (is js : List Item) → HasItems f is → HasItems g js →
    SomeClash Races rows f g ↔ (some_conflict rows (accesses is) (accesses js) ≡ true)

-- there is a least pair then
abbrev pub HasLeast : Type 0
HasLeast = (rows : List Row) (frames : List FrameRow) (sought : Sought) (f g : Item → Bool) (is js : List Item) → HasItems f is → HasItems g js →
    SomeClash sought rows f g → (p : Item × Item) × IsLeast frames (Clash sought rows f g) (Some p)

-- ---- where accesses are forgotten
-- What has all items but accesses of objects of which it has the birth and the death clashes where some of all conflict, if each access stands with the
-- question whether its object lives: that, or another birth or death of the object, conflicts with its death.
abbrev pub MeetsBesides : Type 0
MeetsBesides = (rows : List Row) (f g : Item → Bool) (is js : List Item) → HasItemsBut f is → HasItemsBut g js → AreAsked is → AreAsked js →
    SomeClash Any rows f g ↔ (some_conflict rows is js ≡ true)

-- where it races some of all accesses do
abbrev pub RacesBesides : Type 0
RacesBesides = (rows : List Row) (f g : Item → Bool) (is js : List Item) → HasItemsBut f is → HasItemsBut g js → SomeClash Races rows f g →
    some_conflict rows (accesses is) (accesses js) ≡ true

-- there is a least pair of what it has
abbrev pub HasLeastBesides : Type 0
HasLeastBesides = (rows : List Row) (frames : List FrameRow) (sought : Sought) (f g : Item → Bool) (is js : List Item) → HasItemsBut f is →
    HasItemsBut g js → SomeClash sought rows f g → (p : Item × Item) × IsLeast frames (Clash sought rows f g) (Some p)

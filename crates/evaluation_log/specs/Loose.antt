-- The side effects below a node that come before its value in no order, which a list has (own).
use Rattle.std.specs.Prelude.{◌≡◌, ◌≤◌, ◌<◌, ◌-◌, ℕ, suc, true, Bool, List, Option, Some, None, Box, slice_get, length}
use Rattle.std.specs.Global.{Global}
use Rattle.ub_base.specs.declared.names.Item.{Item}
use Rattle.addr_map.specs.declared.map.Row.{Row}
use Rattle.footprint.specs.declared.foot.Foot.{Foot}
use Rattle.footprint.specs.Holds.{holds}
use Rattle.evaluation_log.specs.declared.log.Logged.{Logged}
use Rattle.evaluation_log.specs.declared.log.Segment.{Segment}
use Rattle.evaluation_log.specs.declared.level.Level.{Level}
use Rattle.evaluation_log.specs.declared.sought.Sought.TheVariants.{Any}
use Rattle.evaluation_log.specs.Touched.{event_has, start_of}
use Rattle.evaluation_log.specs.Clashes.{NoClash}
use Rattle.evaluation_log.specs.Kept.{Cut, cut_of}

-- the event that is listed at a place
abbrev pub event_of : List Logged → Option ℕ → Option Logged
event_of events None = None
event_of events (Some k) = slice_get events k

-- what the event touched that is listed at a place
abbrev pub loose_has : List Logged → List Item → List ℕ → ℕ → Item → Bool
loose_has events items loose i = event_has items (event_of events (slice_get loose i))

-- no event that is listed from a place on clashes with these items
abbrev pub NoLoose : List Row → List Logged → List Item → List ℕ → ℕ → (Item → Bool) → Type 0
NoLoose rows events items loose from f = (i : ℕ) → from ≤ i → NoClash Any rows f (loose_has events items loose i)

-- the set has what the events touched that are listed from a place on
abbrev pub HasLoose : List Logged → List Item → List ℕ → ℕ → Foot → Type 0
HasLoose events items loose from f = (i : ℕ) → from ≤ i → (j : Item) → loose_has events items loose i j ≡ true → holds f j ≡ true

abbrev pub first_loose : List ℕ → Option Segment → ℕ
first_loose loose None = length loose
first_loose loose (Some s) = s.loose

-- where those below the node of the top segment begin
abbrev pub loose_from : List Segment → List ℕ → ℕ
loose_from segments loose = first_loose loose (slice_get segments (length segments - 1))

abbrev pub loose_foot_of : Option Segment → Option (Box Foot Global)
loose_foot_of None = None
loose_foot_of (Some s) = s.loose_foot

-- the set that is kept of them, if one is, has what they touched
abbrev pub LooseKept : List Segment → List Logged → List Item → List ℕ → ℕ → Type 0
LooseKept segments events items loose from = (f : Box Foot Global) → loose_foot_of (slice_get segments (length segments - 1)) ≡ Some f →
    HasLoose events items loose from f.value

-- where the loose events of a segment begin in the list, and behind the last segment where the list ends
abbrev pub loose_of : List Segment → List ℕ → ℕ → ℕ
loose_of segments loose g = first_loose loose (slice_get segments g)

-- the set has what the events touched that are listed from one place up to another
abbrev pub HasRange : List Logged → List Item → List ℕ → (from to : ℕ) → Foot → Type 0
HasRange events items loose from to f = (i : ℕ) → from ≤ i → i < to → (j : Item) → loose_has events items loose i j ≡ true → holds f j ≡ true

pub record LooseWhole (segments : List Segment) (events : List Logged) (items : List Item) (loose : List ℕ) (levels : List Level) : Type 0 where
  -- what is listed of the segments stands one behind the other
  pub rise : (g : ℕ) → loose_of segments loose g ≤ loose_of segments loose (suc g)
  -- what is listed of a segment are events of it
  pub own : (g i k : ℕ) → loose_of segments loose g ≤ i → i < loose_of segments loose (suc g) → slice_get loose i ≡ Some k →
      (start_of segments events g ≤ k) × (k < start_of segments events (suc g))
  -- its set, where it is kept, has what they touched
  pub has : (g : ℕ) (f : Box Foot Global) → loose_foot_of (slice_get segments g) ≡ Some f →
      HasRange events items loose (loose_of segments loose g) (loose_of segments loose (suc g)) f.value
  -- the part of an open frame begins where that of its first segment does
  pub cuts : (d : ℕ) (c : Cut) → cut_of (slice_get levels d) ≡ Some c → loose_of segments loose c.segments ≡ c.loose

-- of a list what stands before a place is as it was, and what stands from there on did so before
pub record Thins (first : ℕ) (old new : List ℕ) : Type 0 where
  pub before : (i : ℕ) → i < first → slice_get new i ≡ slice_get old i
  pub behind : (i k : ℕ) → first ≤ i → slice_get new i ≡ Some k → (p : ℕ) × (first ≤ p) × (slice_get old p ≡ Some k)
  pub reach : first ≤ length old → first ≤ length new

-- where the loose events of a segment begin
abbrev pub loose_start_of : Option Segment → Option ℕ
loose_start_of None = None
loose_start_of (Some s) = Some s.loose

-- the set, where it is kept, has what the former one has, and what an event touched
abbrev pub HasEvent : Option (Box Foot Global) → Option (Box Foot Global) → (Item → Bool) → Type 0
HasEvent old new has = (f : Box Foot Global) → new ≡ Some f →
    (b : Box Foot Global) × (old ≡ Some b) × ((j : Item) → holds b.value j ≡ true → holds f.value j ≡ true) ×
    ((j : Item) → has j ≡ true → holds f.value j ≡ true)

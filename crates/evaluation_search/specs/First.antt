-- The first conflict of those between events of a log: a race before another one, and then the lesser pair of events (own; 6.5p2 for races).
use Rattle.std.specs.Prelude.{◌≡◌, ◌⊎◌, ◌≤◌, ◌<◌, ℕ, suc, Bool, true, false, List, Option, Some, None, slice_get, length}
use Rattle.std.specs.Ordering.{is_lt}
use Rattle.ub_base.specs.declared.names.Event.{Event}
use Rattle.ub_base.specs.declared.names.Item.{Item}
use Rattle.ub_base.specs.Frames.{Row as FrameRow}
use Rattle.c_names.specs.Orders.{event_cmp}
use Rattle.addr_map.specs.declared.map.Row.{Row}
use Rattle.footprint.specs.declared.foot.Foot.{Foot}
use Rattle.footprint.specs.Holds.{holds}
use Rattle.footprint.specs.Least.{IsLeast}
use Rattle.evaluation_log.specs.declared.found.Found.{Found}
use Rattle.evaluation_log.specs.declared.log.Logged.{Logged}
use Rattle.evaluation_log.specs.declared.log.Segment.{Segment}
use Rattle.evaluation_log.specs.declared.sought.Sought.{Sought}
use Rattle.evaluation_log.specs.declared.sought.Sought.TheVariants.{Races, Any}
use Rattle.evaluation_log.specs.Touched.{event_has, is_sought, start_of}
use Rattle.evaluation_log.specs.Clashes.{Clash, SomeClash, NoClash}
use Rattle.evaluation_log.specs.FoundItems.{counts_before}
use Rattle.evaluation_search.specs.declared.log.Place.{Place}

-- ---- which conflict is the first one
-- of the conflicts of which this holds it is one, and none of them counts before it
abbrev pub IsFirst : List FrameRow → (Found → Type 0) → Found → Type 0
IsFirst frames Q f = Q f × ((g : Found) → Q g → counts_before frames g f ≡ false)

-- or it holds of none
abbrev pub IsFirstOf : List FrameRow → (Found → Type 0) → Option Found → Type 0
IsFirstOf frames Q None = (f : Found) → Q f → ⊥
IsFirstOf frames Q (Some f) = IsFirst frames Q f

-- ---- conflicts of two events
-- an event of a full expression by its name
abbrev pub named : Place → Option Logged → Option Event
named p None = None
named p (Some e) = Some (record { frame = p.frame; turn = p.turn; node = e.node; kind = e.kind })

abbrev pub sought_of : Bool → Sought
sought_of true = Races
sought_of false = Any

-- the conflict is of these two events, and its items are the least of theirs that conflict; a race is of two of which neither is a body
pub record IsOf (frames : List FrameRow) (rows : List Row) (p : Place) (events : List Logged) (items : List Item) (a b : ℕ) (f : Found) : Type 0 where
  pub event : named p (slice_get events a) ≡ Some f.event
  pub against : named p (slice_get events b) ≡ Some f.against
  pub first_sought : is_sought (sought_of f.race) (slice_get events a) ≡ true
  pub second_sought : is_sought (sought_of f.race) (slice_get events b) ≡ true
  pub least : IsLeast frames (Clash (sought_of f.race) rows (event_has items (slice_get events a)) (event_has items (slice_get events b))) (Some f.items)

-- it is of such a pair
abbrev pub IsOfPair : List FrameRow → List Row → Place → List Logged → List Item → (ℕ → ℕ → Type 0) → Found → Type 0
IsOfPair frames rows p events items Pairs f = (a : ℕ) × (b : ℕ) × Pairs a b × IsOf frames rows p events items a b f

-- and one that is sought
abbrev pub IsSoughtPair : Sought → List FrameRow → List Row → Place → List Logged → List Item → (ℕ → ℕ → Type 0) → Found → Type 0
IsSoughtPair sought frames rows p events items Pairs f = (sought ≡ sought_of f.race) × IsOfPair frames rows p events items Pairs f

-- the set has just what the event touched
abbrev pub HasJust : List Logged → List Item → ℕ → Foot → Type 0
HasJust events items a foot = (i : Item) → holds foot i ≡ event_has items (slice_get events a) i

-- ---- between operands
-- the first event is of the segment, the other one of those behind it
pub record AreFrom (segments : List Segment) (events : List Logged) (group a b : ℕ) : Type 0 where
  pub from : start_of segments events group ≤ a
  pub to : a < start_of segments events (suc group)
  pub behind : start_of segments events (suc group) ≤ b
  pub within : b < length events

-- the events are of two segments of those from `at` on, the first one of the earlier segment
pub record AreBetween (segments : List Segment) (events : List Logged) (at a b : ℕ) : Type 0 where
  pub first : ℕ
  pub second : ℕ
  pub low : at ≤ first
  pub rise : first < second
  pub from : start_of segments events first ≤ a
  pub to : a < start_of segments events (suc first)
  pub behind : start_of segments events second ≤ b
  pub within : b < start_of segments events (suc second)

-- the nodes of events stand in the order of their segments
abbrev pub AreRising : List Segment → List Logged → ℕ → Type 0
AreRising segments events at = (g h k l : ℕ) (d e : Logged) → at ≤ g → g < h → start_of segments events g ≤ k → k < start_of segments events (suc g) →
    start_of segments events h ≤ l → l < start_of segments events (suc h) → slice_get events k ≡ Some d → slice_get events l ≡ Some e → d.node < e.node

-- each event, of those from a place on, is logged once
abbrev pub AreOnce : List Logged → ℕ → Type 0
AreOnce events from = (k l : ℕ) (d e : Logged) → from ≤ k → from ≤ l → slice_get events k ≡ Some d → slice_get events l ≡ Some e → d.node ≡ e.node →
    d.kind ≡ e.kind → k ≡ l

-- ---- the least event
abbrev pub comes_first : List FrameRow → Option Event → Option Event → Bool
comes_first frames None e = false
comes_first frames (Some d) None = false
comes_first frames (Some d) (Some e) = is_lt (event_cmp frames d e)

-- of the events of which this holds none comes before the one, or it holds of none
abbrev pub IsLeastEvent : List FrameRow → (ℕ → Option Event) → (ℕ → Type 0) → Option ℕ → Type 0
IsLeastEvent frames name Q None = (k : ℕ) → Q k → ⊥
IsLeastEvent frames name Q (Some m) = Q m × ((k : ℕ) → Q k → comes_first frames (name k) (name m) ≡ false)

-- the best one so far stays, or this event takes its place, if it holds of it and it comes before that
abbrev pub Takes : List FrameRow → (ℕ → Option Event) → Type 0 → (at : ℕ) → (best r : Option ℕ) → Type 0
Takes frames name Q at best r =
    ((r ≡ best) × (Q → (m : ℕ) × (best ≡ Some m) × (comes_first frames (name at) (name m) ≡ false))) ⊎
    ((r ≡ Some at) × Q × ((m : ℕ) → best ≡ Some m → comes_first frames (name at) (name m) ≡ true))

-- the best one so far stays, if this one has no clash, or else this one takes its place
abbrev pub IsNearer : Sought → List Row → (foot rest : Item → Bool) → (one : ℕ) → (best r : Option ℕ) → Type 0
IsNearer sought rows foot rest one best r = ((r ≡ best) × NoClash sought rows foot rest) ⊎ ((r ≡ Some one) × SomeClash sought rows foot rest)

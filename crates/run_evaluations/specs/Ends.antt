-- An end of the run beside the value of a node, done or still to come (own).
use Rattle.std.specs.Prelude.{◌≡◌, ◌⊎◌, ◌≤◌, ◌<◌, ◌-◌, ◌==◌, ◌&&◌, ℕ, Bool, true, false, List, Option, Some, None, slice_get, length}
use Rattle.ub_base.specs.declared.clause.Kind.{Kind}
use Rattle.ub_base.specs.declared.clause.Kind.TheVariants.{Val, Eff, Body}
use Rattle.ub_base.specs.declared.names.Event.{Event}
use Rattle.ub_base.specs.declared.names.Item.{Item}
use Rattle.ub_base.specs.declared.names.Item.TheVariants.{Any as AnyEvent}
use Rattle.ub_base.specs.Frames.{Row as FrameRow}
use Rattle.addr_map.specs.declared.map.Row.{Row}
use Rattle.footprint.specs.declared.foot.Foot.{Foot}
use Rattle.footprint.specs.Holds.{holds, stands_for}
use Rattle.footprint.specs.Least.{IsLeast}
use Rattle.evaluation_log.specs.declared.found.Found.{Found}
use Rattle.evaluation_log.specs.declared.log.Logged.{Logged}
use Rattle.evaluation_log.specs.declared.level.Level.{Level}
use Rattle.run_evaluations.specs.declared.open.Evaluations.{Evaluations}
use Rattle.evaluation_log.specs.declared.sought.Sought.TheVariants.{Any}
use Rattle.evaluation_log.specs.Touched.{event_has}
use Rattle.evaluation_log.specs.Clashes.{Clash, NoClash}
use Rattle.run_evaluations.specs.First.{event_by, expression_in}

abbrev pub is_value_kind : Kind → Bool
is_value_kind Val = true
is_value_kind Eff = false
is_value_kind Body = false

-- whether there is such an event, and it is the value of this node
abbrev pub is_value : ℕ → Option Logged → Bool
is_value node None = false
is_value node (Some e) = is_value_kind e.kind && (e.node == node)

abbrev pub begin_of : Option Level → ℕ
begin_of None = 0
begin_of (Some l) = l.events

-- where the events of the full expression begin that is open in the top frame
abbrev pub events_from : Evaluations → ℕ
events_from o = begin_of (slice_get o.levels.items (length o.levels.items - 1))

-- the value of the node is done, and stands at this place of the log
pub record IsDone (o : Evaluations) (node k : ℕ) : Type 0 where
  pub low : events_from o ≤ k
  pub value : is_value node (slice_get o.events.items k) ≡ true
  pub first : (i : ℕ) → events_from o ≤ i → i < k → is_value node (slice_get o.events.items i) ≡ false

-- the value of the node is done and touched this
abbrev pub IsInValue : Evaluations → ℕ → Item → Type 0
IsInValue o node j = (k : ℕ) × IsDone o node k × (event_has o.items.items (slice_get o.events.items k) j ≡ true)

-- the set has what the value of the node touched, if it is done, and stands for every event besides; nothing else
pub record HasValue (o : Evaluations) (node : ℕ) (f : Foot) : Type 0 where
  pub any : (j : Item) → stands_for AnyEvent j ≡ true → holds f j ≡ true
  pub done : (k : ℕ) → IsDone o node k → (j : Item) → event_has o.items.items (slice_get o.events.items k) j ≡ true → holds f j ≡ true
  pub only : (j : Item) → holds f j ≡ true → IsInValue o node j ⊎ (stands_for AnyEvent j ≡ true)

-- ---- a conflict of the last event
-- a dependence of two events with these items, and its items are the least of theirs that conflict
pub record IsDependence (frames : List FrameRow) (rows : List Row) (d : Event) (f : Item → Bool) (e : Event) (g : Item → Bool) (x : Found) : Type 0 where
  pub dependent : x.race ≡ false
  pub event : x.event ≡ d
  pub against : x.against ≡ e
  pub least : IsLeast frames (Clash Any rows f g) (Some x.items)

-- or none, where no items of theirs conflict
abbrev pub IsDependenceIf : List FrameRow → List Row → Event → (Item → Bool) → Event → (Item → Bool) → Option Found → Type 0
IsDependenceIf frames rows d f e g None = NoClash Any rows f g
IsDependenceIf frames rows d f e g (Some x) = IsDependence frames rows d f e g x

-- an event of the full expression that is open in the top frame
abbrev pub top_event : Evaluations → ℕ → Kind → Event
top_event o n kind = event_by (expression_in (slice_get o.levels.items (length o.levels.items - 1))) n kind

-- what the last event touched
abbrev pub last_has : Evaluations → Item → Bool
last_has o = event_has o.items.items (slice_get o.events.items (length o.events.items - 1))

-- the last event clashes neither with the value of the node, where it is done, nor with what stands for every event, as it may still come
pub record NoneBeside (rows : List Row) (o : Evaluations) (node : ℕ) : Type 0 where
  pub any : NoClash Any rows (stands_for AnyEvent) (last_has o)
  pub done : (k : ℕ) → IsDone o node k → NoClash Any rows (event_has o.items.items (slice_get o.events.items k)) (last_has o)

-- what is given of the last event and the value of the node, that of the lesser node first
pub record IsBeside (frames : List FrameRow) (rows : List Row) (o : Evaluations) (last : Logged) (node : ℕ) (r : Option Found) : Type 0 where
  pub foot : Foot
  pub has : HasValue o node foot
  pub before : node < last.node →
      IsDependenceIf frames rows (top_event o node Val) (holds foot) (top_event o last.node last.kind) (last_has o) r
  pub behind : last.node ≤ node →
      IsDependenceIf frames rows (top_event o last.node last.kind) (last_has o) (top_event o node Val) (holds foot) r

-- of no node there is none
abbrev pub IsBesideSome : List FrameRow → List Row → Evaluations → Logged → Option ℕ → Option Found → Type 0
IsBesideSome frames rows o last None r = r ≡ None
IsBesideSome frames rows o last (Some node) r = IsBeside frames rows o last node r

-- What is kept of the open full expressions besides the log, as a run goes on (own).
use Rattle.std.specs.Prelude.{◌≡◌, ◌≢◌, ℕ, true, false, List, [], ◌∷◌, ◌++◌, ◌+◌, None, slice_get, length}
use Rattle.ub_base.specs.declared.names.Item.{Item}
use Rattle.addr_map.specs.declared.map.Row.{Row}
use Rattle.evaluation_log.specs.declared.log.Logged.{Logged}
use Rattle.evaluation_log.specs.declared.log.Segment.{Segment}
use Rattle.run_evaluations.specs.declared.open.Evaluations.{Evaluations}
use Rattle.evaluation_log.specs.declared.sought.Sought.TheVariants.{Any}
use Rattle.evaluation_log.specs.Clashes.{NoClash, operand_has}
use Rattle.evaluation_log.specs.Ways.{node_of}
use Rattle.evaluation_log.specs.Kept.{harmless_of, foot_of, marks, loose_mark, cut_of, Whole, AllHarmless, IsOperand}

-- the log, the lists of large bodies and of loose events, the open frames, where segments begin, of which nodes they are, which are harmless, and what is
-- kept of their loose events are as they were
pub record IsSameLog (old new : Evaluations) : Type 0 where
  pub events : new.events.items ≡ old.events.items
  pub items : new.items.items ≡ old.items.items
  pub large : new.large.items ≡ old.large.items
  pub levels : new.levels.items ≡ old.levels.items
  pub alike : (g : ℕ) → marks (slice_get new.segments.items g) ≡ marks (slice_get old.segments.items g)
  pub harm : (g : ℕ) → harmless_of (slice_get new.segments.items g) ≡ harmless_of (slice_get old.segments.items g)
  pub loose : new.loose.items ≡ old.loose.items
  pub lows : (g : ℕ) → loose_mark (slice_get new.segments.items g) ≡ loose_mark (slice_get old.segments.items g)
  pub nodes : (g : ℕ) → node_of (slice_get new.segments.items g) ≡ node_of (slice_get old.segments.items g)

-- all is as it was, but for the set of one segment, which is gone
pub record IsTaken (old new : Evaluations) (at : ℕ) : Type 0 where
  pub same : IsSameLog old new
  pub gone : foot_of (slice_get new.segments.items at) ≡ None
  pub others : (g : ℕ) → g ≢ at → slice_get new.segments.items g ≡ slice_get old.segments.items g

-- what is kept of the open full expressions is right
abbrev pub IsKept : Evaluations → Type 0
IsKept o = Whole o.segments.items o.events.items o.items.items o.large.items o.levels.items

-- the log, the list of large bodies and the open frames are as they were
pub record IsSameRest (old new : Evaluations) : Type 0 where
  pub events : new.events.items ≡ old.events.items
  pub items : new.items.items ≡ old.items.items
  pub large : new.large.items ≡ old.large.items
  pub levels : new.levels.items ≡ old.levels.items

-- a segment of its own, of an event that comes next
pub record IsFirst (old new : Evaluations) (s : Segment) (added : List Item) : Type 0 where
  pub pushed : new.segments.items ≡ old.segments.items ++ (s ∷ [])
  pub first : s.first ≡ length old.events.items
  pub items : s.items ≡ length old.items.items
  pub large : s.large ≡ length old.large.items
  pub harm : s.harmless ≡ true → AllHarmless added
  pub foot : s.foot ≡ None
  pub low : s.loose ≡ length old.loose.items
  pub below : s.loose_foot ≡ None

-- an event was added to the log
pub record IsLogged (old new : Evaluations) (e : Logged) (added : List Item) : Type 0 where
  pub events : new.events.items ≡ old.events.items ++ (e ∷ [])
  pub items : new.items.items ≡ old.items.items ++ added
  pub large : new.large.items ≡ old.large.items
  pub levels : new.levels.items ≡ old.levels.items
  pub segments : new.segments.items ≡ old.segments.items
  pub loose : new.loose.items ≡ old.loose.items
  pub from : e.from ≡ length old.items.items
  pub to : e.to ≡ length old.items.items + length added
  pub foot : e.foot ≡ None
  pub small : e.large ≡ false

-- no two operands of the node clash, of the full expression that is open in the top frame
abbrev pub NoneOfOperands : List Row → Evaluations → ℕ → Type 0
NoneOfOperands rows o node = (g h : ℕ) → IsOperand o.segments.items o.levels.items node g → IsOperand o.segments.items o.levels.items node h → g ≢ h →
    NoClash Any rows (operand_has Any o.segments.items o.events.items o.items.items g) (operand_has Any o.segments.items o.events.items o.items.items h)

-- all is as it was, but for the turn of a frame and what it touched
pub record IsSameOpen (old new : Evaluations) : Type 0 where
  pub segments : new.segments.items ≡ old.segments.items
  pub events : new.events.items ≡ old.events.items
  pub items : new.items.items ≡ old.items.items
  pub large : new.large.items ≡ old.large.items
  pub loose : new.loose.items ≡ old.loose.items
  pub cuts : (d : ℕ) → cut_of (slice_get new.levels.items d) ≡ cut_of (slice_get old.levels.items d)

-- an event that was told is the next one of the log, and has started no frame yet
pub record IsTold (old new : Evaluations) (e : Logged) (added : List Item) : Type 0 where
  pub events : new.events.items ≡ old.events.items ++ (e ∷ [])
  pub items : new.items.items ≡ old.items.items ++ added
  pub levels : new.levels.items ≡ old.levels.items
  pub from : e.from ≡ length old.items.items
  pub to : e.to ≡ length old.items.items + length added
  pub foot : e.foot ≡ None

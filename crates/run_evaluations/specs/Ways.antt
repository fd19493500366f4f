-- The operands of the nodes along a way (own).
use Rattle.std.specs.Prelude.{◌≡◌, ◌<◌, ◌≤◌, ◌-◌, ℕ, suc, true, List, Some, slice_get, length}
use Rattle.addr_map.specs.declared.map.Row.{Row}
use Rattle.c_typed.specs.Tree.{Tree}
use Rattle.evaluation_log.specs.declared.log.Logged.{Logged}
use Rattle.evaluation_log.specs.declared.log.Segment.{Segment}
use Rattle.evaluation_log.specs.declared.rules.Rule.{Rule}
use Rattle.evaluation_log.specs.declared.rules.Rules.{Rules}
use Rattle.evaluation_log.specs.declared.sought.Sought.TheVariants.{Any}
use Rattle.evaluation_log.specs.Clashes.{NoClash, operand_has}
use Rattle.evaluation_log.specs.Kept.{IsOperand, base_of, marks, is_unsequenced}
use Rattle.evaluation_log.specs.Touched.{start_of}
use Rattle.evaluation_log.specs.Loose.{loose_of}
use Rattle.evaluation_log.specs.Ways.{above_in, rule_in, node_of}
use Rattle.evaluation_search.specs.First.{AreFrom, AreOnce, AreRising}
use Rattle.run_evaluations.specs.declared.open.Evaluations.{Evaluations}
use Rattle.run_evaluations.specs.Kept.{IsSameRest}

-- the segment is of an operand of this node on the way, and of none further down on it
abbrev pub IsNearest : Evaluations → List ℕ → (j n g : ℕ) → Type 0
IsNearest o above j n g = (slice_get above j ≡ Some n) × IsOperand o.segments.items o.levels.items n g ×
    ((k m : ℕ) → j < k → slice_get above k ≡ Some m → IsOperand o.segments.items o.levels.items m g → ⊥)

-- no operand of a node on the way clashes with a later one, where no rule of the node sequences them; of operands further down that node is asked
abbrev pub NoneOnWay : List Row → Rules → List ℕ → Evaluations → Type 0
NoneOnWay rows rules above o = (j n g h : ℕ) → IsNearest o above j n g → is_unsequenced (rule_in rules n) ≡ true → g < h →
    NoClash Any rows (operand_has Any o.segments.items o.events.items o.items.items g) (operand_has Any o.segments.items o.events.items o.items.items h)

-- on the way to the node of the last event
abbrev pub NoneAtEnd : List Row → Rules → Tree → Evaluations → Type 0
NoneAtEnd rows rules tree o = (last : Logged) → slice_get o.events.items (length o.events.items - 1) ≡ Some last →
    NoneOnWay rows rules (above_in 0 tree last.node) o

-- ---- pairs of events of operands
-- the first event is of an operand of the node, whose operands this rule doesn't sequence, and the other one stands behind that operand's segment
pub record AreBehindOperand (o : Evaluations) (n : ℕ) (rule : Rule) (a b : ℕ) : Type 0 where
  pub free : is_unsequenced rule ≡ true
  pub segment : ℕ
  pub operand : IsOperand o.segments.items o.levels.items n segment
  pub events : AreFrom o.segments.items o.events.items segment a b

-- the same of a node on the way, from one place of the way on; the operand is of none further down
pub record AreOnWay (rules : Rules) (above : List ℕ) (o : Evaluations) (from a b : ℕ) : Type 0 where
  pub place : ℕ
  pub low : from ≤ place
  pub node : ℕ
  pub segment : ℕ
  pub near : IsNearest o above place node segment
  pub free : is_unsequenced (rule_in rules node) ≡ true
  pub events : AreFrom o.segments.items o.events.items segment a b

-- the events of the frame on top are logged once each, and their nodes stand in the order of their segments
pub record StandInOrder (o : Evaluations) : Type 0 where
  pub from : ℕ
  pub begins : (g : ℕ) → base_of o.levels.items ≤ g → from ≤ start_of o.segments.items o.events.items g
  pub once : AreOnce o.events.items from
  pub rising : AreRising o.segments.items o.events.items (base_of o.levels.items)

-- ---- what changes
-- the segments of a node's operands, which begin at this one, are made one of its own
pub record IsGathered (old new : Evaluations) (n at : ℕ) : Type 0 where
  pub low : base_of old.levels.items ≤ at
  pub behind : (k : ℕ) (s : Segment) → at ≤ k → slice_get old.segments.items k ≡ Some s → n < s.node
  pub least : (g : ℕ) → IsOperand old.segments.items old.levels.items n g → at ≤ g
  pub same : length old.segments.items ≤ at → new.segments.items ≡ old.segments.items
  pub count : at < length old.segments.items → length new.segments.items ≡ suc at
  pub others : at < length old.segments.items → (g : ℕ) → g < at → (marks (slice_get new.segments.items g) ≡ marks (slice_get old.segments.items g)) ×
      (node_of (slice_get new.segments.items g) ≡ node_of (slice_get old.segments.items g))
  pub begins : at < length old.segments.items → marks (slice_get new.segments.items at) ≡ marks (slice_get old.segments.items at)
  pub own : at < length old.segments.items → node_of (slice_get new.segments.items at) ≡ Some n

-- what stands below the segments of the frame on top is as it was
pub record IsSameUnder (old new : Evaluations) : Type 0 where
  pub rest : IsSameRest old new
  pub starts : (g : ℕ) → g ≤ base_of old.levels.items →
      start_of new.segments.items new.events.items g ≡ start_of old.segments.items old.events.items g
  pub nodes : (g : ℕ) → g < base_of old.levels.items → node_of (slice_get new.segments.items g) ≡ node_of (slice_get old.segments.items g)
  pub lows : (g : ℕ) → g ≤ base_of old.levels.items → loose_of new.segments.items new.loose.items g ≡ loose_of old.segments.items old.loose.items g
  pub loose : (i : ℕ) → i < loose_of old.segments.items old.loose.items (base_of old.levels.items) →
      slice_get new.loose.items i ≡ slice_get old.loose.items i

-- the segments from one on are made one of this node
pub record IsOne (old new : Evaluations) (n at : ℕ) : Type 0 where
  pub rest : IsSameRest old new
  pub count : length new.segments.items ≡ suc at
  pub others : (g : ℕ) → g < at → (marks (slice_get new.segments.items g) ≡ marks (slice_get old.segments.items g)) ×
      (node_of (slice_get new.segments.items g) ≡ node_of (slice_get old.segments.items g))
  pub begins : marks (slice_get new.segments.items at) ≡ marks (slice_get old.segments.items at)
  pub own : node_of (slice_get new.segments.items at) ≡ Some n

-- an event is added to the last segment, or to one of its own, which is of this node then; there are so many
pub record IsPlaced (old new : Evaluations) (n count : ℕ) : Type 0 where
  pub size : length new.segments.items ≡ count
  pub some : 0 < count
  pub others : (g : ℕ) → suc g < count → node_of (slice_get new.segments.items g) ≡ node_of (slice_get old.segments.items g)
  pub own : node_of (slice_get new.segments.items (count - 1)) ≡ Some n

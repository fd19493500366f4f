-- The side effects below a node that come before its value in no order, which the list `loose` has (own).
use Rattle.std.specs.Prelude.{◌≡◌, ◌⊎◌, ◌≤◌, ◌<◌, ◌+◌, ◌-◌, ◌^◌, ℕ, suc, Bool, List, [], ◌∷◌, ◌++◌, Some, Box, slice_get, length}
use Rattle.std.specs.Global.{Global}
use Rattle.addr_map.specs.declared.map.Row.{Row}
use Rattle.footprint.specs.declared.foot.Foot.{Foot}
use Rattle.evaluation_log.specs.declared.log.Logged.{Logged}
use Rattle.evaluation_log.specs.declared.rules.Rule.{Rule}
use Rattle.evaluation_log.specs.Kept.{AllBelow, base_of}
use Rattle.evaluation_log.specs.Ways.{node_of}
use Rattle.c_typed.specs.declared.tree.Place.{Place}
use Rattle.c_typed.specs.declared.class.Class.{Class}
use Rattle.c_typed.specs.Tree.{Trees}
use Rattle.run_evaluations.specs.Scopes.{Scope, IsRuled, place_of}
use Rattle.run_evaluations.specs.Listed.{IsOpenIn, AllListed, AnyEvent, NotLastEffect, AreOperands, stays_from}
use Rattle.run_evaluations.specs.declared.open.Evaluations.{Evaluations}
use Rattle.evaluation_log.specs.Touched.{event_has}
use Rattle.evaluation_log.specs.Loose.{NoLoose, HasLoose, loose_from, loose_foot_of, LooseWhole, loose_of, loose_start_of, HasEvent}

-- what is kept of the loose events of the open full expressions is right
abbrev pub IsLooseKept : Evaluations → Type 0
IsLooseKept o = LooseWhole o.segments.items o.events.items o.items.items o.loose.items o.levels.items

-- of each segment the set that was kept of its loose events is kept, or none, or of the last one a set of those that are listed from there on
abbrev pub KeepsLoose : Evaluations → Evaluations → ℕ → Type 0
KeepsLoose old new from = (g : ℕ) (f : Box Foot Global) → loose_foot_of (slice_get new.segments.items g) ≡ Some f →
    (loose_foot_of (slice_get old.segments.items g) ≡ Some f) ⊎ ((suc g ≡ length old.segments.items) ×
    HasLoose old.events.items old.items.items old.loose.items from f.value)

-- the last event is listed, as one of the last segment
pub record IsListed (old new : Evaluations) : Type 0 where
  pub loose : new.loose.items ≡ old.loose.items ++ ((length old.events.items - 1) ∷ [])
  pub lows : (g : ℕ) → loose_start_of (slice_get new.segments.items g) ≡ loose_start_of (slice_get old.segments.items g)
  pub others : (g : ℕ) → suc g < length old.segments.items → slice_get new.segments.items g ≡ slice_get old.segments.items g
  pub last : HasEvent (loose_foot_of (slice_get old.segments.items (length old.segments.items - 1)))
      (loose_foot_of (slice_get new.segments.items (length old.segments.items - 1)))
      (event_has old.items.items (slice_get old.events.items (length old.events.items - 1)))

-- ---- which events the list has

-- each evaluation below the node of a segment that doesn't come before its value is listed, where these full expressions are open in the frames
abbrev pub IsFull : (ℕ → Scope) → Evaluations → Type 0
IsFull scopes o = AllListed o.segments.items o.events.items o.loose.items o.levels.items scopes AnyEvent

-- but for a side effect that was told last
abbrev pub IsFullBut : (ℕ → Scope) → Evaluations → Type 0
IsFullBut scopes o = AllListed o.segments.items o.events.items o.loose.items o.levels.items scopes (NotLastEffect o.events.items)

-- that of the top frame
abbrev pub top_scope : (ℕ → Scope) → Evaluations → Scope
top_scope scopes o = scopes (length o.levels.items - 1)

-- the node has this rule, and what the top frame has done behind it is of its operands
pub record IsOver (s : Scope) (o : Evaluations) (n : ℕ) (rule : Rule) (chosen : Bool) : Type 0 where
  pub class : Class
  pub operands : Trees
  pub ruled : IsRuled s n class operands rule chosen
  pub parts : AreOperands o.segments.items o.levels.items s n class operands
  pub small : n + 1 < 2 ^ 32
  pub frame : 0 < length o.levels.items

-- the list has what it must, once segments from one on, which are behind the node, are made one of it
abbrev pub IsFullAfter : (old new : Evaluations) (at n : ℕ) → Rule → Bool → Type 0
IsFullAfter old new at n rule chosen = (scopes : ℕ → Scope) → AllBelow old.levels.items at → IsLooseKept old → IsFull scopes old →
    base_of old.levels.items ≤ at → ((g m : ℕ) → at ≤ g → node_of (slice_get old.segments.items g) ≡ Some m → n < m) →
    IsOver (top_scope scopes old) old n rule chosen → IsFull scopes new

-- the event that was told last is of this node
pub record EndsAt (o : Evaluations) (n : ℕ) : Type 0 where
  pub top : IsOpenIn o.levels.items (length o.levels.items - 1) (length o.segments.items - 1)
  pub own : node_of (slice_get o.segments.items (length o.segments.items - 1)) ≡ Some n
  pub event : (u : Place) → place_of (slice_get o.events.items (length o.events.items - 1)) ≡ Some u → u.node ≡ n

-- from which place on those of the operands that begin at a segment stay listed, by the rule of their node
abbrev pub stays_of : Evaluations → (at n : ℕ) → Rule → Bool → ℕ
stays_of o at n rule chosen =
    stays_from rule chosen n (node_of (slice_get o.segments.items (length o.segments.items - 1))) (loose_of o.segments.items o.loose.items at)
    (loose_of o.segments.items o.loose.items (length o.segments.items - 1)) (length o.loose.items)

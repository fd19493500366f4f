-- Of the evaluations below a node, those that don't come before its value are listed (6.5p1 to p3).
use Rattle.std.specs.Prelude.{◌≡◌, ◌⊎◌, ◌≤◌, ◌<◌, ◌+◌, ◌-◌, ◌^◌, ◌==◌, ℕ, suc, min, Bool, true, false, List, Option, Some, None, slice_get, length}
use Rattle.std.specs.Prelude.{if◌then◌else◌}
use Rattle.ub_base.specs.declared.clause.Kind.{Kind}
use Rattle.ub_base.specs.declared.clause.Kind.TheVariants.{Val, Eff, Body}
use Rattle.c_typed.specs.declared.tree.Place.{Place}
use Rattle.c_typed.specs.Tree.{Trees}
use Rattle.c_typed.specs.declared.class.Class.{Class}
use Rattle.c_typed.specs.Decide.{is_before}
use Rattle.addr_map.specs.declared.map.Row.{Row}
use Rattle.ub_base.specs.declared.names.Item.{Item}
use Rattle.evaluation_log.specs.declared.log.Logged.{Logged}
use Rattle.evaluation_log.specs.declared.log.Segment.{Segment}
use Rattle.evaluation_log.specs.declared.level.Level.{Level}
use Rattle.evaluation_log.specs.declared.rules.Rule.{Rule}
use Rattle.evaluation_log.specs.declared.rules.Rule.TheVariants.{Open, Closed, Choice, Comma}
use Rattle.evaluation_log.specs.declared.sought.Sought.TheVariants.{Any}
use Rattle.evaluation_log.specs.Touched.{event_has, start_of}
use Rattle.evaluation_log.specs.Clashes.{NoClash}
use Rattle.evaluation_log.specs.Kept.{Cut, cut_of, base_of}
use Rattle.evaluation_log.specs.Loose.{loose_of}
use Rattle.run_evaluations.specs.Scopes.{Scope, IsBelow, ComesTo, IsOperandOf, place_of}
use Rattle.evaluation_log.specs.Ways.{node_of}

-- the segment is of the full expression that is open in this frame
pub record IsOpenIn (levels : List Level) (d g : ℕ) : Type 0 where
  pub cut : Cut
  pub there : cut_of (slice_get levels d) ≡ Some cut
  pub low : cut.segments ≤ g
  pub high : (n : ℕ) (c : Cut) → d < n → cut_of (slice_get levels n) ≡ Some c → g < c.segments

-- the event is listed with its segment
abbrev pub IsListed : List Segment → List ℕ → (g k : ℕ) → Type 0
IsListed segments loose g k = (i : ℕ) × (loose_of segments loose g ≤ i) × (i < loose_of segments loose (suc g)) × (slice_get loose i ≡ Some k)

-- of the full expression that is open in a frame, each event that is asked for is listed, or it is the value of the node of its segment, or comes before that
abbrev pub ListedIn : List Segment → List Logged → List ℕ → List Level → (d : ℕ) → Scope → (ℕ → Place → Type 0) → Type 0
ListedIn segments events loose levels d scope asked = (g k m : ℕ) (u : Place) → IsOpenIn levels d g → node_of (slice_get segments g) ≡ Some m →
    start_of segments events g ≤ k → k < start_of segments events (suc g) → place_of (slice_get events k) ≡ Some u →
    IsBelow scope m u × (asked k u → ComesTo scope m u ⊎ IsListed segments loose g k)

abbrev pub AllListed : List Segment → List Logged → List ℕ → List Level → (ℕ → Scope) → (ℕ → Place → Type 0) → Type 0
AllListed segments events loose levels scopes asked = (d : ℕ) → ListedIn segments events loose levels d (scopes d) asked

abbrev pub is_eff : Kind → Bool
is_eff Val = false
is_eff Eff = true
is_eff Body = false

-- all events, or all but a side effect that was the last one
abbrev pub AnyEvent : ℕ → Place → Type 0
AnyEvent k u = Unit

abbrev pub NotLastEffect : List Logged → ℕ → Place → Type 0
NotLastEffect events k u = suc k ≡ length events → u.kind ≡ Eff → ⊥

-- the segments of the top frame that are of nodes behind this one are those of operands of it, each with a number of its own, and in their order
pub record AreOperands (segments : List Segment) (levels : List Level) (s : Scope) (n : ℕ) (class : Class) (ts : Trees) : Type 0 where
  pub operand : (g m : ℕ) → base_of levels ≤ g → node_of (slice_get segments g) ≡ Some m → n < m → (i : ℕ) × IsOperandOf s n class ts i m
  pub rise : (g h a b : ℕ) → base_of levels ≤ g → g < h → node_of (slice_get segments g) ≡ Some a → node_of (slice_get segments h) ≡ Some b →
      n < a → a < b

abbrev pub is_node : Option ℕ → ℕ → Bool
is_node None n = false
is_node (Some m) n = m == n

-- from which place on what is listed of operands stays listed with their node, where the last of them is of a node, and they are listed from one place on,
-- the last of them from another, and up to the end: what a rule puts before the node's value doesn't
abbrev pub stays_from : Rule → Bool → (n : ℕ) → Option ℕ → (first behind end : ℕ) → ℕ
stays_from Open chosen n last first behind end = first
stays_from Closed chosen n last first behind end = end
stays_from Choice chosen n last first behind end =
    if chosen then (if is_node last (min (n + 1) (2 ^ 32 - 1)) then end else behind) else first
stays_from (Comma number) chosen n last first behind end = if is_node last number then behind else end

-- what stands in a list from one place on stands in another from another place on
abbrev pub Stays : (stays first : ℕ) → List ℕ → List ℕ → Type 0
Stays stays first old new = (p k : ℕ) → first ≤ p → stays ≤ p → slice_get old p ≡ Some k → (q : ℕ) × (first ≤ q) × (slice_get new q ≡ Some k)

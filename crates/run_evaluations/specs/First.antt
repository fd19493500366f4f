-- Which of the conflicts of evaluations that show is the first one: a race before another one, and then the lesser pair of evaluations (own; 6.5p2 for races).
use Rattle.std.specs.Prelude.{◌≡◌, ◌<◌, ◌^◌, ◌-◌, ℕ, Bool, true, false, ◌||◌, List, Option, Some, None, slice_get, length}
use Rattle.ub_base.specs.declared.clause.Kind.{Kind}
use Rattle.ub_base.specs.declared.names.Event.{Event}
use Rattle.ub_base.specs.declared.names.Item.{Item}
use Rattle.ub_base.specs.Frames.{Row as FrameRow}
use Rattle.addr_map.specs.declared.map.Row.{Row}
use Rattle.c_typed.specs.declared.tree.Place.{Place}
use Rattle.c_typed.specs.declared.class.Class.{Class}
use Rattle.c_typed.specs.declared.class.Class.TheVariants as class
use Rattle.c_typed.specs.Tree.{Tree, Trees, node, size}
use Rattle.c_typed.specs.Order.{Taken, is_body}
use Rattle.footprint.specs.Least.{IsLeast}
use Rattle.evaluation_log.specs.declared.found.Found.{Found}
use Rattle.evaluation_log.specs.declared.rules.Rule.{Rule}
use Rattle.evaluation_log.specs.Clashes.{Clash}
use Rattle.evaluation_log.specs.Kept.{is_unsequenced}
use Rattle.evaluation_log.specs.declared.level.Level.{Level}
use Rattle.evaluation_search.specs.declared.log.Place.{Place as Expression}
use Rattle.evaluation_search.specs.First.{sought_of, IsOfPair}
use Rattle.run_evaluations.specs.declared.open.Evaluations.{Evaluations}
use Rattle.run_evaluations.specs.Scopes.{Scope, part_of}
use Rattle.run_evaluations.specs.Shows.{IsAmong, AreApart, AreOfTwo}
use Rattle.run_evaluations.specs.Told.{Evaluation, Opened, IsUnder, has}

-- an event of the frame's full expression by its name
abbrev pub event_in : Opened → Place → Event
event_in t u = record { frame = t.frame; turn = t.turn; node = u.node; kind = u.kind }

-- the conflict is of these two evaluations, and its items are the least of theirs that conflict; a race is of two accesses, of which neither is in a body
pub record IsConflictOf (frames : List FrameRow) (rows : List Row) (t : Opened) (d e : Evaluation) (f : Found) : Type 0 where
  pub event : f.event ≡ event_in t d.place
  pub against : f.against ≡ event_in t e.place
  pub bodiless : f.race ≡ true → (is_body d.place.kind || is_body e.place.kind) ≡ false
  pub least : IsLeast frames (Clash (sought_of f.race) rows (has d) (has e)) (Some f.items)

-- it is of two that are done, stand so to one another, and of which neither is sequenced before the other
pub record IsConflictIn (frames : List FrameRow) (rows : List Row) (t : Opened) (Pairs : Evaluation → Evaluation → Type 0) (f : Found) : Type 0 where
  pub one : Evaluation
  pub other : Evaluation
  pub one_done : IsAmong t one
  pub other_done : IsAmong t other
  pub pair : Pairs one other
  pub apart : AreApart t.scope one.place other.place
  pub of : IsConflictOf frames rows t one other f

-- the evaluations are of two operands of the node, the first of the first
abbrev pub AreOfOperands : Opened → ℕ → Evaluation → Evaluation → Type 0
AreOfOperands t n d e = AreOfTwo t.scope n d.place.node e.place.node

-- the first is of the node, the other one below it
abbrev pub AreOfNode : Opened → ℕ → Evaluation → Evaluation → Type 0
AreOfNode t n d e = (d.place.node ≡ n) × IsUnder t.scope n e.place.node

-- each evaluation is done once
abbrev pub IsOnce : Opened → Type 0
IsOnce t = (i j : ℕ) (d e : Evaluation) → slice_get t.done i ≡ Some d → slice_get t.done j ≡ Some e → d.place ≡ e.place → i ≡ j

-- a node with a rule that sequences no operands is no And, Or or Cond, and no comma (6.5.13p4, 6.5.14p4, 6.5.15p4, 6.5.17p2)
abbrev pub SequencesNone : Scope → ℕ → Rule → Type 0
SequencesNone s n rule = is_unsequenced rule ≡ true → (c : Class) (ts : Trees) → part_of s n ≡ Some (node c ts) →
    (c ≡ class.Choice → ⊥) × (c ≡ class.Comma → ⊥)

-- an event of a full expression by its name
abbrev pub event_by : Expression → ℕ → Kind → Event
event_by p n kind = record { frame = p.frame; turn = p.turn; node = n; kind = kind }

-- the full expression of a frame, by the frame and its turn
abbrev pub expression_in : Option Level → Expression
expression_in None = record { frame = record { 0 = 0 }; turn = 0 }
expression_in (Some l) = record { frame = l.frame; turn = l.turn }

-- a conflict of two events of the log that stand so to one another, by their names in the frame on top
abbrev pub IsTopPair : List FrameRow → List Row → Evaluations → (ℕ → ℕ → Type 0) → Found → Type 0
IsTopPair frames rows o = IsOfPair frames rows (expression_in (slice_get o.levels.items (length o.levels.items - 1))) o.events.items o.items.items

-- the full expression has this tree, of which nodes have chosen these operands by now
pub record IsOrdered (t : Opened) (taken : Taken) (root : Tree) : Type 0 where
  pub tree : t.scope.tree ≡ root
  pub chosen : t.scope.taken ≡ taken
  pub small : size root < 2 ^ 32

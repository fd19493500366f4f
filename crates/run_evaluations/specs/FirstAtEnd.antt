-- The first conflict where the run ends: of evaluations that are done, or of the last one and another event, done or still to come (own).
use Rattle.std.specs.Prelude.{◌≡◌, ◌⊎◌, ◌<◌, ℕ, Bool, true, false, ◌&&◌, ◌||◌, List, [], ◌∷◌}
use Rattle.ub_base.specs.declared.names.Item.{Item}
use Rattle.ub_base.specs.declared.names.Item.TheVariants.{Any as AnyEvent}
use Rattle.ub_base.specs.Frames.{Row as FrameRow}
use Rattle.addr_map.specs.declared.map.Row.{Row}
use Rattle.c_typed.specs.declared.tree.Place.{Place}
use Rattle.c_typed.specs.Order.{same_place}
use Rattle.c_typed.specs.Decide.{due_in}
use Rattle.footprint.specs.Holds.{stands_for}
use Rattle.evaluation_log.specs.declared.found.Found.{Found}
use Rattle.evaluation_log.specs.declared.rules.Rules.{Rules}
use Rattle.evaluation_log.specs.Ways.{rule_in}
use Rattle.run_evaluations.specs.Ends.{IsDependence}
use Rattle.run_evaluations.specs.First.{AreOfOperands, IsConflictIn, SequencesNone, event_in}
use Rattle.run_evaluations.specs.Shows.{AreApart}
use Rattle.run_evaluations.specs.Told.{Evaluation, Opened, IsUnder, has}

-- the items of the evaluation of this place, where it is done
abbrev pub done_has : List Evaluation → Place → Item → Bool
done_has [] u j = false
done_has (e ∷ es) u j = (same_place e.place u && has e j) || done_has es u j

-- a due event, done or still to come, has the item `any` besides
abbrev pub has_at_end : Opened → Place → Item → Bool
has_at_end t u j = done_has t.done u j || stands_for AnyEvent j

-- the evaluations are of two operands of a node above that of the last one, the first of the first
abbrev pub AreOfWay : Opened → Evaluation → Evaluation → Evaluation → Type 0
AreOfWay t last d e = (n : ℕ) × IsUnder t.scope n last.place.node × AreOfOperands t n d e

-- The conflict is of the last evaluation and another event of the full expression that is due, done or still to come, neither of which is sequenced before
-- the other; that of the lesser node comes first.
pub record IsConflictBeside (frames : List FrameRow) (rows : List Row) (t : Opened) (last : Evaluation) (x : Found) : Type 0 where
  pub other : Place
  pub due : due_in t.scope.taken 0 t.scope.tree other ≡ true
  pub elsewhere : other.node ≡ last.place.node → ⊥
  pub apart : AreApart t.scope other last.place
  pub before : other.node < last.place.node → IsDependence frames rows (event_in t other) (has_at_end t other) (event_in t last.place) (has last) x
  pub behind : last.place.node < other.node → IsDependence frames rows (event_in t last.place) (has last) (event_in t other) (has_at_end t other) x

-- the conflicts that have both sides where the run ends
abbrev pub IsConflictAtEnd : List FrameRow → List Row → Opened → Evaluation → Found → Type 0
IsConflictAtEnd frames rows t last x = IsConflictBeside frames rows t last x ⊎ IsConflictIn frames rows t (AreOfWay t last) x

-- the rules of no nodes sequence their operands but those of And, Or, Cond and commas
abbrev pub AllSequenceNone : Opened → Rules → Type 0
AllSequenceNone t rules = (n : ℕ) → SequencesNone t.scope n (rule_in rules n)

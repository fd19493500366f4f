-- What the calls answer that tell what an event completes is what is found there (own; 6.5p2 for races).
use Rattle.std.specs.Prelude.{◌≡◌, ℕ, true, List, Option, Some, None}
use Rattle.ub_base.specs.Frames.{Row as FrameRow}
use Rattle.addr_map.specs.declared.map.Row.{Row}
use Rattle.c_model.specs.Completions.{Completed, Incomplete, Own_node, Operands_of}
use Rattle.conflict_detector.specs.Complete.{IsConflictDone}
use Rattle.elaborate.specs.Formed.{is_formed}
use Rattle.evaluation_log.specs.declared.found.Found.{Found}
use Rattle.evaluation_search.specs.First.{IsFirst, IsFirstOf}
use Rattle.run_evaluations.specs.First.{AreOfOperands, IsConflictIn}
use Rattle.run_evaluations.specs.Shows.{NoneOfNode, NoneOfTwo}
use Rattle.run_evaluations.specs.Told.{Evaluation, Opened}
use Rattle.telling_laws.specs.FirstFound.{ByPlaces, ToldPairs}
use Rattle.telling_laws.specs.Standing.{StandsBehind, completed_in}

-- the first one of these conflicts is seen; or none is, and this holds
abbrev pub SeesOr : List FrameRow → (Found → Type 0) → Type 0 → Option Found → Type 0
SeesOr frames Q none None = none
SeesOr frames Q none (Some f) = IsFirst frames Q f

-- By what an event of the node n completes: where the call of the node sees none, the call of the operands above it follows, if these are complete.
pub data Answers (frames : List FrameRow) (rows : List Row) (t : Opened) (n : ℕ) : Completed → Option Found → Type 0 where
  nothing : Answers frames rows t n Incomplete None
  own : (r : Option Found) → SeesOr frames (IsConflictDone frames rows t n) (NoneOfNode rows t n) r → Answers frames rows t n Own_node r
  sees : (p : ℕ) (f : Found) → IsFirst frames (IsConflictDone frames rows t n) f → Answers frames rows t n (Operands_of p) (Some f)
  operands : (p : ℕ) (r : Option Found) → NoneOfNode rows t n
      → SeesOr frames (IsConflictIn frames rows t (AreOfOperands t p)) (NoneOfTwo rows t p) r → Answers frames rows t n (Operands_of p) r

-- what they answer is the first conflict of all pairs of which they tell
abbrev pub AnswersAreFirst : Type 0
AnswersAreFirst = (frames : List FrameRow) (rows : List Row) (t : Opened) (last : Evaluation) (r : Option Found) → is_formed t.scope.tree ≡ true
    → StandsBehind t last → Answers frames rows t last.place.node (completed_in t last.place.node) r →
    IsFirstOf frames (IsConflictIn frames rows t (ByPlaces (ToldPairs t.scope last.place.node (completed_in t last.place.node)))) r

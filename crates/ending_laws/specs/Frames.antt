-- What is found where the run ends, of all full expressions that are open (own).
use Rattle.std.specs.Prelude.{◌≡◌, ◌⊎◌, ◌-◌, ℕ, List, [], ◌∷◌, ◌++◌, Option, Some, None, length, slice_get}
use Rattle.ub_base.specs.Frames.{Path, Row as FrameRow, path_of}
use Rattle.addr_map.specs.declared.map.Row.{Row}
use Rattle.c_model.specs.FirstFinding.{Finding, found_in}
use Rattle.c_model.specs.Moments.{Open}
use Rattle.c_model.specs.Runs.{Entry, State}
use Rattle.c_model.specs.Steps.{Begun, Scene}
use Rattle.c_model.specs.World.{World}
use Rattle.evaluation_log.specs.FoundItems.{first_found}
use Rattle.evaluation_log.specs.declared.found.Found.{Found}
use Rattle.evaluation_search.specs.First.{IsFirstOf}
use Rattle.run_evaluations.specs.FirstAtEnd.{IsConflictAtEnd}
use Rattle.run_evaluations.specs.Told.{Evaluation, Opened}
use Rattle.telling_laws.specs.FirstFound.{IsFoundIn}
use Rattle.detector_laws.specs.Frames.{AreFree}
use Rattle.detector_laws.specs.Looked.{finding_of}
use Rattle.detector_laws.specs.Shown.{all_begun}
use Rattle.ending_laws.specs.Ends.{IsToldAtEnd, ending_at}

-- those that are open, that of the innermost frame first, as c_model looks at them where the run ends: that of the outermost first, before these
abbrev pub all_ending : World → List Entry → List (Scene × Begun) → List Open → List Open
all_ending world later [] inner = inner
all_ending world later (x ∷ xs) inner = all_ending world later xs (ending_at world later x.0 x.1 ∷ inner)

-- ---- frames
-- the frame was started from this one, or from one that was
abbrev pub IsStartedFrom : Path → Path → Type 0
IsStartedFrom p q = (step : ℕ × ℕ) × (steps : Path) × (p ≡ (step ∷ steps) ++ q)

abbrev pub IsStartedFromAll : Path → List (Scene × Begun) → Type 0
IsStartedFromAll p [] = Unit {0}
IsStartedFromAll p (y ∷ ys) = IsStartedFrom p y.0.path × IsStartedFromAll p ys

-- each was started from those that follow
abbrev pub AreNested : List (Scene × Begun) → Type 0
AreNested [] = Unit {0}
AreNested (x ∷ xs) = IsStartedFromAll x.0.path xs × AreNested xs

-- so are those of a state along the canonical order
abbrev pub OpenAreNested : Type 0
OpenAreNested = (world : World) (st : State) → AreFree world st → AreNested (all_begun st)

-- ---- the first one of all
-- what is found first in one of them; its events are of that frame, to which the list of frames gives its path
pub record IsAnswerIn (world : World) (later : List Entry) (frames : List FrameRow) (x : Scene × Begun) (r : Option Found) : Type 0 where
  pub found : IsFoundIn world.rows (ending_at world later x.0 x.1) r
  pub event : (f : Found) → r ≡ Some f → f.event.frame.0 ≡ world.number x.0.path
  pub known : path_of frames (world.number x.0.path) ≡ x.0.path

-- in each of them
abbrev pub AreAnswers : World → List Entry → List FrameRow → List (Scene × Begun) → List (Option Found) → Type 0
AreAnswers world later frames [] [] = Unit {0}
AreAnswers world later frames (x ∷ xs) (r ∷ rs) = IsAnswerIn world later frames x r × AreAnswers world later frames xs rs
AreAnswers world later frames _ _ = ⊥

-- the one that counts of these and of one more
abbrev pub first_of_all : List FrameRow → Option Found → List (Option Found) → Option Found
first_of_all frames best [] = best
first_of_all frames best (r ∷ rs) = first_of_all frames (first_found frames best r) rs

abbrev pub IsOneOf : List (Scene × Begun) → Scene × Begun → Type 0
IsOneOf [] x = ⊥
IsOneOf (y ∷ ys) x = (y ≡ x) ⊎ IsOneOf ys x

-- what is found is that conflict, with the lines and the least items of its full expression; without one it is what comes besides
abbrev pub IsFindingOf : World → List Entry → List (Scene × Begun) → (picks : ℕ) → (otherwise : Finding) → Option Found → Finding → Type 0
IsFindingOf world later xs n otherwise None g = g ≡ otherwise
IsFindingOf world later xs n otherwise (Some f) g =
    (x : Scene × Begun) × IsOneOf xs x × (f.event.frame.0 ≡ world.number x.0.path) × (g ≡ finding_of world later (ending_at world later x.0 x.1) n f)

-- the one that counts of all answers is what c_model finds first in all of them
abbrev pub FirstOfFrames : Type 0
FirstOfFrames = (world : World) (later : List Entry) (frames : List FrameRow) (xs : List (Scene × Begun)) (rs : List (Option Found)) (n : ℕ)
    (otherwise : Finding) → AreNested xs → AreAnswers world later frames xs rs →
    IsFindingOf world later xs n otherwise (first_of_all frames None rs) (found_in world later (all_ending world later xs []) n otherwise)

-- ---- the first one of all at once
-- of what was told of a full expression, the conflicts where the run ends in the evaluation that was told last
abbrev pub IsConflictAtLast : List FrameRow → List Row → Opened → Found → Type 0
IsConflictAtLast frames rows t f =
    (last : Evaluation) × (slice_get t.done (length t.done - 1) ≡ Some last) × IsConflictAtEnd frames rows t last f

-- of all of them
abbrev pub IsConflictOfAll : List FrameRow → List Row → List Opened → Found → Type 0
IsConflictOfAll frames rows [] f = ⊥
IsConflictOfAll frames rows (t ∷ ts) f = IsConflictAtLast frames rows t f ⊎ IsConflictOfAll frames rows ts f

-- what was told of each is what the definitions have of it, and the list of frames gives each frame its path
pub record ToldAtEnd (world : World) (trace later : List Entry) (frames : List FrameRow) (x : Scene × Begun) (t : Opened) : Type 0 where
  pub told : IsToldAtEnd world trace later x.0 x.1 t
  pub known : path_of frames (world.number x.0.path) ≡ x.0.path

abbrev pub AllToldAtEnd : World → (trace later : List Entry) → List FrameRow → List (Scene × Begun) → List Opened → Type 0
AllToldAtEnd world trace later frames [] [] = Unit {0}
AllToldAtEnd world trace later frames (x ∷ xs) (t ∷ ts) = ToldAtEnd world trace later frames x t × AllToldAtEnd world trace later frames xs ts
AllToldAtEnd world trace later frames _ _ = ⊥

-- the first conflict of all of them is what c_model finds first in all of them, and without one nothing is found
abbrev pub FirstOfAll : Type 0
FirstOfAll = (world : World) (trace later : List Entry) (frames : List FrameRow) (xs : List (Scene × Begun)) (ts : List Opened) (r : Option Found)
    (n : ℕ) (otherwise : Finding) → AreNested xs → AllToldAtEnd world trace later frames xs ts
    → IsFirstOf frames (IsConflictOfAll frames world.rows ts) r →
    IsFindingOf world later xs n otherwise r (found_in world later (all_ending world later xs []) n otherwise)

-- What is found where the run ends, in one full expression that is open (own; 6.5p2 for races).
use Rattle.std.specs.Prelude.{◌≡◌, true, false, List, [], ◌∷◌, ◌++◌, Option, Some}
use Rattle.ub_base.specs.declared.clause.Kind.TheVariants.{Body}
use Rattle.ub_base.specs.Frames.{Row as FrameRow}
use Rattle.c_typed.specs.declared.tree.Place.{Place}
use Rattle.c_typed.specs.Order.{has}
use Rattle.c_model.specs.Findings.{has_ending}
use Rattle.c_model.specs.Moments.{Open, as_it_ends, items_by}
use Rattle.c_model.specs.Runs.{Entry, State, canonical_pick}
use Rattle.c_model.specs.Steps.{Begun, Local, Scene, taken_by}
use Rattle.c_model.specs.World.{World}
use Rattle.evaluation_log.specs.declared.found.Found.{Found}
use Rattle.evaluation_search.specs.First.{IsFirstOf}
use Rattle.finding_laws.specs.Forgotten.{AllAsked}
use Rattle.run_evaluations.specs.FirstAtEnd.{IsConflictAtEnd}
use Rattle.run_evaluations.specs.Told.{Evaluation, Opened}
use Rattle.telling_laws.specs.FirstFound.{IsFoundIn}
use Rattle.telling_laws.specs.Standing.{StandsBehind}
use Rattle.detector_laws.specs.Frames.{StandsFree}
use Rattle.detector_laws.specs.Records.{Records}
use Rattle.ending_laws.specs.Main.{IsEnding}
use Rattle.ending_laws.specs.Untouched.{AreOnTheWay}

-- the full expression, as c_model looks for findings in it where the run ends
abbrev pub ending_at : World → List Entry → Scene → Begun → Open
ending_at world later f e = as_it_ends later f.path f.turn e.root (taken_by world f e)

-- The body that comes next in its listing ended the run, or started the frame that did. Nothing was found before. What was done has the items that it had,
-- and hasn't ended the run; and of the events that are left there are none.
pub record EndsIn (world : World) (trace later : List Entry) (f : Scene) (e : Begun) (u : Place) : Type 0 where
  pub passed : List Place
  pub ahead : List Place
  pub before : StandsFree world trace f e passed (u ∷ ahead)
  pub body : u.kind ≡ Body
  pub stay : (w : Place) → has passed w ≡ true → items_by later later f.path f.turn w ≡ items_by trace trace f.path f.turn w
  pub endless : (w : Place) → has passed w ≡ true → has_ending (items_by later later f.path f.turn w) ≡ false
  pub left : (w : Place) → has (passed ++ u ∷ []) w ≡ false → items_by later later f.path f.turn w ≡ []

-- ---- what is told
-- that body was told last, and what was told is what the definitions have; each access of the trace stands with the question whether its object lives
pub record IsToldAtEnd (world : World) (trace later : List Entry) (f : Scene) (e : Begun) (t : Opened) : Type 0 where
  pub body : Place
  pub ends : EndsIn world trace later f e body
  pub last : Evaluation
  pub records : Records world later f e (ends.passed ++ body ∷ []) (ends.passed ++ body ∷ []) t
  pub stands : StandsBehind t last
  pub asked : AllAsked later

-- Then what `ended` gives is what c_model finds first in the full expression, and where it is none nothing is found in it; its events are of that frame.
abbrev pub EndIsFound : Type 0
EndIsFound = (world : World) (trace later : List Entry) (frames : List FrameRow) (f : Scene) (e : Begun) (t : Opened) (r : Option Found)
    → (told : IsToldAtEnd world trace later f e t) → IsFirstOf frames (IsConflictAtEnd frames world.rows t told.last) r
    → IsFoundIn world.rows (ending_at world later f e) r × ((x : Found) → r ≡ Some x → x.event.frame.0 ≡ world.number f.path)

-- ---- as a body ends the run
-- so it is in each frame that is held
abbrev pub AllEndIn : World → (trace later : List Entry) → List (Local × Place) → Type 0
AllEndIn world trace later [] = Unit {0}
AllEndIn world trace later (h ∷ hs) =
    ((e : Begun) × (h.0.begun ≡ Some e) × EndsIn world trace later h.0.scene e h.1) × AllEndIn world trace later hs

-- the run ends in the top frame's full expression and in all those of the frames that are held
abbrev pub BodiesEnd : Type 0
BodiesEnd = (world : World) (st : State) (later : List Entry) → AreOnTheWay world st
    → (end : IsEnding world st (canonical_pick world st.top st.top.begun) later) →
    ((e : Begun) × (st.top.begun ≡ Some e) × EndsIn world st.trace later st.top.scene e end.body) × AllEndIn world st.trace later st.held

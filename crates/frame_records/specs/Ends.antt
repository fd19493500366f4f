-- What is found where the run ends, raises a clause, passes a limit or uses up its budget, if no call saw a conflict before (own; 6.5p2 for races).
use Rattle.std.specs.Prelude.{◌≡◌, ◌+◌, ℕ, suc, List, [], ◌∷◌, Option, Some, None, length}
use Rattle.ub_base.specs.declared.clause.Cause.{Cause}
use Rattle.ub_base.specs.declared.clause.Clause.{Clause}
use Rattle.ub_base.specs.declared.names.Frame.{Frame}
use Rattle.ub_base.specs.declared.names.Item.{Item}
use Rattle.ub_base.specs.Frames.{Row as FrameRow, path_of}
use Rattle.mem_spec.specs.Streams.{Outputs}
use Rattle.c_typed.specs.declared.tree.Place.{Place}
use Rattle.c_model.specs.FirstFinding.{Clean, Outside, Out_of_steps, Undefined, found_from}
use Rattle.c_model.specs.Runs.{Ends, Entry, Over, Raises, State, canonical_pick, line_in, place_of, step}
use Rattle.c_model.specs.Steps.{Begun, Scene, taken_by}
use Rattle.c_model.specs.World.{NumbersFrames, World}
use Rattle.conflict_detector.specs.Complete.{AreEnded}
use Rattle.conflict_detector.specs.Telling.{IsReached}
use Rattle.evaluation_log.specs.declared.found.Found.{Found}
use Rattle.evaluation_search.specs.First.{IsFirstOf}
use Rattle.run_evaluations.specs.Told.{Opened}
use Rattle.detector_laws.specs.Along.{AreClear}
use Rattle.detector_laws.specs.Records.{TellsItems}
use Rattle.detector_laws.specs.Shown.{all_begun}
use Rattle.ending_laws.specs.Frames.{IsConflictOfAll, IsFindingOf}
use Rattle.ending_laws.specs.Main.{IsEnding}
use Rattle.ending_laws.specs.Untouched.{AreOnTheWay}
use Rattle.frame_records.specs.Audit.{AreFormed, AsksAll, Walks}
use Rattle.frame_records.specs.Told.{GivesAll, told_with}

-- ---- where a body ends the run
-- each of these frames was given all that the trace has of the body that was told last of it, but for forgotten accesses
abbrev pub AllGiven : List Entry → List (Scene × Begun) → List Opened → Type 0
AllGiven later (x ∷ xs) (t ∷ ts) = GivesAll later x.0 t × AllGiven later xs ts
AllGiven later _ _ = Unit {0}

-- the list of frames gives each of them its path
abbrev pub AreListed : World → List FrameRow → List (Scene × Begun) → Type 0
AreListed world frames [] = Unit {0}
AreListed world frames (x ∷ xs) = (path_of frames (world.number x.0.path) ≡ x.0.path) × AreListed world frames xs

-- The body that ends the run is told, and the frames are left, up to the outermost one that is recorded; they are those whose full expressions are open.
pub record TellsEnd (world : World) (st : State) (later : List Entry) (u : Place) (items : List Item) (frames : List FrameRow)
    (os es : List Opened) : Type 0 where
  pub frame : Frame
  pub named : frame.0 ≡ world.number st.top.scene.path
  pub expression : Begun
  pub is : st.top.begun ≡ Some expression
  pub left : List Opened
  pub reached : IsReached frame os left
  pub gives : GivesAll st.trace st.top.scene reached.top
  pub ended : AreEnded (told_with (taken_by world st.top.scene expression) u items reached.top ∷ reached.below) es
  pub all : length es ≡ length (all_begun st)
  pub given : AllGiven later (all_begun st) es
  pub listed : AreListed world frames (all_begun st)

-- the first conflict of all that was told, or none, is the first finding
abbrev pub AuditEnds : Type 0
AuditEnds = (world : World) (first st : State) (k n left status : ℕ) (output : Outputs) (later : List Entry) (items : List Item) (frames : List FrameRow)
    (os es : List Opened) (r : Option Found) → NumbersFrames world.number → AreOnTheWay world first → all_begun first ≡ [] → AreFormed world first →
    AsksAll world first
    → Walks world first k st n os → step world st (canonical_pick world st.top st.top.begun) ≡ Ends status output later
    → (end : IsEnding world st (canonical_pick world st.top st.top.begun) later)
    → ((x : Entry) (xs : List Entry) → later ≡ x ∷ xs → TellsItems items x.items) → TellsEnd world st later end.body items frames os es
    → IsFirstOf frames (IsConflictOfAll frames world.rows es) r →
    IsFindingOf world later (all_begun st) (suc k) (Clean status output (suc k)) r (found_from world (k + suc left) 0 first)

-- ---- where it doesn't end so
-- where `main` returns the run is clean
abbrev pub AuditReturns : Type 0
AuditReturns = (world : World) (first st : State) (k n left status : ℕ) (output : Outputs) (later : List Entry) (os : List Opened)
    → NumbersFrames world.number → AreClear world first → all_begun first ≡ [] → AreFormed world first → AsksAll world first → Walks world first k st n os
    → step world st (canonical_pick world st.top st.top.begun) ≡ Ends status output later → st.held ≡ [] → st.top.begun ≡ None →
    found_from world (k + suc left) 0 first ≡ Clean status output (suc k)

-- a clause that is raised, at that pick
abbrev pub AuditRaises : Type 0
AuditRaises = (world : World) (first st : State) (k n left : ℕ) (c : Clause) (later : List Entry) (os : List Opened) → NumbersFrames world.number
    → AreClear world first → all_begun first ≡ [] → AreFormed world first → AsksAll world first → Walks world first k st n os → first.trace ≡ []
    → step world st (canonical_pick world st.top st.top.begun) ≡ Raises c later →
    found_from world (k + suc left) 0 first ≡ Undefined c st.top.scene.path st.top.scene.turn (place_of (canonical_pick world st.top st.top.begun))
    (line_in world st.top.begun (place_of (canonical_pick world st.top st.top.begun))) (suc k)

-- a limit that is passed
abbrev pub AuditPassesLimit : Type 0
AuditPassesLimit = (world : World) (first st : State) (k n left : ℕ) (c : Cause) (number : ℕ) (os : List Opened) → NumbersFrames world.number
    → AreClear world first → all_begun first ≡ [] → AreFormed world first → AsksAll world first → Walks world first k st n os
    → step world st (canonical_pick world st.top st.top.begun) ≡ Over c number → found_from world (k + suc left) 0 first ≡ Outside c number k

-- a budget that is used up
abbrev pub AuditUsesBudget : Type 0
AuditUsesBudget = (world : World) (first st : State) (k n : ℕ) (os : List Opened) → NumbersFrames world.number → AreClear world first
    → all_begun first ≡ [] → AreFormed world first → AsksAll world first → Walks world first k st n os → found_from world (k + 0) 0 first ≡ Out_of_steps k

-- The first finding where a run ends, raises a clause, passes a limit or uses up its budget (own).
use Rattle.std.specs.Prelude.{◌≡◌, ◌+◌, ℕ, suc, List, [], Option, None}
use Rattle.ub_base.specs.declared.clause.Cause.{Cause}
use Rattle.ub_base.specs.declared.clause.Clause.{Clause}
use Rattle.ub_base.specs.Frames.{Row as FrameRow}
use Rattle.mem_spec.specs.Streams.{Outputs}
use Rattle.c_model.specs.FirstFinding.{Clean, Outside, Out_of_steps, Undefined, found_from}
use Rattle.c_model.specs.Runs.{Ends, Entry, Over, Raises, State, canonical_pick, line_in, place_of, step}
use Rattle.c_model.specs.World.{World}
use Rattle.evaluation_log.specs.declared.found.Found.{Found}
use Rattle.detector_laws.specs.Frames.{AreFree}
use Rattle.detector_laws.specs.Looked.{GoesFree}
use Rattle.detector_laws.specs.Shown.{all_begun}
use Rattle.evaluation_search.specs.First.{IsFirstOf}
use Rattle.run_evaluations.specs.Told.{Opened}
use Rattle.ending_laws.specs.Frames.{AllToldAtEnd, IsConflictOfAll, IsFindingOf}

-- a clause that the next pick raises, where nothing was found so far: at that pick
abbrev pub RaiseIsFirst : Type 0
RaiseIsFirst = (world : World) (first st : State) (n left : ℕ) (c : Clause) (later : List Entry) → first.trace ≡ [] → GoesFree world first n st
    → step world st (canonical_pick world st.top st.top.begun) ≡ Raises c later →
    found_from world (n + suc left) 0 first ≡ Undefined c st.top.scene.path st.top.scene.turn (place_of (canonical_pick world st.top st.top.begun))
    (line_in world st.top.begun (place_of (canonical_pick world st.top st.top.begun))) (suc n)

-- a limit that it passes
abbrev pub LimitIsFirst : Type 0
LimitIsFirst = (world : World) (first st : State) (n left : ℕ) (c : Cause) (number : ℕ) → GoesFree world first n st
    → step world st (canonical_pick world st.top st.top.begun) ≡ Over c number → found_from world (n + suc left) 0 first ≡ Outside c number n

-- the budget is used up
abbrev pub BudgetIsFirst : Type 0
BudgetIsFirst = (world : World) (first st : State) (n : ℕ) → GoesFree world first n st → found_from world (n + 0) 0 first ≡ Out_of_steps n

-- the run ends with it: the first conflict of all that was told of the full expressions that are open, or none
abbrev pub EndIsFirst : Type 0
EndIsFirst = (world : World) (first st : State) (n left status : ℕ) (output : Outputs) (later : List Entry) (frames : List FrameRow)
    (ts : List Opened) (r : Option Found) → GoesFree world first n st → AreFree world st
    → step world st (canonical_pick world st.top st.top.begun) ≡ Ends status output later → AllToldAtEnd world st.trace later frames (all_begun st) ts
    → IsFirstOf frames (IsConflictOfAll frames world.rows ts) r →
    IsFindingOf world later (all_begun st) (suc n) (Clean status output (suc n)) r (found_from world (n + suc left) 0 first)

-- where `main` returns nothing is open, and the run is clean
abbrev pub ReturnIsClean : Type 0
ReturnIsClean = (world : World) (first st : State) (n left status : ℕ) (output : Outputs) (later : List Entry) → GoesFree world first n st
    → step world st (canonical_pick world st.top st.top.begun) ≡ Ends status output later → st.held ≡ [] → st.top.begun ≡ None →
    found_from world (n + suc left) 0 first ≡ Clean status output (suc n)

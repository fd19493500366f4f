-- What is recorded stays what the definitions have, with each pick (own).
use Rattle.std.specs.Prelude.{◌≡◌, ◌<◌, ℕ, zero, suc, List, ◌∷◌, Some}
use Rattle.ub_base.specs.declared.names.Frame.{Frame}
use Rattle.ub_base.specs.declared.names.Item.{Item}
use Rattle.c_typed.specs.declared.tree.Place.{Place}
use Rattle.c_model.specs.Runs.{Entry, Running, State, canonical_pick, step}
use Rattle.c_model.specs.Steps.{Begun, Control, Ev, Scene}
use Rattle.c_model.specs.World.{NumbersFrames, World}
use Rattle.conflict_detector.specs.Telling.{IsReached}
use Rattle.run_evaluations.specs.Told.{Opened}
use Rattle.detector_laws.specs.Along.{AreClear}
use Rattle.detector_laws.specs.Frames.{AreFree}
use Rattle.detector_laws.specs.Records.{TellsItems}
use Rattle.detector_laws.specs.Shown.{all_begun}
use Rattle.frame_records.specs.Frames.{AllRecorded, HeldAre, OpenRecorded}
use Rattle.frame_records.specs.Told.{GivesAll, Steps, TellsOf}

-- the full expressions that are left out behind a pick: where nothing is recorded all that are open are
abbrev pub left_behind : ℕ → State → List (Scene × Begun) → List (Scene × Begun)
left_behind zero next left = all_begun next
left_behind (suc n) next left = left

-- a control step
abbrev pub StepsKeep : Type 0
StepsKeep = (world : World) (st next : State) (left : List (Scene × Begun)) (n m : ℕ) (os ps : List Opened) → AreFree world st
    → AllRecorded world st left n os → canonical_pick world st.top st.top.begun ≡ Control
    → step world st (canonical_pick world st.top st.top.begun) ≡ Running next → Steps world st next n os m ps
    → AllRecorded world next (left_behind m next left) m ps

-- Where something is recorded, and the frames above the top one are left, each of which gives all, the top one's full expression is what is on top.
abbrev pub ReachesTop : Type 0
ReachesTop = (world : World) (st : State) (left : List (Scene × Begun)) (n : ℕ) (os fs : List Opened) (f : Frame) (e : Begun)
    → NumbersFrames world.number → AreFree world st → AllRecorded world st left n os → 0 < n → st.top.begun ≡ Some e
    → f.0 ≡ world.number st.top.scene.path → (r : IsReached f os fs) → GivesAll st.trace st.top.scene r.top →
    OpenRecorded world st.trace st.top.scene e r.top × HeldAre world st.trace left st.held r.below

-- an event
abbrev pub EventsKeep : Type 0
EventsKeep = (world : World) (st next : State) (left : List (Scene × Begun)) (n : ℕ) (os ps : List Opened) (u : Place) (items : List Item)
    → NumbersFrames world.number → AreClear world st → AllRecorded world st left n os → 0 < n → canonical_pick world st.top st.top.begun ≡ Ev u
    → step world st (canonical_pick world st.top st.top.begun) ≡ Running next
    → ((x : Entry) (xs : List Entry) → next.trace ≡ x ∷ xs → TellsItems items x.items) → TellsOf world st next u items os ps
    → AllRecorded world next left n ps

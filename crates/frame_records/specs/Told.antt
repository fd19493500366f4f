-- What is told with a pick, and what is recorded behind it (own).
use Rattle.std.specs.Prelude.{◌≡◌, ◌≤◌, ◌<◌, ◌-◌, ℕ, List, ◌∷◌, Option, Some, None, length, slice_get}
use Rattle.ub_base.specs.declared.names.Frame.{Frame}
use Rattle.ub_base.specs.declared.names.Item.{Item}
use Rattle.c_typed.specs.declared.tree.Place.{Place}
use Rattle.c_typed.specs.Order.{Taken, is_body}
use Rattle.c_model.specs.Completions.{Completed, Incomplete, completed_by}
use Rattle.c_model.specs.Moments.{items_by}
use Rattle.c_model.specs.Program.{tree_of}
use Rattle.c_model.specs.Runs.{Entry, State}
use Rattle.c_model.specs.Steps.{Begun, Local, Scene, is_done, taken_by}
use Rattle.c_model.specs.World.{World}
use Rattle.conflict_detector.specs.Telling.{IsBare, IsReached, fresh}
use Rattle.finding_laws.specs.Forgotten.{HasItemsOf}
use Rattle.run_evaluations.specs.Told.{Evaluation, Opened, begun, chosen_by, entered, evaluation, settled, told, has as has_item}
use Rattle.telling_laws.specs.Standing.{with_completed}
use Rattle.detector_laws.specs.Looked.{scope_of}
use Rattle.detector_laws.specs.Shown.{all_begun}

-- ---- a control step
-- How many full expressions are open up to the outermost one that is recorded, and which frames are recorded, before a control step and behind it: nothing
-- changes; the full expression on top is settled; with the outermost one that is recorded recording ends; one begins; or recording begins with it.
pub data Steps (world : World) (st next : State) : ℕ → List Opened → ℕ → List Opened → Type 0 where
  stays : (n : ℕ) (os : List Opened) → length (all_begun next) ≡ length (all_begun st) → 0 < n → Steps world st next n os n os
  settles : (n : ℕ) (t : Opened) (ts : List Opened) → length (all_begun next) < length (all_begun st) → 0 < n → n ≤ length (all_begun next)
      → Steps world st next n (t ∷ ts) n (settled t ∷ ts)
  closes : (n : ℕ) (os ps : List Opened) → length (all_begun next) < length (all_begun st) → length (all_begun next) < n → IsBare ps
      → Steps world st next n os 0 ps
  begins : (n : ℕ) (e : Begun) (t : Opened) (ts : List Opened) → length (all_begun st) < length (all_begun next) → 0 < n → next.top.begun ≡ Some e
      → Steps world st next n (t ∷ ts) n (begun next.top.scene.turn (scope_of world next.top.scene e) t ∷ ts)
  idles : (os ps : List Opened) → length (all_begun next) ≤ length (all_begun st) → IsBare ps → Steps world st next 0 os 0 ps
  opens : (e : Begun) (f : Frame) (os ps : List Opened) → length (all_begun st) < length (all_begun next) → next.top.begun ≡ Some e
      → f.0 ≡ world.number next.top.scene.path → IsBare ps
      → Steps world st next 0 os (length (all_begun next)) (fresh f next.top.scene.turn (scope_of world next.top.scene e) ∷ ps)

-- ---- an event
-- with these items, and what nodes have chosen by now, it is told of a frame
abbrev pub told_with : Taken → Place → List Item → Opened → Opened
told_with taken u items t = told (evaluation u.node u.kind items) (chosen_by taken t)

-- what it completes in the frame on top
abbrev pub completed_at : World → Local → Option Begun → Place → Completed
completed_at world f None u = Incomplete
completed_at world f (Some e) u = completed_by (tree_of e.root) (taken_by world f.scene e) (is_done e) u.node

-- What is given to the evaluation that was told last of the frame, a body whose frame is left, is all that the trace has of it, but for forgotten accesses
-- of objects of which it has the birth and the death.
abbrev pub GivesAll : List Entry → Scene → Opened → Type 0
GivesAll trace f t = (last : Evaluation) → slice_get t.done (length t.done - 1) ≡ Some last
    → HasItemsOf (is_body last.place.kind) (has_item last) (items_by trace trace f.path f.turn last.place)

-- The frames above that of the event are left, each of which gives all; the event is told of that frame, on top, with what it completes there; or it starts
-- a frame.
pub data TellsOf (world : World) (st next : State) (u : Place) (items : List Item) (os : List Opened) : List Opened → Type 0 where
  tells : (f : Frame) (now : Begun) (fs : List Opened) (r : IsReached f os fs) → f.0 ≡ world.number st.top.scene.path
      → GivesAll st.trace st.top.scene r.top → next.top.scene.path ≡ st.top.scene.path → next.top.begun ≡ Some now
      → TellsOf world st next u items os (with_completed (completed_at world next.top (Some now) u)
      (told_with (taken_by world next.top.scene now) u items r.top) ∷ r.below)
  enters : (f g : Frame) (e : Begun) (fs : List Opened) (r : IsReached f os fs) → f.0 ≡ world.number st.top.scene.path
      → GivesAll st.trace st.top.scene r.top → (next.top.scene.path ≡ st.top.scene.path → ⊥) → g.0 ≡ world.number next.top.scene.path
      → st.top.begun ≡ Some e
      → TellsOf world st next u items os (entered g ∷ told_with (taken_by world st.top.scene e) u items r.top ∷ r.below)

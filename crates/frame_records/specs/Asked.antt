-- What may be told of an event follows from what is recorded (own).
use Rattle.std.specs.Prelude.{◌≡◌, ◌<◌, ◌^◌, ℕ, true, false, List, ◌∷◌, None, Some}
use Rattle.ub_base.specs.declared.clause.Kind.TheVariants.{Body}
use Rattle.ub_base.specs.declared.names.Frame.{Frame}
use Rattle.c_typed.specs.declared.tree.Place.{Place}
use Rattle.c_typed.specs.Tree.{size}
use Rattle.c_model.specs.Completions.{Incomplete, Operands_of}
use Rattle.c_model.specs.Program.{tree_of}
use Rattle.c_model.specs.Runs.{Running, State, canonical_pick, step}
use Rattle.c_model.specs.Steps.{Begun, Ev, Scene, taken_by}
use Rattle.c_model.specs.World.{NumbersFrames, World}
use Rattle.conflict_detector.specs.Complete.{AreDone, CanEnd, MayGather, above_of}
use Rattle.conflict_detector.specs.Telling.{AreStarted, IsOpen, IsReached, TellsAt, TellsEvent}
use Rattle.elaborate.specs.Formed.{is_formed}
use Rattle.listing_laws.specs.Along.{StandsAlong}
use Rattle.run_evaluations.specs.Shows.{OwnAreLast}
use Rattle.run_evaluations.specs.Told.{Evaluation, Grows, Opened, chosen_by}
use Rattle.telling_laws.specs.Standing.{StandsBehind, StandsTold, completed_in, places}
use Rattle.detector_laws.specs.Frames.{AreFree}
use Rattle.detector_laws.specs.Shown.{all_begun}
use Rattle.frame_records.specs.Frames.{AllRecorded}

-- ---- which frames are open
-- each frame that is recorded was started by an evaluation of the one below it
abbrev pub AreStartedSo : Type 0
AreStartedSo = (world : World) (st : State) (left : List (Scene × Begun)) (n : ℕ) (os : List Opened) → 0 < n → AllRecorded world st left n os → AreStarted os

-- the one on top is recorded, where a full expression is open in it
abbrev pub TopIsOpen : Type 0
TopIsOpen = (world : World) (st : State) (left : List (Scene × Begun)) (n : ℕ) (os : List Opened) (f : Frame) (e : Begun) → 0 < n
    → AllRecorded world st left n os → st.top.begun ≡ Some e → f.0 ≡ world.number st.top.scene.path → IsOpen f os

-- ---- the event
-- the full expression is that of which was told, and what is done of it, whichever items it has
pub record StandsOpen (world : World) (f : Scene) (e : Begun) (t : Opened) : Type 0 where
  pub passed : List Place
  pub ahead : List Place
  pub along : StandsAlong world f e None passed ahead
  pub frame : t.frame.0 ≡ world.number f.path
  pub turn : t.turn ≡ f.turn
  pub tree : t.scope.tree ≡ tree_of e.root
  pub taken : t.scope.taken ≡ taken_by world f e
  pub places : places t.done ≡ passed
  pub told : StandsTold t

-- whatever the frames that are left give
abbrev pub ReachesOpen : Type 0
ReachesOpen = (world : World) (st : State) (left : List (Scene × Begun)) (n : ℕ) (os fs : List Opened) (f : Frame) (e : Begun)
    → NumbersFrames world.number → AreFree world st → AllRecorded world st left n os → 0 < n → st.top.begun ≡ Some e
    → f.0 ≡ world.number st.top.scene.path → (r : IsReached f os fs) → StandsOpen world st.top.scene e r.top

-- The next event may be told of it, of a tree of less than 2^32 nodes, with what nodes have chosen by then in the full expression that is open on top
-- behind it.
abbrev pub EventsMayBeTold : Type 0
EventsMayBeTold = (world : World) (st next : State) (left : List (Scene × Begun)) (n : ℕ) (os fs : List Opened) (f : Frame) (u : Place)
    (y : Scene × Begun) (ys : List (Scene × Begun)) → NumbersFrames world.number → AreFree world st → AllRecorded world st left n os → 0 < n
    → canonical_pick world st.top st.top.begun ≡ Ev u → step world st (canonical_pick world st.top st.top.begun) ≡ Running next
    → f.0 ≡ world.number st.top.scene.path → all_begun next ≡ y ∷ ys → size (tree_of y.1.root) < 2 ^ 32 → (r : IsReached f os fs) →
    Grows r.top.scope.taken (taken_by world y.0 y.1) × TellsEvent (chosen_by (taken_by world y.0 y.1) r.top) u × (r.top.turn ≡ y.0.turn) ×
    (r.top.scope.tree ≡ tree_of y.1.root)

-- ---- straight behind it
-- what is done is done once and due; and of its node, and of the node above, of which it completes the operands, may be told
abbrev pub BehindMayBeTold : Type 0
BehindMayBeTold = (t : Opened) (last : Evaluation) → is_formed t.scope.tree ≡ true → size t.scope.tree < 2 ^ 32 → StandsBehind t last →
    AreDone t × OwnAreLast t last.place.node × ((p : ℕ) → completed_in t last.place.node ≡ Operands_of p → TellsAt t p × (t.parts p ≡ false))

-- so of the operands of the node above, where this one is the last of them that has a value, if its node is complete
abbrev pub AboveMayBeTold : Type 0
AboveMayBeTold = (t : Opened) (last : Evaluation) → is_formed t.scope.tree ≡ true → size t.scope.tree < 2 ^ 32 → StandsBehind t last
    → (completed_in t last.place.node ≡ Incomplete → ⊥) → MayGather t (above_of t last.place.node)

-- the run may end in a body that was told last
abbrev pub BodiesMayEnd : Type 0
BodiesMayEnd = (t : Opened) (last : Evaluation) → is_formed t.scope.tree ≡ true → size t.scope.tree < 2 ^ 32 → StandsBehind t last
    → last.place.kind ≡ Body → CanEnd t

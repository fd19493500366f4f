-- All open frames of a state, and what was told of them (own).
use Rattle.std.specs.Prelude.{◌≡◌, ◌≤◌, ℕ, suc, List, [], ◌∷◌, ◌++◌, Some, None, length}
use Rattle.ub_base.specs.declared.clause.Kind.TheVariants.{Body}
use Rattle.c_typed.specs.declared.tree.Place.{Place}
use Rattle.c_model.specs.Runs.{Entry, State}
use Rattle.c_model.specs.Steps.{Begun, Local, Scene}
use Rattle.c_model.specs.World.{World}
use Rattle.conflict_detector.specs.Telling.{IsBare}
use Rattle.listing_laws.specs.Along.{StandsAlong}
use Rattle.run_evaluations.specs.Told.{Evaluation, Opened}
use Rattle.telling_laws.specs.Standing.{StandsBehind, StandsTold}
use Rattle.detector_laws.specs.Records.{Records}
use Rattle.detector_laws.specs.Shown.{all_begun, begun_below}

-- ---- one frame
-- no full expression is open in it, and nothing of it is done
pub record RestsRecorded (world : World) (f : Scene) (t : Opened) : Type 0 where
  pub frame : t.frame.0 ≡ world.number f.path
  pub none : t.done ≡ []

-- what is done of the full expression that is open in it was told, and is closed
pub record OpenRecorded (world : World) (trace : List Entry) (f : Scene) (e : Begun) (t : Opened) : Type 0 where
  pub passed : List Place
  pub ahead : List Place
  pub along : StandsAlong world f e None passed ahead
  pub records : Records world trace f e passed passed t
  pub told : StandsTold t

-- the frame is held: it waits for the body of this event, which was told last of its full expression, and isn't closed
pub record HeldRecorded (world : World) (trace : List Entry) (f : Local) (u : Place) (t : Opened) : Type 0 where
  pub expression : Begun
  pub is : f.begun ≡ Some expression
  pub passed : List Place
  pub ahead : List Place
  pub along : StandsAlong world f.scene expression None passed (u ∷ ahead)
  pub records : Records world trace f.scene expression passed (passed ++ u ∷ []) t
  pub last : Evaluation
  pub behind : StandsBehind t last

-- a body of its full expression is done, whose frame has ended, but isn't left yet: so what was told of the body isn't closed
pub record EndedRecorded (world : World) (trace : List Entry) (f : Scene) (e : Begun) (body : Place) (t : Opened) : Type 0 where
  pub kind : body.kind ≡ Body
  pub passed : List Place
  pub ahead : List Place
  pub along : StandsAlong world f e None (passed ++ body ∷ []) ahead
  pub records : Records world trace f e passed (passed ++ body ∷ []) t
  pub last : Evaluation
  pub behind : StandsBehind t last

-- ---- all frames
-- The frames that are held: of the innermost of them was told, and each is recorded; those below aren't, whose full expressions are left out.
pub data HeldAre (world : World) (trace : List Entry) (left : List (Scene × Begun)) : List (Local × Place) → List Opened → Type 0 where
  below : (hs : List (Local × Place)) (ts : List Opened) → begun_below hs ≡ left → IsBare ts → HeldAre world trace left hs ts
  more : (h : Local × Place) (hs : List (Local × Place)) (t : Opened) (ts : List Opened) → HeldRecorded world trace h.0 h.1 t
      → HeldAre world trace left hs ts → HeldAre world trace left (h ∷ hs) (t ∷ ts)

-- so many full expressions are open up to the outermost one that is recorded
abbrev pub Counts : ℕ → List (Scene × Begun) → Type 0
Counts n left = n ≡ suc (length left)

-- What was told of the open frames of a state, but for the outermost full expressions that are left out: nothing; or of the top frame, in which a full
-- expression is open or none is; or of one frame more, which has ended and is left only with the next event that is told.
pub data AllRecorded (world : World) (st : State) (left : List (Scene × Begun)) : ℕ → List Opened → Type 0 where
  idle : (os : List Opened) → all_begun st ≡ left → IsBare os → AllRecorded world st left 0 os
  rests : (n : ℕ) (t : Opened) (ts : List Opened) → Counts n left → n ≤ length (begun_below st.held) → st.top.begun ≡ None
      → RestsRecorded world st.top.scene t → HeldAre world st.trace left st.held ts → AllRecorded world st left n (t ∷ ts)
  opens : (n : ℕ) (e : Begun) (t : Opened) (ts : List Opened) → Counts n left → st.top.begun ≡ Some e
      → OpenRecorded world st.trace st.top.scene e t → HeldAre world st.trace left st.held ts → AllRecorded world st left n (t ∷ ts)
  ended : (n : ℕ) (e : Begun) (u : Place) (gone t : Opened) (ts : List Opened) → Counts n left → st.top.begun ≡ Some e
      → EndedRecorded world st.trace st.top.scene e u t
      → gone.frame.0 ≡ world.number ((st.top.scene.turn, u.node) ∷ st.top.scene.path) → HeldAre world st.trace left st.held ts
      → AllRecorded world st left n (gone ∷ t ∷ ts)

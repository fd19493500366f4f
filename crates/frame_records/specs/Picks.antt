-- Which pick comes to what, along the canonical order (own).
use Rattle.std.specs.Prelude.{◌≡◌, List, ◌∷◌, Some, None}
use Rattle.ub_base.specs.declared.clause.Kind.TheVariants.{Body}
use Rattle.c_typed.specs.declared.tree.Place.{Place}
use Rattle.c_model.specs.Runs.{Entry, Running, State, canonical_pick, step}
use Rattle.c_model.specs.Steps.{Begun, Control, Ev, Local, Pick}
use Rattle.c_model.specs.World.{World}
use Rattle.detector_laws.specs.Frames.{AreFree, IsBareValue, IsEntryOf, StandsFree, TakesEvent}

-- A control step: none is open before it, nor behind it; the full expression that is open is settled; one begins; or the frame ends, be it that none is open
-- in it, or that the one that is open is settled with it. An event: it is done; or it starts a frame.
pub data PicksSo (world : World) (st next : State) (p : Pick) : Type 0 where
  rests : p ≡ Control → st.top.begun ≡ None → next.top.begun ≡ None → next.top.scene.path ≡ st.top.scene.path → next.held ≡ st.held
      → PicksSo world st next p
  settles : (e : Begun) → p ≡ Control → st.top.begun ≡ Some e → next.top.begun ≡ None → next.top.scene.path ≡ st.top.scene.path → next.held ≡ st.held
      → PicksSo world st next p
  begins : (e : Begun) → p ≡ Control → st.top.begun ≡ None → next.top.begun ≡ Some e → ((u : Place) → e.given u ≡ None)
      → next.top.scene.path ≡ st.top.scene.path → next.held ≡ st.held → PicksSo world st next p
  ends : (h : Local × Place) (e : Begun) → p ≡ Control → h.0.begun ≡ Some e → h.1.kind ≡ Body
      → TakesEvent world st.trace next.trace h.0.scene e h.1 next.top → st.held ≡ h ∷ next.held → PicksSo world st next p
  takes : (e : Begun) (u : Place) (x : Entry) → p ≡ Ev u → st.top.begun ≡ Some e → TakesEvent world st.trace next.trace st.top.scene e u next.top
      → next.trace ≡ x ∷ st.trace → IsEntryOf st.top.scene u x → IsBareValue world st.top.scene e u x → next.held ≡ st.held → PicksSo world st next p
  starts : (e : Begun) (u : Place) (x : Entry) (passed ahead : List Place) → p ≡ Ev u → st.top.begun ≡ Some e → u.kind ≡ Body
      → StandsFree world st.trace st.top.scene e passed (u ∷ ahead) → next.trace ≡ x ∷ st.trace → IsEntryOf st.top.scene u x → next.top.begun ≡ None
      → next.top.scene.path ≡ (st.top.scene.turn, u.node) ∷ st.top.scene.path → next.held ≡ (st.top, u) ∷ st.held → PicksSo world st next p

-- each canonical pick does so that goes on
abbrev pub PicksAreSo : Type 0
PicksAreSo = (world : World) (st next : State) → AreFree world st → step world st (canonical_pick world st.top st.top.begun) ≡ Running next
    → PicksSo world st next (canonical_pick world st.top st.top.begun)

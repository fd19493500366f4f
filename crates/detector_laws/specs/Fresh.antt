-- The trace has nothing yet of frames that the open ones may still start (own).
use Rattle.std.specs.Prelude.{◌≡◌, ◌<◌, ◌||◌, ◌==◌, ℕ, Bool, true, false, List, [], ◌∷◌, Option, Some, None}
use Rattle.ub_base.specs.declared.clause.Kind.TheVariants.{Body}
use Rattle.c_typed.specs.declared.tree.Place.{Place}
use Rattle.c_typed.specs.Order.{place}
use Rattle.c_model.specs.Findings.{items_under}
use Rattle.c_model.specs.Runs.{Entry, Running, State, canonical_pick, step}
use Rattle.c_model.specs.Steps.{Begun, Local, Scene, is_done}
use Rattle.c_model.specs.World.{World}
use Rattle.detector_laws.specs.Frames.{AreFree}

-- Of the frames that this one starts in this turn, the trace has none but by bodies of nodes that have started, and none of later turns.
pub record IsFresh (trace : List Entry) (f : Scene) (started : ℕ → Bool) : Type 0 where
  pub now : (n : ℕ) → started n ≡ false → items_under ((f.turn, n) ∷ f.path) trace ≡ []
  pub later : (k n : ℕ) → f.turn < k → items_under ((k, n) ∷ f.path) trace ≡ []

-- the bodies that are done; where no full expression is open nothing is asked of this turn
abbrev pub started_in : Option Begun → ℕ → Bool
started_in None n = true
started_in (Some e) n = is_done e (place n Body)

-- and the one for which the frame waits
abbrev pub with_waiting : Place → (ℕ → Bool) → ℕ → Bool
with_waiting u started n = started n || (n == u.node)

abbrev pub AllHeldFresh : List Entry → List (Local × Place) → Type 0
AllHeldFresh trace [] = Unit {0}
AllHeldFresh trace (h ∷ hs) = IsFresh trace h.0.scene (with_waiting h.1 (started_in h.0.begun)) × AllHeldFresh trace hs

pub record AreFresh (st : State) : Type 0 where
  pub top : IsFresh st.trace st.top.scene (started_in st.top.begun)
  pub held : AllHeldFresh st.trace st.held

-- each canonical pick leaves it so
abbrev pub PicksStayFresh : Type 0
PicksStayFresh = (world : World) (st next : State) → AreFree world st → AreFresh st
    → step world st (canonical_pick world st.top st.top.begun) ≡ Running next → AreFresh next

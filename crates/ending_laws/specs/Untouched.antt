-- Of events that aren't done the trace has no items, and no entry of it has ended the run (own).
use Rattle.std.specs.Prelude.{◌≡◌, ◌<◌, ◌||◌, ℕ, Bool, true, false, List, [], ◌∷◌, Option, Some, None}
use Rattle.c_typed.specs.declared.tree.Place.{Place}
use Rattle.c_typed.specs.Order.{same_place}
use Rattle.c_model.specs.Findings.{has_ending}
use Rattle.c_model.specs.Moments.{items_by}
use Rattle.c_model.specs.Runs.{Entry, Running, State, canonical_pick, start, step}
use Rattle.c_model.specs.Steps.{Begun, Local, Scene, is_done}
use Rattle.c_model.specs.Values.{Value}
use Rattle.c_model.specs.World.{World}
use Rattle.detector_laws.specs.Along.{AreClear}
use Rattle.detector_laws.specs.Frames.{AreFree, IsFormedIn}
use Rattle.detector_laws.specs.Fresh.{AreFresh}
use Rattle.detector_laws.specs.Looked.{GoesFree}

-- of one frame: of the events of this turn that aren't done, and of those of later turns
pub record IsUntouched (trace : List Entry) (f : Scene) (done : Place → Bool) : Type 0 where
  pub now : (w : Place) → done w ≡ false → items_by trace trace f.path f.turn w ≡ []
  pub later : (k : ℕ) (w : Place) → f.turn < k → items_by trace trace f.path k w ≡ []

-- the events that are done; where no full expression is open nothing is asked of this turn
abbrev pub done_in : Option Begun → Place → Bool
done_in None w = true
done_in (Some e) w = is_done e w

-- and the body for which the frame waits
abbrev pub with_body : Place → (Place → Bool) → Place → Bool
with_body u done w = done w || same_place w u

abbrev pub AllHeldUntouched : List Entry → List (Local × Place) → Type 0
AllHeldUntouched trace [] = Unit {0}
AllHeldUntouched trace (h ∷ hs) = IsUntouched trace h.0.scene (with_body h.1 (done_in h.0.begun)) × AllHeldUntouched trace hs

pub record AreUntouched (st : State) : Type 0 where
  pub top : IsUntouched st.trace st.top.scene (done_in st.top.begun)
  pub held : AllHeldUntouched st.trace st.held

-- no entry has ended the run
abbrev pub NoneEnds : List Entry → Type 0
NoneEnds [] = Unit {0}
NoneEnds (e ∷ es) = (has_ending e.items ≡ false) × NoneEnds es

-- each canonical pick leaves it so
abbrev pub PicksStayUntouched : Type 0
PicksStayUntouched = (world : World) (st next : State) → AreFree world st → AreFresh st → AreUntouched st
    → step world st (canonical_pick world st.top st.top.begun) ≡ Running next → AreUntouched next

abbrev pub PicksEndNone : Type 0
PicksEndNone = (world : World) (st next : State) → NoneEnds st.trace → step world st (canonical_pick world st.top st.top.begun) ≡ Running next
    → NoneEnds next.trace

-- ---- along the canonical order
-- all that holds where nothing was found so far
pub record AreOnTheWay (world : World) (st : State) : Type 0 where
  pub clear : AreClear world st
  pub untouched : AreUntouched st
  pub endless : NoneEnds st.trace

-- as a run starts
abbrev pub StartsOnTheWay : Type 0
StartsOnTheWay = (world : World) (input : List ℕ) (vs : List Value) (st : State) → start world input vs ≡ Running st → AreOnTheWay world st

-- and after each pick behind which nothing is found
abbrev pub StaysOnTheWay : Type 0
StaysOnTheWay = (world : World) (first st : State) (n : ℕ) → ((m : ℕ) (s : State) → GoesFree world first m s → IsFormedIn s.top.begun)
    → AreOnTheWay world first → GoesFree world first n st → AreOnTheWay world st

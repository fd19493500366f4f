-- Along permitted orders all that is done of a full expression was reached, in each frame.
use Rattle.std.specs.Prelude.{◌≡◌, ℕ, List, [], ◌∷◌, Option, Some, None}
use Rattle.c_typed.specs.declared.tree.Place.{Place}
use Rattle.c_model.specs.ChoiceLaws.{IsNext, IsClosed}
use Rattle.c_model.specs.Values.{Value}
use Rattle.c_model.specs.Steps.{Begun, Local, Pick, Scene, MayPick}
use Rattle.c_model.specs.Runs.{State, Running, After, step, start, canonical_after}
use Rattle.c_model.specs.World.{World}

-- what is done of the full expression that is open, if one is, was reached
abbrev pub IsReachedIn : World → Scene → Option Begun → Type 0
IsReachedIn world f None = Unit {0}
IsReachedIn world f (Some e) = IsClosed world f e

-- and the body that waits may come next
abbrev pub WaitsNext : World → Scene → Option Begun → Place → Type 0
WaitsNext world f None at = Unit {0}
WaitsNext world f (Some e) at = IsClosed world f e × IsNext world f e at

abbrev pub AllWaitNext : World → List (Local × Place) → Type 0
AllWaitNext world [] = Unit {0}
AllWaitNext world (h ∷ hs) = WaitsNext world h.0.scene h.0.begun h.1 × AllWaitNext world hs

-- so in the top frame, and in each frame below
abbrev pub AreReached : World → Local → List (Local × Place) → Type 0
AreReached world f hs = IsReachedIn world f.scene f.begun × AllWaitNext world hs

abbrev pub StartsReached : Type 0
StartsReached = (world : World) (input : List ℕ) (vs : List Value) (st : State) → start world input vs ≡ Running st → AreReached world st.top st.held

abbrev pub StepsReached : Type 0
StepsReached = (world : World) (st next : State) (p : Pick) → MayPick world st.top st.top.begun p → AreReached world st.top st.held
    → step world st p ≡ Running next → AreReached world next.top next.held

abbrev pub OrdersReached : Type 0
OrdersReached = (world : World) (st after : State) (ps : List Pick) → AreReached world st.top st.held → After world st ps (Running after)
    → AreReached world after.top after.held

abbrev pub CanonicalReached : Type 0
CanonicalReached = (world : World) (n : ℕ) (st after : State) → AreReached world st.top st.held → canonical_after world n st ≡ Running after
    → AreReached world after.top after.held

-- The frames of a run are ordered from its start on.
use Rattle.std.specs.Prelude.{◌≡◌, ℕ, List}
use Rattle.c_model.specs.Values.{Value}
use Rattle.c_model.specs.Steps.{Pick}
use Rattle.c_model.specs.Runs.{State, Running, After, step, start, canonical_after}
use Rattle.c_model.specs.World.{World}
use Rattle.frame_laws.specs.Frames.{IsScoped, HasMain, AreOrdered}

abbrev pub StartsOrdered : Type 0
StartsOrdered = (world : World) (input : List ℕ) (vs : List Value) (st : State) → IsScoped world → HasMain world
    → start world input vs ≡ Running st → AreOrdered world st.top st.held

-- each pick keeps them so, whether or not it is permitted
abbrev pub StepsOrdered : Type 0
StepsOrdered = (world : World) (st next : State) (p : Pick) → IsScoped world → AreOrdered world st.top st.held → step world st p ≡ Running next
    → AreOrdered world next.top next.held

-- and so does each order of picks, and the canonical one
abbrev pub OrdersOrdered : Type 0
OrdersOrdered = (world : World) (st after : State) (ps : List Pick) → IsScoped world → AreOrdered world st.top st.held
    → After world st ps (Running after) → AreOrdered world after.top after.held

abbrev pub CanonicalOrdered : Type 0
CanonicalOrdered = (world : World) (n : ℕ) (st after : State) → IsScoped world → AreOrdered world st.top st.held
    → canonical_after world n st ≡ Running after → AreOrdered world after.top after.held

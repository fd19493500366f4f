-- No limit is passed in a state of a run: where one is, the run is over (own).
use Rattle.std.specs.Prelude.{◌≡◌, ℕ, List, None}
use Rattle.c_model.specs.Runs.{State, Running, After, step, start, canonical_after, depth_of, limit_passed}
use Rattle.c_model.specs.Steps.{Pick}
use Rattle.c_model.specs.Values.{Value}
use Rattle.c_model.specs.World.{World}

abbrev pub PassesNoLimit : World → State → Type 0
PassesNoLimit world st = limit_passed world.limits (depth_of st.top st.held) st.store ≡ None

abbrev pub StartsWithin : Type 0
StartsWithin = (world : World) (input : List ℕ) (vs : List Value) (st : State) → start world input vs ≡ Running st → PassesNoLimit world st

-- behind each pick, whatever was before it
abbrev pub StepsWithin : Type 0
StepsWithin = (world : World) (st after : State) (p : Pick) → step world st p ≡ Running after → PassesNoLimit world after

abbrev pub OrdersWithin : Type 0
OrdersWithin = (world : World) (st after : State) (ps : List Pick) → PassesNoLimit world st → After world st ps (Running after)
    → PassesNoLimit world after

abbrev pub CanonicalWithin : Type 0
CanonicalWithin = (world : World) (n : ℕ) (st after : State) → PassesNoLimit world st → canonical_after world n st ≡ Running after
    → PassesNoLimit world after

-- No more frames are held than picks were taken (own).
use Rattle.std.specs.Prelude.{◌≡◌, ◌≤◌, ℕ, suc, List, length}
use Rattle.c_model.specs.Runs.{Running, State, canonical_after, start, step}
use Rattle.c_model.specs.Steps.{Pick}
use Rattle.c_model.specs.Values.{Value}
use Rattle.c_model.specs.World.{World}

-- at the start none is held
abbrev pub StartHoldsNone : Type 0
StartHoldsNone = (world : World) (input : List ℕ) (vs : List Value) (st : State) → start world input vs ≡ Running st → length st.held ≡ 0

-- each pick adds at most one, whether or not it is permitted
abbrev pub StepsHoldOneMore : Type 0
StepsHoldOneMore = (world : World) (st after : State) (p : Pick) → step world st p ≡ Running after → length after.held ≤ suc (length st.held)

-- so there are at most as many as picks of the canonical order
abbrev pub CanonicalHoldsFew : Type 0
CanonicalHoldsFew = (world : World) (input : List ℕ) (vs : List Value) (n : ℕ) (st after : State) → start world input vs ≡ Running st
    → canonical_after world n st ≡ Running after → length after.held ≤ n

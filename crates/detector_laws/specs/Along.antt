-- What holds of the open frames along the canonical order, where nothing was found so far (own).
use Rattle.std.specs.Prelude.{◌≡◌, ℕ, List}
use Rattle.c_model.specs.Runs.{Running, State, start}
use Rattle.c_model.specs.Values.{Value}
use Rattle.c_model.specs.World.{World}
use Rattle.detector_laws.specs.Bare.{AreBare}
use Rattle.detector_laws.specs.Frames.{AreFree, IsFormedIn}
use Rattle.detector_laws.specs.Fresh.{AreFresh}
use Rattle.detector_laws.specs.Looked.{GoesFree}

-- Nothing was found in any full expression that is open; the trace has no frames that are still to start; and values of assignments and lists have no items.
pub record AreClear (world : World) (st : State) : Type 0 where
  pub free : AreFree world st
  pub fresh : AreFresh st
  pub bare : AreBare world st

-- so it is as a run starts
abbrev pub StartsClear : Type 0
StartsClear = (world : World) (input : List ℕ) (vs : List Value) (st : State) → start world input vs ≡ Running st → AreClear world st

-- and after each pick behind which nothing is found, in a program whose full expressions have the operands that their operators take
abbrev pub GoesClear : Type 0
GoesClear = (world : World) (first st : State) (n : ℕ) → ((m : ℕ) (s : State) → GoesFree world first m s → IsFormedIn s.top.begun) → AreClear world first
    → GoesFree world first n st → AreClear world st

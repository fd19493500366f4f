-- A machine that is going at the start of a run is along it (own).
use Rattle.std.specs.Prelude.{◌≡◌, ℕ, List, [], None}
use Rattle.std.specs.List.{All}
use Rattle.ub_base.specs.Frames.{Row as Started_frame}
use Rattle.c_typed.specs.declared.program.Program.{Program}
use Rattle.c_model.specs.Runs.{Running, State, start}
use Rattle.c_model.specs.World.{World}
use Rattle.program_view.specs.View.{main_values}
use Rattle.run_statements.specs.declared.numbers.Numbers.{Numbers}
use Rattle.run_state.specs.declared.machine.Machine.{Machine}
use Rattle.value_facts.specs.Held.{AreBytes, KeepsSmall}
use Rattle.value_facts.specs.Sources.{IsPlaced}
use Rattle.run_laws.specs.Going.{IsGoing}
use Rattle.canonical_laws.specs.Along.{IsAlong}
use Rattle.canonical_laws.specs.Listed.{TopIsListed}

-- at the start the machine is along the run, nothing was done, and the first frame is listed wherever
pub record BeginsAlong (world : World) (p : Program) (numbers : Numbers) (m : Machine) (st : State) : Type 0 where
  pub along : IsAlong world p numbers m st 0
  pub trace : st.trace ≡ []
  pub listed : (frames : List Started_frame) → TopIsListed frames st

-- So it is in each world that keeps values small, where what `main` is called with is placed and the input is bytes.
abbrev pub GoingIsAlong : Type 0
GoingIsAlong =
    (world : World) (p : Program) (numbers : Numbers) (strings : List (List ℕ)) (input : List ℕ) (m : Machine) (st : State) → KeepsSmall world
    → All (IsPlaced world) (main_values p world strings) → AreBytes input → start world input (main_values p world strings) ≡ Running st
    → IsGoing world p numbers m st 0 → m.left ≡ None → BeginsAlong world p numbers m st

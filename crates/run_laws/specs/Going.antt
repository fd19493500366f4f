-- A machine along the canonical order of a run (own).
use Rattle.std.specs.Prelude.{◌≡◌, ◌<◌, ◌^◌, ℕ, List, map, reverse, ◌∷◌, Option}
use Rattle.c_typed.specs.declared.program.Program.{Program}
use Rattle.c_model.specs.Runs.{State}
use Rattle.c_model.specs.Steps.{Local}
use Rattle.c_model.specs.World.{World}
use Rattle.run_control.specs.View.{Meaning}
use Rattle.run_statements.specs.declared.numbers.Numbers.{Numbers}
use Rattle.run_state.specs.declared.machine.Machine.{Machine}
use Rattle.run_state.specs.Stands.{Stands}
use Rattle.run_answers.specs.Answering.{IsWithin}
use Rattle.code_view.specs.Numbering.{meaning_of}
use Rattle.frame_laws.specs.Frames.{AreOrdered}
use Rattle.frame_laws.specs.Reached.{AreReached}
use Rattle.run_laws.specs.Frames.{KeepFrames}
use Rattle.run_laws.specs.SetUp.{IsSetUp}

-- the frames of a state, from the top one down
abbrev pub locals_of : State → List Local
locals_of st = st.top ∷ map (λ h. h.0) st.held

-- The machine after so many picks, all of them canonical, stands for the state, which is within the limits; its frames are ordered, what is done in them
-- was reached, and what a machine keeps of its frames is there.
pub record IsGoing (world : World) (p : Program) (numbers : Numbers) (m : Machine) (st : State) (n : ℕ) : Type 0 where
  pub program : m.program.now ≡ p
  pub set_up : IsSetUp world p numbers m.image.code.now m.jumps
  pub stands : Stands world (meaning_of p numbers m.image.code.now) m st
  pub within : IsWithin world st
  pub ordered : AreOrdered world st.top st.held
  pub reached : AreReached world st.top st.held
  pub frames : KeepFrames world m (m.top ∷ reverse m.below.items) (locals_of st) n
  pub few : n < 2 ^ 32

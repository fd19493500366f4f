-- What the end of a frame comes to is what the definitions come to (own).
use Rattle.std.specs.Prelude.{◌≡◌, ℕ, List, Option, None, Result, Ok, Err}
use Rattle.c_model.specs.Runs.{Entry, State, back, limited}
use Rattle.c_model.specs.Steps.{result_of}
use Rattle.c_model.specs.World.{World}
use Rattle.run_control.specs.View.{Meaning}
use Rattle.run_state.specs.declared.halt.Halt.{Halt}
use Rattle.run_state.specs.declared.halt.Halt.TheVariants as halt
use Rattle.run_state.specs.declared.machine.Machine.{Machine}
use Rattle.run_state.specs.Stands.{Stands}
use Rattle.run_answers.specs.Answering.{ComesTo, IsWithin, newest_items}
use Rattle.run_answers.specs.Ending.{CanEnd}

-- The top frame, in which no full expression is open, ends: the frame below goes on as the definitions say, or the run ends with its status; only memory
-- may be wanted.
abbrev pub AnswersEnd : (old new : Machine) → Result (Option ℕ) Halt → Type 0
AnswersEnd old new (Err e) = e ≡ halt.NoMemory
AnswersEnd old new (Ok status) =
    (world : World) (meaning : Option ℕ → Meaning) (st : State) (trace : List Entry) → Stands world meaning old st → IsWithin world st
    → st.top.begun ≡ None → CanEnd old st → newest_items trace ≡ old.items
    → ComesTo world meaning status new (limited world.limits (back world st.held (result_of world st.top) st.store trace))

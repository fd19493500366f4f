-- A canonical pick of a machine along a run is the definitions' step, and the machine is along it behind the pick (own).
use Rattle.std.specs.Prelude.{◌≡◌, ◌<◌, ◌^◌, ℕ, suc, List, ◌∷◌, Option, Some, None, Result, Ok, Err}
use Rattle.ub_base.specs.Frames.{Row}
use Rattle.ub_base.specs.declared.names.Event.{Event}
use Rattle.ub_base.specs.declared.names.Frame.{Frame}
use Rattle.addr_map.specs.Sound.{AreApart}
use Rattle.c_typed.specs.declared.program.Program.{Program}
use Rattle.c_model.specs.Completions.{Completed, Incomplete}
use Rattle.c_model.specs.Runs.{Entry, Ends, Outcome, Over, Raises, Running, State, canonical_pick, step}
use Rattle.c_model.specs.Steps.{Control}
use Rattle.c_model.specs.World.{World}
use Rattle.run_statements.specs.declared.numbers.Numbers.{Numbers}
use Rattle.run_state.specs.declared.halt.Halt.{Halt}
use Rattle.run_state.specs.declared.halt.Halt.TheVariants as halt
use Rattle.run_state.specs.declared.machine.Machine.{Machine}
use Rattle.run_answers.specs.declared.pick.Pick.{Pick}
use Rattle.run_answers.specs.declared.pick.Pick.TheVariants as pick
use Rattle.run_answers.specs.Answering.{MayGoOn}
use Rattle.run_answers.specs.Completing.{completed_seen}
use Rattle.run_answers.specs.Starting.{numbered}
use Rattle.canonical_laws.specs.Along.{AnswersAll, HasRowsOf, IsAlong}
use Rattle.canonical_laws.specs.Completes.{completed_at}
use Rattle.canonical_laws.specs.Listed.{TellsNewest, TopIsListed}

-- 1. What it comes to.

module _ (world : World) (p : Program) (numbers : Numbers) (st : State) (n : ℕ) (new : Machine) where
  -- The run goes on: the machine is along it in the next state, with one pick more, which tells the newest entry, and what that completes; its top frame is
  -- listed as the one before.
  pub record GoesTo (event : Option Event) (completed : Completed) (after : State) : Type 0 where
    pub tells : TellsNewest world event new.items st.trace after.trace
    pub completes : completed ≡ completed_at world after tells.0.place
    pub along : IsAlong world p numbers new after (suc n)
    pub listed : (rows : List Row) → TopIsListed rows st → TopIsListed rows after

  abbrev pub GoesAlong : Option Event → Completed → Outcome → Type 0
  GoesAlong event completed o = (after : State) × (o ≡ Running after) × GoesTo event completed after

  -- so it is once the frame that this event has started has the number that the world gives it
  pub record Starts (event : Event) (after : State) : Type 0 where
    pub tells : TellsNewest world (Some event) new.items st.trace after.trace
    pub completes : Incomplete ≡ completed_at world after tells.0.place
    pub frame : event.frame.0 ≡ world.number st.top.scene.path
    pub path : after.top.scene.path ≡ (event.turn, event.node) ∷ st.top.scene.path
    pub along : (number : Frame) → number.0 ≡ world.number after.top.scene.path → IsAlong world p numbers (numbered new number) after (suc n)

  abbrev pub StartsAlong : Event → Outcome → Type 0
  StartsAlong event o = (after : State) × (o ≡ Running after) × Starts event after

  -- the run has ended with this status, and with what was written
  abbrev pub EndsAlong : Option Event → (status : ℕ) → Outcome → Type 0
  EndsAlong event status o = (trace : List Entry) × (o ≡ Ends status new.streams.output trace) × TellsNewest world event new.items st.trace trace

  -- or it has raised a clause, or passes a limit. Where a row isn't there, or memory is wanted, nothing is said.
  abbrev pub ComesAlong : Result Pick Halt → Outcome → Type 0
  ComesAlong (Ok (pick.Step None)) o = GoesAlong None Incomplete o
  ComesAlong (Ok (pick.Step (Some status))) o = EndsAlong None status o
  ComesAlong (Ok (pick.Starts event)) o = StartsAlong event o
  ComesAlong (Ok (pick.Event event completed None)) o = GoesAlong (Some event) (completed_seen completed) o
  ComesAlong (Ok (pick.Event event completed (Some status))) o = EndsAlong (Some event) status o
  ComesAlong (Err (halt.Raised event line clause)) o = (e : Entry) × (o ≡ Raises clause (e ∷ st.trace))
  ComesAlong (Err (halt.Over cause number)) o = o ≡ Over cause number
  ComesAlong (Err halt.Unplaced) o = Unit {0}
  ComesAlong (Err halt.NoMemory) o = Unit {0}

-- 2. Where a control step is the canonical pick of such a machine, it can take it.
abbrev pub ControlMay : Type 0
ControlMay = (world : World) (p : Program) (numbers : Numbers) (m : Machine) (st : State) (n : ℕ) → IsAlong world p numbers m st n → AreApart world.rows
    → canonical_pick world st.top st.top.begun ≡ Control → MayGoOn world m st

-- 3. The law: of each canonical pick, in a world that has the rows that the machine has behind it.
abbrev pub AlongComes : Type 0
AlongComes =
    (world : World) (p : Program) (numbers : Numbers) (old new : Machine) (st : State) (n : ℕ) (r : Result Pick Halt) → IsAlong world p numbers old st n
    → AnswersAll old new r → HasRowsOf world.rows old new → suc n < 2 ^ 32
    → ComesAlong world p numbers st n new r (step world st (canonical_pick world st.top st.top.begun))

-- An event that is named is taken where it may come next, along the canonical way or off it (5.1.2.3p3, 6.5p3).
use Rattle.std.specs.Prelude.{◌≡◌, ◌+◌, ◌-◌, ◌^◌, ◌⊎◌, min, ℕ, true, false, [], Option, Some, None, Result, Ok, Err}
use Rattle.std.specs.Borrow.{Bor}
use Rattle.c_typed.specs.declared.tree.Place.{Place}
use Rattle.c_model.specs.Runs.{State}
use Rattle.c_model.specs.Steps.{Begun}
use Rattle.c_model.specs.World.{World}
use Rattle.run_control.specs.View.{Meaning}
use Rattle.run_layout.specs.declared.steps.Due.{Due}
use Rattle.run_listing.specs.Along.{IsListed}
use Rattle.run_state.specs.declared.halt.Halt.{Halt}
use Rattle.run_state.specs.declared.halt.Halt.TheVariants as halt
use Rattle.run_state.specs.declared.machine.Machine.{Machine}
use Rattle.run_state.specs.declared.machine.Stage.{Stage}
use Rattle.run_answers.specs.declared.pick.Pick.{Pick}
use Rattle.run_answers.specs.Library.{AnswersLibrary}
use Rattle.run_answers.specs.Picks.{ComesNext, LeavesWay, Strays, at_cursor, whole_part}
use Rattle.run_answers.specs.Raising.{RaisesAt}
use Rattle.run_answers.specs.Starting.{AnswersBody, AnswersCall}
use Rattle.run_answers.specs.Taking.{AnswersEvent, IsAt, StandsOpen}

-- 1. The machine is made ready for an event that is permitted.

-- the cursor moves to the event, which comes next along the canonical way
pub record MovesTo (old : Machine) (s : Stage) (d : Due) (new : Machine) : Type 0 where
  pub straight : s.straight ≡ true
  pub count : ℕ
  pub due : Bor Due
  pub is : due.now ≡ d
  pub comes : ComesNext old s (Some (count, due))
  pub moved : new ≡ at_cursor old s (min (s.cursor + count) (2 ^ 64 - 1))

-- so it is, or the event is another one that is listed, and the canonical way is left, or was left before
pub record Reaches (old : Machine) (d : Due) (new : Machine) : Type 0 where
  pub stage : Stage
  pub open_so : old.top.stage ≡ Some stage
  pub way : MovesTo old stage d new ⊎ (IsListed (whole_part old stage) d × Strays old stage new true)

-- once the canonical way is left, the machine stands for what it stood for
abbrev pub LeavesStanding : Type 0
LeavesStanding =
    (world : World) (meaning : Option ℕ → Meaning) (old new : Machine) (st : State) (e : Begun) (s : Stage) → StandsOpen world meaning old st e
    → old.top.stage ≡ Some s → s.straight ≡ true → LeavesWay old s new → StandsOpen world meaning new st e

-- 2. What is answered.

-- The event of this place is taken. The machine from which it is stands for whatever the one before stood for, and has touched nothing yet; along the
-- canonical way the event comes next there, off it the event is listed. What it gives is what is promised of an event to which such a machine has gone on.
pub record TakesFrom (old : Machine) (u : Place) (new : Machine) (r : Result Pick Halt) : Type 0 where
  pub from : Machine
  pub now : Machine
  pub stage : Stage
  pub due : Due
  pub place : due.place ≡ u
  pub stands : (world : World) (meaning : Option ℕ → Meaning) (st : State) (e : Begun) → StandsOpen world meaning old st e
      → StandsOpen world meaning from st e
  pub open_so : from.top.stage ≡ Some stage
  pub listed : stage.straight ≡ false → IsListed (whole_part from stage) due
  pub untouched : from.items ≡ []
  pub goes : IsAt stage.straight from stage due now
  pub events : AnswersEvent due now new r
  pub bodies : AnswersBody due now new r
  pub calls : AnswersCall due now new r
  pub libraries : AnswersLibrary due now new r
  pub raised : RaisesAt now due r

-- where there is no want of memory
abbrev pub TakesSo : Machine → Place → Machine → Result (Option Pick) Halt → Type 0
TakesSo old u new (Ok None) = Unit {0}
TakesSo old u new (Ok (Some pick)) = TakesFrom old u new (Ok pick)
TakesSo old u new (Err halt.NoMemory) = Unit {0}
TakesSo old u new (Err e) = TakesFrom old u new (Err e)

-- The rows of objects stay whatever a pick does, in any world that the machine stands in before it (own).
use Rattle.std.specs.Prelude.{◌≡◌, ℕ, [], Option, Result, Ok, Err}
use Rattle.c_typed.specs.declared.tree.Place.{Place}
use Rattle.mem_objects.specs.Keeps.{RowsStay}
use Rattle.c_model.specs.Runs.{State, canonical_pick}
use Rattle.c_model.specs.Steps.{Begun, Ev}
use Rattle.c_model.specs.World.{World}
use Rattle.run_control.specs.View.{Meaning}
use Rattle.run_control.specs.declared.work.Step.{Step}
use Rattle.run_layout.specs.declared.steps.Due.{Due}
use Rattle.run_layout.specs.declared.steps.Expression.{Expression}
use Rattle.run_state.specs.declared.halt.Halt.{Halt}
use Rattle.run_state.specs.declared.halt.Halt.TheVariants as halt
use Rattle.run_state.specs.declared.machine.Machine.{Machine}
use Rattle.run_state.specs.declared.machine.Stage.{Stage}
use Rattle.run_state.specs.Stands.{Stands}
use Rattle.run_answers.specs.declared.pick.Pick.{Pick}
use Rattle.run_answers.specs.Answering.{HasTaken, MayGoOn}
use Rattle.run_answers.specs.Library.{MayCallLibrary, MayCallLibraryNext}
use Rattle.run_answers.specs.Starting.{MayCall, MayCallNext, MayStart, MayStartNext}
use Rattle.run_answers.specs.Taking.{MayTake, MayTakeNext}

-- 1. What stays.

-- each row of the memory
abbrev pub KeepsRows : (old new : Machine) → Type 0
KeepsRows old new = RowsStay old.memory.rows new.memory.rows

-- the memory, where something is answered; else memory is wanted
abbrev pub KeepsMemory : {A : Type 0} → (old new : Machine) → Result A Halt → Type 0
KeepsMemory old new (Ok answer) = new.memory ≡ old.memory
KeepsMemory old new (Err h) = h ≡ halt.NoMemory

-- each row, whatever is answered but want of memory
abbrev pub KeepsAnswered : {A : Type 0} → (old new : Machine) → Result A Halt → Type 0
KeepsAnswered old new (Ok answer) = KeepsRows old new
KeepsAnswered old new (Err halt.Unplaced) = KeepsRows old new
KeepsAnswered old new (Err (halt.Raised event line clause)) = KeepsRows old new
KeepsAnswered old new (Err (halt.Over cause number)) = KeepsRows old new
KeepsAnswered old new (Err halt.NoMemory) = Unit {0}

-- .. and no clause is raised
abbrev pub KeepsTaken : {A : Type 0} → (old new : Machine) → Result A Halt → Type 0
KeepsTaken old new (Err (halt.Raised event line clause)) = ⊥
KeepsTaken old new (Ok answer) = KeepsRows old new
KeepsTaken old new (Err halt.Unplaced) = KeepsRows old new
KeepsTaken old new (Err (halt.Over cause number)) = KeepsRows old new
KeepsTaken old new (Err halt.NoMemory) = Unit {0}

-- 2. Control steps, which raise no clause.

-- one that was taken off what is left to do
abbrev pub GrowsByStep : Step → (old new : Machine) → Result (Option ℕ) Halt → Type 0
GrowsByStep s old new r = (world : World) (meaning : Option ℕ → Meaning) (st : State) → HasTaken world meaning s old st → KeepsTaken old new r

-- one of a machine that has touched nothing yet
abbrev pub GrowsByControl : {A : Type 0} → (old new : Machine) → Result A Halt → Type 0
GrowsByControl old new r = (world : World) (meaning : Option ℕ → Meaning) (st : State) → Stands world meaning old st → MayGoOn world old st
    → old.items ≡ [] → KeepsTaken old new r

-- 3. Events.

-- An event to which a machine has gone on: one that isn't a body, the body of a call of a library function, of an isolated initializer, and of a call of a
-- function that the program defines.
pub record GrowsAt (d : Due) (now new : Machine) (r : Result Pick Halt) : Type 0 where
  pub events : (world : World) (meaning : Option ℕ → Meaning) (m : Machine) (st : State) (e : Begun) (s : Stage) (laid : Expression)
      → MayTake world meaning m st e s laid d now → KeepsAnswered m new r
  pub libraries : (world : World) (meaning : Option ℕ → Meaning) (m : Machine) (st : State) (e : Begun) (s : Stage) (laid : Expression)
      → MayCallLibrary world meaning m st e s laid d now → KeepsAnswered m new r
  pub bodies : (world : World) (meaning : Option ℕ → Meaning) (m : Machine) (st : State) (e : Begun) (s : Stage)
      → MayStart world meaning m st e s d now → KeepsAnswered m new r
  pub calls : (world : World) (meaning : Option ℕ → Meaning) (m : Machine) (st : State) (e : Begun) (s : Stage)
      → MayCall world meaning m st e s d now → KeepsAnswered m new r

-- 4. The canonical pick: a control step, or an event.
pub record GrowsNext (old new : Machine) (r : Result Pick Halt) : Type 0 where
  pub steps : (world : World) (meaning : Option ℕ → Meaning) (st : State) → Stands world meaning old st → MayGoOn world old st → KeepsTaken old new r
  pub events : (world : World) (meaning : Option ℕ → Meaning) (st : State) (e : Begun) (s : Stage) (laid : Expression) (u : Place)
      → MayTakeNext world meaning old st e s laid → canonical_pick world st.top st.top.begun ≡ Ev u → KeepsAnswered old new r
  pub libraries : (world : World) (meaning : Option ℕ → Meaning) (st : State) (e : Begun) (s : Stage) (laid : Expression) (u : Place)
      → MayCallLibraryNext world meaning old st e s laid → canonical_pick world st.top st.top.begun ≡ Ev u → KeepsAnswered old new r
  pub bodies : (world : World) (meaning : Option ℕ → Meaning) (st : State) (e : Begun) (s : Stage) (u : Place)
      → MayStartNext world meaning old st e s → canonical_pick world st.top st.top.begun ≡ Ev u → KeepsAnswered old new r
  pub calls : (world : World) (meaning : Option ℕ → Meaning) (st : State) (e : Begun) (s : Stage) (u : Place)
      → MayCallNext world meaning old st e s → canonical_pick world st.top st.top.begun ≡ Ev u → KeepsAnswered old new r

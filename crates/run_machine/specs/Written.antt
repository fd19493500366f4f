-- Where a pick raises a clause or passes a limit, nothing was written (own).
use Rattle.std.specs.Prelude.{◌≡◌, Result, Ok, Err}
use Rattle.run_state.specs.declared.halt.Halt.{Halt}
use Rattle.run_state.specs.declared.halt.Halt.TheVariants as halt
use Rattle.run_state.specs.declared.machine.Machine.{Machine}

-- the streams stay where a clause is raised or a limit is passed
abbrev pub KeepsStreams : {A : Type 0} → (old new : Machine) → Result A Halt → Type 0
KeepsStreams old new (Ok answer) = Unit {0}
KeepsStreams old new (Err (halt.Raised event line clause)) = new.streams ≡ old.streams
KeepsStreams old new (Err (halt.Over cause number)) = new.streams ≡ old.streams
KeepsStreams old new (Err halt.Unplaced) = Unit {0}
KeepsStreams old new (Err halt.NoMemory) = Unit {0}

-- Why an act isn't done.
use Rattle.std.specs.Prelude.{ℕ}
use Rattle.ub_base.specs.declared.names.Event.{Event}
use Rattle.mem_objects.specs.declared.answer.MemFault.{MemFault}
use Rattle.mem_objects.specs.declared.answer.MemFault.TheVariants as faults
use Rattle.run_state.specs.declared.halt.Halt.{Halt}
use Rattle.run_state.specs.declared.halt.Halt.TheVariants as halt
use Rattle.run_answers.specs.declared.fault.Fault.{Fault}
use Rattle.run_answers.specs.declared.fault.Fault.TheVariants.{Raise, Over, Unplaced, NoMemory}

-- the fault of a call of the memory
abbrev pub fault_of : MemFault → Fault
fault_of (faults.Raise c) = Raise c
fault_of faults.NoMemory = NoMemory

-- the pick isn't taken for the reason that the act of this event, of a node in this line, isn't done
abbrev pub halt_by : Event → (line : ℕ) → Fault → Halt
halt_by event line (Raise c) = halt.Raised event line c
halt_by event line (Over cause number) = halt.Over cause number
halt_by event line Unplaced = halt.Unplaced
halt_by event line NoMemory = halt.NoMemory

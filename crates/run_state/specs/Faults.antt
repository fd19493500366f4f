-- Why a pick isn't taken whose object isn't created (own).
use Rattle.mem_objects.specs.declared.answer.CreateFault.{CreateFault}
use Rattle.mem_objects.specs.declared.answer.CreateFault.TheVariants as fault
use Rattle.run_state.specs.declared.halt.Halt.{Halt}
use Rattle.run_state.specs.declared.halt.Halt.TheVariants as halt

abbrev pub halt_of : CreateFault → Halt
halt_of fault.Unplaced = halt.Unplaced
halt_of fault.NoMemory = halt.NoMemory

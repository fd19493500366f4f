-- So many first arguments have their values.
use Rattle.run_events.proofs.Library.{FirstArguments}
use Rattle.run_events.proofs.frames.arguments_of.Given as goal

abbrev pub invariant-loop-operand : goal.invariant-loop-operand
invariant-loop-operand l = FirstArguments l.fn.machine l.fn.call.arguments.items l.operand-index l.arguments

-- Only the values change; so many first operands have passed theirs.
use Rattle.std.proofs.Common.{◌≡◌}
use Rattle.run_answers.specs.Opens.{PassesFirst}
use Rattle.run_events.proofs.frames.pass_arguments.Given as goal

abbrev pub invariant-loop-operand : goal.invariant-loop-operand
invariant-loop-operand l = record {
  rest : l.machine ≡ record l.fn.machine { values = l.machine.values };
  passes : PassesFirst l.fn.machine l.operands l.room l.operand-index l.at l.machine;
}

-- The work stays, and the objects before the loop's place have died.
use Rattle.std.proofs.Common.{◌≡◌}
use Rattle.run_answers.specs.Leaving.{HaveDied}
use Rattle.run_machine.proofs.control.leave.Given as goal

abbrev pub invariant-loop-object : goal.invariant-loop-object
invariant-loop-object l = record {
  work : l.machine.work ≡ l.fn.machine.work;
  died : HaveDied l.fn.machine l.block.first l.object l.machine;
}

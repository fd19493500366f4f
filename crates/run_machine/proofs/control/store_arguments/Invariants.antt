-- The work stays, the number is that of the loop's place, and the objects before it have taken their arguments.
use Rattle.std.proofs.Common.{◌≡◌, ◌-◌, ◌^◌, length, min}
use Rattle.run_answers.specs.Passing.{CanPassAll, HavePassed}
use Rattle.run_answers.specs.Keeping.{FillsObjects}
use Rattle.run_machine.proofs.control.store_arguments.Given as goal

abbrev pub invariant-loop-object : goal.invariant-loop-object
invariant-loop-object l = record {
  work : l.machine.work ≡ l.fn.machine.work;
  number : l.number ≡ min l.object-index (2 ^ 32 - 1);
  passed : CanPassAll l.fn.machine l.first (length l.objects) → HavePassed l.fn.machine l.objects l.first l.object-index l.machine;
  fills : FillsObjects l.fn.machine l.machine;
}

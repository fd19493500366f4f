-- The work stays, the number is that of the loop's place, and the objects before it are new.
use Rattle.std.proofs.Common.{◌≡◌, ◌-◌, ◌^◌, length, min}
use Rattle.run_answers.specs.Entering.{AreNew, CanBear}
use Rattle.run_answers.specs.Keeping.{FillsObjects}
use Rattle.run_machine.proofs.control.create_objects.Given as goal

abbrev pub invariant-loop-object : goal.invariant-loop-object
invariant-loop-object l = record {
  work : l.machine.work ≡ l.fn.machine.work;
  number : l.number ≡ min l.object-index (2 ^ 32 - 1);
  born : CanBear l.fn.machine l.first (length l.objects) → AreNew l.fn.machine l.objects l.first l.object-index l.machine;
  fills : FillsObjects l.fn.machine l.machine;
}

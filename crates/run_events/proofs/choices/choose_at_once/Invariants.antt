-- The work stays, and the operands before the loop's place were chosen.
use Rattle.std.proofs.Common.{◌≡◌, take}
use Rattle.run_answers.specs.Choices.{HasChosen}
use Rattle.run_events.proofs.choices.choose_at_once.Given as goal

abbrev pub invariant-loop-node : goal.invariant-loop-node
invariant-loop-node l = record {
  work : l.machine.work ≡ l.fn.machine.work;
  chosen : HasChosen l.fn.machine (take l.node-index l.chosen) l.machine;
}

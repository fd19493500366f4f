use Rattle.std.proofs.Common.{◌∙◌}
use Rattle.run_machine.proofs.Ahead.{completed_here}
use Rattle.run_machine.proofs.picks.completed.Goals as goal

pub returns-in-Some-event_ahead : goal.returns-in-Some-event_ahead
returns-in-Some-event_ahead c = record {
  noted = λ s b stage top.
      c.completed_before.ensures
      ∙ completed_here c.args.due.now c.args.machine.now s c.in-Some-true.stage b c.in-Some.parent c.in-Some-event_ahead.place c.in-Some-true.is-0 stage
      c.in-Some-true.is-1 c.in-Some.is c.in-Some-event_ahead.ensures;
}

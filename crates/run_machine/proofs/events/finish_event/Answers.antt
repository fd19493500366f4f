use Rattle.std.proofs.Common.{◌∙◌}
use Rattle.run_machine.proofs.RowsStand.{noted_memory}
use Rattle.run_machine.proofs.events.finish_event.Goals as goal

pub returns-clause-memory : goal.returns-clause-memory
returns-clause-memory c =
    c.in_ok-choose_at.ensures.memory ∙ noted_memory c.args.machine.now c.note.new.machine c.args.due.now.place c.in_ok-note.ensures.notes

use Rattle.run_machine.proofs.Keeping.{further_ended}
use Rattle.run_machine.proofs.Returning.{end_answers}
use Rattle.run_machine.proofs.RowsStand.{ended_memory}
use Rattle.run_machine.proofs.frames.end_frame.Goals as goal

pub returns-clause-answers : goal.returns-clause-answers
returns-clause-answers c =
    end_answers c.law_cursor.ensures.ends c.args.machine.now c.close_frame.new.machine c.close_frame.result c.close_frame.ensures.ends
    c.close_frame.ensures.work

pub returns-clause-further : goal.returns-clause-further
returns-clause-further c = further_ended c.args.machine.now c.close_frame.new.machine c.close_frame.result c.close_frame.ensures.ends

pub returns-clause-memory : goal.returns-clause-memory
returns-clause-memory c = ended_memory c.args.machine.now c.close_frame.new.machine c.close_frame.result c.close_frame.ensures.ends

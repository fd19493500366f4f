use Rattle.std.proofs.Common.{refl, rules}
use Rattle.run_machine.proofs.Returning.{went_back}
use Rattle.run_machine.proofs.frames.close_frame.Goals as goal

pub returns-clause-ends : goal.returns-clause-ends
returns-clause-ends c =
    went_back c.args.machine.now c.finish.new.self c.result_of-value.new.machine _ c.keep.new.self c.note.new.machine c.in-Some.open _ c.result_of-value.result
    c.result_of-value.ensures refl (search (rules, c.in-Some.ensures.items)) c.keep.ensures.rest refl c.keep.ensures.room c.keep.ensures.others
    c.keep.ensures.count
    c.in_ok-note.ensures.notes

use Rattle.std.proofs.lemmas.Result.{err_from_is_err_and}
use Rattle.run_events.proofs.Library.{calls_so, wants_memory, written_so}
use Rattle.run_events.proofs.frames.call_library.Goals as goal

pub returns-in_err-arguments-clause-library : goal.returns-in_err-arguments-clause-library
returns-in_err-arguments-clause-library c =
    let p = err_from_is_err_and c.from_residual.result c.from_residual.ensures.1 in
    rw (p.1, p.2) (wants_memory c.args.machine.now c.args.library c.args.call.now.arguments.items c.args.call.now.types c.args.event)

pub returns : goal.returns
returns c = record {
  library = calls_so c.args.machine.now c.answer_of-answer.new.machine c.take_answer.new.machine c.args.library c.args.call.now.arguments.items
      c.args.call.now.types c.args.event c.in_ok-arguments.arguments c.answer_of-answer.result c.take_answer.result c.in_ok-arguments.ensures
      c.answer_of-answer.ensures.rest c.answer_of-answer.ensures.exact c.take_answer.ensures;
  streams = written_so c.args.machine.now c.answer_of-answer.new.machine c.take_answer.new.machine c.answer_of-answer.result c.args.event.node
      c.take_answer.result c.answer_of-answer.ensures.streams c.take_answer.ensures;
}

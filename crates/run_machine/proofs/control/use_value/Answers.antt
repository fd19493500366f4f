use Rattle.run_machine.proofs.Settling.{used_ok}
use Rattle.run_machine.proofs.control.use_value.Goals as goal

pub returns-clause-used : goal.returns-clause-used
returns-clause-used c =
    used_ok c.settle.result c.args.machine.now c.keep_result.new.machine c.settle.new.self c.args.how c.args.operand c.truth-truth.result
    c.in_ok-keep_result.ensures.rest c.in_ok-keep_result.ensures.left c.truth-truth.ensures c.settle.ensures.below c.settle.ensures.now

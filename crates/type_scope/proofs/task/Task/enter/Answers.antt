use Rattle.std.proofs.Common.{map, reverse}
use Rattle.type_scope.specs.Working.{block_seen, task_seen}
use Rattle.type_scope.proofs.Blocks.{given_err}
use Rattle.type_scope.proofs.task.Task.enter.Goals as goal

pub returns-in_err-push-clause-err : goal.returns-in_err-push-clause-err
returns-in_err-push-clause-err c =
    given_err c.from_residual.result (λ was. λ i. record (task_seen c.args.self.now was) {
      open_blocks = reverse (map block_seen (c.in_err-push.ensures.items i));
    })

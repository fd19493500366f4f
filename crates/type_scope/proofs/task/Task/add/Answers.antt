use Rattle.std.proofs.Common.{refl}
use Rattle.std.proofs.lemmas.Result.{on_ok_weaker}
use Rattle.c_types.specs.Types.{qualified_of}
use Rattle.typing_env.specs.Tasks.{another_object, one_object}
use Rattle.type_scope.specs.Working.{task_seen}
use Rattle.type_scope.proofs.Blocks.{changed_is}
use Rattle.type_scope.proofs.task.Task.add.Goals as goal

pub returns-in-Some-clause-ok : goal.returns-in-Some-clause-ok
returns-in-Some-clause-ok c =
    let blocks = (c.args.self.now).open_blocks in
    on_ok_weaker c.add.result (λ e. λ was.
    λ i. record (another_object (qualified_of c.args.qual) (task_seen c.args.self.now was)) {
      open_blocks =
          changed_is (one_object (qualified_of c.args.qual)) blocks.items blocks.len c.in-Some.block.now c.add.new.self blocks.ok.0
          (c.in-Some.ensures.variant.0 refl) c.in-Some.ensures.value e i;
    }) c.add.ensures.ok

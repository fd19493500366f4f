use Rattle.std.proofs.Common.{refl}
use Rattle.c_types.specs.Types.{qualified_of}
use Rattle.typing_env.specs.Tasks.{retyped_task, retyped_object}
use Rattle.type_scope.specs.Working.{task_seen}
use Rattle.type_scope.proofs.Blocks.{changed_is}
use Rattle.type_scope.proofs.task.Task.complete.Goals as goal

pub returns-in-Some-clause-completed : goal.returns-in-Some-clause-completed
returns-in-Some-clause-completed c was =
    let blocks = (c.args.self.now).open_blocks in
    λ i. record (retyped_task c.args.decl (qualified_of c.args.qual) (task_seen c.args.self.now was)) {
      open_blocks =
          changed_is (retyped_object c.args.decl (qualified_of c.args.qual)) blocks.items blocks.len c.in-Some.block.now c.complete.new.self blocks.ok.0
          (c.in-Some.ensures.variant.0 refl) c.in-Some.ensures.value c.complete.ensures i;
    }

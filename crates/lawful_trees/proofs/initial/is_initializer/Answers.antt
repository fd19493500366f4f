use Rattle.c_typed.specs.Sites.{no_block}
use Rattle.lawful_trees.specs.Places.{blocks_of}
use Rattle.lawful_trees.proofs.Listed.{initializes}
use Rattle.lawful_trees.proofs.initial.is_initializer.Goals as goal

pub returns-then-initializing : goal.returns-then-initializing
returns-then-initializing c = λ h.
    initializes c.args.program.now (blocks_of no_block c.args.around.now) c.args.tree.now c.in-Assign.initializing c.in-Assign.access
    c.as_slice-operands.result.now
    c.in-Assign.is c.if-initializing.true c.as_slice-operands.ensures (c.gives_whole.ensures h c.args.program.now)

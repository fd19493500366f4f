use Rattle.c_typed.specs.Sites.{no_block}
use Rattle.lawful_trees.proofs.Blocks.{blocks_of-at}
use Rattle.lawful_trees.proofs.names.block_at.Goals as goal

pub loop-block-init : goal.loop-block-init
loop-block-init c = blocks_of-at no_block c.args.number c.args.around.now

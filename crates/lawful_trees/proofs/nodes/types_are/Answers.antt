use Rattle.c_typed.specs.Sites.{no_block}
use Rattle.lawful_trees.specs.Places.{blocks_of}
use Rattle.lawful_trees.proofs.Heads.{head_at-Call, head_at-List}
use Rattle.lawful_trees.proofs.nodes.types_are.Goals as goal

pub returns-in-Call : goal.returns-in-Call
returns-in-Call c =
    rw (head_at-Call c.args.node.now c.in-Call.discarded c.in-Call.is) (λ h. c.call_types.ensures h (blocks_of no_block c.args.around.now) c.in-Call.discarded)

pub returns-in-List : goal.returns-in-List
returns-in-List c =
    rw (head_at-List c.args.node.now c.in-List.object c.in-List.bytes c.in-List.is)
    (λ h. c.list_types.ensures h c.args.program.now (blocks_of no_block c.args.around.now) c.in-List.object c.in-List.bytes)

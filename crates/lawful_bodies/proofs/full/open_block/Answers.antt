use Rattle.std.proofs.Common.{ap, ◌∙◌, map}
use Rattle.c_types.specs.Types.{qualified_of}
use Rattle.c_typed.specs.Sites.{inside, no_block}
use Rattle.lawful_trees.specs.Places.{blocks_of, blocks_of-last}
use Rattle.lawful_bodies.proofs.full.open_block.Goals as goal

pub returns-in-Ok-clause-blocks : goal.returns-in-Ok-clause-blocks
returns-in-Ok-clause-blocks c =
    ap (blocks_of no_block) c.in-Ok.ensures.items ∙ (blocks_of-last no_block c.args.place.now.around.items _
    ∙ ap (λ z. inside c.args.block.now.number (map qualified_of z) (blocks_of no_block c.args.place.now.around.items)) c.as_slice-objects.ensures)

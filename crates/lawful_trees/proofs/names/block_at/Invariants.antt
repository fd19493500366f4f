use Rattle.std.proofs.Common.{◌≡◌, drop}
use Rattle.c_typed.specs.Sites.{no_block}
use Rattle.lawful_trees.specs.Places.{blocks_of, block_seen}
use Rattle.lawful_trees.proofs.Blocks.{block_from}
use Rattle.lawful_trees.proofs.names.block_at.Given as goal

-- what is found and what is left give the block
abbrev pub invariant-loop-block : goal.invariant-loop-block
invariant-loop-block l = block_from (block_seen l.found) l.number (drop l.block-index l.around) ≡ (blocks_of no_block l.around).objects l.number

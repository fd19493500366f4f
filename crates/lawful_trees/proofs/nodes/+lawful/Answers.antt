use Rattle.std.proofs.Common.{arith}
use Rattle.c_typed.specs.Lawful.{SiteIsLawful}
use Rattle.c_typed.specs.Sites.{no_block}
use Rattle.lawful_trees.specs.Places.{blocks_of}
use Rattle.lawful_trees.proofs.Trees.{All-sites, All-sites_of}
use Rattle.lawful_trees.proofs.nodes.+lawful.Goals as goal

pub are_lawful-loop-tree-preserved : goal.are_lawful-loop-tree-preserved
are_lawful-loop-tree-preserved t c = λ rest.
    c.loop-tree.invariant
    (All-sites_of (SiteIsLawful c.args.program.now (blocks_of no_block c.args.around.now)) c.args.trees.now c.loop-tree.tree-index c.tree-item.result
    (omega arith) c.tree-item.is (c.is_lawful_tree.ensures cc) rest)

pub is_lawful_tree-returns-then-is_lawful_inside : goal.is_lawful_tree-returns-then-is_lawful_inside
is_lawful_tree-returns-then-is_lawful_inside t c = λ h.
    All-sites (SiteIsLawful c.args.program.now (blocks_of no_block c.args.around.now)) c.args.tree.now c.as_slice-operands.result.now
    c.as_slice-operands.ensures
    (c.is_lawful_node.ensures c.if-not-is_lawful_node.false) (c.is_lawful_inside.ensures c.if-is_lawful_inside.true) (c.are_lawful.ensures h)

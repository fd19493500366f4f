use Rattle.std.proofs.Common.{drop}
use Rattle.std.specs.List.{All}
use Rattle.c_typed.specs.Lawful.{SiteIsLawful}
use Rattle.c_typed.specs.Sites.{no_block}
use Rattle.lawful_trees.specs.Places.{blocks_of}
use Rattle.lawful_trees.specs.Views.{sites_of}
use Rattle.lawful_trees.proofs.nodes.+lawful.Given as goal

-- where the trees that are left are lawful, all are
abbrev pub invariant-are_lawful-loop-tree : goal.invariant-are_lawful-loop-tree
invariant-are_lawful-loop-tree l =
    All (SiteIsLawful l.program (blocks_of no_block l.around)) (sites_of (drop l.tree-index l.trees)) →
    All (SiteIsLawful l.program (blocks_of no_block l.around)) (sites_of l.trees)

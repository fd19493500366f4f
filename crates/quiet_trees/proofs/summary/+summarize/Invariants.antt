use Rattle.std.proofs.Common.{◌≡◌, drop}
use Rattle.c_typed.specs.Tree.{tree_of, trees_of}
use Rattle.quiet_trees.specs.Loads.{loads_of, loads_of_list}
use Rattle.quiet_trees.specs.Summaries.{summaries_of, summary_of, topped}
use Rattle.quiet_trees.proofs.summary.+summarize.Given as goal

-- what is joined and what is left make the whole
abbrev pub invariant-loop-t : goal.invariant-loop-t
invariant-loop-t l =
    topped l.class l.load (summaries_of l.class l.below (trees_of (drop l.t-index l.t-items)) (loads_of_list (drop l.t-index l.t-items)))
    ≡ summary_of (tree_of l.root) (loads_of l.root)

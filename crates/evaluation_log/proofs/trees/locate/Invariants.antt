-- What is found among the operands that are left is what is found.
use Rattle.std.proofs.Common.{◌≡◌, ◌+◌, ◌-◌, ◌^◌, min, drop}
use Rattle.c_typed.specs.Tree.{tree_of, trees_of, operands}
use Rattle.evaluation_log.specs.Ways.{spot_among}
use Rattle.evaluation_log.proofs.trees.locate.Given as goal

abbrev pub invariant-loop-index : goal.invariant-loop-index
invariant-loop-index l =
    spot_among l.index l.number (trees_of (drop l.index l.operand-items)) l.node ≡ spot_among 0 (min (l.k + 1) (2 ^ 32 - 1)) (operands (tree_of l.tree)) l.node

-- What is found among the operands that are left is what is found.
use Rattle.std.proofs.Common.{◌≡◌, ◌+◌, ◌-◌, ◌^◌, min, drop}
use Rattle.c_typed.specs.Tree.{tree_of, trees_of, operands}
use Rattle.evaluation_log.specs.Sides.{right_spot}
use Rattle.evaluation_log.proofs.trees.first_behind.Given as goal

abbrev pub invariant-loop-operand : goal.invariant-loop-operand
invariant-loop-operand l =
    right_spot l.number (trees_of (drop l.operand-index l.operand-items)) l.node ≡ right_spot (min (l.k + 1) (2 ^ 32 - 1)) (operands (tree_of l.tree)) l.node

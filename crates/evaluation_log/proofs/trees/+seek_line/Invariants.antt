-- The line is sought among the operands that are left.
use Rattle.std.proofs.Common.{◌≡◌, map, drop}
use Rattle.evaluation_log.specs.Ruled.{joined, lines_of, sought_line}
use Rattle.evaluation_log.proofs.trees.+seek_line.Given as goal

abbrev pub invariant-loop-operand : goal.invariant-loop-operand
invariant-loop-operand l = sought_line l.left (joined (map lines_of (drop l.operand-index l.operand-items))) ≡ sought_line l.node (lines_of l.tree)

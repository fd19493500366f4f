use Rattle.std.proofs.Common.{◌≡◌, ◌<◌, ◌+◌, ◌-◌, ◌^◌, min, length, drop}
use Rattle.c_typed.specs.Sites.{sites}
use Rattle.lawful_trees.specs.Views.{sites_of}
use Rattle.lawful_trees.proofs.nodes.+count_nodes.Given as goal

-- what is counted and what is left make the whole
abbrev pub invariant-loop-operand : goal.invariant-loop-operand
invariant-loop-operand l =
    (l.sum < 2 ^ 64) × (min (l.sum + length (sites_of (drop l.operand-index l.operand-items))) (2 ^ 64 - 1) ≡ min (length (sites l.tree)) (2 ^ 64 - 1))

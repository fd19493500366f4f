use Rattle.std.proofs.Common.{◌≡◌, map, drop}
use Rattle.static_places.specs.Preorder.{joined, nodes_of}
use Rattle.static_places.specs.Fixed.{sought}
use Rattle.static_places.proofs.places.+seek.Given as goal

-- what is left is sought in the operands that are left
abbrev pub invariant-loop-operand : goal.invariant-loop-operand
invariant-loop-operand l =
    sought l.p l.function l.left (joined (map nodes_of (drop l.operand-index l.operand-items))) ≡ sought l.p l.function l.node (nodes_of l.tree)

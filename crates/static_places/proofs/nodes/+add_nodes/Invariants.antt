use Rattle.std.proofs.Common.{◌≡◌, ◌+◌, ◌++◌, map, drop, length}
use Rattle.c_typed.specs.Tree.{tree_of, trees_of, size, sizes}
use Rattle.static_places.specs.Preorder.{joined, nodes_of, trees_at}
use Rattle.static_places.proofs.nodes.+add_nodes.Given as goal

-- the nodes so far, and those of the operands that are left
abbrev pub invariant-loop-operand : goal.invariant-loop-operand
invariant-loop-operand l = record {
  nodes : trees_at l.nodes.items ++ joined (map nodes_of (drop l.operand-index l.operand-items)) ≡ trees_at l.fn.nodes.items ++ nodes_of l.tree;
  count : length l.nodes.items + sizes (trees_of (drop l.operand-index l.operand-items)) ≡ length l.fn.nodes.items + size (tree_of l.tree);
}

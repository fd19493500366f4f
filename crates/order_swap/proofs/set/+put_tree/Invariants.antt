use Rattle.std.proofs.Common.{◌+◌, ◌<◌, ◌^◌, drop}
use Rattle.c_typed.specs.Tree.{tree_of, trees_of, size}
use Rattle.order_swap.proofs.Places.{Putting}
use Rattle.order_swap.proofs.set.+put_tree.Given as goal

abbrev pub invariant-loop-operand : goal.invariant-loop-operand
invariant-loop-operand l =
    l.number + size (tree_of l.tree) < 2 ^ 32 →
    Putting l.number (tree_of l.tree) l.fn.places.items l.places.items l.next (trees_of (drop l.operand-index l.operand-items))

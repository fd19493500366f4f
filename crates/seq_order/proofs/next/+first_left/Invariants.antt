use Rattle.std.proofs.Common.{◌+◌, ◌<◌, ◌^◌, drop}
use Rattle.c_typed.specs.Tree.{tree_of, trees_of, size}
use Rattle.seq_order.specs.Marked.{taken_in, done_in}
use Rattle.seq_order.specs.Walks.{is_left}
use Rattle.seq_order.proofs.Walks.{Walking}
use Rattle.seq_order.proofs.next.+first_left.Given as goal

abbrev pub invariant-loop-i : goal.invariant-loop-i
invariant-loop-i l =
    l.k + size (tree_of l.tree) < 2 ^ 32 → Walking (is_left (done_in l.done)) (taken_in l.taken) l.k (tree_of l.tree) l.i l.number
    (trees_of (drop l.i l.operand-items))

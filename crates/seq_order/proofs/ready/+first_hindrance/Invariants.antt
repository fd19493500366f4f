use Rattle.std.proofs.Common.{◌+◌, ◌<◌, ◌^◌, drop}
use Rattle.c_typed.specs.Tree.{tree_of, trees_of, size}
use Rattle.seq_order.specs.Marked.{taken_in, done_in}
use Rattle.seq_order.specs.Walks.{hinders}
use Rattle.seq_order.proofs.Walks.{Walking}
use Rattle.seq_order.proofs.ready.+first_hindrance.Given as goal

abbrev pub invariant-loop-i : goal.invariant-loop-i
invariant-loop-i l =
    size (tree_of l.root) < 2 ^ 32 → l.k + size (tree_of l.tree) < 2 ^ 32 →
    Walking (hinders (tree_of l.root) (taken_in l.taken) (done_in l.done) l.p) (taken_in l.taken) l.k (tree_of l.tree) l.i l.number
    (trees_of (drop l.i l.operand-items))

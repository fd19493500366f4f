use Rattle.std.proofs.Common.{◌+◌, ◌<◌, ◌^◌, drop}
use Rattle.c_typed.specs.Tree.{tree_of, trees_of, size}
use Rattle.seq_order.specs.Marked.{taken_in, done_in}
use Rattle.seq_order.proofs.Openings.{Opening}
use Rattle.seq_order.proofs.next.+update_is_open.Given as goal

abbrev pub invariant-loop-i : goal.invariant-loop-i
invariant-loop-i l =
    l.k + size (tree_of l.tree) < 2 ^ 32 → Opening (taken_in l.taken) (done_in l.done) l.k (tree_of l.tree) l.i l.number (trees_of (drop l.i l.operand-items))

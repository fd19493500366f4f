use Rattle.std.proofs.Common.{◌≡◌, ◌++◌, ◌<◌, ◌^◌, drop}
use Rattle.c_typed.specs.Tree.{tree_of, size as nodes_of}
use Rattle.seq_order.specs.Marked.{taken_in}
use Rattle.order_swap.specs.Sets.{put_of}
use Rattle.order_swap.proofs.set.put_first.Given as goal

-- what is put and what is left make the whole
abbrev pub invariant-loop-place : goal.invariant-loop-place
invariant-loop-place l =
    nodes_of (tree_of l.root) < 2 ^ 32
    → l.wanted.items ++ put_of (taken_in l.taken) (tree_of l.root) l.pair (drop l.place-index l.places)
    ≡ l.fn.wanted.items ++ put_of (taken_in l.taken) (tree_of l.root) l.pair l.places

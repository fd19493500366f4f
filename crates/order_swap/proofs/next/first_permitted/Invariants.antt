use Rattle.std.proofs.Common.{◌≡◌, ◌<◌, ◌^◌, drop}
use Rattle.c_typed.specs.Tree.{tree_of, size}
use Rattle.c_typed.specs.Decide.{is_permitted, first_place}
use Rattle.seq_order.specs.Marked.{taken_in, done_in}
use Rattle.order_swap.proofs.next.first_permitted.Given as goal

-- none so far is permitted
abbrev pub invariant-loop-place : goal.invariant-loop-place
invariant-loop-place l =
    size (tree_of l.root) < 2 ^ 32 →
    first_place (is_permitted (tree_of l.root) (taken_in l.taken) (done_in l.done)) (drop l.place-index l.wanted)
    ≡ first_place (is_permitted (tree_of l.root) (taken_in l.taken) (done_in l.done)) l.wanted

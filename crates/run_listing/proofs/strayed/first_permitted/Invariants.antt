use Rattle.std.proofs.Common.{length, ◌<◌, ◌^◌}
use Rattle.c_typed.specs.Tree.{tree_of, size}
use Rattle.c_typed.specs.Decide.{is_permitted}
use Rattle.seq_order.specs.Marked.{taken_in, done_in}
use Rattle.run_listing.proofs.Seeking.{SeeksWhere}
use Rattle.run_listing.proofs.strayed.first_permitted.Given as goal

-- the first event that is permitted is one of the rest
abbrev pub invariant-loop-at : goal.invariant-loop-at
invariant-loop-at l =
    SeeksWhere (size (tree_of l.root) < 2 ^ 32) (is_permitted (tree_of l.root) (taken_in l.taken) (done_in l.done)) (taken_in l.taken) l.entries l.rest

abbrev pub decreases-loop-at : goal.decreases-loop-at
decreases-loop-at l = length l.rest

use Rattle.std.proofs.Common.{length}
use Rattle.seq_order.specs.Marked.{taken_in, done_in}
use Rattle.seq_order.specs.Walks.{is_left}
use Rattle.run_listing.proofs.Seeking.{SeeksWhere}
use Rattle.run_listing.proofs.strayed.first_left.Given as goal

-- the first event that isn't done is one of the rest
abbrev pub invariant-loop-at : goal.invariant-loop-at
invariant-loop-at l = SeeksWhere (Unit {0}) (is_left (done_in l.done)) (taken_in l.taken) l.entries l.rest

abbrev pub decreases-loop-at : goal.decreases-loop-at
decreases-loop-at l = length l.rest

use Rattle.std.proofs.Common.{length}
use Rattle.c_typed.specs.Order.{has}
use Rattle.seq_order.specs.Marked.{taken_in, done_in}
use Rattle.run_listing.specs.Along.{events_of}
use Rattle.run_listing.proofs.Walked.{Passes}
use Rattle.run_listing.proofs.along.passed.Given as goal

-- what is noted, and what the rest lists
abbrev pub invariant-loop-at : goal.invariant-loop-at
invariant-loop-at l = Passes (done_in l.done) (events_of (taken_in l.taken) l.rest) (has (events_of (taken_in l.taken) l.entries))

abbrev pub decreases-loop-at : goal.decreases-loop-at
decreases-loop-at l = length l.rest

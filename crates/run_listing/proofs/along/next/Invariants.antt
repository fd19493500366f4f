use Rattle.std.proofs.Common.{◌-◌, length}
use Rattle.seq_order.specs.Marked.{taken_in}
use Rattle.run_listing.proofs.Walked.{Left}
use Rattle.run_listing.proofs.along.next.Given as goal

-- what is left of the entries lists what all of them do
abbrev pub invariant-loop-entry : goal.invariant-loop-entry
invariant-loop-entry l = Left (taken_in l.taken) l.entries l.at

abbrev pub decreases-loop-entry : goal.decreases-loop-entry
decreases-loop-entry l = length l.entries - l.at

use Rattle.std.proofs.Common.{length}
use Rattle.lawful_bodies.proofs.parameters.+are_no_arrays.Given as goal

abbrev pub decreases-are_no_arrays : goal.decreases-are_no_arrays
decreases-are_no_arrays l = length l.params.now

-- What is left goes on from here.
use Rattle.std.proofs.Common.{◌≡◌, drop}
use Rattle.cert_check.specs.Parts.{is_within}
use Rattle.cert_check.proofs.verdict.is_within.Given as goal

abbrev pub invariant-loop-segment : goal.invariant-loop-segment
invariant-loop-segment l = is_within l.left (drop l.segment-index l.order) ≡ is_within 100000000 l.order

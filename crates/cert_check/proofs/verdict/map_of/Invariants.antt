-- What is left goes on from here.
use Rattle.std.proofs.Common.{◌≡◌, drop, []}
use Rattle.cert_check.specs.Parts.{added}
use Rattle.cert_check.proofs.verdict.map_of.Given as goal

abbrev pub invariant-loop-row : goal.invariant-loop-row
invariant-loop-row l = added l.map (drop l.row-index l.rows) ≡ added [] l.rows

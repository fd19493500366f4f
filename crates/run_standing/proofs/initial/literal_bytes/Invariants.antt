-- What is counted and what is left make the whole.
use Rattle.std.proofs.Common.{◌≡◌, drop, length, map}
use Rattle.run_standing.specs.Sums.{summed}
use Rattle.run_standing.proofs.initial.literal_bytes.Given as goal

abbrev pub invariant-loop-literal : goal.invariant-loop-literal
invariant-loop-literal l = summed l.sum (map length (drop l.literal-index l.literal-items)) ≡ summed l.before (map length l.p.literals)

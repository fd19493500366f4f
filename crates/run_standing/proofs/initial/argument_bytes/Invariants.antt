-- What is counted and what is left make the whole.
use Rattle.std.proofs.Common.{◌≡◌, drop, map, string_bytes}
use Rattle.run_standing.specs.Sums.{argument_sizes, summed}
use Rattle.run_standing.proofs.initial.argument_bytes.Given as goal

abbrev pub invariant-loop-arg : goal.invariant-loop-arg
invariant-loop-arg l =
    summed l.sum (argument_sizes (map string_bytes (drop l.arg-index l.args))) ≡ summed l.before (argument_sizes (map string_bytes l.args))

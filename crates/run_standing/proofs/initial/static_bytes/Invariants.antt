-- What is counted and what is left make the whole.
use Rattle.std.proofs.Common.{◌≡◌, drop}
use Rattle.run_standing.specs.Sums.{static_sizes, summed}
use Rattle.run_standing.proofs.initial.static_bytes.Given as goal

abbrev pub invariant-loop-object : goal.invariant-loop-object
invariant-loop-object l = summed l.sum (static_sizes l.p.tags (drop l.object-index l.object-items)) ≡ summed 0 (static_sizes l.p.tags l.p.statics)

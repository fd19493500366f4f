use Rattle.std.proofs.Common.{◌≡◌, ◌++◌, reverse}
use Rattle.run_control.specs.Links.{path}
use Rattle.run_control.proofs.links.outwards.Given as goal

abbrev pub invariant-loop-at : goal.invariant-loop-at
invariant-loop-at l = l.found.items ++ path (reverse l.links) l.at ≡ l.fn.found.items ++ path (reverse l.links) l.round

abbrev pub decreases-loop-at : goal.decreases-loop-at
decreases-loop-at l = l.at

-- No large body so far conflicts with the set.
use Rattle.std.specs.Prelude.{◌≤◌, ◌<◌, ℕ, slice_get}
use Rattle.footprint.specs.Holds.{holds}
use Rattle.evaluation_log.specs.declared.sought.Sought.TheVariants.{Any}
use Rattle.evaluation_log.specs.Clashes.{NoClash}
use Rattle.evaluation_log.specs.Kept.{listed_has}
use Rattle.evaluation_search.proofs.log.Log.some_large_meets.Given as goal

abbrev pub invariant-loop-i : goal.invariant-loop-i
invariant-loop-i l = (k : ℕ) → k < l.i → l.fn.from ≤ k → NoClash Any l.map (listed_has l.self.events.now (slice_get l.self.large.now k)) (holds l.foot)

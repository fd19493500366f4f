-- No large body so far conflicts with this one.
use Rattle.std.specs.Prelude.{◌≤◌, ◌<◌, ℕ, slice_get}
use Rattle.evaluation_log.specs.declared.sought.Sought.TheVariants.{Any}
use Rattle.evaluation_log.specs.Clashes.{NoClash}
use Rattle.evaluation_log.specs.Kept.{listed_has}
use Rattle.evaluation_search.proofs.log.Log.large_meets_some.Given as goal

abbrev pub invariant-loop-k : goal.invariant-loop-k
invariant-loop-k l = (n : ℕ) → n < l.k → l.fn.from ≤ n → NoClash Any l.map (listed_has l.self.events.now (slice_get l.self.large.now n))
    (listed_has l.self.events.now (slice_get l.self.large.now l.fn.i))

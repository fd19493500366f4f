-- No large body so far conflicts with one behind the range.
use Rattle.std.specs.Prelude.{◌≤◌, ◌<◌, ℕ, slice_get}
use Rattle.evaluation_log.specs.Kept.{NoLarge, listed_has}
use Rattle.evaluation_search.proofs.log.Log.larges_conflict.Given as goal

abbrev pub invariant-loop-i : goal.invariant-loop-i
invariant-loop-i l = (k : ℕ) → k < l.i → l.fn.from ≤ k →
    NoLarge l.map l.self.events.now l.self.large.now l.fn.to l.fn.end (listed_has l.self.events.now (slice_get l.self.large.now k))

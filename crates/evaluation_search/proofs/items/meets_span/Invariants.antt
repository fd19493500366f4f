-- No item so far conflicts.
use Rattle.std.specs.Prelude.{◌≤◌, ◌<◌, ℕ, slice_get}
use Rattle.evaluation_log.specs.Kept.{IsApart}
use Rattle.evaluation_search.proofs.items.meets_span.Given as goal

abbrev pub invariant-loop-q : goal.invariant-loop-q
invariant-loop-q l = (q : ℕ) → q < l.q → l.fn.b.0 ≤ q → IsApart l.map (slice_get l.items l.fn.p) (slice_get l.items q)

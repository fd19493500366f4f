-- No item so far conflicts.
use Rattle.std.specs.Prelude.{◌≤◌, ◌<◌, ℕ, slice_get}
use Rattle.evaluation_log.specs.Kept.{IsApart}
use Rattle.evaluation_search.proofs.items.spans_meet.Given as goal

abbrev pub invariant-loop-p : goal.invariant-loop-p
invariant-loop-p l = (p : ℕ) → p < l.p → l.fn.a.0 ≤ p → (q : ℕ) → l.fn.b.0 ≤ q → q < l.fn.b.1 →
    IsApart l.map (slice_get l.items p) (slice_get l.items q)

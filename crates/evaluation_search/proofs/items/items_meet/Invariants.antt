-- No item so far conflicts with one behind the range.
use Rattle.std.specs.Prelude.{◌≤◌, ◌<◌, ℕ, slice_get}
use Rattle.evaluation_log.specs.Kept.{IsApart}
use Rattle.evaluation_search.proofs.items.items_meet.Given as goal

abbrev pub invariant-loop-i : goal.invariant-loop-i
invariant-loop-i l = (p : ℕ) → p < l.i → l.fn.from ≤ p → (q : ℕ) → l.fn.to ≤ q →
    IsApart l.map (slice_get l.items p) (slice_get l.items q)

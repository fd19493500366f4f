-- The item conflicts with none so far.
use Rattle.std.specs.Prelude.{◌≤◌, ◌<◌, ℕ, slice_get}
use Rattle.evaluation_log.specs.Kept.{IsApart}
use Rattle.evaluation_search.proofs.items.item_meets_some.Given as goal

abbrev pub invariant-loop-q : goal.invariant-loop-q
invariant-loop-q l = (q : ℕ) → q < l.q → l.fn.from ≤ q → IsApart l.map (slice_get l.items l.fn.i) (slice_get l.items q)

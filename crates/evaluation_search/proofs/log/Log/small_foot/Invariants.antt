-- The set has what the events so far touched, but for large bodies.
use Rattle.std.specs.Prelude.{◌≡◌, ◌≤◌, ◌<◌, ℕ, true, slice_get}
use Rattle.ub_base.specs.declared.names.Item.{Item}
use Rattle.footprint.specs.Holds.{holds}
use Rattle.evaluation_log.specs.Kept.{small_of}
use Rattle.evaluation_search.proofs.log.Log.small_foot.Given as goal

abbrev pub invariant-loop-at : goal.invariant-loop-at
invariant-loop-at l = (k : ℕ) → k < l.at → l.from ≤ k → (j : Item) → small_of l.self.items.now
    (slice_get l.self.events.now k) j ≡ true → holds l.foot j ≡ true

-- The set has what the events so far touched.
use Rattle.std.specs.Prelude.{◌≡◌, ◌≤◌, ◌<◌, ℕ, true}
use Rattle.ub_base.specs.declared.names.Item.{Item}
use Rattle.footprint.specs.Holds.{holds}
use Rattle.evaluation_log.specs.Loose.{loose_has}
use Rattle.evaluation_search.proofs.log.Log.loose_set.Given as goal

abbrev pub invariant-loop-i : goal.invariant-loop-i
invariant-loop-i l = (i : ℕ) → i < l.i → l.loose ≤ i → (j : Item) →
    loose_has l.self.events.now l.self.items.now l.self.loose.now i j ≡ true → holds l.foot j ≡ true

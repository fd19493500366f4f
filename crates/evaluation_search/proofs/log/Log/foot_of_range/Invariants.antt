-- The set has what the events so far have.
use Rattle.std.specs.Prelude.{◌≡◌, ◌≤◌, ◌-◌, max}
use Rattle.ub_base.specs.declared.names.Item.{Item}
use Rattle.footprint.specs.Holds.{holds}
use Rattle.evaluation_log.specs.Touched.{range_has}
use Rattle.evaluation_search.proofs.log.Log.foot_of_range.Given as goal

abbrev pub invariant-loop-at : goal.invariant-loop-at
invariant-loop-at l = record {
  bound : l.at ≤ max l.from l.to;
  has : (j : Item) → holds l.foot j ≡ range_has l.self.events.now l.self.items.now l.sought l.from (l.at - l.from) j;
}

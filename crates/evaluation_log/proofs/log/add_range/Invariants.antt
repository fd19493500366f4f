-- What was added so far.
use Rattle.std.specs.Prelude.{◌≡◌, ◌≤◌, ◌-◌, ◌||◌, max}
use Rattle.ub_base.specs.declared.names.Item.{Item}
use Rattle.footprint.specs.Holds.{holds}
use Rattle.evaluation_log.specs.Touched.{touched}
use Rattle.evaluation_log.proofs.log.add_range.Given as goal

abbrev pub invariant-loop-at : goal.invariant-loop-at
invariant-loop-at l = record {
  bound : l.at ≤ max l.from l.to;
  has : (j : Item) → holds l.foot j ≡ (holds l.fn.foot j || touched l.items l.from (l.at - l.from) j);
}

use Rattle.std.proofs.Common.{◌∙◌, ap, arith}
use Rattle.std.specs.Prelude.{◌||◌, ℕ}
use Rattle.footprint.specs.Holds.{holds}
use Rattle.evaluation_log.specs.Touched.{touched}
use Rattle.evaluation_log.proofs.TouchedLemmas.{added_none, added_step, count_is}
use Rattle.evaluation_log.proofs.log.add_range.Goals as goal

pub loop-at-init : goal.loop-at-init
loop-at-init c = record { bound = omega arith; has = λ j. added_none c.args.items.now c.args.from (holds c.args.foot.now j) j }

pub loop-at-preserved : goal.loop-at-preserved
loop-at-preserved c = record {
  bound = omega arith;
  has = λ j. added_step c.args.items.now c.args.from c.loop-at.at _ _ _ j c.loop-at.auto.at (c.in_ok-add_at.ensures j) (c.loop-at.invariant.has j);
}

pub returns : goal.returns
returns c = λ j. c.loop-at.invariant.has j ∙
    ap (λ (n : ℕ). holds c.args.foot.now j || touched c.args.items.now c.args.from n j)
    (count_is c.args.from c.args.to c.loop-at.at c.loop-at.auto.at c.loop-at-test.false c.loop-at.invariant.bound)

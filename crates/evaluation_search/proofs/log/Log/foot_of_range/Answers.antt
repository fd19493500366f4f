use Rattle.std.proofs.Common.{◌∙◌, ap, arith}
use Rattle.std.specs.Prelude.{ℕ}
use Rattle.evaluation_log.specs.Touched.{range_has}
use Rattle.evaluation_log.proofs.TouchedLemmas.{gathered_none, gathered_step, count_is}
use Rattle.evaluation_search.proofs.log.Log.foot_of_range.Goals as goal

pub loop-at-init : goal.loop-at-init
loop-at-init c = record {
  bound = omega arith;
  has = λ j. gathered_none c.args.self.now.events.now c.args.self.now.items.now c.args.sought c.args.from _ j (c.new-foot.ensures j);
}

pub loop-at-preserved : goal.loop-at-preserved
loop-at-preserved c = record {
  bound = omega arith;
  has = λ j. gathered_step c.args.self.now.events.now c.args.self.now.items.now c.args.sought c.args.from c.loop-at.at _ _ j c.loop-at.auto.at
      (c.in_ok-add_sought.ensures j) (c.loop-at.invariant.has j);
}

pub returns : goal.returns
returns c = λ j. c.loop-at.invariant.has j ∙
    ap (λ (n : ℕ). range_has c.args.self.now.events.now c.args.self.now.items.now c.args.sought c.args.from n j)
    (count_is c.args.from c.args.to c.loop-at.at c.loop-at.auto.at c.loop-at-test.false c.loop-at.invariant.bound)

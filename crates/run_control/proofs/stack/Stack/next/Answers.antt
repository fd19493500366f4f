use Rattle.std.proofs.Common.{◌∙◌}
use Rattle.run_control.proofs.Searches.{begins, goes_on, ends}
use Rattle.run_control.proofs.stack.Stack.next.Goals as goal

pub returns-in-Some-2-clause-step : goal.returns-in-Some-2-clause-step
returns-in-Some-2-clause-step c = λ m.
    begins m c.in-Some.work c.args.self.now.now c.loop-work.self.now c.pop.new.self.now c.ready.new.self.now c.in_ok-step.field-0 c.in-Some-2.step
    c.in-Some-2.is (c.in_ok-step.ensures.step m) c.in-Some.ensures.taken (c.loop-work.invariant.1 m)

pub loop-work-preserved : goal.loop-work-preserved
loop-work-preserved c = (
  c.in_ok-step.ensures.below ∙ (c.in-Some.ensures.below ∙ c.loop-work.invariant.0),
  λ m.
      goes_on m c.in-Some.work c.args.self.now.now c.loop-work.self.now c.pop.new.self.now c.ready.new.self.now c.in_ok-step.field-0
      c.in_default-2.is (c.in_ok-step.ensures.step m) c.in-Some.ensures.taken (c.loop-work.invariant.1 m),
)

pub returns-clause-step : goal.returns-clause-step
returns-clause-step c = λ m.
    ends m c.args.self.now.now c.loop-work.self.now c.pop.new.self.now c.in_default.ensures.taken.0 c.in_default.ensures.taken.1 (c.loop-work.invariant.1 m)

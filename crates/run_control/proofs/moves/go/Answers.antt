use Rattle.std.proofs.Common.{◌∙◌, ap}
use Rattle.std.proofs.lemmas.Result.{on_ok_weaker}
use Rattle.run_control.proofs.Ways.{keeps, skips, goes_past, goes_to, goes_over}
use Rattle.run_control.proofs.moves.go.Goals as goal

pub loop-work-preserved-in-Continue-1 : goal.loop-work-preserved-in-Continue-1
loop-work-preserved-in-Continue-1 c = (
  c.in-Some.ensures.below ∙ c.loop-work.invariant.0,
  keeps c.args.how c.args.stack.now.now c.loop-work.kept.items c.loop-work.stack.now c.pop.new.self.now c.push.new.self.items c.in-Some.work
      c.loop-work.invariant.1 c.in-Some.ensures.taken c.in-Keep.ensures c.in_ok-push-in-Keep.ensures.items,
)

pub loop-work-preserved : goal.loop-work-preserved
loop-work-preserved c = (
  c.in-Some.ensures.below ∙ c.loop-work.invariant.0,
  skips c.args.how c.args.stack.now.now c.loop-work.kept.items c.loop-work.stack.now c.pop.new.self.now c.in-Some.work
      c.loop-work.invariant.1 c.in-Some.ensures.taken c.in-Skip.ensures,
)

pub returns-in-Past-clause-now : goal.returns-in-Past-clause-now
returns-in-Past-clause-now c = on_ok_weaker c.put_back.result
    (goes_past c.args.how c.args.stack.now.now c.loop-work.kept.items c.loop-work.stack.now c.pop.new.self.now c.put_back.new.stack.now c.in-Some.work
    c.loop-work.invariant.1 c.in-Some.ensures.taken c.in-Past.ensures) c.put_back.ensures.now

pub returns-in-At-clause-now : goal.returns-in-At-clause-now
returns-in-At-clause-now c = on_ok_weaker c.put_back-in-At.result
    (goes_to c.args.how c.args.stack.now.now c.loop-work.kept.items c.loop-work.stack.now c.pop.new.self.now c.push-in-At.new.self.now
    c.put_back-in-At.new.stack.now c.in-Some.work
    c.loop-work.invariant.1 c.in-Some.ensures.taken c.in-At.ensures (ap (λ s. s.now) c.in_ok-push-in-At.ensures)) c.put_back-in-At.ensures.now

pub returns-clause-now : goal.returns-clause-now
returns-clause-now c = on_ok_weaker c.put_back-2.result
    (goes_over c.args.how c.args.stack.now.now c.loop-work.kept.items c.loop-work.stack.now c.pop.new.self.now c.put_back-2.new.stack.now
    c.loop-work.invariant.1 c.in_default.ensures.taken.0 c.in_default.ensures.taken.1) c.put_back-2.ensures.now

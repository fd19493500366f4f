use Rattle.std.proofs.Common.{rules, ◌≡◌, true, false, sym, ◌∙◌, ap}
use Rattle.c_model.specs.Control.{ready_work}
use Rattle.run_control.specs.View.{todo_of}
use Rattle.run_control.proofs.Searches.{passes, stays, not_over, over}
use Rattle.run_control.proofs.stack.Stack.is_over.Goals as goal

pub returns-then-not-is_end-clause-now : goal.returns-then-not-is_end-clause-now
returns-then-not-is_end-clause-now c = λ m.
    stays m c.in-Some.work c.args.self.now.now c.loop-work.self.now c.pop.new.self.now c.push.new.self.now c.in-Some.ensures.taken
    (ap (λ s. s.now) c.in_ok-push.ensures) (c.loop-work.invariant.1 m)

pub returns-then-not-is_end-clause-over : goal.returns-then-not-is_end-clause-over
returns-then-not-is_end-clause-over c = λ m.
    let other : c.is_end.result ≡ false = search rules in
    not_over m c.in-Some.work c.args.self.now.now c.loop-work.self.now c.pop.new.self.now c.is_end.result other (c.is_end.ensures m c.pop.new.self.now)
    c.in-Some.ensures.taken (c.loop-work.invariant.1 m)

pub loop-work-preserved : goal.loop-work-preserved
loop-work-preserved c = (
  c.in-Some.ensures.below ∙ c.loop-work.invariant.0,
  λ m.
      let ends : c.is_end.result ≡ true = search rules in
      passes m c.in-Some.work c.args.self.now.now c.loop-work.self.now c.pop.new.self.now c.is_end.result ends (c.is_end.ensures m c.pop.new.self.now)
      c.in-Some.ensures.taken (c.loop-work.invariant.1 m),
)

pub returns-clause-now : goal.returns-clause-now
returns-clause-now c = λ m.
    ap (λ ws. ready_work (todo_of m ws)) (c.in_default.ensures.taken.1 ∙ sym c.in_default.ensures.taken.0) ∙ c.loop-work.invariant.1 m

pub returns-clause-over : goal.returns-clause-over
returns-clause-over c = λ m. over m c.args.self.now.now c.loop-work.self.now c.in_default.ensures.taken.0 (c.loop-work.invariant.1 m)

use Rattle.run_control.proofs.Paths.{step_on, step_off, past, at_none}
use Rattle.run_control.proofs.links.outwards.Goals as goal

pub returns-in_default : goal.returns-in_default
returns-in_default c =
    past c.args.links.now c.loop-at.found.items _ c.loop-at.at c.loop-at-test.true c.in_default.ensures.lookup.3 c.loop-at.invariant

pub returns-then-link-at : goal.returns-then-link-at
returns-then-link-at c =
    step_off c.args.links.now c.loop-at.found.items c.push.new.self.items _ c.loop-at.at c.in-Some.link.now c.loop-at-test.true
    c.in-Some.ensures.lookup.3.0 c.in-Some.ensures.lookup.1 c.if-link-at.true c.in_ok-push.ensures.items c.loop-at.invariant

pub loop-at-preserved : goal.loop-at-preserved
loop-at-preserved c =
    step_on c.args.links.now c.loop-at.found.items c.push.new.self.items _ c.loop-at.at c.in-Some.link.now c.loop-at-test.true
    c.in-Some.ensures.lookup.3.0 c.in-Some.ensures.lookup.1 c.if-link-at.false c.in_ok-push.ensures.items c.loop-at.invariant

pub returns : goal.returns
returns c = at_none c.args.links.now c.loop-at.found.items _ c.loop-at.at c.loop-at-test.false c.loop-at.invariant

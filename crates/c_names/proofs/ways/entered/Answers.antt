use Rattle.std.proofs.Common.{arith, refl}
use Rattle.c_names.proofs.WayLemmas.{Reaches-start, path-start, Reaches-next, path-next, path-end, Extends-same}
use Rattle.c_names.proofs.ways.entered.Goals as goal

pub loop-step-init : goal.loop-step-init
loop-step-init c = record {
  rows = c.first_frame-frame.ensures.rows;
  path = path-start _ _ c.first_frame-frame.ensures.main;
  reached = Reaches-start _ _ c.first_frame-frame.ensures.main;
  few = omega arith;
}

pub next_frame-requires-clause-rows : goal.next_frame-requires-clause-rows
next_frame-requires-clause-rows c = c.loop-step.invariant.rows

pub next_frame-requires-clause-there : goal.next_frame-requires-clause-there
next_frame-requires-clause-there c = c.loop-step.invariant.reached.there

pub next_frame-requires-clause-room : goal.next_frame-requires-clause-room
next_frame-requires-clause-room c = omega arith

pub loop-step-preserved : goal.loop-step-preserved
loop-step-preserved c = record {
  rows = c.in_ok-frame.ensures.next.rows;
  path = path-next _ _ _ _ _ c.args.steps.now c.loop-step.step-index _ c.loop-step.invariant.path c.in_ok-frame.ensures.next c.loop-step-test.true refl;
  reached = Reaches-next _ _ _ _ _ _ c.loop-step.invariant.rows c.loop-step.invariant.reached c.in_ok-frame.ensures.next;
  few = omega (arith, c.in_ok-frame.ensures.next.few);
}

-- One step more, and no frame where none starts with it.
use Rattle.std.proofs.Common.{◌-◌, ◌≤◌, refl, length, arith}
use Rattle.std.proofs.lemmas.List.{get_or_default}
use Rattle.trace_story.proofs.Ways.{none_from, one_more}
use Rattle.trace_story.proofs.named.reached.Goals as goal

pub returns-in-None : goal.returns-in-None
returns-in-None c =
    let h = c.loop-i.invariant in
    let k = length c.args.steps.now - 1 - c.loop-i.i in
    none_from c.args.frames.now h.rows c.loop-i.frame.0 c.args.steps.now c.loop-i.i k _ h.there h.path refl (omega arith)
    (get_or_default c.args.steps.now k _ _ (omega arith)) c.in-None.ensures.none

pub loop-i-preserved : goal.loop-i-preserved
loop-i-preserved c =
    let h = c.loop-i.invariant in
    let k = length c.args.steps.now - 1 - c.loop-i.i in
    let some = c.in-Some.ensures.some in
    record {
      rows = h.rows;
      there = some.1;
      path = one_more c.args.frames.now h.rows c.loop-i.frame.0 c.in-Some.next.0 c.args.steps.now c.loop-i.i k _ some.0 some.2 h.path refl (omega arith)
          (get_or_default c.args.steps.now k _ _ (omega arith));
    }

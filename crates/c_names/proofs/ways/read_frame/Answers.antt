use Rattle.std.proofs.Common.{◌∙◌, ap, arith, reverse}
use Rattle.c_names.proofs.PathTexts.{IsNoFrameText-from_long, frame_from}
use Rattle.c_names.proofs.ways.read_frame.Goals as goal

pub returns-then-len-ge-STEPS_END-clause-answer : goal.returns-then-len-ge-STEPS_END-clause-answer
returns-then-len-ge-STEPS_END-clause-answer c =
    let known = rw c.in-Some.is at c.in_ok-steps.ensures in
    IsNoFrameText-from_long c.args.text.now c.in-Some.steps.items known.0 known.1 (omega (arith, c.in-Some.steps.ok.0))

pub returns-clause-answer : goal.returns-clause-answer
returns-clause-answer c =
    let known = rw c.in-Some.is at c.in_ok-steps.ensures in
    frame_from c.args.text.now _ c.in-Some.steps.items (c.in_ok-frame.ensures.path ∙ ap reverse c.deref.ensures.value) known.0 known.1
    (omega (arith, c.in-Some.steps.ok.0))

-- The test of a frame is what the look-up and the bounds say.
use Rattle.std.proofs.Common.{sym, ◌∙◌, arith}
use Rattle.certificate_text.proofs.FrameSteps.{found_again, none_absent, follows}
use Rattle.certificate_text.proofs.read_frames.add_frame.Goals as goal

pub returns-then-is_some-clause-test : goal.returns-then-is_some-clause-test
returns-then-is_some-clause-test c =
    sym (found_again c.args.frames.now c.args.row c.find.result c.find.ensures.some (sym c.is_some.ensures ∙ c.if-is_some.true))

pub returns-clause-test : goal.returns-clause-test
returns-clause-test c =
    sym (follows c.args.frames.now c.args.row (omega arith) (omega arith)
    (none_absent c.args.frames.now c.args.row c.find.result c.find.ensures.none (sym c.is_some.ensures ∙ c.if-is_some.false)))

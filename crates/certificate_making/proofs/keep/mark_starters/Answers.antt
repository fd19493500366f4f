-- The frame that started one more is marked.
use Rattle.std.proofs.Common.{◌-◌, length, ap, arith}
use Rattle.certificate_making.proofs.Marks.{starters_on}
use Rattle.certificate_making.proofs.keep.mark_starters.Goals as goal

pub loop-below-preserved : goal.loop-below-preserved
loop-below-preserved c =
    starters_on c.args.frames.now (length c.args.frames.now) (c.len.result - c.loop-below.below) c.loop-below.below c.loop-below.marks
    c.mark_starter.new.marks _ (ap (λ n. n - c.loop-below.below) c.len.ensures.count) (omega arith) c.mark_starter.ensures c.loop-below.invariant

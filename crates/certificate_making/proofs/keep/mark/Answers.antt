-- Behind the end no mark is set.
use Rattle.std.proofs.Common.{arith}
use Rattle.certificate_making.proofs.Marks.{set_past}
use Rattle.certificate_making.proofs.keep.mark.Goals as goal

pub returns-else-at-marks : goal.returns-else-at-marks
returns-else-at-marks c = set_past c.args.marks.now c.args.frame.0 (omega arith)

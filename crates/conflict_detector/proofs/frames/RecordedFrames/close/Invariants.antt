-- So many frames are left.
use Rattle.conflict_detector.proofs.Leaving.{LeavingDown}
use Rattle.conflict_detector.proofs.frames.RecordedFrames.close.Given as goal

abbrev pub invariant-loop : goal.invariant-loop
invariant-loop l = LeavingDown l.fn.self l.self l.counter

-- So many frames are left.
use Rattle.conflict_detector.proofs.Leaving.{Leaving}
use Rattle.conflict_detector.proofs.frames.RecordedFrames.reach.Given as goal

abbrev pub invariant-loop : goal.invariant-loop
invariant-loop l = Leaving l.fn.frame l.fn.self l.self l.counter

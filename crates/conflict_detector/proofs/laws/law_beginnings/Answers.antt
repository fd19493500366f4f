use Rattle.conflict_detector.proofs.Pairs.{beginnings_done}
use Rattle.conflict_detector.proofs.laws.law_beginnings.Goals as goal

pub returns : goal.returns
returns c = beginnings_done

use Rattle.footprint.proofs.Loops.{Goes}
use Rattle.footprint.proofs.PairLemmas.{OtherKeep}
use Rattle.footprint.proofs.settled.settled_otherwise.Given as goal

abbrev pub invariant-loop-other : goal.invariant-loop-other
invariant-loop-other l = Goes l.frames (OtherKeep l.b l.id l.keep) l.b.narrows.keys l.other-iterator l.best

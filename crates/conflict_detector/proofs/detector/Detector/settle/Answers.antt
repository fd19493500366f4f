use Rattle.std.proofs.Common.{refl, arith}
use Rattle.run_evaluations.specs.Told.{settled}
use Rattle.conflict_detector.proofs.Leaving.{started_top}
use Rattle.conflict_detector.proofs.detector.Detector.settle.Goals as goal

pub returns-then-count-self-clause-settles : goal.returns-then-count-self-clause-settles
returns-then-count-self-clause-settles c = λ roots t ts low r. absurd (omega (arith, low, c.if-count-self.true))

pub returns-then-count-self-clause-closes : goal.returns-then-count-self-clause-closes
returns-then-count-self-clause-closes c = λ roots t ts less r.
    let e = c.in_ok-close.ensures.follows t ts r.follows r.started in
    record { known = r.known; none = refl; main = e.0; bare = e.1; follows = e.2 }

pub returns-clause-settles : goal.returns-clause-settles
returns-clause-settles c = λ roots t ts low r. record {
  known = r.known;
  some = r.some;
  started = started_top t (settled t) ts r.started;
  follows = c.in_ok-settle.ensures.follows t ts r.follows;
}

pub returns-clause-closes : goal.returns-clause-closes
returns-clause-closes c = λ roots t ts less r. absurd (omega (arith, less, c.if-count-self.false))

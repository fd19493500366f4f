use Rattle.std.proofs.Common.{arith}
use Rattle.conflict_detector.proofs.detector.Detector.recorded_step.Goals as goal

pub returns-then-count-before-clause-starts : goal.returns-then-count-before-clause-starts
returns-then-count-before-clause-starts c = λ roots b less last numbered i. c.in_ok-begin.ensures.starts roots b last numbered i

pub returns-then-count-before-clause-begins : goal.returns-then-count-before-clause-begins
returns-then-count-before-clause-begins c = λ roots b t ts s less last numbered r none. c.in_ok-begin.ensures.begins roots b t ts s last numbered r none

pub returns-then-count-before-clause-settles : goal.returns-then-count-before-clause-settles
returns-then-count-before-clause-settles c = λ roots t ts less low r. absurd (omega (arith, less, c.if-count-before.true))

pub returns-then-count-before-clause-closes : goal.returns-then-count-before-clause-closes
returns-then-count-before-clause-closes c = λ roots t ts less low r. absurd (omega (arith, less, c.if-count-before.true))

pub returns-then-count-before-clause-stays : goal.returns-then-count-before-clause-stays
returns-then-count-before-clause-stays c = λ roots os same r. absurd (omega (arith, same, c.if-count-before.true))

pub returns-then-count-before-2-clause-starts : goal.returns-then-count-before-2-clause-starts
returns-then-count-before-2-clause-starts c = λ roots b less last numbered i. absurd (omega (arith, less, c.if-count-before-2.true))

pub returns-then-count-before-2-clause-begins : goal.returns-then-count-before-2-clause-begins
returns-then-count-before-2-clause-begins c = λ roots b t ts s less last numbered r none. absurd (omega (arith, less, c.if-count-before-2.true))

pub returns-then-count-before-2-clause-settles : goal.returns-then-count-before-2-clause-settles
returns-then-count-before-2-clause-settles c = λ roots t ts less low r.
    c.in_ok-settle.ensures.settles roots t ts (omega (arith, low)) r

pub returns-then-count-before-2-clause-closes : goal.returns-then-count-before-2-clause-closes
returns-then-count-before-2-clause-closes c = λ roots t ts less low r.
    c.in_ok-settle.ensures.closes roots t ts (omega (arith, low)) r

pub returns-then-count-before-2-clause-stays : goal.returns-then-count-before-2-clause-stays
returns-then-count-before-2-clause-stays c = λ roots os same r. absurd (omega (arith, same, c.if-count-before-2.true))

pub returns-clause-starts : goal.returns-clause-starts
returns-clause-starts c = λ roots b less last numbered i. absurd (omega (arith, less, c.if-count-before.false))

pub returns-clause-begins : goal.returns-clause-begins
returns-clause-begins c = λ roots b t ts s less last numbered r none. absurd (omega (arith, less, c.if-count-before.false))

pub returns-clause-settles : goal.returns-clause-settles
returns-clause-settles c = λ roots t ts less low r. absurd (omega (arith, less, c.if-count-before-2.false))

pub returns-clause-closes : goal.returns-clause-closes
returns-clause-closes c = λ roots t ts less low r. absurd (omega (arith, less, c.if-count-before-2.false))

pub returns-clause-stays : goal.returns-clause-stays
returns-clause-stays c = λ roots os same r. record {
  known = r.known;
  some = r.some;
  started = r.started;
  follows = record { follows = c.step.ensures.follows os r.follows.follows; names = r.follows.names };
}

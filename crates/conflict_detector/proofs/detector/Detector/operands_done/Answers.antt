use Rattle.std.proofs.Common.{arith}
use Rattle.conflict_detector.proofs.detector.Detector.operands_done.Goals as goal

pub returns-then-self-eq0-clause-follows : goal.returns-then-self-eq0-clause-follows
returns-then-self-eq0-clause-follows c = λ b t ts last shown own r. absurd (let some = r.some in omega (arith, c.if-self-eq0.true, some))

pub returns-then-self-eq0-clause-first : goal.returns-then-self-eq0-clause-first
returns-then-self-eq0-clause-first c = λ b t ts last shown own r parts done.
    absurd (let some = r.some in omega (arith, c.if-self-eq0.true, some))

pub returns-clause-follows : goal.returns-clause-follows
returns-clause-follows c = λ b t ts last shown own r. c.in_ok-seen.ensures.follows b t ts last shown own r

pub returns-clause-first : goal.returns-clause-first
returns-clause-first c = λ b t ts last shown own r parts done. c.in_ok-seen.ensures.first b t ts last shown own r parts done

pub returns-clause-idle : goal.returns-clause-idle
returns-clause-idle c = λ roots i. absurd (let z = i.none in omega (arith, z, c.if-self-eq0.false))

pub returns-clause-none : goal.returns-clause-none
returns-clause-none c = λ none. absurd (omega (arith, none, c.if-self-eq0.false))

use Rattle.std.proofs.Common.{refl, arith, ⊎_elim, inr}
use Rattle.conflict_detector.proofs.Moved.{idle_moved, recording_moved}
use Rattle.conflict_detector.proofs.detector.Detector.step.Goals as goal

pub returns-then-rests-clause-starts : goal.returns-then-rests-clause-starts
returns-then-rests-clause-starts c = λ roots b less last numbered i.
    inr (
      idle_moved roots c.args.self.now _ refl refl refl i,
      ⊎_elim (λ le. absurd (omega (arith, le, less))) (λ q. q roots b i.known last numbered) (c.rests.ensures.yes c.if-rests.true),
    )

pub returns-then-rests-clause-idle : goal.returns-then-rests-clause-idle
returns-then-rests-clause-idle c = λ roots le i. idle_moved roots c.args.self.now _ refl refl refl i

pub returns-then-rests-clause-begins : goal.returns-then-rests-clause-begins
returns-then-rests-clause-begins c = λ roots b t ts s less last numbered r none.
    absurd (let z = c.rests.ensures.none c.if-rests.true in let some = r.some in omega (arith, z, some))

pub returns-then-rests-clause-settles : goal.returns-then-rests-clause-settles
returns-then-rests-clause-settles c = λ roots t ts less low r.
    absurd (let z = c.rests.ensures.none c.if-rests.true in let some = r.some in omega (arith, z, some))

pub returns-then-rests-clause-closes : goal.returns-then-rests-clause-closes
returns-then-rests-clause-closes c = λ roots t ts less low r.
    absurd (let z = c.rests.ensures.none c.if-rests.true in let some = r.some in omega (arith, z, some))

pub returns-then-rests-clause-stays : goal.returns-then-rests-clause-stays
returns-then-rests-clause-stays c = λ roots os same r.
    absurd (let z = c.rests.ensures.none c.if-rests.true in let some = r.some in omega (arith, z, some))

pub returns-clause-starts : goal.returns-clause-starts
returns-clause-starts c = λ roots b less last numbered i.
    c.in_ok-recorded_step.ensures.starts roots b less last numbered (idle_moved roots c.args.self.now _ refl refl refl i)

pub returns-clause-idle : goal.returns-clause-idle
returns-clause-idle c = λ roots le i.
    absurd (let more = c.rests.ensures.no c.if-rests.false i.none in omega (arith, le, more))

pub returns-clause-begins : goal.returns-clause-begins
returns-clause-begins c = λ roots b t ts s less last numbered r none.
    c.in_ok-recorded_step.ensures.begins roots b t ts s less last numbered (recording_moved roots _ c.args.self.now _ refl refl refl r) none

pub returns-clause-settles : goal.returns-clause-settles
returns-clause-settles c = λ roots t ts less low r.
    c.in_ok-recorded_step.ensures.settles roots t ts less low (recording_moved roots _ c.args.self.now _ refl refl refl r)

pub returns-clause-closes : goal.returns-clause-closes
returns-clause-closes c = λ roots t ts less low r.
    c.in_ok-recorded_step.ensures.closes roots t ts less low (recording_moved roots _ c.args.self.now _ refl refl refl r)

pub returns-clause-stays : goal.returns-clause-stays
returns-clause-stays c = λ roots os same r.
    c.in_ok-recorded_step.ensures.stays roots os same (recording_moved roots _ c.args.self.now _ refl refl refl r)

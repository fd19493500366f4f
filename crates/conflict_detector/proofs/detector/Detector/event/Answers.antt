use Rattle.std.proofs.Common.{refl, inl, arith}
use Rattle.conflict_detector.proofs.Moved.{idle_moved, recording_moved}
use Rattle.conflict_detector.proofs.detector.Detector.event.Goals as goal

pub returns-then-passes_over-clause-follows : goal.returns-then-passes_over-clause-follows
returns-then-passes_over-clause-follows c = λ b os goes last numbered r in_it may.
    absurd (let z = c.passes_over.ensures.none c.if-passes_over.true in let some = r.some in omega (arith, z, some))

pub returns-then-passes_over-clause-idle : goal.returns-then-passes_over-clause-idle
returns-then-passes_over-clause-idle c = λ b goes last same i.
    inl (idle_moved c.args.roots.now c.args.self.now _ refl refl refl i, c.passes_over.ensures.noted c.if-passes_over.true)

pub returns-clause-follows : goal.returns-clause-follows
returns-clause-follows c = λ b os goes last numbered r in_it may.
    c.in_ok-seen.ensures.follows b os goes last numbered (recording_moved c.args.roots.now os c.args.self.now _ refl refl refl r) in_it may

pub returns-clause-idle : goal.returns-clause-idle
returns-clause-idle c = λ b goes last same i.
    c.in_ok-seen.ensures.idle b goes last same (idle_moved c.args.roots.now c.args.self.now _ refl refl refl i)

pub returns-then-passes_over-clause-ends : goal.returns-then-passes_over-clause-ends
returns-then-passes_over-clause-ends c = λ b os body ending top last numbered r in_it may all.
    absurd (let z = c.passes_over.ensures.none c.if-passes_over.true in let some = r.some in omega (arith, z, some))

pub returns-clause-goes_on : goal.returns-clause-goes_on
returns-clause-goes_on c = λ goes. c.in_ok-seen.ensures.goes_on goes

pub returns-clause-ends : goal.returns-clause-ends
returns-clause-ends c = λ b os body ending top last numbered r in_it may all.
    c.in_ok-seen.ensures.ends b os body ending top last numbered (recording_moved c.args.roots.now os c.args.self.now _ refl refl refl r) in_it may all

pub returns-clause-none : goal.returns-clause-none
returns-clause-none c = λ none body. absurd (c.passes_over.ensures.body c.if-passes_over.false none body)

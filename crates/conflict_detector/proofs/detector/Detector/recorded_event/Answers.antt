use Rattle.std.proofs.Common.{inl, inr, refl}
use Rattle.conflict_detector.proofs.Telling.{ends_told}
use Rattle.conflict_detector.proofs.detector.Detector.recorded_event.Goals as goal

pub returns-then-not-logs-clause-follows : goal.returns-then-not-logs-clause-follows
returns-then-not-logs-clause-follows c = λ b os goes last numbered r in_it may.
    c.in_ok-logs.ensures.follows c.args.roots.now b os last numbered r in_it may

pub returns-then-not-logs-clause-idle : goal.returns-then-not-logs-clause-idle
returns-then-not-logs-clause-idle c = λ b goes last same i. c.in_ok-logs.ensures.idle c.args.roots.now b last same i

pub returns-then-not-logs-clause-ends : goal.returns-then-not-logs-clause-ends
returns-then-not-logs-clause-ends c = λ b os body ending top last numbered r in_it may all.
    inl (c.in_ok-logs.ensures.left c.if-not-logs.true body c.args.roots.now b r.known last numbered, refl)

pub returns-then-not-is_end-clause-follows : goal.returns-then-not-is_end-clause-follows
returns-then-not-is_end-clause-follows c = λ b os goes last numbered r in_it may.
    c.in_ok-logs.ensures.follows c.args.roots.now b os last numbered r in_it may

pub returns-then-not-is_end-clause-idle : goal.returns-then-not-is_end-clause-idle
returns-then-not-is_end-clause-idle c = λ b goes last same i. c.in_ok-logs.ensures.idle c.args.roots.now b last same i

pub returns-then-not-is_end-clause-ends : goal.returns-then-not-is_end-clause-ends
returns-then-not-is_end-clause-ends c = λ b os body ending top last numbered r in_it may all.
    absurd (c.is_end.ensures.no c.if-not-is_end.true body ending)

pub returns-clause-follows : goal.returns-clause-follows
returns-clause-follows c = λ b os goes last numbered r in_it may.
    absurd (goes (c.is_end.ensures.body c.if-not-is_end.false) (c.is_end.ensures.ending c.if-not-is_end.false))

pub returns-clause-idle : goal.returns-clause-idle
returns-clause-idle c = λ b goes last same i.
    absurd (goes (c.is_end.ensures.body c.if-not-is_end.false) (c.is_end.ensures.ending c.if-not-is_end.false))

pub returns-clause-goes_on : goal.returns-clause-goes_on
returns-clause-goes_on c = λ goes.
    absurd (goes (c.is_end.ensures.body c.if-not-is_end.false) (c.is_end.ensures.ending c.if-not-is_end.false))

pub returns-clause-ends : goal.returns-clause-ends
returns-clause-ends c = λ b os body ending top last numbered r in_it may all.
    let told = c.in_ok-logs.ensures.told c.if-not-logs.false c.args.roots.now b os last r in_it may in
    inr (ends_told c.args.v.now.frames.now c.args.v.now.map.now c.args.roots.now c.args.v.now.begun.now b os c.args.event c.args.items.now
    c.args.v.now.top c.args.self.now.recorded c.log.new.self _ told.0 top body told.1 all c.in_ok-seen.ensures.first)

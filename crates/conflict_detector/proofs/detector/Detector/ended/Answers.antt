use Rattle.std.proofs.Common.{refl}
use Rattle.conflict_detector.proofs.RunEnds.{asked_at, at_top}
use Rattle.conflict_detector.proofs.detector.Detector.ended.Goals as goal

pub returns-in_default-clause-follows : goal.returns-in_default-clause-follows
returns-in_default-clause-follows c = λ roots t ts numbered right f.
    let h = c.in_ok-examine.ensures.rules roots right numbered in
    absurd (c.in_default.ensures.none refl h.0 h.1)

pub returns-in_default-clause-first : goal.returns-in_default-clause-first
returns-in_default-clause-first c = λ roots t ts shown can right f.
    let h = c.in_ok-examine.ensures.rules roots right shown.numbered in
    absurd (c.in_default.ensures.none refl h.0 h.1)

pub returns-clause-follows : goal.returns-clause-follows
returns-clause-follows c = λ roots t ts numbered right f. (
  c.in_ok-examine.ensures.right roots right numbered,
  record { below = c.in_ok-found.ensures.follows t ts f.follows; names = f.names },
)

pub returns-clause-first : goal.returns-clause-first
returns-clause-first c = λ roots t ts shown can right f.
    let h = c.in_ok-examine.ensures.rules roots right shown.numbered in
    let r = c.in-Some.ensures.some in
    let asked = asked_at roots c.args.begun.now t c.examine.new.self c.in-Some.rules.now shown h r.0 r.1 r.2 can in
    at_top c.args.v.now.frames.now c.args.v.now.map.now t can c.in_ok-found.found
    (c.in_ok-found.ensures.first t ts can.last f.follows asked.tells asked.fits.free can.done.once)

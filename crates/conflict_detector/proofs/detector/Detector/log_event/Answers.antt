use Rattle.std.proofs.Common.{◌∙◌, refl, sym}
use Rattle.std.proofs.lemmas.Option.{same_Some}
use Rattle.conflict_detector.proofs.Telling.{has_told}
use Rattle.conflict_detector.proofs.detector.Detector.log_event.Goals as goal

pub returns-in_default-clause-follows : goal.returns-in_default-clause-follows
returns-in_default-clause-follows c = λ roots b os last r in_it may. absurd (c.in_default.ensures.none refl b last)

pub returns-clause-follows : goal.returns-clause-follows
returns-clause-follows c = λ roots b os last r in_it may.
    let same = same_Some b c.in-Some.begun.now (sym last ∙ c.in-Some.ensures.some) in
    let reached = c.in_ok-reach.ensures.follows os r.follows in_it r.started in
    has_told roots b c.in-Some.begun.now os c.args.event c.args.items.now c.args.v.now.top _ c.reach.new.self _ _ same reached.0 reached.1 reached.2 may
    r.some refl
    (λ numbered. (c.in_ok-rule.ensures.right roots r.known numbered, c.in_ok-rule.ensures.known roots r.known numbered))
    (λ t own shown. c.in_ok-rule.ensures.ruled roots t own r.known shown)
    c.in_ok-tell.ensures.stays c.in_ok-tell.ensures.enters

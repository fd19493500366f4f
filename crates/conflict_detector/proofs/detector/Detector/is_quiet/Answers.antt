use Rattle.std.proofs.Common.{◌∙◌, sym, subst}
use Rattle.std.proofs.lemmas.Option.{same_Some}
use Rattle.conflict_detector.specs.Examined.{IsNumbered, IsQuietRoot}
use Rattle.conflict_detector.proofs.Known.{quiet_known}
use Rattle.conflict_detector.proofs.detector.Detector.is_quiet.Goals as goal

pub returns-in-Some : goal.returns-in-Some
returns-in-Some c = λ h roots b right last numbered.
    let same = same_Some c.in-Some.begun.now b (sym c.in-Some.ensures.some ∙ last) in
    subst (λ z. IsQuietRoot z.root.now) same
    (quiet_known roots c.in-Some.begun.now.tree c.in-Some.begun.now.root.now c.args.self.now.known right
    (subst (λ z. IsNumbered roots z.tree z.root.now) (sym same) numbered) (sym c.is_quiet.ensures ∙ h))

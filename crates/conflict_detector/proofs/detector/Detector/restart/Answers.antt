use Rattle.std.proofs.Common.{◌∙◌, refl, sym}
use Rattle.std.proofs.lemmas.Option.{same_Some}
use Rattle.conflict_detector.proofs.Moved.{begun_as, some_within}
use Rattle.conflict_detector.proofs.detector.Detector.restart.Goals as goal

pub returns-in_default : goal.returns-in_default
returns-in_default c = record { starts = λ roots b last i. absurd (c.in_default.ensures.none refl b last) }

pub returns : goal.returns
returns c = record {
  starts = λ roots b last i.
      begun_as roots c.in-Some.begun.now b _ (same_Some _ b (sym c.in-Some.ensures.some ∙ last))
      (c.in_ok-start.ensures.starts roots (some_within c.args.v.now.begun.now b _ _ last refl refl) i);
}

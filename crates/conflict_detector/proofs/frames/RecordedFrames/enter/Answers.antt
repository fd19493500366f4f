use Rattle.std.proofs.Common.{◌∷◌, ◌++◌, [], ap, ◌∙◌}
use Rattle.conflict_detector.proofs.frames.RecordedFrames.enter.Goals as goal

pub returns : goal.returns
returns c = record {
  follows = λ os f. record {
    follows = c.in_ok-enter.ensures.follows os f.follows;
    names = c.in_ok-push.ensures.items ∙ ap (λ fs. fs ++ (c.args.frame ∷ [])) f.names;
  };
}

use Rattle.std.proofs.Common.{◌∷◌, arith}
use Rattle.run_evaluations.proofs.FrameLemmas.{below_all}
use Rattle.conflict_detector.proofs.Leaving.{pop_names}
use Rattle.conflict_detector.proofs.frames.RecordedFrames.leave.Goals as goal

pub returns : goal.returns
returns c = record {
  follows = λ t u us f started.
      let old = c.args.self.now in
      let g = c.in_ok-leave.ensures.follows u us (below_all old.open t (u ∷ us) f.follows) started in
      (g.0, record { follows = g.1; names = pop_names _ old.names.items _ t (u ∷ us) (omega (arith, old.names.ok.0)) f.names c.pop.ensures.rest });
  below = λ t u us f started.
      let old = c.args.self.now in
      let g = c.in_ok-leave.ensures.follows u us f.below started in
      (g.0, record { follows = g.1; names = pop_names _ old.names.items _ t (u ∷ us) (omega (arith, old.names.ok.0)) f.names c.pop.ensures.rest });
}

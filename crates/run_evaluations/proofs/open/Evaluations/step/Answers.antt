use Rattle.run_evaluations.proofs.FrameLemmas.{follow_touched}
use Rattle.run_evaluations.proofs.WholeLemmas.{kept_open}
use Rattle.run_evaluations.proofs.LooseWholeLemmas.{right_open}
use Rattle.run_evaluations.proofs.open.Evaluations.step.Goals as goal

pub returns-clause-kept : goal.returns-clause-kept
returns-clause-kept c = λ w. kept_open c.args.self.now c.touch_top.new.self c.touch_top.ensures.same w

pub returns-clause-loose : goal.returns-clause-loose
returns-clause-loose c = λ r. right_open c.args.self.now c.touch_top.new.self c.touch_top.ensures.same r

pub returns-clause-follows : goal.returns-clause-follows
returns-clause-follows c = λ os f.
    follow_touched c.args.self.now c.touch_top.new.self c.touch_top.ensures.same c.touch_top.ensures.names os (returns-clause-kept c f.holds.kept)
    (returns-clause-loose c f.holds.loose) f

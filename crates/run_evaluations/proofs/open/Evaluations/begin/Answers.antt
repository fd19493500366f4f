use Rattle.run_evaluations.proofs.FrameLemmas.{follow_begun}
use Rattle.run_evaluations.proofs.WholeLemmas.{kept_open}
use Rattle.run_evaluations.proofs.LooseWholeLemmas.{right_open}
use Rattle.run_evaluations.proofs.open.Evaluations.begin.Goals as goal

pub returns-clause-kept : goal.returns-clause-kept
returns-clause-kept c = λ w. kept_open c.args.self.now c.set_turn.new.self c.set_turn.ensures.same w

pub returns-clause-loose : goal.returns-clause-loose
returns-clause-loose c = λ r. right_open c.args.self.now c.set_turn.new.self c.set_turn.ensures.same r

pub returns-clause-follows : goal.returns-clause-follows
returns-clause-follows c = λ t ts s f bare.
    follow_begun c.args.self.now c.set_turn.new.self c.set_turn.ensures.same c.args.turn c.set_turn.ensures.names t ts s
    (returns-clause-kept c f.holds.kept) (returns-clause-loose c f.holds.loose) f bare

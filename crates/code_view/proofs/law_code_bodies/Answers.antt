use Rattle.code_view.proofs.Whole.{bodies_stand, switches_stand}
use Rattle.code_view.proofs.law_code_bodies.Goals as goal

pub returns-clause-bodies : goal.returns-clause-bodies
returns-clause-bodies c = bodies_stand

pub returns-clause-switches : goal.returns-clause-switches
returns-clause-switches c = switches_stand

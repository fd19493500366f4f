use Rattle.detector_laws.proofs.Firsts.{free_picks_pass, last_pick_tells, conflict_is_first}
use Rattle.detector_laws.proofs.law_first_on_way.Goals as goal

pub returns-clause-pass : goal.returns-clause-pass
returns-clause-pass c = free_picks_pass

pub returns-clause-last : goal.returns-clause-last
returns-clause-last c = last_pick_tells

pub returns-clause-conflict : goal.returns-clause-conflict
returns-clause-conflict c = conflict_is_first

use Rattle.ending_laws.proofs.Going.{only_bodies_end}
use Rattle.ending_laws.proofs.Main.{picks_stay_of_main, runs_end, starts_with_main}
use Rattle.ending_laws.proofs.law_runs_end.Goals as goal

pub returns-clause-bodies : goal.returns-clause-bodies
returns-clause-bodies c = only_bodies_end

pub returns-clause-starts : goal.returns-clause-starts
returns-clause-starts c = starts_with_main

pub returns-clause-stays : goal.returns-clause-stays
returns-clause-stays c = picks_stay_of_main

pub returns-clause-ends : goal.returns-clause-ends
returns-clause-ends c = runs_end

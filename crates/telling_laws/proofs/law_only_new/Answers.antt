use Rattle.telling_laws.proofs.New.{only_new_race, only_new_quarrel, nothing_at_first}
use Rattle.telling_laws.proofs.law_only_new.Goals as goal

pub returns-clause-races : goal.returns-clause-races
returns-clause-races c = only_new_race

pub returns-clause-quarrels : goal.returns-clause-quarrels
returns-clause-quarrels c = only_new_quarrel

pub returns-clause-begins : goal.returns-clause-begins
returns-clause-begins c = nothing_at_first

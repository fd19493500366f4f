use Rattle.c_model.proofs.FindingsTrue.{raises_true, runs_true, limits_true, races_met, quarrels_met}
use Rattle.c_model.proofs.law_findings_true.Goals as goal

pub returns-clause-raises : goal.returns-clause-raises
returns-clause-raises c = raises_true

pub returns-clause-steps : goal.returns-clause-steps
returns-clause-steps c = runs_true

pub returns-clause-limits : goal.returns-clause-limits
returns-clause-limits c = limits_true

pub returns-clause-pairs : goal.returns-clause-pairs
returns-clause-pairs c = λ world budget input vs pair picks. (races_met world budget input vs pair picks, quarrels_met world budget input vs pair picks)

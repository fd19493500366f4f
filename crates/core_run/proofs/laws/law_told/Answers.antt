use Rattle.core_run.proofs.Told.{told_canonical}
use Rattle.core_run.proofs.laws.law_told.Goals as goal

pub returns : goal.returns
returns c = told_canonical

use Rattle.run_values.proofs.Keeping.{values_stay, fillings_stay}
use Rattle.run_values.proofs.laws.law_values_stay.Goals as goal

pub returns-clause-values : goal.returns-clause-values
returns-clause-values c = values_stay

pub returns-clause-fillings : goal.returns-clause-fillings
returns-clause-fillings c = fillings_stay

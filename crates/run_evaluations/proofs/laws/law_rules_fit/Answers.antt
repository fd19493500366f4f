use Rattle.run_evaluations.proofs.FitLemmas.{rules_fit}
use Rattle.run_evaluations.proofs.laws.law_rules_fit.Goals as goal

pub returns : goal.returns
returns c = rules_fit

use Rattle.static_laws.proofs.Fits.{expressions_fit, results_fit, programs_fit, parameters_fit}
use Rattle.static_laws.proofs.law_lawful_sizes.Goals as goal

pub returns : goal.returns
returns c = record { expressions = expressions_fit; results = results_fit; programs = programs_fit; parameters = parameters_fit }

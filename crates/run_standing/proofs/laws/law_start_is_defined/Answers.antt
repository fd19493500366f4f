use Rattle.run_standing.proofs.Outcomes.{start_is_defined}
use Rattle.run_standing.proofs.laws.law_start_is_defined.Goals as goal

pub returns : goal.returns
returns c = start_is_defined

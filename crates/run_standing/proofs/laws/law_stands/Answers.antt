use Rattle.run_standing.proofs.Stands.{stands_so}
use Rattle.run_standing.proofs.laws.law_stands.Goals as goal

pub returns : goal.returns
returns c = stands_so

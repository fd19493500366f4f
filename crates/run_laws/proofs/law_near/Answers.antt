use Rattle.run_laws.proofs.Near.{moves_are_near}
use Rattle.run_laws.proofs.law_near.Goals as goal

pub returns : goal.returns
returns c = moves_are_near

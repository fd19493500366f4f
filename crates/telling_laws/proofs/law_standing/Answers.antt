use Rattle.telling_laws.proofs.Stands.{begins_standing, chooses_standing, tells_standing, completes_standing, gives_standing}
use Rattle.telling_laws.proofs.law_standing.Goals as goal

pub returns-clause-begins : goal.returns-clause-begins
returns-clause-begins c = begins_standing

pub returns-clause-chooses : goal.returns-clause-chooses
returns-clause-chooses c = chooses_standing

pub returns-clause-tells : goal.returns-clause-tells
returns-clause-tells c = tells_standing

pub returns-clause-completes : goal.returns-clause-completes
returns-clause-completes c = completes_standing

pub returns-clause-gives : goal.returns-clause-gives
returns-clause-gives c = gives_standing

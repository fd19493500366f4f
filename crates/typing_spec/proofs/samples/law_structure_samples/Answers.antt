use Rattle.typing_spec.proofs.Read.{reached, stored, unreached}
use Rattle.typing_spec.proofs.samples.law_structure_samples.Goals as goal

pub returns-clause-reached : goal.returns-clause-reached
returns-clause-reached c = reached

pub returns-clause-stored : goal.returns-clause-stored
returns-clause-stored c = stored

pub returns-clause-unreached : goal.returns-clause-unreached
returns-clause-unreached c = unreached

use Rattle.finding_laws.proofs.LeastOnes.{least_accesses, least_besides, least_of_items}
use Rattle.finding_laws.proofs.law_least_of_items.Goals as goal

pub returns-clause-any : goal.returns-clause-any
returns-clause-any c = least_of_items

pub returns-clause-races : goal.returns-clause-races
returns-clause-races c = least_accesses

pub returns-clause-besides : goal.returns-clause-besides
returns-clause-besides c = least_besides

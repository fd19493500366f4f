use Rattle.finding_laws.proofs.LeastOnes.{least_is_told}
use Rattle.finding_laws.proofs.law_least_items.Goals as goal

pub returns : goal.returns
returns c = least_is_told

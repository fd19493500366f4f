use Rattle.layout_laws.proofs.Limited.{extent-limited}
use Rattle.layout_laws.proofs.law_complete.Goals as goal

pub returns : goal.returns
returns c = λ tags t. extent-limited tags t

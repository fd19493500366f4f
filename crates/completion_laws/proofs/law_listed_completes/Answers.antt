use Rattle.completion_laws.proofs.Noted.{completes_listed}
use Rattle.completion_laws.proofs.law_listed_completes.Goals as goal

pub returns : goal.returns
returns c = completes_listed c.law_listed_tree.ensures.alike c.law_listed_tree.ensures.further

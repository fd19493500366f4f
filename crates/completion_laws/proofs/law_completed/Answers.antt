use Rattle.completion_laws.proofs.Found.{completes_by_next}
use Rattle.completion_laws.proofs.law_completed.Goals as goal

pub returns : goal.returns
returns c = completes_by_next

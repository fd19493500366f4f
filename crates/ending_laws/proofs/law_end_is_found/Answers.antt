use Rattle.ending_laws.proofs.Ending.{end_is_found}
use Rattle.ending_laws.proofs.law_end_is_found.Goals as goal

pub returns : goal.returns
returns c = end_is_found

use Rattle.code_view.proofs.Whole.{roots_stand}
use Rattle.code_view.proofs.law_code_roots.Goals as goal

pub returns : goal.returns
returns c = roots_stand

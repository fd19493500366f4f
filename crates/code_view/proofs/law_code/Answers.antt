use Rattle.code_view.proofs.Whole.{code_stands}
use Rattle.code_view.proofs.law_code.Goals as goal

pub returns : goal.returns
returns c = code_stands

use Rattle.code_view.proofs.Whole.{constants_lawful}
use Rattle.code_view.proofs.law_constants.Goals as goal

pub returns : goal.returns
returns c = constants_lawful

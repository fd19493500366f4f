use Rattle.c_model.proofs.ReturnZero.{alike, valid}
use Rattle.c_model.proofs.law_return_zero.Goals as goal

pub returns-clause-alike : goal.returns-clause-alike
returns-clause-alike c = alike

pub returns-clause-valid : goal.returns-clause-valid
returns-clause-valid c = valid

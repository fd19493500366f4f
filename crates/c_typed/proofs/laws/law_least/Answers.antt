use Rattle.c_typed.proofs.Least.{least_is_lawful}
use Rattle.c_typed.proofs.laws.law_least.Goals as goal

pub returns : goal.returns
returns c = least_is_lawful

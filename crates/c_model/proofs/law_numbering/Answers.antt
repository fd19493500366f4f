use Rattle.c_model.proofs.Numbers.{numbered}
use Rattle.c_model.proofs.law_numbering.Goals as goal

pub returns : goal.returns
returns c = numbered

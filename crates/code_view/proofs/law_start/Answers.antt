use Rattle.code_view.proofs.Starting.{start_stands}
use Rattle.code_view.proofs.law_start.Goals as goal

pub returns : goal.returns
returns c = start_stands

use Rattle.code_view.proofs.Formed.{trees_formed}
use Rattle.code_view.proofs.law_code_formed.Goals as goal

pub returns : goal.returns
returns c = trees_formed

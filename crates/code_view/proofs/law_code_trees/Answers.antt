use Rattle.code_view.proofs.Whole.{trees_fit}
use Rattle.code_view.proofs.law_code_trees.Goals as goal

pub returns : goal.returns
returns c = trees_fit

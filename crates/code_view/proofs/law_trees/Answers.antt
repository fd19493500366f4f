use Rattle.code_view.proofs.Known.{trees_lawful}
use Rattle.code_view.proofs.law_trees.Goals as goal

pub returns : goal.returns
returns c = trees_lawful

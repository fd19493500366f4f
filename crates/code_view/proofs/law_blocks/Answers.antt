use Rattle.code_view.proofs.Blocks.{blocks_stand, blocks_there, expressions_stand}
use Rattle.code_view.proofs.law_blocks.Goals as goal

pub returns-clause-stand : goal.returns-clause-stand
returns-clause-stand c = blocks_stand

pub returns-clause-there : goal.returns-clause-there
returns-clause-there c = blocks_there

pub returns-clause-expressions : goal.returns-clause-expressions
returns-clause-expressions c = expressions_stand

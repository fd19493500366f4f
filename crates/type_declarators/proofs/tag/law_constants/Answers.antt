use Rattle.type_declarators.proofs.ConstantsKept.{told}
use Rattle.type_declarators.proofs.tag.law_constants.Goals as goal

pub returns : goal.returns
returns c = told

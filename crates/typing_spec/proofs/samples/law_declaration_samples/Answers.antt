use Rattle.typing_spec.proofs.Read.{declarators, specifiers, linkage}
use Rattle.typing_spec.proofs.samples.law_declaration_samples.Goals as goal

pub returns-clause-declarators : goal.returns-clause-declarators
returns-clause-declarators c = declarators

pub returns-clause-specifiers : goal.returns-clause-specifiers
returns-clause-specifiers c = specifiers

pub returns-clause-linkage : goal.returns-clause-linkage
returns-clause-linkage c = linkage

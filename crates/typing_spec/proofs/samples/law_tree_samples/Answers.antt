use Rattle.typing_spec.proofs.Read.{integers, pointers, statements}
use Rattle.typing_spec.proofs.samples.law_tree_samples.Goals as goal

pub returns-clause-integers : goal.returns-clause-integers
returns-clause-integers c = integers

pub returns-clause-pointers : goal.returns-clause-pointers
returns-clause-pointers c = pointers

pub returns-clause-statements : goal.returns-clause-statements
returns-clause-statements c = statements

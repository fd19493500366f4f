use Rattle.typing_spec.proofs.Read.{scalars, lists}
use Rattle.typing_spec.proofs.samples.law_initializer_samples.Goals as goal

pub returns-clause-scalars : goal.returns-clause-scalars
returns-clause-scalars c = scalars

pub returns-clause-lists : goal.returns-clause-lists
returns-clause-lists c = lists

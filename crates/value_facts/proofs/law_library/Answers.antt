use Rattle.value_facts.proofs.Libraries.{library_is_small}
use Rattle.value_facts.proofs.law_library.Goals as goal

pub returns : goal.returns
returns c = library_is_small

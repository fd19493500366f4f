use Rattle.value_facts.proofs.Acting.{acts_give_small}
use Rattle.value_facts.proofs.law_small.Goals as goal

pub returns : goal.returns
returns c = acts_give_small

use Rattle.run_evaluations.proofs.FollowLemmas.{choices_grow}
use Rattle.run_evaluations.proofs.laws.law_choices_grow.Goals as goal

pub returns : goal.returns
returns c = choices_grow

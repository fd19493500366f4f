use Rattle.finding_laws.proofs.Strange.{tell_nothing}
use Rattle.finding_laws.proofs.law_forgotten_items.Goals as goal

pub returns : goal.returns
returns c = tell_nothing

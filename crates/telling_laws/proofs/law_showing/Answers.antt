use Rattle.telling_laws.proofs.Shown.{shows_newly, shown_are_done}
use Rattle.telling_laws.proofs.law_showing.Goals as goal

pub returns-clause-newly : goal.returns-clause-newly
returns-clause-newly c = shows_newly

pub returns-clause-done : goal.returns-clause-done
returns-clause-done c = shown_are_done

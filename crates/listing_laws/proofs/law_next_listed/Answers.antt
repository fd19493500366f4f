use Rattle.listing_laws.proofs.Going.{takes_first, settles_at_end}
use Rattle.listing_laws.proofs.law_next_listed.Goals as goal

pub returns-clause-first : goal.returns-clause-first
returns-clause-first c = takes_first

pub returns-clause-settled : goal.returns-clause-settled
returns-clause-settled c = settles_at_end

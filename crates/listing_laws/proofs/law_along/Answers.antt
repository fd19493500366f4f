use Rattle.listing_laws.proofs.Going.{begins_along, goes_further, starts_along, ends_along}
use Rattle.listing_laws.proofs.law_along.Goals as goal

pub returns-clause-begins : goal.returns-clause-begins
returns-clause-begins c = begins_along

pub returns-clause-further : goal.returns-clause-further
returns-clause-further c = goes_further

pub returns-clause-starts : goal.returns-clause-starts
returns-clause-starts c = starts_along

pub returns-clause-ends : goal.returns-clause-ends
returns-clause-ends c = ends_along

use Rattle.listing_laws.proofs.Agreeing.{lists_alike, permits_alike, takes_alike}
use Rattle.listing_laws.proofs.law_unevaluated_choices.Goals as goal

pub returns-clause-lists : goal.returns-clause-lists
returns-clause-lists c = lists_alike

pub returns-clause-permits : goal.returns-clause-permits
returns-clause-permits c = permits_alike

pub returns-clause-takes : goal.returns-clause-takes
returns-clause-takes c = takes_alike

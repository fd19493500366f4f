use Rattle.finding_laws.proofs.FirstPairs.{events_by_places, first_found, first_pair_taken, no_pair_taken}
use Rattle.finding_laws.proofs.law_first_pair.Goals as goal

pub returns-clause-taken : goal.returns-clause-taken
returns-clause-taken c = first_pair_taken

pub returns-clause-none : goal.returns-clause-none
returns-clause-none c = no_pair_taken

pub returns-clause-found : goal.returns-clause-found
returns-clause-found c = first_found

pub returns-clause-events : goal.returns-clause-events
returns-clause-events c = events_by_places

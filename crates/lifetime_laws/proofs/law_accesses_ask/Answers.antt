use Rattle.lifetime_laws.proofs.Asked.{library_runs_ask, orders_ask, picks_ask, starts_ask}
use Rattle.lifetime_laws.proofs.law_accesses_ask.Goals as goal

pub returns-clause-starts : goal.returns-clause-starts
returns-clause-starts c = starts_ask

pub returns-clause-picks : goal.returns-clause-picks
returns-clause-picks c = picks_ask

pub returns-clause-orders : goal.returns-clause-orders
returns-clause-orders c = orders_ask

pub returns-clause-library : goal.returns-clause-library
returns-clause-library c = library_runs_ask

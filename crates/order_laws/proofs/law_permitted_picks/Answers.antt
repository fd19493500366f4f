use Rattle.order_laws.proofs.Permitted.{picks_agree, canonical_is_permitted}
use Rattle.order_laws.proofs.law_permitted_picks.Goals as goal

pub returns-clause-picks : goal.returns-clause-picks
returns-clause-picks c = picks_agree

pub returns-clause-canonical : goal.returns-clause-canonical
returns-clause-canonical c = canonical_is_permitted

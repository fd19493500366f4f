use Rattle.quiet_laws.proofs.Events.{events_suit, quiet_events}
use Rattle.quiet_laws.proofs.law_quiet_events.Goals as goal

pub returns-clause-suit : goal.returns-clause-suit
returns-clause-suit c = events_suit

pub returns-clause-quiet : goal.returns-clause-quiet
returns-clause-quiet c = quiet_events c.law_quiet_items.ensures

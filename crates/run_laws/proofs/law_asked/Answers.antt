use Rattle.run_laws.proofs.Asked.{rooms_asked, code_has_rooms, events_asked, labels_asked}
use Rattle.run_laws.proofs.law_asked.Goals as goal

pub returns-clause-rooms : goal.returns-clause-rooms
returns-clause-rooms c = rooms_asked

pub returns-clause-code : goal.returns-clause-code
returns-clause-code c = code_has_rooms c.law_rooms.ensures

pub returns-clause-events : goal.returns-clause-events
returns-clause-events c = events_asked

pub returns-clause-labels : goal.returns-clause-labels
returns-clause-labels c = labels_asked

pub returns-clause-constants : goal.returns-clause-constants
returns-clause-constants c = c.law_constants.ensures

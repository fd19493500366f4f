use Rattle.finding_laws.proofs.AtEnd.{any_is_asked, any_is_had, any_is_had_besides, only_ends_meet, races_as_before}
use Rattle.finding_laws.proofs.law_items_at_end.Goals as goal

pub returns-clause-had : goal.returns-clause-had
returns-clause-had c = any_is_had

pub returns-clause-besides : goal.returns-clause-besides
returns-clause-besides c = any_is_had_besides

pub returns-clause-asked : goal.returns-clause-asked
returns-clause-asked c = any_is_asked

pub returns-clause-meet : goal.returns-clause-meet
returns-clause-meet c = only_ends_meet

pub returns-clause-races : goal.returns-clause-races
returns-clause-races c = races_as_before

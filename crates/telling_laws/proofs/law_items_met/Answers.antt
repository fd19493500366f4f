use Rattle.telling_laws.proofs.ClashLemmas.{meets_by_items, races_by_items, has_least}
use Rattle.telling_laws.proofs.Besides.{has_least_besides, meets_besides, races_besides}
use Rattle.telling_laws.proofs.law_items_met.Goals as goal

pub returns-clause-meets : goal.returns-clause-meets
returns-clause-meets c = meets_by_items

pub returns-clause-races : goal.returns-clause-races
returns-clause-races c = races_by_items

pub returns-clause-least : goal.returns-clause-least
returns-clause-least c = has_least

pub returns-clause-meets_besides : goal.returns-clause-meets_besides
returns-clause-meets_besides c = meets_besides

pub returns-clause-races_besides : goal.returns-clause-races_besides
returns-clause-races_besides c = races_besides

pub returns-clause-least_besides : goal.returns-clause-least_besides
returns-clause-least_besides c = has_least_besides

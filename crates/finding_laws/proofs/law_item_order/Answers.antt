use Rattle.finding_laws.proofs.Keys.{items_by, pairs_by}
use Rattle.finding_laws.proofs.law_item_order.Goals as goal

pub returns : goal.returns
returns c = record { items = items_by; pairs = pairs_by }

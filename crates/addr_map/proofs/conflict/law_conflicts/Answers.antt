use Rattle.addr_map.proofs.Conflicts.{items_turned, lists_turned}
use Rattle.addr_map.proofs.conflict.law_conflicts.Goals as goal

pub returns-clause-items : goal.returns-clause-items
returns-clause-items c = items_turned

pub returns-clause-lists : goal.returns-clause-lists
returns-clause-lists c = lists_turned

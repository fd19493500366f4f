use Rattle.order_laws.proofs.Passes.{update_passes, update_is_whole}
use Rattle.order_laws.proofs.law_update_past.Goals as goal

pub returns-clause-past : goal.returns-clause-past
returns-clause-past c = update_passes

pub returns-clause-whole : goal.returns-clause-whole
returns-clause-whole c = update_is_whole

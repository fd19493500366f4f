use Rattle.frame_laws.proofs.OrdersKeep.{runs_are_ordered}
use Rattle.frame_laws.proofs.law_runs.Goals as goal

pub returns : goal.returns
returns c = runs_are_ordered c.law_scoped.ensures.scoped c.law_scoped.ensures.main

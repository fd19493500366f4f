use Rattle.frame_laws.proofs.StateKeeps.{starts_ordered, steps_ordered}
use Rattle.frame_laws.proofs.OrdersKeep.{orders_ordered, canonical_ordered}
use Rattle.frame_laws.proofs.law_ordered.Goals as goal

pub returns : goal.returns
returns c = record { starts = starts_ordered; keeps = steps_ordered; orders = orders_ordered; canonical = canonical_ordered }

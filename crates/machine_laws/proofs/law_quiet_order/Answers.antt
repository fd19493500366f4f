use Rattle.machine_laws.proofs.Nested.{quiet_order_runs}
use Rattle.machine_laws.proofs.law_quiet_order.Goals as goal

pub returns : goal.returns
returns g c = λ m ends laws f s n o s' q. quiet_order_runs m ends laws f s n o s' q

use Rattle.c_model.proofs.MachineOrders.{ends_alike}
use Rattle.c_model.proofs.law_orders_end_alike.Goals as goal

pub returns : goal.returns
returns g c = λ m k a b ps gs v s' r o. ends_alike m k.0 k.1 k.2 k.3 a b ps gs v s' r o

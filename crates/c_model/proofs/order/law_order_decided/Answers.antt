use Rattle.c_model.proofs.Closed.{before_found, found_before}
use Rattle.c_model.proofs.order.law_order_decided.Goals as goal

pub returns : goal.returns
returns c = λ root taken u v du dv. (found_before root taken u v du dv, before_found root taken u v)

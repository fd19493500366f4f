use Rattle.std.proofs.Common.{arith}
use Rattle.c_names.proofs.OrderLemmas.{drop_step, drop_end}
use Rattle.c_names.proofs.order.raised.Goals as goal

pub loop-left-preserved : goal.loop-left-preserved
loop-left-preserved c = drop_step _ _ _ _ (omega arith) c.parent_of-frame.ensures c.loop-left.invariant

pub returns : goal.returns
returns c = drop_end c.loop-left.left _ _ (omega arith) c.loop-left.invariant

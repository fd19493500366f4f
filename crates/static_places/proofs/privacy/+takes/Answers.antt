use Rattle.static_places.proofs.Taking.{begun}
use Rattle.static_places.proofs.privacy.+takes.Goals as goal

pub takes-loop-operand-init : goal.takes-loop-operand-init
takes-loop-operand-init t c =
    begun c.args.slot c.args.tree.now c.args.place c.node_takes.result c.accesses-first.result c.as_slice-operand-items.result.now c.node_takes.ensures
    c.if-node_takes.false (c.accesses-first.ensures c.args.slot) c.as_slice-operand-items.ensures

use Rattle.std.proofs.Common.{◌≡◌}
use Rattle.std.specs.Ordering.{nat_cmp, ordering_then}
use Rattle.ub_base.specs.NameOrders.{kind_cmp}
use Rattle.c_names.specs.Orders.{frame_cmp, kind_rank, event_cmp}
use Rattle.c_names.proofs.OrderLemmas.{four_then, kinds_by_rank}
use Rattle.c_names.proofs.order.cmp_events.Goals as goal

pub returns : goal.returns
returns c =
    let a = c.args.a.now in
    let b = c.args.b.now in
    let whole : ordering_then (ordering_then (ordering_then (frame_cmp c.args.frames.now a.frame.0 b.frame.0) (nat_cmp a.turn b.turn))
    (nat_cmp a.node b.node)) (kind_cmp a.kind b.kind) ≡ event_cmp c.args.frames.now a b =
    four_then (frame_cmp c.args.frames.now a.frame.0 b.frame.0) (nat_cmp a.turn b.turn) (nat_cmp a.node b.node) (kind_cmp a.kind b.kind)
    (nat_cmp (kind_rank a.kind) (kind_rank b.kind)) (kinds_by_rank a.kind b.kind) in
    cc

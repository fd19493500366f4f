use Rattle.std.proofs.Common.{◌∙◌, nat_cmp}
use Rattle.c_names.specs.Orders.{event_cmp, object_cmp}
use Rattle.footprint.proofs.LeastLemmas.{four_from}
use Rattle.footprint.proofs.order.cmp_items.Goals as goal

pub returns : goal.returns
returns c =
    let rows = c.args.frames.now in
    four_from _ _ _ _ _ _ _ c.then.ensures c.then-2.ensures c.then-3.ensures
    (c.cmp.ensures ∙ (λ i. nat_cmp (c.rank.ensures i) (c.rank-2.ensures i)))
    (c.cmp_events.ensures ∙ (λ i. event_cmp rows (c.event_of.ensures i) (c.event_of-2.ensures i)))
    (c.cmp_objects.ensures ∙ (λ i. object_cmp rows (c.object_of.ensures i) (c.object_of-2.ensures i)))
    (c.cmp-2.ensures ∙ (λ i. nat_cmp (c.number_of.ensures i) (c.number_of-2.ensures i)))

-- One more entry, and all of them.
use Rattle.std.proofs.Common.{arith}
use Rattle.std.proofs.lemmas.List.{get_or_default}
use Rattle.certificate_writing.specs.Writing.{segment_entry}
use Rattle.certificate_writing.proofs.Entries.{array_of, grown}
use Rattle.certificate_writing.proofs.write.order_value.Goals as goal

pub loop-segment-preserved : goal.loop-segment-preserved
loop-segment-preserved c =
    grown segment_entry c.args.order.now c.loop-segment.segment-index _ _ c.loop-segment.items.items c.push.new.self.items c.in_ok-segment_value.field-0
    c.loop-segment.invariant (omega arith) (omega arith) (get_or_default c.args.order.now c.loop-segment.segment-index _ _ (omega arith))
    c.in_ok-segment_value.ensures c.in_ok-push.ensures.items

pub returns : goal.returns
returns c = array_of segment_entry c.args.order.now c.loop-segment.segment-index c.loop-segment.items c.loop-segment.invariant (omega arith)

-- The items are the entries of the stretches before the loop's place.
use Rattle.std.proofs.Common.{◌≡◌, map, take}
use Rattle.serde_json.specs.View.{view}
use Rattle.certificate_writing.specs.Writing.{segment_entry}
use Rattle.certificate_writing.proofs.write.order_value.Given as goal

abbrev pub invariant-loop-segment : goal.invariant-loop-segment
invariant-loop-segment l = map view l.items.items ≡ map segment_entry (take l.segment-index l.order)

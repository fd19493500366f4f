-- The stretches so far, and those behind the loop's place, are those of all entries.
use Rattle.std.proofs.Common.{◌≡◌, ◌≤◌, map, drop}
use Rattle.serde_json.specs.View.{view}
use Rattle.certificate.specs.Form.{total_picks}
use Rattle.certificate_text.specs.Reading.{segments_in}
use Rattle.certificate_text.proofs.OrderSteps.{behind}
use Rattle.certificate_text.proofs.read_order.segments.Given as goal

abbrev pub invariant-loop-entry : goal.invariant-loop-entry
invariant-loop-entry l = record {
  all : segments_in (map view l.entries) ≡ behind l.order (segments_in (map view (drop l.entry-index l.entries)));
  picks : l.total ≡ total_picks l.order;
  few : l.total ≤ l.most;
}

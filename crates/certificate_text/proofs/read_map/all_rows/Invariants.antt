-- The rows so far, and those of the entries behind the loop's place, are those of all entries.
use Rattle.std.proofs.Common.{◌≡◌, true, map, drop}
use Rattle.serde_json.specs.View.{view}
use Rattle.certificate_text.specs.Reading.{rows_in, has_few_rows}
use Rattle.certificate_text.proofs.RowSteps.{behind}
use Rattle.certificate_text.proofs.read_map.all_rows.Given as goal

abbrev pub invariant-loop-entry : goal.invariant-loop-entry
invariant-loop-entry l = record {
  all : rows_in l.version l.frames (map view l.entries) ≡ behind l.rows (rows_in l.version l.frames (map view (drop l.entry-index l.entries)));
  few : has_few_rows l.version l.rows ≡ true;
}

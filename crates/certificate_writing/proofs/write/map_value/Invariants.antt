-- The items, and the entries of the rows that are left, are the entries of all rows.
use Rattle.std.proofs.Common.{◌≤◌, ◌+◌, List, ◌++◌, length, map}
use Rattle.serde_json.specs.Data.{Data}
use Rattle.serde_json.specs.View.{view}
use Rattle.certificate_writing.specs.Writing.{Packs}
use Rattle.certificate_writing.proofs.write.map_value.Given as goal

abbrev pub invariant-loop-turn : goal.invariant-loop-turn
invariant-loop-turn l = record {
  packs : (entries : List Data) → Packs l.rest entries → Packs l.rows (map view l.items.items ++ entries);
  fewer : length l.rest + l._turn ≤ length l.rows;
}

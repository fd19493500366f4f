-- The rows that were added, and those behind the loop's place, are those of the run.
use Rattle.std.proofs.Common.{◌≡◌, ◌-◌, List, ◌++◌, length}
use Rattle.addr_map.specs.declared.map.Row.{Row}
use Rattle.certificate_text.specs.Reading.{rows_of, run_rows}
use Rattle.certificate_text.proofs.RowSteps.{behind}
use Rattle.certificate_text.proofs.read_map.add_run.Given as goal

abbrev pub invariant-loop-at : goal.invariant-loop-at
invariant-loop-at l =
    (taken : List Row) × (l.rows ≡ l.initial.rows ++ taken) × (length taken ≡ l.at)
    × (rows_of l.words ≡ behind taken (run_rows l.words.first l.words.stride l.at (l.words.count - l.at)))

-- The rows before the loop's place are those of the run.
use Rattle.std.proofs.Common.{◌≡◌, take, Some}
use Rattle.certificate_text.specs.Reading.{run_rows}
use Rattle.certificate_writing.proofs.longest.run_len.Given as goal

abbrev pub invariant-loop-at : goal.invariant-loop-at
invariant-loop-at l = run_rows l.first l.stride 0 l.at ≡ Some (take l.at l.rows)

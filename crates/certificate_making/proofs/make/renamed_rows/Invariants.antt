-- The rows before the loop's place are renamed.
use Rattle.std.proofs.Common.{◌≡◌, map, take}
use Rattle.certificate_making.specs.Numbering.{renamed_row}
use Rattle.certificate_making.proofs.make.renamed_rows.Given as goal

abbrev pub invariant-loop-row : goal.invariant-loop-row
invariant-loop-row l = l.renamed ≡ map (renamed_row l.numbering.numbers.items l.numbering.count) (take l.row-index l.rows)

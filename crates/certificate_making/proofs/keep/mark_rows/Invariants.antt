-- Marking the frames of the rows that are left gives the marks of all.
use Rattle.std.proofs.Common.{◌≡◌, drop}
use Rattle.certificate_making.specs.Marking.{mark_all, row_frames}
use Rattle.certificate_making.proofs.keep.mark_rows.Given as goal

abbrev pub invariant-loop-row : goal.invariant-loop-row
invariant-loop-row l = mark_all l.marks (row_frames (drop l.row-index l.rows)) ≡ mark_all l.fn.marks (row_frames l.rows)

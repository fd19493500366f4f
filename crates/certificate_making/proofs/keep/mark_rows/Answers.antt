-- The frames of one more row are marked, or all of them.
use Rattle.certificate_making.proofs.Marks.{rows_end, rows_on}
use Rattle.certificate_making.proofs.keep.mark_rows.Goals as goal
use Rattle.std.proofs.Common.{arith}

pub loop-row-preserved : goal.loop-row-preserved
loop-row-preserved c =
    rows_on c.args.rows.now c.loop-row.row-index _ c.loop-row.marks c.mark_name.new.marks _ c.loop-row-test.true c.mark_name.ensures c.loop-row.invariant

pub returns : goal.returns
returns c = rows_end c.args.rows.now c.loop-row.row-index c.loop-row.marks _ (omega arith) c.loop-row.invariant

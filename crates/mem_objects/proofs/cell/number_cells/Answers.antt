use Rattle.mem_objects.specs.Pieces.{plain_cells}
use Rattle.mem_objects.proofs.PieceLemmas.{plain_put}
use Rattle.mem_objects.proofs.cell.number_cells.Goals as goal

pub loop-index-preserved : goal.loop-index-preserved
loop-index-preserved c =
    plain_put c.loop-index.cells (plain_cells 8 c.args.number) 8 c.loop-index.index c.loop-index.rest c.plain.result c.loop-index-test.true
    c.loop-index.invariant.0 c.loop-index.invariant.1 c.plain.ensures

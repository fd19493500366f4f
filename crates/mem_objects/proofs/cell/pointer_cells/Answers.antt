use Rattle.mem_objects.specs.Pieces.{piece_cells}
use Rattle.mem_objects.proofs.PieceLemmas.{piece_put}
use Rattle.mem_objects.proofs.cell.pointer_cells.Goals as goal

pub loop-index-preserved : goal.loop-index-preserved
loop-index-preserved c =
    piece_put c.loop-index.cells (piece_cells 8 0 c.args.origin c.args.addr) 8 c.loop-index.index c.args.origin c.loop-index.rest c.piece.result
    c.loop-index-test.true c.loop-index.invariant.0 c.loop-index.invariant.1 c.piece.ensures

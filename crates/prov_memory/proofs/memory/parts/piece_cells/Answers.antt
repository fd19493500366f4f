use Rattle.mem_objects.specs.Pieces.{piece_cells}
use Rattle.mem_objects.proofs.PieceLemmas.{piece_pushed}
use Rattle.prov_memory.proofs.memory.parts.piece_cells.Goals as goal

pub loop-index-preserved : goal.loop-index-preserved
loop-index-preserved c =
    piece_pushed c.loop-index.cells.items c.push.new.self.items (piece_cells 8 0 c.args.origin c.args.addr) 8 c.loop-index.index c.args.origin
    c.loop-index.rest c.piece.result c.loop-index-test.true c.loop-index.invariant c.in_ok-push.ensures.items c.piece.ensures

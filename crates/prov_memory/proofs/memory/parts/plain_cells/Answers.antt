use Rattle.mem_objects.specs.Pieces.{plain_cells}
use Rattle.mem_objects.proofs.PieceLemmas.{plain_pushed}
use Rattle.prov_memory.proofs.memory.parts.plain_cells.Goals as goal

pub loop-index-preserved : goal.loop-index-preserved
loop-index-preserved c =
    plain_pushed c.loop-index.cells.items c.push.new.self.items (plain_cells c.args.count c.args.number) c.args.count c.loop-index.index c.loop-index.rest
    c.plain.result c.loop-index-test.true c.loop-index.invariant c.in_ok-push.ensures.items c.plain.ensures

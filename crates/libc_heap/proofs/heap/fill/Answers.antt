use Rattle.libc_heap.proofs.Making.{filled_is}
use Rattle.libc_heap.proofs.heap.fill.Goals as goal

pub returns-clause-exact : goal.returns-clause-exact
returns-clause-exact c = λ short seen sees at io.
    filled_is c.store.result c.args.m.now c.store.new.self c.args.via seen c.args.object c.args.addr c.args.block.now.cells c.store.new.t
    c.store.ensures.exact c.store.ensures.raises short sees at io

use Rattle.mem_objects.specs.Memory.{store_of}
use Rattle.libc_heap.proofs.Resizing.{released_null, released_fault}
use Rattle.libc_heap.proofs.heap.release.Goals as goal

pub returns-in-Ok-clause-exact : goal.returns-in-Ok-clause-exact
returns-in-Ok-clause-exact c = λ io has.
    released_null c.free.new.m.rows c.args.pointer.addr c.args.pointer.prov c.value.result c.free.new.t (store_of c.args.m.now io)
    (store_of c.free.new.m io) c.value.ensures (c.in-Ok.ensures.exact io has)

pub returns-in-Err-clause-exact : goal.returns-in-Err-clause-exact
returns-in-Err-clause-exact c = λ io has.
    released_fault c.free.new.m.rows c.args.pointer.addr c.args.pointer.prov c.in-Err.answer c.free.new.t (store_of c.args.m.now io)
    (store_of c.free.new.m io) (c.in-Err.ensures.exact io has)

use Rattle.std.proofs.Common.{None}
use Rattle.mem_spec.specs.Acts.{create}
use Rattle.mem_objects.specs.Memory.{store_of}
use Rattle.mem_spec.specs.Script.{run}
use Rattle.libc_spec.specs.Library.{heap_kind}
use Rattle.libc_heap.proofs.Allocating.{created_done}
use Rattle.libc_heap.proofs.heap.created.Goals as goal

pub returns-in-Ok-clause-exact : goal.returns-in-Ok-clause-exact
returns-in-Ok-clause-exact c = λ io known.
    created_done c.args.name c.in-Ok.addr c.create.new.t (store_of c.create.new.self io)
    (run c.create.new.self.rows (create c.create.new.self.rows c.args.name c.args.size 16 heap_kind None) (store_of c.args.m.now io))
    (c.in-Ok.ensures.exact known io)

use Rattle.mem_objects.specs.Memory.{store_of}
use Rattle.libc_arguments.specs.Seen.{values_seen}
use Rattle.libc_arguments.proofs.Answering.{free_called, free_refused, first_cell}
use Rattle.libc_model.proofs.calls.free.Goals as goal

pub returns-in-Ok-clause-exact : goal.returns-in-Ok-clause-exact
returns-in-Ok-clause-exact c = λ io within call who.
    free_called c.free.new.m.rows (values_seen c.args.args.now) who c.pointer_at.result.addr c.pointer_at.result.prov (store_of c.args.m.now io)
    (store_of c.free.new.m io) c.free.new.t within c.pointer_at.ensures
    (c.in-Ok.ensures.exact io (first_cell c.args.m.now (values_seen c.args.args.now) c.pointer_at.result.addr c.pointer_at.result.prov call.cells
    c.pointer_at.ensures))

pub returns-in-Err-clause-exact : goal.returns-in-Err-clause-exact
returns-in-Err-clause-exact c = λ io within call who.
    free_refused c.free.new.m.rows (values_seen c.args.args.now) who c.pointer_at.result.addr c.pointer_at.result.prov (store_of c.args.m.now io)
    (store_of c.free.new.m io) c.free.new.t c.in-Err.answer within c.pointer_at.ensures
    (c.in-Err.ensures.exact io (first_cell c.args.m.now (values_seen c.args.args.now) c.pointer_at.result.addr c.pointer_at.result.prov call.cells
    c.pointer_at.ensures))

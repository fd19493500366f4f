use Rattle.std.proofs.Common.{◌∙◌, sym}
use Rattle.libc_heap.proofs.Freeing.{freed_whole}
use Rattle.libc_heap.proofs.heap.free_object.Goals as goal

pub returns-then-is_start-clause-exact : goal.returns-then-is_start-clause-exact
returns-then-is_start-clause-exact c = λ io.
    freed_whole c.args.addr c.args.object c.args.clause c.args.m.now c.kill.new.self c.kill.new.t io c.requires
    (sym c.is_heap_start-is_start.ensures ∙ c.if-is_start.true) c.kill.ensures.rows (c.kill.ensures.exact io)

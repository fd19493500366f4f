use Rattle.std.proofs.Common.{sym, subst}
use Rattle.exposure.specs.declared.prov.Prov.{Prov}
use Rattle.mem_objects.specs.Memory.{HasCell, store_of}
use Rattle.libc_spec.specs.Library.{argument_at, address_in, prov_in, size_of_value}
use Rattle.libc_arguments.specs.Seen.{values_seen}
use Rattle.libc_arguments.proofs.Answering.{address_is, one_size, first_has}
use Rattle.libc_heap.proofs.Resizing.{does_args}
use Rattle.libc_heap.proofs.heap.reallocate.Goals as goal

pub returns-clause-exact : goal.returns-clause-exact
returns-clause-exact c = λ io call.
    let vs = values_seen c.args.args.now in
    let p = c.pointer_at.result in
    let at = address_is p.addr (address_in (argument_at vs 0)) p.prov (prov_in (argument_at vs 0)) c.pointer_at.ensures in
    does_args c.change_size.result c.change_size.new.t (store_of c.change_size.new.m io) c.args.m.now io c.change_size.new.m.rows c.args.who p.addr
    (address_in (argument_at vs 0)) p.prov (prov_in (argument_at vs 0)) c.size_at.result (size_of_value (argument_at vs 1))
    at.0 at.1 (c.size_at.ensures (one_size vs 1 call.sizes))
    (c.change_size.ensures.exact io (record { known = call.known; tagged = call.tags.0; bare = call.tags.1; high = call.high })
    (subst (λ (q : Prov). HasCell c.args.m.now q) (sym at.1) (first_has c.args.m.now vs call.cells)))

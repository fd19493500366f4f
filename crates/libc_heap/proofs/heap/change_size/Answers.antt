use Rattle.mem_objects.specs.Memory.{store_of}
use Rattle.libc_heap.proofs.Resizing.{null_changes, none_changes, some_changes}
use Rattle.libc_heap.proofs.heap.change_size.Goals as goal

pub returns-then-pointer-eq0-clause-exact : goal.returns-then-pointer-eq0-clause-exact
returns-then-pointer-eq0-clause-exact c = λ io can has.
    null_changes c.allocate.result c.allocate.new.t (store_of c.allocate.new.m io) c.args.m.now io c.allocate.new.m.rows c.args.who c.args.pointer.addr
    c.args.pointer.prov c.args.size c.if-pointer-eq0.true (c.allocate.ensures.exact io can.known)

pub returns-then-size-eq0-clause-exact : goal.returns-then-size-eq0-clause-exact
returns-then-size-eq0-clause-exact c = λ io can has.
    none_changes c.release.result c.release.new.t (store_of c.release.new.m io) c.args.m.now io c.release.new.m.rows c.args.who c.args.pointer.addr
    c.args.pointer.prov c.args.size c.if-pointer-eq0.false c.if-size-eq0.true (c.release.ensures.exact io has)

pub returns-clause-exact : goal.returns-clause-exact
returns-clause-exact c = λ io can has.
    some_changes c.resize.result c.resize.new.t (store_of c.resize.new.m io) c.args.m.now io c.resize.new.m.rows c.args.who c.args.pointer.addr
    c.args.pointer.prov c.args.size c.if-pointer-eq0.false c.if-size-eq0.false (c.resize.ensures.exact io can has)

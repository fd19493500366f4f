use Rattle.c_types.specs.Types.{type_of}
use Rattle.mem_spec.specs.Acts.{load_ptr}
use Rattle.mem_objects.specs.Memory.{HasCell, AreKnown, store_of}
use Rattle.run_acts.proofs.Acts.{as_pointer, pointer_given, fault_given}
use Rattle.run_values.proofs.Keeping.{pointer_loaded}
use Rattle.run_acts.proofs.storage.load_pointer.Goals as goal

pub returns-clause-exact : goal.returns-clause-exact
returns-clause-exact c =
    let old = c.args.m.now in
    let new = c.load_ptr.new.self in
    let p = c.args.place in
    pointer_given c.load_ptr.result (HasCell old p.prov) (AreKnown old) old.rows (load_ptr old.rows (type_of c.args.ty.now) c.args.who 8 p.addr p.prov)
    (store_of old) new c.load_ptr.new.t (store_of new) c.load_ptr.ensures.exact

pub returns-clause-raises : goal.returns-clause-raises
returns-clause-raises c =
    let old = c.args.m.now in
    let p = c.args.place in
    fault_given c.load_ptr.result old.rows (load_ptr old.rows (type_of c.args.ty.now) c.args.who 8 p.addr p.prov) as_pointer
    (store_of old) c.load_ptr.ensures.raises

pub returns-clause-made : goal.returns-clause-made
returns-clause-made c = pointer_loaded c.load_ptr.result c.args.m.now c.load_ptr.new.self c.load_ptr.ensures.value

use Rattle.std.proofs.Common.{ap}
use Rattle.std.proofs.lemmas.Result.{err_from_is_err_and}
use Rattle.c_types.specs.Types.{type_of}
use Rattle.mem_spec.specs.Acts.{load_ptr}
use Rattle.mem_objects.specs.Memory.{Kept, HasCell, AreKnown, store_of}
use Rattle.mem_objects.specs.Sound.{IsSound}
use Rattle.run_values.specs.Views.{pointer_at}
use Rattle.run_acts.proofs.Acts.{as_pointer, raise_given}
use Rattle.run_acts.proofs.Updates.{there, made_there}
use Rattle.run_acts.proofs.pointers.pointer_there.Goals as goal

pub returns-clause-exact : goal.returns-clause-exact
returns-clause-exact c =
    let old = c.args.m.now in
    let new = c.load_ptr.new.self in
    let p = c.args.place in
    there c.in_ok-value.value (HasCell old p.prov) (AreKnown old) old.rows (load_ptr old.rows (type_of c.args.ty.now) c.args.who 8 p.addr p.prov)
    (store_of old) new (pointer_at c.as_pointer.result) c.load_ptr.new.t (store_of new) (c.as_pointer.ensures new) c.in_ok-value.ensures.exact

pub returns-clause-made : goal.returns-clause-made
returns-clause-made c =
    let old = c.args.m.now in
    let new = c.load_ptr.new.self in
    made_there c.in_ok-value.value old new (IsSound old) (pointer_at c.as_pointer.result) (c.as_pointer.ensures new) c.in_ok-value.ensures.value

pub returns-clause-rows : goal.returns-clause-rows
returns-clause-rows c = ap (λ (m : Kept). m.rows) c.load_ptr.ensures.rest

pub returns-in_err-value-clause-rows : goal.returns-in_err-value-clause-rows
returns-in_err-value-clause-rows c = ap (λ (m : Kept). m.rows) c.load_ptr.ensures.rest

pub returns-in_err-value-clause-raises : goal.returns-in_err-value-clause-raises
returns-in_err-value-clause-raises c =
    let e = err_from_is_err_and c.from_residual.result c.from_residual.ensures.1 in
    let old = c.args.m.now in
    let p = c.args.place in
    rw (e.1, e.2) (raise_given c.in_err-value.field-0.0 old.rows (load_ptr old.rows (type_of c.args.ty.now) c.args.who 8 p.addr p.prov)
    as_pointer (store_of old) c.in_err-value.ensures.raises)

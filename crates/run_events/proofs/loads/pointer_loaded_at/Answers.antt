use Rattle.std.proofs.Common.{refl}
use Rattle.std.specs.Prelude.{Ok}
use Rattle.std.proofs.lemmas.Result.{err_from_is_err_and}
use Rattle.c_typed.specs.declared.tree.Access.TheVariants as access
use Rattle.c_types.specs.Types.{type_of}
use Rattle.mem_spec.specs.Acts.{load_ptr}
use Rattle.mem_objects.specs.Memory.{AreKnown, HasCell, store_of}
use Rattle.run_acts.specs.Loads.{pointer_act}
use Rattle.run_values.specs.Views.{pointer_at}
use Rattle.run_acts.proofs.Acts.{as_pointer, pointer_given, raise_given}
use Rattle.run_values.proofs.Keeping.{pointer_loaded}
use Rattle.run_layout.specs.declared.steps.Act.TheVariants as act
use Rattle.run_answers.proofs.Doing.{by_script, cell_of, mem_fails, place_same, pointer_made, rows_kept}
use Rattle.run_events.proofs.Rooms.{room_changes, room_done, touches_all}
use Rattle.run_events.proofs.loads.pointer_loaded_at.Goals as goal

pub returns-in_err-value-clause-exact : goal.returns-in_err-value-clause-exact
returns-in_err-value-clause-exact c =
    let p = err_from_is_err_and c.from_residual.result c.from_residual.ensures.1 in
    rw (p.1, p.2) (λ leads can given.
    let m = c.args.machine.now in
    let q = c.args.at in
    mem_fails m (record m { memory = c.load_ptr.new.self; items = c.load_ptr.new.t }) c.args.event (act.Load access.Pointer c.args.ty c.args.place.now)
    (pointer_act m.memory.rows c.args.event (type_of c.args.ty.now) (pointer_at q)) c.in_err-value.field-0.0
    (place_same m c.args.place.now q (λ r. pointer_act m.memory.rows c.args.event (type_of c.args.ty.now) r) leads given)
    (raise_given c.in_err-value.field-0.0 m.memory.rows (load_ptr m.memory.rows (type_of c.args.ty.now) c.args.event 8 q.addr q.prov) as_pointer
    (store_of m.memory) c.in_err-value.ensures.raises))

pub returns-in_err-value-clause-changes : goal.returns-in_err-value-clause-changes
returns-in_err-value-clause-changes c =
    let m = c.args.machine.now in
    touches_all m (record m { memory = c.load_ptr.new.self; items = c.load_ptr.new.t }) c.args.event.node (act.Load access.Pointer c.args.ty
    c.args.place.now) refl

pub returns-clause-exact : goal.returns-clause-exact
returns-clause-exact c = λ leads can given.
    let m = c.args.machine.now in
    let q = c.args.at in
    let k = c.load_ptr.new.self in
    let v = c.in_ok-value.value in
    let made = pointer_made m c.args.place.now q leads given in
    let did = pointer_given (Ok v) (HasCell m.memory q.prov) (AreKnown m.memory) m.memory.rows
    (load_ptr m.memory.rows (type_of c.args.ty.now) c.args.event 8 q.addr q.prov) (store_of m.memory) k c.load_ptr.new.t (store_of k)
    c.in_ok-value.ensures.exact in
    room_done m k c.load_ptr.new.t m.spare c.keep.new.self c.args.event.node v c.keep.ensures.rest c.keep.ensures.room c.keep.ensures.others
    c.args.event (act.Load access.Pointer c.args.ty c.args.place.now) refl refl
    (by_script m (pointer_act m.memory.rows c.args.event (type_of c.args.ty.now) (pointer_at q)) _ _
    (place_same m c.args.place.now q (λ r. pointer_act m.memory.rows c.args.event (type_of c.args.ty.now) r) leads given)
    (did (cell_of m.memory q.prov made) can.sound.known m.streams))
    (pointer_loaded (Ok v) m.memory k c.in_ok-value.ensures.value can.sound)
    c.in_ok-value.ensures.kept

pub returns-clause-changes : goal.returns-clause-changes
returns-clause-changes c =
    let m = c.args.machine.now in
    room_changes m c.load_ptr.new.self c.load_ptr.new.t m.spare c.keep.new.self c.args.event.node c.in_ok-value.value c.keep.ensures.rest
    c.keep.ensures.room c.keep.ensures.others
    (act.Load access.Pointer c.args.ty c.args.place.now)

pub returns-in_err-value-clause-rows : goal.returns-in_err-value-clause-rows
returns-in_err-value-clause-rows c = rows_kept c.from_residual.result c.args.machine.now.memory c.load_ptr.new.self c.in_err-value.ensures.kept

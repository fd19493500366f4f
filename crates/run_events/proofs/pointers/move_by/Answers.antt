use Rattle.std.proofs.Common.{◌≡◌, refl, ap, ap₂, sym, ◌∙◌, subst, ℤ, to_z, of_z, rules}
use Rattle.std.proofs.lemmas.Result.{err_from_is_err_and}
use Rattle.c_model.specs.Nodes as nodes
use Rattle.c_model.specs.Values as model
use Rattle.run_layout.specs.declared.steps.Act.TheVariants as act
use Rattle.run_values.specs.Views.{pointer_at}
use Rattle.mem_spec.specs.Script.{Done}
use Rattle.mem_objects.specs.Memory.{store_of}
use Rattle.c_model.specs.Values.{Value}
use Rattle.std.specs.Int.{w128}
use Rattle.std.proofs.lemmas.Int.{to_z-of_z}
use Rattle.c_model.specs.Values.{integer_of, pointer_of}
use Rattle.run_acts.specs.Updates.{IsNear}
use Rattle.run_answers.specs.Acts.{given_by}
use Rattle.run_answers.proofs.Doing.{by_script, given_as, pointer_is, pointer_made, rows_kept}
use Rattle.run_events.proofs.Rooms.{room_changes, room_done, touches_all}
use Rattle.run_events.proofs.pointers.move_by.Goals as goal

pub returns-in_err-moved-clause-exact : goal.returns-in_err-moved-clause-exact
returns-in_err-moved-clause-exact c =
    let p = err_from_is_err_and c.from_residual.result c.from_residual.ensures.1 in
    rw (p.1, p.2) (λ can given.
    let m = c.args.machine.now in
    let made = pointer_made m c.args.pointer.now c.pointer-pointer.result c.pointer-pointer.ensures given.0 in
    let number : to_z w128 (of_z w128 c.integer-index.result) ≡ integer_of (given_by m c.args.index.now) =
    to_z-of_z w128 c.integer-index.result (search rules)
    ∙ given_as m c.args.index.now integer_of c.integer-index.result c.integer-index.ensures given.1 in
    let near = subst (λ (i : ℤ). IsNear c.args.size i) (sym number) given.2 in
    let same = ap₂ (λ (q : model.Pointer) (i : ℤ). nodes.shifted m.memory.rows q (nodes.distance c.args.size c.args.subtract i))
    (given_as m c.args.pointer.now pointer_of (pointer_at c.pointer-pointer.result) c.pointer-pointer.ensures given.0) number in
    by_script m (nodes.shifted m.memory.rows (pointer_at c.pointer-pointer.result) (nodes.distance c.args.size c.args.subtract (to_z w128 (of_z w128
    c.integer-index.result)))) _ _ same
    (c.in_err-moved.ensures.exact near made m.streams))

pub returns-in_err-moved-clause-changes : goal.returns-in_err-moved-clause-changes
returns-in_err-moved-clause-changes c =
    let m = c.args.machine.now in
    touches_all m (record m { memory = c.moved.new.m; items = c.moved.new.t }) c.args.event.node (act.Move c.args.size c.args.subtract c.args.pointer.now
    c.args.index.now) refl

pub returns-clause-exact : goal.returns-clause-exact
returns-clause-exact c = λ can given.
    let m = c.args.machine.now in
    let made = pointer_made m c.args.pointer.now c.pointer-pointer.result c.pointer-pointer.ensures given.0 in
    let number : to_z w128 (of_z w128 c.integer-index.result) ≡ integer_of (given_by m c.args.index.now) =
    to_z-of_z w128 c.integer-index.result (search rules)
    ∙ given_as m c.args.index.now integer_of c.integer-index.result c.integer-index.ensures given.1 in
    let near = subst (λ (i : ℤ). IsNear c.args.size i) (sym number) given.2 in
    let same = ap₂ (λ (q : model.Pointer) (i : ℤ). nodes.shifted m.memory.rows q (nodes.distance c.args.size c.args.subtract i))
    (given_as m c.args.pointer.now pointer_of (pointer_at c.pointer-pointer.result) c.pointer-pointer.ensures given.0) number in
    let seen = ap (λ (v : Value). Done v c.moved.new.t (store_of c.moved.new.m m.streams)) (sym (c.value.ensures c.moved.new.m)) in
    room_done m c.moved.new.m c.moved.new.t m.spare c.keep.new.self c.args.event.node c.value.result c.keep.ensures.rest c.keep.ensures.room
    c.keep.ensures.others
    c.args.event (act.Move c.args.size c.args.subtract c.args.pointer.now c.args.index.now) refl refl
    (by_script m (nodes.shifted m.memory.rows (pointer_at c.pointer-pointer.result) (nodes.distance c.args.size c.args.subtract (to_z w128 (of_z w128
    c.integer-index.result)))) _ _ same
    (c.in_ok-moved.ensures.exact near made m.streams ∙ seen))
    (pointer_is c.moved.new.m c.in_ok-moved.moved c.value.result c.value.ensures (c.in_ok-moved.ensures.made made))
    c.in_ok-moved.ensures.kept

pub returns-clause-changes : goal.returns-clause-changes
returns-clause-changes c =
    let m = c.args.machine.now in
    room_changes m c.moved.new.m c.moved.new.t m.spare c.keep.new.self c.args.event.node c.value.result c.keep.ensures.rest c.keep.ensures.room
    c.keep.ensures.others
    (act.Move c.args.size c.args.subtract c.args.pointer.now c.args.index.now)

pub returns-in_err-moved-clause-rows : goal.returns-in_err-moved-clause-rows
returns-in_err-moved-clause-rows c = rows_kept c.from_residual.result c.args.machine.now.memory c.moved.new.m c.in_err-moved.ensures.kept

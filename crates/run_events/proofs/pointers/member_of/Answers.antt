use Rattle.std.proofs.Common.{refl, ap, sym, ◌∙◌}
use Rattle.std.proofs.lemmas.Result.{err_from_is_err_and}
use Rattle.c_model.specs.Nodes as nodes
use Rattle.run_layout.specs.declared.steps.Act.TheVariants as act
use Rattle.run_values.specs.Views.{pointer_at}
use Rattle.mem_spec.specs.Script.{Done}
use Rattle.mem_objects.specs.Memory.{store_of}
use Rattle.c_model.specs.Values.{Value}
use Rattle.run_answers.proofs.Doing.{by_script, place_same, pointer_is, pointer_made, rows_kept}
use Rattle.run_events.proofs.Rooms.{room_changes, room_done, touches_all}
use Rattle.run_events.proofs.pointers.member_of.Goals as goal

pub returns-in_err-member-clause-exact : goal.returns-in_err-member-clause-exact
returns-in_err-member-clause-exact c =
    let p = err_from_is_err_and c.from_residual.result c.from_residual.ensures.1 in
    rw (p.1, p.2) (λ can given.
    let m = c.args.machine.now in
    let made = pointer_made m c.args.pointer.now c.pointer-pointer.result c.pointer-pointer.ensures given in
    by_script m (nodes.member m.memory.rows c.args.offset (pointer_at c.pointer-pointer.result)) _ _ (place_same m c.args.pointer.now
    c.pointer-pointer.result (λ q. nodes.member m.memory.rows c.args.offset q) c.pointer-pointer.ensures given)
    (c.in_err-member.ensures.exact made m.streams))

pub returns-in_err-member-clause-changes : goal.returns-in_err-member-clause-changes
returns-in_err-member-clause-changes c =
    let m = c.args.machine.now in
    touches_all m (record m { memory = c.member.new.m; items = c.member.new.t }) c.args.event.node (act.Member c.args.offset c.args.pointer.now) refl

pub returns-clause-exact : goal.returns-clause-exact
returns-clause-exact c = λ can given.
    let m = c.args.machine.now in
    let made = pointer_made m c.args.pointer.now c.pointer-pointer.result c.pointer-pointer.ensures given in
    let seen = ap (λ (v : Value). Done v c.member.new.t (store_of c.member.new.m m.streams)) (sym (c.value.ensures c.member.new.m)) in
    room_done m c.member.new.m c.member.new.t m.spare c.keep.new.self c.args.event.node c.value.result c.keep.ensures.rest c.keep.ensures.room
    c.keep.ensures.others
    c.args.event (act.Member c.args.offset c.args.pointer.now) refl refl
    (by_script m (nodes.member m.memory.rows c.args.offset (pointer_at c.pointer-pointer.result)) _ _ (place_same m c.args.pointer.now
    c.pointer-pointer.result (λ q. nodes.member m.memory.rows c.args.offset q) c.pointer-pointer.ensures given)
    (c.in_ok-member.ensures.exact made m.streams ∙ seen))
    (pointer_is c.member.new.m c.in_ok-member.member c.value.result c.value.ensures (c.in_ok-member.ensures.made made))
    c.in_ok-member.ensures.kept

pub returns-clause-changes : goal.returns-clause-changes
returns-clause-changes c =
    let m = c.args.machine.now in
    room_changes m c.member.new.m c.member.new.t m.spare c.keep.new.self c.args.event.node c.value.result c.keep.ensures.rest c.keep.ensures.room
    c.keep.ensures.others
    (act.Member c.args.offset c.args.pointer.now)

pub returns-in_err-member-clause-rows : goal.returns-in_err-member-clause-rows
returns-in_err-member-clause-rows c = rows_kept c.from_residual.result c.args.machine.now.memory c.member.new.m c.in_err-member.ensures.kept

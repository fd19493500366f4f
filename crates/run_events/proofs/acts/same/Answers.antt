use Rattle.std.proofs.Common.{refl}
use Rattle.std.proofs.lemmas.Result.{err_from_is_err_and}
use Rattle.run_layout.specs.declared.steps.Act.TheVariants as act
use Rattle.mem_spec.specs.Script.{Give}
use Rattle.run_values.specs.Views.{value_in}
use Rattle.prov_memory.proofs.KeepLemmas.{keeps_none}
use Rattle.run_answers.specs.Acts.{given_by}
use Rattle.run_events.proofs.Valued.{at_once}
use Rattle.run_answers.proofs.Doing.{copy_of, given_copy, rows_same}
use Rattle.run_events.proofs.Rooms.{room_changes, room_done, touches_all}
use Rattle.run_events.proofs.acts.same.Goals as goal

pub returns-in_err-value-clause-exact : goal.returns-in_err-value-clause-exact
returns-in_err-value-clause-exact c =
    let p = err_from_is_err_and c.from_residual.result c.from_residual.ensures.1 in
    rw (p.1, p.2) (λ can given. tt)

pub returns-in_err-value-clause-changes : goal.returns-in_err-value-clause-changes
returns-in_err-value-clause-changes c = touches_all c.args.machine.now c.args.machine.now c.args.event.node (act.Same c.args.operand.now) refl

pub returns-clause-exact : goal.returns-clause-exact
returns-clause-exact c = λ can given.
    let m = c.args.machine.now in
    let v = c.in_ok-value.value in
    room_done m m.memory m.items m.spare c.keep.new.self c.args.event.node v c.keep.ensures.rest c.keep.ensures.room c.keep.ensures.others
    c.args.event (act.Same c.args.operand.now) refl refl
    (at_once m (Give (given_by m c.args.operand.now)) (given_by m c.args.operand.now) (value_in m.memory v) can refl
    (given_copy m c.args.operand.now v c.in_ok-value.ensures given))
    (copy_of m c.args.operand.now v c.in_ok-value.ensures given) (keeps_none m.memory)

pub returns-clause-changes : goal.returns-clause-changes
returns-clause-changes c =
    let m = c.args.machine.now in
    room_changes m m.memory m.items m.spare c.keep.new.self c.args.event.node c.in_ok-value.value c.keep.ensures.rest c.keep.ensures.room
    c.keep.ensures.others
    (act.Same c.args.operand.now)

pub returns-in_err-value-clause-rows : goal.returns-in_err-value-clause-rows
returns-in_err-value-clause-rows c = rows_same c.from_residual.result c.args.machine.now.memory

use Rattle.std.proofs.Common.{◌∙◌, refl, ap, sym, Some}
use Rattle.std.proofs.lemmas.Result.{err_from_is_err_and}
use Rattle.run_layout.specs.declared.steps.Act.TheVariants as act
use Rattle.run_values.specs.Views.{value_in}
use Rattle.c_model.specs.Nodes.{call_value}
use Rattle.prov_memory.proofs.KeepLemmas.{keeps_none}
use Rattle.run_layout.specs.declared.steps.Operand.TheVariants as operand
use Rattle.run_answers.specs.Acts.{given_by}
use Rattle.run_answers.specs.Performs.{store_in}
use Rattle.run_events.proofs.Valued.{left_of_room, taken_changes, twice_rest, twice_room, twice_others, with_none}
use Rattle.run_answers.proofs.Doing.{by_script, given_value, rows_rest}
use Rattle.run_events.proofs.Rooms.{room_changes, room_done}
use Rattle.run_events.proofs.acts.answered.Goals as goal

pub returns-in_err-value-clause-exact : goal.returns-in_err-value-clause-exact
returns-in_err-value-clause-exact c =
    let p = err_from_is_err_and c.from_residual.result c.from_residual.ensures.1 in
    rw (p.1, p.2) (λ can given.
    let m = c.args.machine.now in
    let left = c.take-left.result in
    let room = given.1 ∙ ap Some (sym (c.take-left.ensures.room given.0 given.1)) in
    let same = ap (call_value c.args.discarded) (sym (given_value m (operand.Done c.args.event.node) left room)) in
    by_script m (call_value c.args.discarded (value_in m.memory left)) _ _ same
    (c.in_err-value.ensures.exact m.memory m.memory.rows (store_in m)))

pub returns-in_err-value-clause-changes : goal.returns-in_err-value-clause-changes
returns-in_err-value-clause-changes c =
    taken_changes c.args.machine.now c.take-left.new.self c.args.event.node (act.Answer c.args.discarded) c.take-left.ensures.rest c.take-left.ensures.others
    c.take-left.ensures.count

pub returns-clause-exact : goal.returns-clause-exact
returns-clause-exact c = λ can given.
    let m = c.args.machine.now in
    let left = c.take-left.result in
    let room = given.1 ∙ ap Some (sym (c.take-left.ensures.room given.0 given.1)) in
    let same = ap (call_value c.args.discarded) (sym (given_value m (operand.Done c.args.event.node) left room)) in
    room_done m m.memory m.items m.spare c.keep.new.self c.args.event.node c.in_ok-value.value (twice_rest m c.take-left.new.self c.keep.new.self
    c.args.event.node c.in_ok-value.value c.take-left.ensures.rest c.take-left.ensures.others c.take-left.ensures.count
    c.keep.ensures.rest c.keep.ensures.room c.keep.ensures.others)
    (twice_room m c.take-left.new.self c.keep.new.self c.args.event.node c.in_ok-value.value c.take-left.ensures.rest c.take-left.ensures.others
    c.take-left.ensures.count
    c.keep.ensures.rest c.keep.ensures.room c.keep.ensures.others) (twice_others m c.take-left.new.self c.keep.new.self c.args.event.node
    c.in_ok-value.value c.take-left.ensures.rest c.take-left.ensures.others c.take-left.ensures.count
    c.keep.ensures.rest c.keep.ensures.room c.keep.ensures.others)
    c.args.event (act.Answer c.args.discarded) refl refl
    (with_none m (call_value c.args.discarded (given_by m (operand.Done c.args.event.node))) (value_in m.memory c.in_ok-value.value) can
    (by_script m (call_value c.args.discarded (value_in m.memory left)) _ _ same (c.in_ok-value.ensures.exact m.memory m.memory.rows (store_in m))))
    (c.in_ok-value.ensures.made m.memory (left_of_room m c.args.event.node left room given)) (keeps_none m.memory)

pub returns-clause-changes : goal.returns-clause-changes
returns-clause-changes c =
    let m = c.args.machine.now in
    room_changes m m.memory m.items m.spare c.keep.new.self c.args.event.node c.in_ok-value.value (twice_rest m c.take-left.new.self c.keep.new.self
    c.args.event.node c.in_ok-value.value c.take-left.ensures.rest c.take-left.ensures.others c.take-left.ensures.count
    c.keep.ensures.rest c.keep.ensures.room c.keep.ensures.others)
    (twice_room m c.take-left.new.self c.keep.new.self c.args.event.node c.in_ok-value.value c.take-left.ensures.rest c.take-left.ensures.others
    c.take-left.ensures.count
    c.keep.ensures.rest c.keep.ensures.room c.keep.ensures.others) (twice_others m c.take-left.new.self c.keep.new.self c.args.event.node
    c.in_ok-value.value c.take-left.ensures.rest c.take-left.ensures.others c.take-left.ensures.count
    c.keep.ensures.rest c.keep.ensures.room c.keep.ensures.others)
    (act.Answer c.args.discarded)

pub returns-in_err-value-clause-rows : goal.returns-in_err-value-clause-rows
returns-in_err-value-clause-rows c = rows_rest c.from_residual.result c.args.machine.now c.take-left.new.self c.take-left.ensures.rest

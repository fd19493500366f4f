use Rattle.std.proofs.Common.{refl, ap, ◌∙◌}
use Rattle.run_layout.specs.declared.steps.Act.TheVariants as act
use Rattle.run_values.specs.Views.{value_in}
use Rattle.c_model.specs.Nodes.{bool_value}
use Rattle.c_model.specs.Values.{truth}
use Rattle.mem_spec.specs.Script.{Give}
use Rattle.prov_memory.proofs.KeepLemmas.{keeps_none}
use Rattle.run_answers.specs.Acts.{either_truth, given_by}
use Rattle.run_events.proofs.Valued.{at_once}
use Rattle.run_events.proofs.Rooms.{room_changes, room_done}
use Rattle.run_events.proofs.acts.logical.Goals as goal

pub returns-clause-exact : goal.returns-clause-exact
returns-clause-exact c = λ can given.
    let m = c.args.machine.now in
    let v = c.number-value.result in
    let t = either_truth c.args.either (truth (given_by m c.args.first.now)) (truth (given_by m c.args.second.now)) in
    room_done m m.memory m.items m.spare c.keep.new.self c.args.event.node v c.keep.ensures.rest c.keep.ensures.room c.keep.ensures.others
    c.args.event (act.Logical c.args.either c.args.first.now c.args.second.now) refl refl
    (at_once m (Give (bool_value t)) (bool_value t) (value_in m.memory v) can refl
    (c.number-value.ensures.seen m.memory ∙ ap bool_value (c.logical_truth.ensures given.0 given.1)))
    (c.number-value.ensures.made m.memory) (keeps_none m.memory)

pub returns-clause-changes : goal.returns-clause-changes
returns-clause-changes c =
    let m = c.args.machine.now in
    room_changes m m.memory m.items m.spare c.keep.new.self c.args.event.node c.number-value.result c.keep.ensures.rest c.keep.ensures.room
    c.keep.ensures.others
    (act.Logical c.args.either c.args.first.now c.args.second.now)

use Rattle.std.proofs.Common.{refl, sym, subst}
use Rattle.run_layout.specs.declared.steps.Act.TheVariants as act
use Rattle.mem_objects.specs.declared.value.Value.TheVariants as kept
use Rattle.std.specs.Prelude.{Ok}
use Rattle.c_model.specs.Values.{Nothing}
use Rattle.mem_spec.specs.Script.{Give}
use Rattle.prov_memory.proofs.KeepLemmas.{keeps_none}
use Rattle.run_layout.specs.declared.steps.Act.{Act}
use Rattle.run_answers.specs.declared.outcome.Outcome.TheVariants as outcome
use Rattle.run_answers.specs.Performs.{Does}
use Rattle.run_events.proofs.Valued.{at_once, only_nothing}
use Rattle.run_events.proofs.Rooms.{room_changes, room_done}
use Rattle.run_events.proofs.acts.pointer_act.Goals as goal

pub returns-in_default-clause-exact : goal.returns-in_default-clause-exact
returns-in_default-clause-exact c = λ can given is.
    let m = c.args.machine.now in
    let e = only_nothing c.args.act.now c.in_default.not-Move c.in_default.not-Member c.in_default.not-Distance c.in_default.not-Related
    c.in_default.not-Equal is in
    subst (λ (a : Act). Does m c.keep.new.self c.args.event a (Ok outcome.Done)) (sym e)
    (room_done m m.memory m.items m.spare c.keep.new.self c.args.event.node kept.Nothing c.keep.ensures.rest c.keep.ensures.room c.keep.ensures.others
    c.args.event act.Nothing refl refl (at_once m (Give Nothing) Nothing Nothing can refl refl)
    (record { made = tt; known = tt; tagged = tt }) (keeps_none m.memory))

pub returns-in_default-clause-changes : goal.returns-in_default-clause-changes
returns-in_default-clause-changes c =
    let m = c.args.machine.now in
    room_changes m m.memory m.items m.spare c.keep.new.self c.args.event.node kept.Nothing c.keep.ensures.rest c.keep.ensures.room c.keep.ensures.others
    c.args.act.now

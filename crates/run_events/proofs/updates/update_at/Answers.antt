use Rattle.std.proofs.Common.{refl, sym, subst, ◌∙◌, Bool, false, to_z, of_z, rules}
use Rattle.std.proofs.lemmas.Result.{err_from_is_err_and}
use Rattle.run_layout.specs.declared.steps.Act.TheVariants as act
use Rattle.std.specs.Int.{w128}
use Rattle.std.proofs.lemmas.Int.{to_z-of_z}
use Rattle.std.specs.Prelude.{Ok}
use Rattle.mem_objects.specs.declared.value.Value.TheVariants as kept
use Rattle.run_answers.specs.declared.outcome.Outcome.TheVariants as outcome
use Rattle.run_answers.specs.Performs.{ChangesOnly, Does}
use Rattle.run_events.proofs.Valued.{both_change, both_done, update_did, update_fails}
use Rattle.run_events.proofs.Rooms.{room_changes, room_done, touches_all}
use Rattle.run_answers.proofs.Doing.{rows_kept}
use Rattle.run_events.proofs.updates.update_at.Goals as goal

pub returns-in_err-both-clause-exact : goal.returns-in_err-both-clause-exact
returns-in_err-both-clause-exact c =
    let p = err_from_is_err_and c.from_residual.result c.from_residual.ensures.1 in
    rw (p.1, p.2) (λ leads can given.
    let m = c.args.machine.now in
    update_fails m c.args.event c.args.change c.args.ty c.args.place.now c.args.operand.now c.args.at (to_z w128 (of_z w128
    c.integer-operand.result)) c.changed.new.m c.changed.new.t c.changed.new.spare
    kept.Nothing kept.Nothing leads (λ h e k. to_z-of_z w128 c.integer-operand.result (search rules) ∙ c.integer-operand.ensures h e k)
    can given.0 given.1 given.2
    (record m { memory = c.changed.new.m; items = c.changed.new.t; spare = c.changed.new.spare }) c.args.old c.args.room c.in_err-both.field-0.0
    c.in_err-both.ensures.raises)

pub returns-in_err-both-clause-changes : goal.returns-in_err-both-clause-changes
returns-in_err-both-clause-changes c = λ leads.
    let m = c.args.machine.now in
    touches_all m (record m { memory = c.changed.new.m; items = c.changed.new.t; spare = c.changed.new.spare }) c.args.event.node (act.Change
    c.args.change c.args.old c.args.ty c.args.place.now c.args.operand.now c.args.room) refl

pub returns-then-old-clause-exact : goal.returns-then-old-clause-exact
returns-then-old-clause-exact c = λ leads can given.
    let m = c.args.machine.now in
    subst (λ (b : Bool). Does m c.keep-then-old.new.self c.args.event (act.Change c.args.change b c.args.ty c.args.place.now c.args.operand.now c.args.room)
    (Ok outcome.Done))
    (sym c.if-old.true)
    (both_done m c.args.event c.args.change c.args.ty c.args.place.now c.args.operand.now c.args.at (to_z w128 (of_z w128
    c.integer-operand.result)) c.changed.new.m c.changed.new.t c.changed.new.spare c.in_ok-both.both.0 c.in_ok-both.both.1 leads
    (λ h e k. to_z-of_z w128 c.integer-operand.result (search rules) ∙ c.integer-operand.ensures h e k)
    c.keep.new.self c.keep-then-old.new.self c.args.room c.keep.ensures.rest c.keep.ensures.room c.keep.ensures.others c.keep-then-old.ensures.rest
    c.keep-then-old.ensures.room
    c.keep-then-old.ensures.others given can c.in_ok-both.ensures.exact c.in_ok-both.ensures.after c.in_ok-both.ensures.made c.in_ok-both.ensures.kept)

pub returns-then-old-clause-changes : goal.returns-then-old-clause-changes
returns-then-old-clause-changes c = λ leads.
    let m = c.args.machine.now in
    subst (λ (b : Bool). ChangesOnly m c.keep-then-old.new.self c.args.event.node (act.Change c.args.change b c.args.ty c.args.place.now c.args.operand.now
    c.args.room))
    (sym c.if-old.true)
    (both_change m c.args.event c.args.change c.args.ty c.args.place.now c.args.operand.now c.args.at (to_z w128 (of_z w128
    c.integer-operand.result)) c.changed.new.m c.changed.new.t c.changed.new.spare c.in_ok-both.both.0 c.in_ok-both.both.1 leads
    (λ h e k. to_z-of_z w128 c.integer-operand.result (search rules) ∙ c.integer-operand.ensures h e k)
    c.keep.new.self c.keep-then-old.new.self c.args.room c.keep.ensures.rest c.keep.ensures.room c.keep.ensures.others c.keep-then-old.ensures.rest
    c.keep-then-old.ensures.room
    c.keep-then-old.ensures.others)

pub returns-else-old-clause-exact : goal.returns-else-old-clause-exact
returns-else-old-clause-exact c = λ leads can given.
    let m = c.args.machine.now in
    subst (λ (b : Bool). Does m c.keep-else-old.new.self c.args.event (act.Change c.args.change b c.args.ty c.args.place.now c.args.operand.now c.args.room)
    (Ok outcome.Done))
    (sym c.if-old.false)
    (room_done m c.changed.new.m c.changed.new.t c.changed.new.spare c.keep-else-old.new.self c.args.event.node c.in_ok-both.both.1
    c.keep-else-old.ensures.rest
    c.keep-else-old.ensures.room c.keep-else-old.ensures.others
    c.args.event (act.Change c.args.change false c.args.ty c.args.place.now c.args.operand.now c.args.room) refl refl
    (update_did m c.args.event c.args.change c.args.ty c.args.place.now c.args.operand.now c.args.at (to_z w128 (of_z w128
    c.integer-operand.result)) c.changed.new.m c.changed.new.t c.changed.new.spare c.in_ok-both.both.0 c.in_ok-both.both.1 leads
    (λ h e k. to_z-of_z w128 c.integer-operand.result (search rules) ∙ c.integer-operand.ensures h e k)
    can given.0 given.1 given.2 false c.in_ok-both.ensures.exact)
    (c.in_ok-both.ensures.made can.sound).1 c.in_ok-both.ensures.kept)

pub returns-else-old-clause-changes : goal.returns-else-old-clause-changes
returns-else-old-clause-changes c = λ leads.
    let m = c.args.machine.now in
    subst (λ (b : Bool). ChangesOnly m c.keep-else-old.new.self c.args.event.node (act.Change c.args.change b c.args.ty c.args.place.now c.args.operand.now
    c.args.room))
    (sym c.if-old.false)
    (room_changes m c.changed.new.m c.changed.new.t c.changed.new.spare c.keep-else-old.new.self c.args.event.node c.in_ok-both.both.1
    c.keep-else-old.ensures.rest
    c.keep-else-old.ensures.room c.keep-else-old.ensures.others (act.Change c.args.change false c.args.ty c.args.place.now c.args.operand.now c.args.room))

pub returns-in_err-both-clause-rows : goal.returns-in_err-both-clause-rows
returns-in_err-both-clause-rows c = rows_kept c.from_residual.result c.args.machine.now.memory c.changed.new.m c.in_err-both.ensures.kept

use Rattle.std.proofs.Common.{sym, subst}
use Rattle.c_typed.specs.declared.tree.Access.{Access}
use Rattle.run_layout.specs.declared.steps.Act.TheVariants as act
use Rattle.run_answers.specs.Performs.{ChangesOnly, Does}
use Rattle.run_events.proofs.loads.loaded.Goals as goal

pub returns-in-Integer-clause-exact : goal.returns-in-Integer-clause-exact
returns-in-Integer-clause-exact c = λ can given.
    let m = c.args.machine.now in
    subst (λ (a : Access). Does m c.loaded_integer.new.machine c.args.event (act.Load a c.args.ty c.args.place.now) c.loaded_integer.result)
    (sym c.in-Integer.is) (c.loaded_integer.ensures.exact can given)

pub returns-in-Integer-clause-changes : goal.returns-in-Integer-clause-changes
returns-in-Integer-clause-changes c =
    let m = c.args.machine.now in
    subst (λ (a : Access). ChangesOnly m c.loaded_integer.new.machine c.args.event.node (act.Load a c.args.ty c.args.place.now)) (sym c.in-Integer.is)
    c.loaded_integer.ensures.changes

pub returns-in-Pointer-clause-exact : goal.returns-in-Pointer-clause-exact
returns-in-Pointer-clause-exact c = λ can given.
    let m = c.args.machine.now in
    subst (λ (a : Access). Does m c.loaded_pointer.new.machine c.args.event (act.Load a c.args.ty c.args.place.now) c.loaded_pointer.result)
    (sym c.in-Pointer.is) (c.loaded_pointer.ensures.exact can given)

pub returns-in-Pointer-clause-changes : goal.returns-in-Pointer-clause-changes
returns-in-Pointer-clause-changes c =
    let m = c.args.machine.now in
    subst (λ (a : Access). ChangesOnly m c.loaded_pointer.new.machine c.args.event.node (act.Load a c.args.ty c.args.place.now)) (sym c.in-Pointer.is)
    c.loaded_pointer.ensures.changes

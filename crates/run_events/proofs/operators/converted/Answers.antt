use Rattle.std.proofs.Common.{sym, subst}
use Rattle.c_typed.specs.declared.tree.Conversion.{Conversion}
use Rattle.run_layout.specs.declared.steps.Act.TheVariants as act
use Rattle.run_answers.specs.Performs.{ChangesOnly, Does}
use Rattle.run_events.proofs.operators.converted.Goals as goal

pub returns-in-Integer-clause-exact : goal.returns-in-Integer-clause-exact
returns-in-Integer-clause-exact c = λ can given.
    let m = c.args.machine.now in
    subst (λ (k : Conversion). Does m c.converted_integer.new.machine c.args.event (act.Convert k c.args.operand.now) c.converted_integer.result)
    (sym c.in-Integer.is) (c.converted_integer.ensures.exact can given)

pub returns-in-Integer-clause-changes : goal.returns-in-Integer-clause-changes
returns-in-Integer-clause-changes c =
    let m = c.args.machine.now in
    subst (λ (k : Conversion). ChangesOnly m c.converted_integer.new.machine c.args.event.node (act.Convert k c.args.operand.now)) (sym c.in-Integer.is)
    c.converted_integer.ensures.changes

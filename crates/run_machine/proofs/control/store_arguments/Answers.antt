use Rattle.std.proofs.Common.{arith, refl, ◌∙◌}
use Rattle.run_machine.proofs.Keeping.{fills_none, fills_then}
use Rattle.run_machine.proofs.Passing.{all_passed, next_passed, none_passed}
use Rattle.run_machine.proofs.control.store_arguments.Goals as goal

pub loop-object-init : goal.loop-object-init
loop-object-init c = record {
  work = refl;
  number = omega arith;
  passed = λ can. none_passed c.args.machine.now c.args.objects.now c.args.first;
  fills = fills_none c.args.machine.now;
}

pub loop-object-preserved : goal.loop-object-preserved
loop-object-preserved c =
    let inv = c.loop-object.invariant in
    record {
      work = c.store_argument.ensures.work ∙ inv.work;
      number = omega (arith, inv.number, c.saturating_add-number.ensures);
      passed = next_passed c.args.machine.now c.loop-object.machine c.store_argument.new.machine c.args.objects.now c.object-item.result c.args.first
          c.loop-object.object-index c.loop-object.number c.loop-object-test.true c.object-item.is inv.number inv.passed c.in_ok-store_argument.ensures.passes;
      fills = fills_then c.args.machine.now c.loop-object.machine c.store_argument.new.machine inv.fills c.in_ok-store_argument.ensures.fills;
    }

pub returns-clause-passes : goal.returns-clause-passes
returns-clause-passes c =
    all_passed c.args.objects.now c.args.first c.loop-object.object-index c.args.machine.now c.loop-object.machine (omega arith)
    c.loop-object.invariant.passed

use Rattle.std.proofs.Common.{arith, refl, ◌∙◌}
use Rattle.std.proofs.lemmas.Result.{err_from_is_err_and}
use Rattle.run_machine.proofs.Births.{all_new, next_new, none_new, stops_there}
use Rattle.run_machine.proofs.Keeping.{fills_none, fills_then}
use Rattle.run_machine.proofs.Written.{created_streams}
use Rattle.run_machine.proofs.control.create_objects.Goals as goal

pub loop-object-init : goal.loop-object-init
loop-object-init c = record {
  work = refl;
  number = omega arith;
  born = λ can. none_new c.args.machine.now c.args.objects.now c.args.first;
  fills = fills_none c.args.machine.now;
}

pub loop-object-preserved : goal.loop-object-preserved
loop-object-preserved c =
    let inv = c.loop-object.invariant in
    record {
      work = c.create.ensures.work ∙ inv.work;
      number = omega (arith, inv.number, c.saturating_add-number.ensures);
      born = next_new c.args.machine.now c.loop-object.machine c.create.new.machine c.args.objects.now c.object-item.result c.args.first
          c.loop-object.object-index c.loop-object.number c.loop-object-test.true c.object-item.is inv.number inv.born c.in_ok-create.ensures.creates;
      fills = fills_then c.args.machine.now c.loop-object.machine c.create.new.machine inv.fills c.in_ok-create.ensures.fills;
    }

pub returns-in_err-create-clause-born : goal.returns-in_err-create-clause-born
returns-in_err-create-clause-born c =
    let inv = c.loop-object.invariant in
    let p = err_from_is_err_and c.from_residual.result c.from_residual.ensures.1 in
    stops_there c.args.objects.now c.args.first c.loop-object.object-index c.loop-object.number c.args.machine.now c.loop-object.machine c.create.new.machine
    c.object-item.result c.from_residual.result p.0 _ p.1 p.2 c.loop-object-test.true c.object-item.is inv.number inv.born c.in_err-create.ensures.creates

pub returns-clause-born : goal.returns-clause-born
returns-clause-born c =
    all_new c.args.objects.now c.args.first c.loop-object.object-index c.args.machine.now c.loop-object.machine (omega arith) c.loop-object.invariant.born

pub returns-in_err-create-clause-streams : goal.returns-in_err-create-clause-streams
returns-in_err-create-clause-streams c =
    let p = err_from_is_err_and c.from_residual.result c.from_residual.ensures.1 in
    created_streams c.args.machine.now c.loop-object.machine c.create.new.machine c.object-item.result c.args.first c.loop-object.number
    c.from_residual.result p.0 _ p.1 p.2 c.in_err-create.ensures.creates

use Rattle.std.proofs.Common.{arith, refl}
use Rattle.std.proofs.lemmas.Result.{err_from_is_err_and}
use Rattle.run_machine.proofs.Entering.{enters_not, enters_ok, enters_over, reached_so}
use Rattle.run_machine.proofs.Keeping.{fills_then, stays_entered}
use Rattle.run_machine.proofs.Written.{streams_handed}
use Rattle.run_machine.proofs.control.enter.Goals as goal

pub returns-then-reached-gt-MOST_CREATED-clause-enters : goal.returns-then-reached-gt-MOST_CREATED-clause-enters
returns-then-reached-gt-MOST_CREATED-clause-enters c =
    enters_over c.args.machine.now c.args.machine.now c.args.number c.saturating_add-machine.result c.total-reached.result _ _ c.saturating_add-machine.ensures
    c.in_ok-block.ensures.at c.in_ok-block.ensures.objects (reached_so _ _ _ _ c.total-reached.ensures c.created.ensures)
    (omega (arith, c.if-reached-gt-MOST_CREATED.true)) refl

pub returns-in_err-create_objects-clause-enters : goal.returns-in_err-create_objects-clause-enters
returns-in_err-create_objects-clause-enters c =
    let p = err_from_is_err_and c.from_residual-in_err-create_objects.result c.from_residual-in_err-create_objects.ensures.1 in
    enters_not c.args.machine.now c.create_objects.new.machine c.args.number c.saturating_add-machine.result c.total-reached.result _ _
    c.saturating_add-machine.ensures
    c.in_ok-block.ensures.at c.in_ok-block.ensures.objects (reached_so _ _ _ _ c.total-reached.ensures c.created.ensures)
    c.from_residual-in_err-create_objects.result p.0 _ p.1 p.2 (omega (arith, c.if-reached-gt-MOST_CREATED.false)) c.in_err-create_objects.ensures.born

pub returns-clause-enters : goal.returns-clause-enters
returns-clause-enters c =
    enters_ok c.args.machine.now c.create_objects.new.machine c.args.number c.saturating_add-machine.result c.total-reached.result _ _
    c.saturating_add-machine.ensures
    c.in_ok-block.ensures.at c.in_ok-block.ensures.objects (reached_so _ _ _ _ c.total-reached.ensures c.created.ensures)
    c.store_arguments.new.machine c.taking.result.now (omega (arith, c.if-reached-gt-MOST_CREATED.false)) c.in_ok-create_objects.ensures.born
    c.taking.ensures.first c.in_ok-store_arguments.ensures.passes

pub returns-clause-stays : goal.returns-clause-stays
returns-clause-stays c =
    stays_entered c.args.machine.now c.store_arguments.new.machine c.args.number c.saturating_add-machine.result c.saturating_add-machine.ensures
    (fills_then _ c.create_objects.new.machine c.store_arguments.new.machine c.in_ok-create_objects.ensures.fills c.in_ok-store_arguments.ensures.fills)

pub returns-in_err-create_objects-clause-streams : goal.returns-in_err-create_objects-clause-streams
returns-in_err-create_objects-clause-streams c =
    let p = err_from_is_err_and c.from_residual-in_err-create_objects.result c.from_residual-in_err-create_objects.ensures.1 in
    let m = c.args.machine.now in
    streams_handed m (record m { entered = c.args.number; top = record m.top { turn = c.saturating_add-machine.result } })
    c.create_objects.new.machine c.from_residual-in_err-create_objects.result p.0 _ p.1 p.2 refl c.in_err-create_objects.ensures.streams

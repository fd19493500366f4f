use Rattle.std.proofs.Common.{refl}
use Rattle.std.proofs.lemmas.Result.{err_from_is_err_and}
use Rattle.run_answers.specs.Faults.{fault_of}
use Rattle.run_events.proofs.Stored.{fill_done, fill_failed, fill_rows}
use Rattle.run_events.proofs.stores.fill_list.Goals as goal

pub returns-in_err-fill-clause-exact : goal.returns-in_err-fill-clause-exact
returns-in_err-fill-clause-exact c =
    let p = err_from_is_err_and c.from_residual.result c.from_residual.ensures.1 in
    rw (p.1, p.2) (λ can tables given.
    let m = c.args.machine.now in
    fill_failed m c.args.constants c.fillings_of-fillings.result.now c.args.object.now c.pointer-object.result c.fill.new.m c.fill.new.t c.fill.new.spare can
    tables c.fillings_of-fillings.ensures c.pointer-object.ensures given c.in_err-fill.field-0.0 (fault_of c.in_err-fill.field-0.0)
    (record m { memory = c.fill.new.m; items = c.fill.new.t; spare = c.fill.new.spare }) refl c.in_err-fill.ensures.raises)

pub returns-clause-exact : goal.returns-clause-exact
returns-clause-exact c = λ can tables given.
    let m = c.args.machine.now in
    fill_done m c.args.constants c.fillings_of-fillings.result.now c.args.object.now c.pointer-object.result c.fill.new.m c.fill.new.t c.fill.new.spare can
    tables c.fillings_of-fillings.ensures c.pointer-object.ensures given c.in_ok-fill.ensures.exact c.in_ok-fill.ensures.kept

pub returns-in_err-fill-clause-rows : goal.returns-in_err-fill-clause-rows
returns-in_err-fill-clause-rows c = λ can tables given.
    let m = c.args.machine.now in
    fill_rows m c.args.constants c.fillings_of-fillings.result.now c.args.object.now c.pointer-object.result c.fill.new.m c.fill.new.t c.fill.new.spare can
    tables c.fillings_of-fillings.ensures c.pointer-object.ensures given c.from_residual.result c.in_err-fill.ensures.kept

use Rattle.std.proofs.Common.{refl}
use Rattle.std.proofs.lemmas.Result.{err_from_is_err_and}
use Rattle.run_answers.specs.declared.fault.Fault.TheVariants as fault
use Rattle.run_answers.proofs.Doing.{rows_same}
use Rattle.run_events.proofs.Stored.{store_done, store_raised, store_rows}
use Rattle.run_events.proofs.stores.store_quiet.Goals as goal

pub returns-in_err-value-clause-exact : goal.returns-in_err-value-clause-exact
returns-in_err-value-clause-exact c =
    let p = err_from_is_err_and c.from_residual.result c.from_residual.ensures.1 in
    rw (p.1, p.2) (λ can tables made given. tt)

pub returns-in_err-store-clause-exact : goal.returns-in_err-store-clause-exact
returns-in_err-store-clause-exact c =
    let p = err_from_is_err_and c.from_residual-in_err-store.result c.from_residual-in_err-store.ensures.1 in
    rw (p.1, p.2) (λ can tables made given.
    let m = c.args.machine.now in
    store_raised m c.args.number c.target_of-found.result.0 c.target_of-found.result.1 c.args.place c.in_ok-value.value c.args.value.now c.store.new.m
    c.store.new.t
    can tables c.target_of-found.ensures.store c.target_of-found.ensures.via made given c.in_ok-value.ensures
    c.in_err-store.field-0.0 (fault.Raise c.in_err-store.field-0.0)
    (record m { memory = c.store.new.m; items = c.store.new.t }) refl c.in_err-store.ensures.raises)

pub returns-clause-exact : goal.returns-clause-exact
returns-clause-exact c = λ can tables made given.
    let m = c.args.machine.now in
    store_done m c.args.number c.target_of-found.result.0 c.target_of-found.result.1 c.args.place c.in_ok-value.value c.args.value.now c.store.new.m
    c.store.new.t
    can tables c.target_of-found.ensures.store c.target_of-found.ensures.via made given c.in_ok-value.ensures
    c.in_ok-store.ensures.exact c.in_ok-store.ensures.kept

pub returns-in_err-value-clause-rows : goal.returns-in_err-value-clause-rows
returns-in_err-value-clause-rows c = λ can tables made given. rows_same c.from_residual.result c.args.machine.now.memory

pub returns-in_err-store-clause-rows : goal.returns-in_err-store-clause-rows
returns-in_err-store-clause-rows c = λ can tables made given.
    let m = c.args.machine.now in
    store_rows m c.args.number c.target_of-found.result.0 c.target_of-found.result.1 c.args.place c.in_ok-value.value c.args.value.now c.store.new.m
    c.store.new.t
    can tables c.target_of-found.ensures.store c.target_of-found.ensures.via made given c.in_ok-value.ensures
    c.from_residual-in_err-store.result c.in_err-store.ensures.kept

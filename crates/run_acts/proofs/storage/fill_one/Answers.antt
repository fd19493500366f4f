use Rattle.std.proofs.lemmas.Result.{err_from_is_err_and}
use Rattle.mem_spec.specs.Acts.{bytes}
use Rattle.run_values.proofs.Fills.{made_cell}
use Rattle.run_acts.proofs.storage.fill_one.Goals as goal

pub returns-clause-exact : goal.returns-clause-exact
returns-clause-exact c = λ made io.
    rw c.saturating_add-addr.ensures at (c.in_ok-store.ensures.exact (made_cell c.args.m.now c.args.object.prov made) tt bytes tt io)

pub returns-in_err-store-clause-raises : goal.returns-in_err-store-clause-raises
returns-in_err-store-clause-raises c =
    let e = err_from_is_err_and c.from_residual.result c.from_residual.ensures.1 in
    rw (e.1, e.2) (λ io. rw c.saturating_add-addr.ensures at (c.in_err-store.ensures.raises bytes tt io))

pub returns-in_err-store-clause-kept : goal.returns-in_err-store-clause-kept
returns-in_err-store-clause-kept c = c.store.ensures.kept tt

pub returns-in_err-join-clause-kept : goal.returns-in_err-join-clause-kept
returns-in_err-join-clause-kept c = c.store.ensures.kept tt

pub returns-clause-kept : goal.returns-clause-kept
returns-clause-kept c = c.store.ensures.kept tt

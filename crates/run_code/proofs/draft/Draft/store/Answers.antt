use Rattle.std.proofs.Common.{sym, subst}
use Rattle.run_layout.specs.Fitting.{AccessFits}
use Rattle.run_code.proofs.draft.Draft.store.Goals as goal

pub returns-clause-fit : goal.returns-clause-fit
returns-clause-fit c = λ p a h. c.add_store.ensures.fit p (subst (AccessFits c.args.access) (sym c.object_ty.ensures) a) h

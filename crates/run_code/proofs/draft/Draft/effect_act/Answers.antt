use Rattle.std.proofs.lemmas.Result.{IfOk-weaker}
use Rattle.run_code.proofs.Heads.{assigns, updates}
use Rattle.run_code.proofs.FittingLemmas.{assign_fits, update_fits}
use Rattle.run_code.proofs.draft.Draft.effect_act.Goals as goal

pub returns-in-Assign-clause-act : goal.returns-in-Assign-clause-act
returns-in-Assign-clause-act c = λ own.
    IfOk-weaker c.store.result _ _ (λ a s. assigns c.args.self.now.function.objects.first.items c.store.new.self.expressions.tables c.args.tree.now
    c.in-Assign.initializing c.in-Assign.access c.args.operands.now own c.at.result c.at-value.result c.args.room a c.in-Assign.is c.at.ensures
    c.at-value.ensures s) c.store.ensures.act

pub returns-in-Update-clause-act : goal.returns-in-Update-clause-act
returns-in-Update-clause-act c = λ own.
    IfOk-weaker c.store-in-Update.result _ _
    (λ a s. updates c.args.self.now.function.objects.first.items c.store-in-Update.new.self.expressions.tables c.args.tree.now c.in-Update.change
    c.in-Update.old c.changes.result c.args.operands.now own c.at-in-Update.result c.args.room a c.in-Update.is c.changes.ensures c.at-in-Update.ensures s)
    c.store-in-Update.ensures.act

pub returns-in-Assign-clause-fit : goal.returns-in-Assign-clause-fit
returns-in-Assign-clause-fit c = λ p r h.
    c.store.ensures.fit p (assign_fits p c.args.tree.now c.in-Assign.initializing c.in-Assign.access c.in-Assign.is r) h

pub returns-in-Update-clause-fit : goal.returns-in-Update-clause-fit
returns-in-Update-clause-fit c = λ p r h.
    c.store-in-Update.ensures.fit p
    (update_fits p c.args.tree.now c.in-Update.change c.in-Update.old c.changes.result c.in-Update.is c.changes.ensures r) h

use Rattle.std.proofs.Common.{◌≡◌, sym, ap, ◌∙◌}
use Rattle.run_layout.specs.EventActs.{amount}
use Rattle.run_code.proofs.Heads.{loads, changes}
use Rattle.run_code.proofs.lower.value_act.Goals.{then-old, else-old}
use Rattle.run_code.proofs.lower.value_act.Goals as goal

pub returns-in-Load : goal.returns-in-Load
returns-in-Load c =
    loads c.args.tree.now c.in-Load.access c.args.operands.now c.args.own c.at-first.result c.args.room c.object_ty.result c.in-Load.is c.object_ty.ensures
    c.at-first.ensures

pub returns-after-old : goal.returns-after-old
returns-after-old c =
    let operand : c.if-old.result ≡ amount c.in-Update.old c.args.operands.now = elim c.if-old.branch [
      | then-old w ↦ w.result-is ∙ ap (λ b. amount b c.args.operands.now) (sym w.if-old.true)
      | else-old w ↦ w.result-is ∙ (c.at-second.ensures ∙ ap (λ b. amount b c.args.operands.now) (sym w.if-old.false))
    ] in
    changes c.args.tree.now c.in-Update.change c.in-Update.old c.args.operands.now c.args.own c.at-first.result c.if-old.result c.args.room
    c.object_ty-in-Update.result c.in-Update.is c.object_ty-in-Update.ensures c.at-first.ensures operand

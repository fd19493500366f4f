use Rattle.std.proofs.lemmas.Result.{IfOk-weaker}
use Rattle.c_typed.specs.declared.tree.Typed.{out-Typed}
use Rattle.run_layout.specs.EventActs.{head_at, seen}
use Rattle.run_layout.proofs.Grown.{effect_acts, body_acts}
use Rattle.run_code.proofs.draft.Draft.act.Goals as goal

pub returns-in-Eff-clause-act : goal.returns-in-Eff-clause-act
returns-in-Eff-clause-act c =
    let x = c.args.info in
    IfOk-weaker c.effect_act.result _ _ (λ a s. effect_acts c.args.self.now.function.objects.first.items c.effect_act.new.self.expressions.tables
    x.initializer (head_at (out-Typed x.tree.now).node)
    (seen x.tree.now c.args.operands.now x.operand c.args.room) c.args.kind a c.in-Eff.is s) (c.effect_act.ensures.act x.operand)

pub returns-in-Body-clause-act : goal.returns-in-Body-clause-act
returns-in-Body-clause-act c =
    let x = c.args.info in
    IfOk-weaker c.body_act.result _ _ (λ a s. body_acts c.args.self.now.function.objects.first.items c.body_act.new.self.expressions.tables x.initializer
    (head_at (out-Typed x.tree.now).node)
    (seen x.tree.now c.args.operands.now x.operand c.args.room) c.args.kind a c.in-Body.is s) (c.body_act.ensures.act x.operand c.args.room)

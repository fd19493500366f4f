use Rattle.std.proofs.lemmas.Result.{IfOk-weaker}
use Rattle.run_code.proofs.Heads.{calls}
use Rattle.run_code.proofs.draft.Draft.body_act.Goals as goal

pub returns-in-Call-clause-act : goal.returns-in-Call-clause-act
returns-in-Call-clause-act c = λ own room.
    IfOk-weaker c.call.result _ _
    (λ a s. calls c.call.new.self.expressions.tables c.args.tree.now _ c.args.operands.now own room c.args.initializer a c.in-Call.is s)
    (c.call.ensures.act own room)

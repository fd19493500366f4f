use Rattle.std.proofs.Common.{refl, ap, ◌∙◌}
use Rattle.c_typed.specs.declared.tree.Typed.{out-Typed}
use Rattle.run_layout.specs.EventActs.{head_at, seen, room_of}
use Rattle.run_layout.proofs.Grown.{act_grown, grown_both, noted_due, choice_there}
use Rattle.run_code.proofs.draft.Draft.due.Goals as goal

pub returns-clause-grown : goal.returns-clause-grown
returns-clause-grown c =
    grown_both c.args.self.now.expressions.tables c.act.new.self.expressions.tables c.choice_at.new.self.expressions.tables c.in_ok-act.ensures.grown
    c.in_ok-choice.ensures.grown

pub returns-clause-due : goal.returns-clause-due
returns-clause-due c = λ noted there.
    let x = c.args.info in
    let firsts = c.args.self.now.function.objects.first.items in
    let h = head_at (out-Typed x.tree.now).node in
    noted_due firsts c.choice_at.new.self.expressions.tables c.args.nodes.now c.args.number c.room-room.result x _ c.deref.result.now noted there refl refl
    refl c.completes.ensures
    (λ n b. c.deref.ensures.value ∙ c.in_ok-operands.ensures firsts n b)
    (c.room-room.ensures ∙ ap (λ n. room_of h n c.args.number x.room) c.count_of_nodes.ensures)
    (act_grown firsts c.act.new.self.expressions.tables c.choice_at.new.self.expressions.tables x.initializer h
    (seen x.tree.now c.deref.result.now x.operand c.room-room.result) c.args.kind c.in_ok-act.act c.in_ok-choice.ensures.grown c.in_ok-act.ensures.act)
    (choice_there firsts c.choice_at.new.self.expressions.tables c.args.nodes.now c.args.number x c.args.kind c.in_ok-choice.choice
    (c.in_ok-choice.ensures.choice firsts noted))

pub returns-clause-fit : goal.returns-clause-fit
returns-clause-fit c = λ p r h. c.in_ok-choice.ensures.fit p (c.in_ok-act.ensures.fit p r h)

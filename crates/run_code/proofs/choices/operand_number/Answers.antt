use Rattle.std.proofs.Common.{arith, ◌≡◌, ◌+◌, suc, Some, ap, sym, ◌∙◌}
use Rattle.run_layout.specs.AtOnce.{operand_number}
use Rattle.run_layout.proofs.AtOnce.{number_first, one_further}
use Rattle.run_code.proofs.choices.operand_number.Goals as goal

pub loop-operand-init : goal.loop-operand-init
loop-operand-init c = λ firsts ts noted below l.
    let next : c.args.number + 1 ≡ suc c.args.number = omega arith in
    next ∙ sym (number_first ts (suc c.args.number))

pub loop-operand-preserved : goal.loop-operand-preserved
loop-operand-preserved c = λ firsts ts noted below l.
    let next : suc c.loop-operand._operand ≡ c.loop-operand._operand + 1 = omega arith in
    one_further c.args.nodes.now c.args.number (suc c.args.number) ts c.loop-operand._operand c.loop-operand.at c.behind-at.result below (omega (arith, l))
    (c.loop-operand.invariant firsts ts noted below l) (λ t here. c.behind-at.ensures firsts (Some c.args.number) t noted here)
    ∙ ap (λ n. operand_number ts n (suc c.args.number)) next

pub returns : goal.returns
returns c = λ firsts ts noted below l.
    let end : c.loop-operand._operand ≡ c.args.index = omega arith in
    c.loop-operand.invariant firsts ts noted below l ∙ ap (λ n. operand_number ts n (suc c.args.number)) end

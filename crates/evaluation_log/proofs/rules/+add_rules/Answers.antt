use Rattle.std.proofs.Common.{◌++◌, map, length, set, sym, ap, ◌∙◌, arith}
use Rattle.c_typed.specs.declared.tree.Typed.{out-Typed}
use Rattle.evaluation_log.specs.Ruled.{rules_of, rules_among, last_among}
use Rattle.evaluation_log.proofs.RuledLemmas.{own_rule, past, ended}
use Rattle.evaluation_log.proofs.rules.+add_rules.Goals as goal

pub returns : goal.returns
returns t c =
    let outside = c.loop-operand-test.false in
    let end = c.loop-operand.auto.operand-index-end in
    let none = past c.as_slice-operand-items.result.now c.loop-operand.operand-index (omega (arith, outside, end)) in
    let old = c.args.list.now.items in
    let now = c.loop-operand.list.items in
    ended c.args.tree.now old now c.set_rule.new.list.items c.loop-operand.last
    (ap (λ z. now ++ rules_among (map rules_of z) (length now)) (sym none) ∙ c.loop-operand.invariant.rules)
    (ap (λ z. last_among (map rules_of z) (length now) c.loop-operand.last) (sym none) ∙ c.loop-operand.invariant.last)
    (c.set_rule.ensures ∙ (ap (λ z. set now z c.rule_of.result) (c.len-number.ensures ∙ c.args.list.now.ok.0)
    ∙ ap (λ z. set now (length old) z) (c.rule_of.ensures ∙ ap (own_rule (out-Typed c.args.tree.now).node) c.number_of.ensures)))

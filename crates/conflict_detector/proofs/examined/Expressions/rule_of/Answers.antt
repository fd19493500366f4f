use Rattle.std.proofs.Common.{◌∙◌, ap}
use Rattle.std.specs.Prelude.{is_some}
use Rattle.conflict_detector.specs.Examined.{rule_by}
use Rattle.conflict_detector.proofs.Rules.{free_shown, ruled_shown}
use Rattle.conflict_detector.proofs.examined.Expressions.rule_of.Goals as goal

pub returns-clause-ruled : goal.returns-clause-ruled
returns-clause-ruled c = λ roots t own right shown.
    let h = c.in_ok-examine.ensures.rules roots right shown.numbered in
    ruled_shown roots c.args.begun.now t c.examine.new.self c.args.node own _ _ shown h
    (c.rule.ensures ∙ ap (λ o. rule_by o c.args.node) h.1) (c.is_some.ensures ∙ ap is_some c.chosen.ensures)

pub returns-clause-free : goal.returns-clause-free
returns-clause-free c = λ roots t right shown.
    let h = c.in_ok-examine.ensures.rules roots right shown.numbered in
    free_shown roots c.args.begun.now t c.examine.new.self c.args.node _ shown h (c.rule.ensures ∙ ap (λ o. rule_by o c.args.node) h.1)

use Rattle.std.proofs.Common.{sym, ◌∙◌, arith}
use Rattle.type_declarators.proofs.Completing.{has_them, is_out, may_or_not}
use Rattle.type_declarators.proofs.tag.completed.Goals as goal

pub returns-then-is_complete-clause-value : goal.returns-then-is_complete-clause-value
returns-then-is_complete-clause-value c =
    sym (has_them c.args.tags.now c.args.number c.args.members c.is_complete.result c.law_extents.ensures c.is_complete.ensures c.if-is_complete.true)

pub returns-then-number-len-clause-value : goal.returns-then-number-len-clause-value
returns-then-number-len-clause-value c = sym (is_out c.args.tags.now c.args.number c.args.members (omega (arith, c.if-number-len.true, c.len.ensures)))

pub returns-then-complete-clause-value : goal.returns-then-complete-clause-value
returns-then-complete-clause-value c =
    sym (may_or_not c.args.tags.now c.args.number c.args.members c.is_complete.result c.complete.result c.law_extents.ensures c.is_complete.ensures
    c.if-is_complete.false c.complete.ensures.value ∙ c.if-complete.true)

pub returns-else-complete-clause-value : goal.returns-else-complete-clause-value
returns-else-complete-clause-value c =
    sym (may_or_not c.args.tags.now c.args.number c.args.members c.is_complete.result c.complete.result c.law_extents.ensures c.is_complete.ensures
    c.if-is_complete.false c.complete.ensures.value ∙ c.if-complete.false)

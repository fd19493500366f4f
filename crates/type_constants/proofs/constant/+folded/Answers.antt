use Rattle.std.proofs.Common.{sym, ◌∙◌, rules}
use Rattle.type_constants.proofs.Worths.{child_below, comma_answers, operand_answers}
use Rattle.type_constants.proofs.constant.+folded.Goals as goal

pub of_comma-worth-requires : goal.of_comma-worth-requires
of_comma-worth-requires g t c κs within =
    let h = child_below c.args.children.now c.loop-child.child-index c.child-item.result c.loop-child-test.true c.child-item.is in search rules

pub worth-returns-then-is_comma : goal.worth-returns-then-is_comma
worth-returns-then-is_comma g t c =
    comma_answers (g.O.Objects.places c.args.objects.now) c.args.tree.now c.as_slice.result.now c.of_comma.result c.as_slice.ensures
    (sym c.never_constant.ensures ∙ c.if-never_constant.false) (sym c.is_comma.ensures ∙ c.if-is_comma.true) c.of_comma.ensures

pub worth-returns-else-is_comma : goal.worth-returns-else-is_comma
worth-returns-else-is_comma g t c =
    operand_answers (g.O.Objects.places c.args.objects.now) c.args.tree.now c.as_slice-else-is_comma.result.now c.of_operands.result
    c.as_slice-else-is_comma.ensures
    (sym c.never_constant.ensures ∙ c.if-never_constant.false) (sym c.is_comma.ensures ∙ c.if-is_comma.false) c.of_operands.ensures

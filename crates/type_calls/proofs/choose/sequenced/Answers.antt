use Rattle.std.proofs.Common.{Some, sym, ap, ◌∙◌, rules}
use Rattle.type_calls.proofs.Lists.{front_refused, end_refused, sequence_found}
use Rattle.type_calls.proofs.choose.sequenced.Goals as goal
use Rattle.type_operands.specs.Layouts.{layouts}

pub returns-in_err-children : goal.returns-in_err-children
returns-in_err-children c =
    let h = front_refused (layouts c.args.tags.now) c.args.operands.items _ c.in-Some.operand c.args.line c.in_err-children.field-0.0 c.in-Some.ensures.items
    c.in_err-children.ensures in search rules

pub returns-in_err-tree : goal.returns-in_err-tree
returns-in_err-tree c =
    let h = end_refused (layouts c.args.tags.now) c.args.operands.items _ c.in-Some.operand c.args.line c.in_err-tree.field-0.0 c.in-Some.ensures.items
    c.in_err-tree.ensures in search rules

pub returns : goal.returns
returns c =
    sequence_found (layouts c.args.tags.now) c.args.operands.items _ c.in-Some.operand c.args.line _ _ _ _ c.in-Some.ensures.items c.in_ok-children.ensures
    c.in_ok-tree.ensures c.in_ok-push.ensures.ok
    ∙ ap Some (sym c.comma.ensures)

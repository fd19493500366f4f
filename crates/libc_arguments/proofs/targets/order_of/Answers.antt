use Rattle.std.proofs.Common.{ap, sym, ◌∙◌}
use Rattle.libc_arguments.proofs.Seen.{sign_of, order_of-slice_cmp}
use Rattle.libc_arguments.proofs.targets.order_of.Goals as goal

pub returns-in-Less : goal.returns-in-Less
returns-in-Less c = ap sign_of c.in-Less.ensures ∙ sym (order_of-slice_cmp c.args.first.now c.args.second.now)

pub returns-in-Equal : goal.returns-in-Equal
returns-in-Equal c = ap sign_of c.in-Equal.ensures ∙ sym (order_of-slice_cmp c.args.first.now c.args.second.now)

pub returns-in-Greater : goal.returns-in-Greater
returns-in-Greater c = ap sign_of c.in-Greater.ensures ∙ sym (order_of-slice_cmp c.args.first.now c.args.second.now)

use Rattle.std.proofs.Common.{◌∙◌, sym, rules}
use denote.Enum.Bare.{same_true, true_same}
use Rattle.ub_base.specs.contracts.clause.Clause.{the_type}
use Rattle.order_swap.proofs.end.same_clause.Goals as goal

pub returns : goal.returns
returns c = (
  λ t. same_true the_type (search rules) c.args.clause c.args.other (sym c.eq.ensures ∙ t),
  λ e. c.eq.ensures ∙ true_same the_type c.args.clause c.args.other e,
)

use Rattle.ub_base.proofs.Clauses.{found_has_text, none_has_text}
use Rattle.ub_base.proofs.clause.Clause.from_text.Goals as goal

pub returns-clause-found : goal.returns-clause-found
returns-clause-found c = found_has_text c.args.text.now c.first_with_text.result c.first_with_text.ensures

pub returns-clause-none : goal.returns-clause-none
returns-clause-none c = none_has_text c.args.text.now c.first_with_text.result c.first_with_text.ensures

use Rattle.ub_base.proofs.Clauses.{texts_differ}
use Rattle.ub_base.proofs.clause.law_clause_texts.Goals as goal

pub returns : goal.returns
returns c = texts_differ

use Rattle.run_laws.proofs.Initial.{is_initializer, may_start, may_start_next}
use Rattle.run_laws.proofs.law_initial.Goals as goal

pub returns-clause-is : goal.returns-clause-is
returns-clause-is c = is_initializer

pub returns-clause-may : goal.returns-clause-may
returns-clause-may c = may_start c.law_asked.ensures.code

pub returns-clause-next : goal.returns-clause-next
returns-clause-next c = may_start_next c.law_asked.ensures.code

use Rattle.ending_laws.proofs.First.{budget_is_first, end_is_first, limit_is_first, raise_is_first, return_is_clean}
use Rattle.ending_laws.proofs.law_first_at_end.Goals as goal

pub returns-clause-raises : goal.returns-clause-raises
returns-clause-raises c = raise_is_first

pub returns-clause-limits : goal.returns-clause-limits
returns-clause-limits c = limit_is_first

pub returns-clause-budget : goal.returns-clause-budget
returns-clause-budget c = budget_is_first

pub returns-clause-ends : goal.returns-clause-ends
returns-clause-ends c = end_is_first

pub returns-clause-returns : goal.returns-clause-returns
returns-clause-returns c = return_is_clean

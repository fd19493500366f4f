use Rattle.telling_laws.proofs.Tells.{next_is_told, operands_are_told, last_are_own, end_is_told}
use Rattle.telling_laws.proofs.law_telling.Goals as goal

pub returns-clause-next : goal.returns-clause-next
returns-clause-next c = next_is_told

pub returns-clause-operands : goal.returns-clause-operands
returns-clause-operands c = operands_are_told

pub returns-clause-own : goal.returns-clause-own
returns-clause-own c = last_are_own

pub returns-clause-ends : goal.returns-clause-ends
returns-clause-ends c = end_is_told

use Rattle.frame_records.proofs.Ends.{audit_ends, audit_passes_limit, audit_raises, audit_returns, audit_uses_budget}
use Rattle.frame_records.proofs.law_audit_ends.Goals as goal

pub returns-clause-ends : goal.returns-clause-ends
returns-clause-ends c = audit_ends

pub returns-clause-returns : goal.returns-clause-returns
returns-clause-returns c = audit_returns

pub returns-clause-raises : goal.returns-clause-raises
returns-clause-raises c = audit_raises

pub returns-clause-limits : goal.returns-clause-limits
returns-clause-limits c = audit_passes_limit

pub returns-clause-budget : goal.returns-clause-budget
returns-clause-budget c = audit_uses_budget

use Rattle.frame_records.proofs.Audit.{audit_goes_free, audit_sees_first, starts_bare}
use Rattle.frame_records.proofs.law_audit.Goals as goal

pub returns-clause-starts : goal.returns-clause-starts
returns-clause-starts c = starts_bare

pub returns-clause-free : goal.returns-clause-free
returns-clause-free c = audit_goes_free

pub returns-clause-sees : goal.returns-clause-sees
returns-clause-sees c = audit_sees_first

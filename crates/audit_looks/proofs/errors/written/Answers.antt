use Rattle.std.proofs.Common.{subst}
use Rattle.audit_looks.proofs.Reports.{may_write, refused_by, writes_nothing}
use Rattle.audit_looks.specs.Looks.{IsRefused}
use Rattle.audit_verdict.specs.Answer.{IsRunnable}
use Rattle.audit_looks.proofs.errors.written.Goals as goal

pub returns-in-Ok : goal.returns-in-Ok
returns-in-Ok c =
    may_write c.args.sources.now.text c.in-Ok.program c.errors_of.result
    (subst (λ text. IsRunnable text c.in-Ok.program) c.as_slice.ensures c.in-Ok.ensures.read)

pub returns-in-Err-Refused : goal.returns-in-Err-Refused
returns-in-Err-Refused c =
    writes_nothing c.args.sources.now.text c.from_slice.result
    (subst IsRefused c.as_slice.ensures
    (refused_by c.as_slice.result.now c.in-Err-Refused.field-0 c.in-Err-Refused.field-0-0 c.in-Err-Refused.field-0-is
    c.in-Err-Refused.ensures.refused))
    c.from_slice.ensures

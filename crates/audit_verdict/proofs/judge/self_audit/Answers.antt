use Rattle.audit_verdict.proofs.Causes.{generated_self}
use Rattle.audit_verdict.proofs.judge.self_audit.Goals as goal

pub returns : goal.returns
returns c =
    generated_self c.args.request c.in-Ok.text c.as_slice.result.now c.len.result c.generated_found.result c.len.ensures c.as_slice.ensures
    c.in-Ok.ensures.text
    c.generated_found.ensures

use Rattle.std.proofs.Common.{None, subst}
use Rattle.audit_verdict.specs.Cause.{FormCause, IsRun}
use Rattle.audit_verdict.proofs.judge.judged.Goals as goal

pub by_run-requires-clause-run : goal.by_run-requires-clause-run
by_run-requires-clause-run g c =
    let run : IsRun c.args.request.now c.as_slice.result.now = subst (FormCause c.args.request.now c.as_slice.result.now) c.in-Ok-None.field-0-is
    c.in-Ok-None.ensures in
    subst (IsRun c.args.request.now) c.as_slice.ensures run

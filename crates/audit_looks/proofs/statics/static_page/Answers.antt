use Rattle.std.proofs.Common.{subst}
use Rattle.audit_looks.proofs.Reports.{refused_by}
use Rattle.audit_looks.proofs.StaticSheets.{program_static, refused_static}
use Rattle.audit_looks.specs.Looks.{IsRefused}
use Rattle.audit_verdict.specs.Answer.{IsRunnable}
use Rattle.audit_looks.proofs.statics.static_page.Goals as goal

pub returns-in-Ok-clause-page : goal.returns-in-Ok-clause-page
returns-in-Ok-clause-page g c =
    program_static c.args.request.now (g.F.Files.write_faults c.args.files.now) (g.F.Files.write_faults c.args.files.now) c.args.sources.now.text
    c.in-Ok.program c.program_page.result (subst (λ text. IsRunnable text c.in-Ok.program) c.as_slice.ensures c.in-Ok.ensures.read) c.program_page.ensures

pub returns-in-Err-Refused-clause-page : goal.returns-in-Err-Refused-clause-page
returns-in-Err-Refused-clause-page g c =
    refused_static c.args.request.now (g.F.Files.write_faults c.args.files.now) (g.F.Files.write_faults c.judged_report.new.files) c.args.sources.now.text
    c.judged_report.result
    (subst IsRefused c.as_slice.ensures
    (refused_by c.as_slice.result.now c.in-Err-Refused.field-0 c.in-Err-Refused.field-0-0 c.in-Err-Refused.field-0-is
    c.in-Err-Refused.ensures.refused))
    c.judged_report.ensures.page

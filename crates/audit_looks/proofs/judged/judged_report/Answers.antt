use Rattle.std.proofs.Common.{option_copied}
use Rattle.audit_looks.proofs.Audits.{leaves_unasked}
use Rattle.audit_looks.proofs.Reports.{text_report}
use Rattle.audit_looks.proofs.judged.judged_report.Goals as goal

pub returns-clause-page : goal.returns-clause-page
returns-clause-page g c =
    text_report c.args.request.now (g.F.Files.write_faults c.args.files.now) (g.F.Files.write_faults c.judged-answer.new.files) c.args.sources.now.text
    c.judged-answer.result c.report_page.result c.judged-answer.ensures.why c.report_page.ensures.status c.report_page.ensures.text

pub returns-clause-held : goal.returns-clause-held
returns-clause-held g c =
    leaves_unasked (option_copied c.args.request.now.cert) (g.F.Files.held c.args.files.now) (g.F.Files.held c.judged-answer.new.files)
    c.judged-answer.result c.requires.cert c.judged-answer.ensures.files

use Rattle.audit_looks.proofs.Swaps.{report_swap}
use Rattle.audit_looks.proofs.swap.swap_page.Goals as goal

pub returns-in-None-clause-page : goal.returns-in-None-clause-page
returns-in-None-clause-page g c =
    report_swap c.args.request.now (g.F.Files.write_faults c.args.files.now) (g.F.Files.write_faults c.judged_report.new.files) c.args.sources.now.text
    c.judged_report.result c.judged_report.ensures.page

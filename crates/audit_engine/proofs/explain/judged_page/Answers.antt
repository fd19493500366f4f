use Rattle.std.proofs.Common.{option_copied}
use Rattle.audit_engine.proofs.Pages.{judged_page}
use Rattle.audit_looks.proofs.Audits.{leaves_unasked}
use Rattle.audit_engine.proofs.explain.judged_page.Goals as goal

pub returns-clause-page : goal.returns-clause-page
returns-clause-page g c =
    judged_page c.args.request.now (g.F.Files.write_faults c.args.files.now) (g.F.Files.write_faults c.judged-answer.new.files) c.args.sources.now.text
    c.judged-answer.result c.page_of.result c.judged-answer.ensures.why c.page_of.ensures

pub returns-clause-held : goal.returns-clause-held
returns-clause-held g c =
    leaves_unasked (option_copied c.args.request.now.audit.cert) (g.F.Files.held c.args.files.now) (g.F.Files.held c.judged-answer.new.files)
    c.judged-answer.result c.requires.cert c.judged-answer.ensures.files

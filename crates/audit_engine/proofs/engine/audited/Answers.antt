use Rattle.std.proofs.Common.{option_copied}
use Rattle.audit_batch.specs.Moment.{moment}
use Rattle.audit_engine.proofs.Pages.{audited_line}
use Rattle.audit_looks.proofs.Audits.{leaves_unasked}
use Rattle.audit_engine.proofs.engine.audited.Goals as goal

pub returns-clause-said : goal.returns-clause-said
returns-clause-said g c =
    audited_line (moment (g.F.Files.held c.args.files.now) (g.F.Files.read_faults c.args.files.now) (g.F.Files.write_faults c.args.files.now))
    (moment (g.F.Files.held c.audit-answer.new.files) (g.F.Files.read_faults c.audit-answer.new.files) (g.F.Files.write_faults c.audit-answer.new.files))
    c.args.request.now c.audit-answer.result c.verdict_of.result c.audit-answer.ensures.why c.verdict_of.ensures.status c.verdict_of.ensures.line

pub returns-clause-held : goal.returns-clause-held
returns-clause-held g c =
    leaves_unasked (option_copied c.args.request.now.cert) (g.F.Files.held c.args.files.now) (g.F.Files.held c.audit-answer.new.files) c.audit-answer.result
    c.requires.cert c.audit-answer.ensures.files

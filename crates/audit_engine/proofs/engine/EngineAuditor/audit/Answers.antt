use Rattle.std.proofs.Common.{option_copied, refl}
use Rattle.audit_batch.specs.Moment.{moment}
use Rattle.audit_engine.proofs.Pages.{said_line}
use Rattle.audit_engine.proofs.engine.EngineAuditor.audit.Goals as goal

pub returns-clause-said : goal.returns-clause-said
returns-clause-said g c =
    said_line c.args.limits (moment (g.F.Files.held c.args.files.now) (g.F.Files.read_faults c.args.files.now) (g.F.Files.write_faults c.args.files.now))
    (moment (g.F.Files.held c.audited.new.files) (g.F.Files.read_faults c.audited.new.files) (g.F.Files.write_faults c.audited.new.files))
    c.args.program.now (option_copied c.args.input) _ c.audited.result c.audited.ensures.said
    (record { file = refl; given = refl; steps = refl; tight = refl; args = c.new.ensures.items; cert = refl })

use Rattle.audit_verdict.specs.Cause.{disk}
use Rattle.audit_top.proofs.Causes.{stopped_check}
use Rattle.audit_top.proofs.top.check.Goals as goal

pub returns-in-Err-clause-why : goal.returns-in-Err-clause-why
returns-in-Err-clause-why g c =
    stopped_check
    (disk (g.F.Files.held c.args.files.now) (g.F.Files.read_faults c.args.files.now) (g.F.Files.write_faults c.args.files.now))
    (disk (g.F.Files.held c.fetch_check_sources.new.files) (g.F.Files.read_faults c.fetch_check_sources.new.files)
    (g.F.Files.write_faults c.fetch_check_sources.new.files))
    c.args.request.now c.in-Err.fault c.stopped.result c.stopped.ensures c.in-Err.ensures.fault

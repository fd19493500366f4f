use Rattle.audit_batch.specs.Moment.{moment}
use Rattle.audit_looks.proofs.Reports.{fetched_errors, stopped_errors}
use Rattle.audit_looks.proofs.errors.errors_sheet.Goals as goal

pub returns-in-Ok-clause-sheet : goal.returns-in-Ok-clause-sheet
returns-in-Ok-clause-sheet g c =
    fetched_errors (moment (g.F.Files.held c.args.files.now) (g.F.Files.read_faults c.args.files.now) (g.F.Files.write_faults c.args.files.now))
    (moment (g.F.Files.held c.judged_sheet.new.files) (g.F.Files.read_faults c.judged_sheet.new.files) (g.F.Files.write_faults c.judged_sheet.new.files))
    c.args.request.now (g.F.Files.write_faults c.fetch_sources.new.files) c.in-Ok.sources.text c.in-Ok.sources.input c.judged_sheet.result
    c.in-Ok.ensures.source c.in-Ok.ensures.input c.in-Ok.ensures.writes c.judged_sheet.ensures.page c.judged_sheet.ensures.errors

pub returns-in-Err-clause-sheet : goal.returns-in-Err-clause-sheet
returns-in-Err-clause-sheet g c =
    stopped_errors (moment (g.F.Files.held c.args.files.now) (g.F.Files.read_faults c.args.files.now) (g.F.Files.write_faults c.args.files.now))
    (moment (g.F.Files.held c.fetch_sources.new.files) (g.F.Files.read_faults c.fetch_sources.new.files) (g.F.Files.write_faults c.fetch_sources.new.files))
    c.args.request.now c.in-Err.fault c.stopped_sheet.result c.in-Err.ensures.fault c.stopped_sheet.ensures.status c.stopped_sheet.ensures.text
    c.stopped_sheet.ensures.errors

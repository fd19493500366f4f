use Rattle.audit_batch.specs.Moment.{moment}
use Rattle.audit_looks.proofs.Reports.{quiet_of, quiet_stopped}
use Rattle.audit_looks.proofs.StaticSheets.{fetched_static, stopped_static}
use Rattle.audit_looks.specs.Looks.{IsFileStatic, IsTextStatic}
use Rattle.audit_looks.proofs.statics.fetched_sheet.Goals as goal

pub returns-in-Ok-clause-sheet : goal.returns-in-Ok-clause-sheet
returns-in-Ok-clause-sheet g c =
    let was = moment (g.F.Files.held c.args.files.now) (g.F.Files.read_faults c.args.files.now) (g.F.Files.write_faults c.args.files.now) in
    let is = moment (g.F.Files.held c.text_sheet.new.files) (g.F.Files.read_faults c.text_sheet.new.files) (g.F.Files.write_faults c.text_sheet.new.files) in
    quiet_of
    (IsTextStatic c.args.request.now (g.F.Files.write_faults c.fetch_sources.new.files) (g.F.Files.write_faults c.text_sheet.new.files) c.in-Ok.sources.text)
    (IsFileStatic was is c.args.request.now) c.text_sheet.result
    (λ said text so. fetched_static was is c.args.request.now (g.F.Files.write_faults c.fetch_sources.new.files) c.in-Ok.sources.text c.in-Ok.sources.input
    said text c.in-Ok.ensures.source c.in-Ok.ensures.input c.in-Ok.ensures.writes so)
    c.text_sheet.ensures.sheet

pub returns-in-Err-clause-sheet : goal.returns-in-Err-clause-sheet
returns-in-Err-clause-sheet g c =
    let was = moment (g.F.Files.held c.args.files.now) (g.F.Files.read_faults c.args.files.now) (g.F.Files.write_faults c.args.files.now) in
    let is = moment (g.F.Files.held c.fetch_sources.new.files) (g.F.Files.read_faults c.fetch_sources.new.files)
    (g.F.Files.write_faults c.fetch_sources.new.files) in
    quiet_stopped c.in-Err.fault (IsFileStatic was is c.args.request.now) c.stopped_sheet.result
    (λ said text so. stopped_static was is c.args.request.now c.in-Err.fault said text c.in-Err.ensures.fault so) c.stopped_sheet.ensures.status
    c.stopped_sheet.ensures.text c.stopped_sheet.ensures.errors

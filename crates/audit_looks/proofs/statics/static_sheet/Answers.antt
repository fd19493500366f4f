use Rattle.audit_batch.specs.Moment.{moment}
use Rattle.audit_looks.proofs.StaticSheets.{static_of_file}
use Rattle.audit_looks.proofs.statics.static_sheet.Goals as goal

pub returns-clause-sheet : goal.returns-clause-sheet
returns-clause-sheet g c =
    static_of_file (moment (g.F.Files.held c.args.files.now) (g.F.Files.read_faults c.args.files.now) (g.F.Files.write_faults c.args.files.now))
    (moment (g.F.Files.held c.fetched_sheet.new.files) (g.F.Files.read_faults c.fetched_sheet.new.files) (g.F.Files.write_faults c.fetched_sheet.new.files))
    c.args.file.now c.audit_of-request.result c.fetched_sheet.result c.audit_of-request.ensures.of c.fetched_sheet.ensures.sheet

use Rattle.audit_batch.specs.Moment.{moment}
use Rattle.audit_looks.proofs.Reports.{quiet_of, quiet_stopped}
use Rattle.audit_looks.proofs.Stories.{fetched_story, stopped_story}
use Rattle.audit_looks.specs.Looks.{IsFileStory, IsTextStory}
use Rattle.audit_looks.proofs.story.named_sheet.Goals as goal

pub returns-in-Ok-clause-sheet : goal.returns-in-Ok-clause-sheet
returns-in-Ok-clause-sheet g c =
    quiet_of
    (IsTextStory (c.args.frames.now, c.args.object.now) c.args.request.now (g.F.Files.write_faults c.fetch_sources.new.files)
    (g.F.Files.write_faults c.judged_sheet.new.files) c.in-Ok.sources.text)
    (IsFileStory (moment (g.F.Files.held c.args.files.now) (g.F.Files.read_faults c.args.files.now) (g.F.Files.write_faults c.args.files.now))
    (moment (g.F.Files.held c.judged_sheet.new.files) (g.F.Files.read_faults c.judged_sheet.new.files) (g.F.Files.write_faults c.judged_sheet.new.files))
    (c.args.frames.now, c.args.object.now) c.args.request.now)
    c.judged_sheet.result
    (λ said text so. fetched_story _ _ (c.args.frames.now, c.args.object.now) c.args.request.now (g.F.Files.write_faults c.fetch_sources.new.files)
    c.in-Ok.sources.text c.in-Ok.sources.input said text c.in-Ok.ensures.source c.in-Ok.ensures.input c.in-Ok.ensures.writes so)
    c.judged_sheet.ensures.sheet

pub returns-in-Err-clause-sheet : goal.returns-in-Err-clause-sheet
returns-in-Err-clause-sheet g c =
    quiet_stopped c.in-Err.fault
    (IsFileStory (moment (g.F.Files.held c.args.files.now) (g.F.Files.read_faults c.args.files.now) (g.F.Files.write_faults c.args.files.now))
    (moment (g.F.Files.held c.fetch_sources.new.files) (g.F.Files.read_faults c.fetch_sources.new.files) (g.F.Files.write_faults c.fetch_sources.new.files))
    (c.args.frames.now, c.args.object.now) c.args.request.now)
    c.stopped_sheet.result
    (λ said text so. stopped_story _ _ (c.args.frames.now, c.args.object.now) c.args.request.now c.in-Err.fault said text c.in-Err.ensures.fault so)
    c.stopped_sheet.ensures.status c.stopped_sheet.ensures.text c.stopped_sheet.ensures.errors

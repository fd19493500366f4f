use Rattle.audit_looks.proofs.Reports.{quiet_sheet}
use Rattle.audit_looks.specs.Looks.{IsTextStory}
use Rattle.audit_looks.proofs.story.judged_sheet.Goals as goal

pub returns-clause-sheet : goal.returns-clause-sheet
returns-clause-sheet g c =
    quiet_sheet
    (IsTextStory (c.args.frames.now, c.args.object.now) c.args.request.now (g.F.Files.write_faults c.args.files.now)
    (g.F.Files.write_faults c.story_page.new.files) c.args.sources.now.text)
    c.in_ok-page.page.status c.in_ok-page.page.text c.quiet.result c.quiet.ensures.status c.quiet.ensures.text c.quiet.ensures.errors
    c.in_ok-page.ensures.page

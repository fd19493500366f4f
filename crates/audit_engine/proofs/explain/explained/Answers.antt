use Rattle.audit_batch.specs.Moment.{moment}
use Rattle.audit_engine.proofs.Pages.{fetched_page, stopped_page}
use Rattle.audit_engine.proofs.explain.explained.Goals as goal

pub returns-in-Ok-clause-page : goal.returns-in-Ok-clause-page
returns-in-Ok-clause-page g c =
    fetched_page (moment (g.F.Files.held c.args.files.now) (g.F.Files.read_faults c.args.files.now) (g.F.Files.write_faults c.args.files.now))
    (moment (g.F.Files.held c.text_page.new.files) (g.F.Files.read_faults c.text_page.new.files) (g.F.Files.write_faults c.text_page.new.files))
    c.args.request.now (g.F.Files.write_faults c.fetch_sources.new.files) c.in-Ok.sources.text c.in-Ok.sources.input c.text_page.result
    c.in-Ok.ensures.source c.in-Ok.ensures.input c.in-Ok.ensures.writes c.text_page.ensures.page

pub returns-in-Err-clause-page : goal.returns-in-Err-clause-page
returns-in-Err-clause-page g c =
    stopped_page (moment (g.F.Files.held c.args.files.now) (g.F.Files.read_faults c.args.files.now) (g.F.Files.write_faults c.args.files.now))
    (moment (g.F.Files.held c.fetch_sources.new.files) (g.F.Files.read_faults c.fetch_sources.new.files) (g.F.Files.write_faults c.fetch_sources.new.files))
    c.args.request.now c.in-Err.fault c.stopped_page.result c.in-Err.ensures.fault c.stopped_page.ensures.status c.stopped_page.ensures.page

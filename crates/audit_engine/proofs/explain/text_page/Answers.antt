use Rattle.std.proofs.Common.{subst}
use Rattle.std.specs.Prelude.{IfOk}
use Rattle.audit_engine.specs.Engine.{IsJudgedPage}
use Rattle.audit_engine.proofs.explain.text_page.Goals as goal

pub returns-in-Ok-clause-page : goal.returns-in-Ok-clause-page
returns-in-Ok-clause-page g c =
    subst (λ before. IfOk c.judged_page.result
    (λ page. IsJudgedPage c.args.request.now before (g.F.Files.write_faults c.judged_page.new.files) c.args.sources.now.text page.status page.text))
    c.in-Ok.ensures.writes c.judged_page.ensures.page

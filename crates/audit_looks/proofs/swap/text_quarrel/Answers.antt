use Rattle.std.proofs.Common.{subst}
use Rattle.audit_looks.proofs.Swaps.{text_swap}
use Rattle.audit_verdict.specs.Answer.{IsRunnable}
use Rattle.audit_looks.proofs.swap.text_quarrel.Goals as goal

pub returns-in-Ok : goal.returns-in-Ok
returns-in-Ok c =
    text_swap c.args.sources.now.text c.in-Ok.program c.quarrel_page.result
    (subst (λ text. IsRunnable text c.in-Ok.program) c.as_slice.ensures c.in-Ok.ensures.read) c.quarrel_page.ensures

use Rattle.order_laws.proofs.Passes.{body_passes}
use Rattle.order_laws.proofs.law_body_past.Goals as goal

pub returns : goal.returns
returns c = body_passes

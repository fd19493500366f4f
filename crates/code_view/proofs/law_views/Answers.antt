use Rattle.code_view.proofs.Known.{code_known}
use Rattle.code_view.proofs.law_views.Goals as goal

pub returns : goal.returns
returns c = code_known

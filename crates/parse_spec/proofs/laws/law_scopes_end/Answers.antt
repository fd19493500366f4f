use Rattle.parse_spec.proofs.Scoping.{scopes_end}
use Rattle.parse_spec.proofs.laws.law_scopes_end.Goals as goal

pub returns : goal.returns
returns c = scopes_end

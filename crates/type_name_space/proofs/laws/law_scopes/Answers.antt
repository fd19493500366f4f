use Rattle.type_name_space.proofs.Scopes.{hides, restores}
use Rattle.type_name_space.proofs.laws.law_scopes.Goals as goal

pub returns : goal.returns
returns g c = record { hides = hides; restores = restores }

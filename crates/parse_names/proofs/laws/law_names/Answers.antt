use Rattle.parse_names.proofs.Units.{trees_name}
use Rattle.parse_names.proofs.laws.law_names.Goals as goal

pub returns : goal.returns
returns c = trees_name

use Rattle.c_types.proofs.CompatibleBoth.{first, second}
use Rattle.c_types.proofs.composites.law_composites.Goals as goal

pub returns : goal.returns
returns c = record { first = first; second = second }

use Rattle.frame_laws.proofs.NamedNodes.{names_are_seen, nodes_in_scope}
use Rattle.frame_laws.proofs.law_names.Goals as goal

pub returns : goal.returns
returns c = record { seen = names_are_seen; nodes = nodes_in_scope }

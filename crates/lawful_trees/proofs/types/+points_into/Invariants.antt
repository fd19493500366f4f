use Rattle.c_types.specs.Types.{qualified_of}
use Rattle.c_types.proofs.Nodes.{nodes}
use Rattle.lawful_trees.proofs.types.+points_into.Given as goal

abbrev pub decreases-points_into : goal.decreases-points_into
decreases-points_into l = nodes (qualified_of l.object.now).ty

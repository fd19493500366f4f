use Rattle.c_types.specs.Types.{qualified_of}
use Rattle.c_types.proofs.Nodes.{nodes}
use Rattle.lawful_trees.proofs.types.+first_of.Given as goal

abbrev pub decreases-first_of : goal.decreases-first_of
decreases-first_of l = nodes (qualified_of l.target.now).ty

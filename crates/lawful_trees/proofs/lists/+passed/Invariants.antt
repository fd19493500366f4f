use Rattle.std.proofs.Common.{length}
use Rattle.lawful_trees.proofs.lists.+passed.Given as goal

abbrev pub decreases-passed : goal.decreases-passed
decreases-passed l = length l.params.now

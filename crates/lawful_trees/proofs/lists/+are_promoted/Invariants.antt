use Rattle.std.proofs.Common.{length}
use Rattle.lawful_trees.proofs.lists.+are_promoted.Given as goal

abbrev pub decreases-are_promoted : goal.decreases-are_promoted
decreases-are_promoted l = length l.arguments.now

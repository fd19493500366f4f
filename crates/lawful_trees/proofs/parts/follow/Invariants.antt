use Rattle.std.proofs.Common.{drop}
use Rattle.lawful_trees.specs.Parts.{FollowFrom}
use Rattle.lawful_trees.proofs.parts.follow.Given as goal

abbrev pub invariant-loop-range : goal.invariant-loop-range
invariant-loop-range l = FollowFrom l.end (drop l.range-index l.ranges) → FollowFrom 0 l.ranges

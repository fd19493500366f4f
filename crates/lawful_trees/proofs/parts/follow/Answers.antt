use Rattle.std.proofs.Common.{arith}
use Rattle.lawful_trees.proofs.Following.{apart, over}
use Rattle.lawful_trees.proofs.parts.follow.Goals as goal

pub returns : goal.returns
returns c = λ _. apart 0 c.args.ranges.now (c.loop-range.invariant (over c.loop-range.end c.loop-range.range-index c.args.ranges.now (omega arith)))

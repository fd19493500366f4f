use Rattle.std.proofs.Common.{◌≡◌, ◌++◌, map, take}
use Rattle.lawful_trees.specs.Parts.{listed_range}
use Rattle.lawful_trees.proofs.initial.add_listed.Given as goal

abbrev pub invariant-loop-operand : goal.invariant-loop-operand
invariant-loop-operand l = l.ranges.items ≡ l.initial.ranges.items ++ map (listed_range l.tags) (take l.operand-index l.operands)

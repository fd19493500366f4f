use Rattle.std.proofs.Common.{◌≡◌, map, take}
use Rattle.lawful_trees.specs.Parts.{range_of}
use Rattle.lawful_trees.proofs.parts.ranges_of.Given as goal

abbrev pub invariant-loop-constant : goal.invariant-loop-constant
invariant-loop-constant l = l.ranges.items ≡ map range_of (take l.constant-index l.constants)

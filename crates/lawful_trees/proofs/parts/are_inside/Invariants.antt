use Rattle.std.proofs.Common.{ℕ, ◌≤◌, take}
use Rattle.std.specs.List.{All}
use Rattle.lawful_trees.proofs.parts.are_inside.Given as goal

abbrev pub invariant-loop-range : goal.invariant-loop-range
invariant-loop-range l = All (λ (r : ℕ × ℕ). r.1 ≤ l.size) (take l.range-index l.ranges)

use Rattle.std.proofs.Common.{◌≡◌, ◌+◌, ◌-◌, ◌^◌, min, max, map, drop}
use Rattle.c_typed.specs.Height.{tree_height, greatest}
use Rattle.c_typed.proofs.heights.+tree_height.Given as goal

-- what is seen and what is left give the height
abbrev pub invariant-loop-child : goal.invariant-loop-child
invariant-loop-child l =
    min (1 + max l.most (greatest (map tree_height (drop l.child-index l.child-items)))) (2 ^ 32 - 1) ≡ min (tree_height l.tree) (2 ^ 32 - 1)

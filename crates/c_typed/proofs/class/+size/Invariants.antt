use Rattle.std.proofs.Common.{◌≡◌, ◌<◌, ◌+◌, ◌-◌, ◌^◌, min, drop}
use Rattle.c_typed.specs.Tree.{tree_of, trees_of, size, sizes}
use Rattle.c_typed.proofs.class.+size.Given as goal

-- what is counted and what is left make the whole
abbrev pub invariant-loop-t : goal.invariant-loop-t
invariant-loop-t l =
    (l.sum < 2 ^ 32) × (min (l.sum + sizes (trees_of (drop l.t-index l.t-items))) (2 ^ 32 - 1) ≡ min (size (tree_of l.root)) (2 ^ 32 - 1))

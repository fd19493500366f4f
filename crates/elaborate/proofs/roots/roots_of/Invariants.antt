use Rattle.std.proofs.Common.{◌≡◌, ◌++◌, map, flat_map, drop}
use Rattle.elaborate.specs.Expressions.{function_trees}
use Rattle.elaborate.proofs.roots.roots_of.Given as goal

-- the trees so far, and those of the functions that are left
abbrev pub invariant-loop-function : goal.invariant-loop-function
invariant-loop-function l =
    map (λ tree. tree.now) l.roots.items ++ flat_map function_trees (drop l.function-index l.function-items) ≡ flat_map function_trees l.p.functions

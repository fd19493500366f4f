use Rattle.std.proofs.Common.{◌≡◌, ◌++◌, map, flat_map, drop}
use Rattle.elaborate.specs.Expressions.{own_trees}
use Rattle.elaborate.proofs.roots.+isolated.Given as goal

-- the trees so far, and those of the operands that are left
abbrev pub invariant-loop-operand : goal.invariant-loop-operand
invariant-loop-operand l =
    map (λ tree. tree.now) l.roots.items ++ flat_map own_trees (drop l.operand-index l.operand-items)
    ≡ map (λ tree. tree.now) l.fn.roots.items ++ own_trees l.root

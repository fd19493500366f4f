use Rattle.std.proofs.Common.{◌≡◌, ◌++◌, map, flat_map, drop}
use Rattle.elaborate.specs.Expressions.{own_trees}
use Rattle.run_statements.specs.Bodies.{Grows}
use Rattle.run_statements.proofs.numbers.+isolated.Given as goal

-- the trees so far, and those of the operands that are left
abbrev pub invariant-loop-operand : goal.invariant-loop-operand
invariant-loop-operand l = Grows l.fn.numbers l.numbers
    × (map (λ tree. tree.now) l.numbers.roots.items ++ flat_map own_trees (drop l.operand-index l.operand-items)
    ≡ map (λ tree. tree.now) l.fn.numbers.roots.items ++ own_trees l.root)

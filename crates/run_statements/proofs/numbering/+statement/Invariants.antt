use Rattle.std.proofs.Common.{◌≡◌, ◌++◌, map, flat_map, drop}
use Rattle.elaborate.specs.Expressions.{entry_trees, block_trees}
use Rattle.run_statements.specs.Bodies.{Grows}
use Rattle.run_statements.proofs.Loops.{AreSoFar}
use Rattle.run_statements.proofs.numbering.+statement.Given as goal

-- the statements so far; and the full expressions so far, and those of the entries that are left
abbrev pub invariant-entries-loop-item : goal.invariant-entries-loop-item
invariant-entries-loop-item l = Grows l.fn.numbers l.numbers × AreSoFar l.numbers l.block l.statements (drop l.item-index l.item-items)
    × (map (λ t. t.now) l.numbers.roots.items ++ flat_map entry_trees (drop l.item-index l.item-items)
    ≡ map (λ t. t.now) l.fn.numbers.roots.items ++ block_trees l.block)

use Rattle.std.proofs.Common.{◌≡◌, ◌++◌, map, flat_map, drop}
use Rattle.elaborate.specs.Expressions.{entry_trees, block_trees}
use Rattle.elaborate.proofs.roots.+statement.Given as goal

-- the trees so far, and those of the entries that are left
abbrev pub invariant-block-loop-entry : goal.invariant-block-loop-entry
invariant-block-loop-entry l =
    map (λ tree. tree.now) l.roots.items ++ flat_map (λ ts. ts) (map entry_trees (drop l.entry-index l.entry-items))
    ≡ map (λ tree. tree.now) l.fn.roots.items ++ block_trees l.block

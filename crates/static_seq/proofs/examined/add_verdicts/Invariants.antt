use Rattle.std.proofs.Common.{◌≡◌, ◌++◌, drop}
use Rattle.std.specs.List.{All}
use Rattle.static_places.specs.Preorder.{trees_at}
use Rattle.static_seq.specs.Verdicts.{Counts, verdicts_from}
use Rattle.static_seq.proofs.examined.add_verdicts.Given as goal

-- the verdicts so far, and those on the roots that are left
abbrev pub invariant-loop-root : goal.invariant-loop-root
invariant-loop-root l =
    All Counts (trees_at l.roots) →
    l.said ++ verdicts_from l.p l.function l.expression (trees_at (drop l.root-index l.roots)) ≡ l.fn.said ++ verdicts_from l.p l.function 0
    (trees_at l.roots)

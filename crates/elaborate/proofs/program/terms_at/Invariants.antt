use Rattle.std.proofs.Common.{◌≡◌, ◌++◌, map, drop}
use Rattle.core_ir.specs.Term.{term_of}
use Rattle.elaborate.specs.Roots.{trees_at}
use Rattle.elaborate.specs.Terms.{capped_for}
use Rattle.elaborate.proofs.program.terms_at.Given as goal

-- the terms so far, and those of the roots that are left
abbrev pub invariant-loop-root : goal.invariant-loop-root
invariant-loop-root l =
    map term_of l.terms ++ map (capped_for 0) (trees_at (drop l.root-index l.roots)) ≡ map (capped_for 0) (trees_at l.roots)

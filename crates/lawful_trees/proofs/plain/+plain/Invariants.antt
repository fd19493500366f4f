use Rattle.std.proofs.Common.{drop}
use Rattle.std.specs.List.{All}
use Rattle.c_typed.specs.Lawful.{IsPlain}
use Rattle.lawful_trees.specs.Views.{sites_of}
use Rattle.lawful_trees.proofs.plain.+plain.Given as goal

-- where the trees that are left initialize nothing, none does
abbrev pub invariant-are_plain-loop-tree : goal.invariant-are_plain-loop-tree
invariant-are_plain-loop-tree l =
    All (λ s. IsPlain s.head) (sites_of (drop l.tree-index l.trees)) → All (λ s. IsPlain s.head) (sites_of l.trees)

-- The nodes of a full expression whose calls pass as many arguments as they should.
use Rattle.std.proofs.Common.{ℕ, suc, ◌+◌, Bool, true, false, if◌then◌else◌, ◌==◌, Some}
use Rattle.std.specs.Prelude.{nat_lt}
use Rattle.c_typed.specs.Tree.{size}
use Rattle.c_model.specs.Program.{Expr, expr, Exprs, none, more, tree_of}
use Rattle.c_model.specs.Steps.{at_node, at_node_among}
use Rattle.argument_laws.proofs.Counts.{CountsIf, ExprCounts, ExprsCount}

mutual
  pub node_counts : (k : ℕ) (e : Expr) (m : ℕ) → ExprCounts e → CountsIf (at_node k e m)
  node_counts k (expr h ty line es) m c = go (k == m) (among_counts (suc k) es m c.1.1)
    where
      go : (b : Bool) → CountsIf (at_node_among (suc k) es m) → CountsIf (if b then Some (expr h ty line es) else at_node_among (suc k) es m)
      go true rest = c
      go false rest = rest

  among_counts : (k : ℕ) (es : Exprs) (m : ℕ) → ExprsCount es → CountsIf (at_node_among k es m)
  among_counts k none m c = tt
  among_counts k (more e es) m c =
      go (nat_lt m (k + size (tree_of e))) (node_counts k e m c.0) (among_counts (k + size (tree_of e)) es m c.1)
    where
      go : (b : Bool) → CountsIf (at_node k e m) → CountsIf (at_node_among (k + size (tree_of e)) es m)
          → CountsIf (if b then at_node k e m else at_node_among (k + size (tree_of e)) es m)
      go true first rest = first
      go false first rest = rest

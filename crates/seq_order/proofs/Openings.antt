-- A walk over a node's operands in search of an open update.
use Rattle.std.proofs.Common.{◌≡◌, ℕ, suc, ◌+◌, Bool}
use Rattle.c_typed.specs.declared.tree.Place.{Place}
use Rattle.c_typed.specs.Tree.{Tree, Trees, size, sizes, class_of, operands}
use Rattle.c_typed.specs.Order.{Taken, operand_is_open}

-- what is open from an operand on is what is open in any
pub record Opening (taken : Taken) (done : Place → Bool) (k : ℕ) (tree : Tree) (i number : ℕ) (ts : Trees) : Type 0 where
  pub room : number + sizes ts ≡ k + size tree
  pub rest : operand_is_open taken done (class_of tree) (taken k) i number ts ≡ operand_is_open taken done (class_of tree) (taken k) 0 (suc k) (operands tree)

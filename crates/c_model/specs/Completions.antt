-- Which nodes of an open full expression are complete.
use Rattle.std.specs.Prelude.{ℕ, suc, ◌+◌, Bool, ◌==◌, nat_lt, Option, Some, None, if◌then◌else◌}
use Rattle.c_typed.specs.declared.tree.Place.{Place}
use Rattle.c_typed.specs.Tree.{Tree, node, Trees, none, more, size}
use Rattle.c_typed.specs.Order.{Taken, events}
use Rattle.c_model.specs.Moments.{least, complete}

abbrev mutual
  -- the node of which the node n is an operand, in the tree whose root has the number k
  pub parent_in : ℕ → Tree → ℕ → Option ℕ
  parent_in k (node class ts) n = parent_among k (suc k) ts n

  pub parent_among : ℕ → ℕ → Trees → ℕ → Option ℕ
  parent_among k m none n = None
  parent_among k m (more t ts) n =
      if nat_lt n (m + size t) then (if n == m then Some k else parent_in m t n) else parent_among k (m + size t) ts n

-- the number behind the last node of the tree of this node
abbrev pub end_of : Tree → ℕ → ℕ
end_of tree n = (least 0 tree n n).1

-- all due events of the node and of those below it are done
abbrev pub is_complete : Tree → Taken → (Place → Bool) → ℕ → Bool
is_complete tree taken done n = complete (events taken 0 tree) done n (end_of tree n)

-- all due events of the node's operands are done
abbrev pub has_operands : Tree → Taken → (Place → Bool) → ℕ → Bool
has_operands tree taken done n = complete (events taken 0 tree) done (suc n) (end_of tree n)

-- what an event completes
pub data Completed : Type 0 where
  Incomplete : Completed
  -- its node, with all below it
  Own_node : Completed
  -- and with it all operands of this node
  Operands_of : (parent : ℕ) → Completed

-- by an event of this node, with what was chosen and done after it
abbrev pub completed_by : Tree → Taken → (Place → Bool) → ℕ → Completed
completed_by tree taken done n = if is_complete tree taken done n then above (parent_in 0 tree n) else Incomplete
  where
    above : Option ℕ → Completed
    above None = Own_node
    above (Some p) = if has_operands tree taken done p then Operands_of p else Own_node

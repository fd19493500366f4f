-- The nodes that choose among their operands, and their tests (6.5.13 to 6.5.15).
use Rattle.std.specs.Prelude.{◌≡◌, ℕ, suc, Bool, true, false, List, Some, slice_get}
use Rattle.c_typed.specs.declared.tree.Node.{Node, out-Node}
use Rattle.c_typed.specs.declared.tree.Node.TheOpen as shape
use Rattle.c_typed.specs.declared.tree.Node.TheOpen.{Node-F}
use Rattle.c_typed.specs.declared.tree.Typed.{Typed, out-Typed}
use Rattle.run_layout.specs.declared.nodes.NodeInfo.{NodeInfo}

abbrev pub node_of : NodeInfo → Node-F Node Typed
node_of x = out-Node (out-Typed x.tree.now).node

abbrev pub chooses : {A B : Type 0} → Node-F A B → Bool
chooses shape.And = true
chooses shape.Or = true
chooses shape.Cond = true
chooses _ = false

-- the node of this number is the test of that node
pub record IsTest (nodes : List NodeInfo) (n : ℕ) (x : NodeInfo) (parent : ℕ) (above : NodeInfo) : Type 0 where
  pub below : x.parent ≡ Some parent
  pub there : slice_get nodes parent ≡ Some above
  pub first : n ≡ suc parent
  pub choice : chooses (node_of above) ≡ true

-- The isolated initializers of a full expression have the numbers of the full expressions of their own trees, which come behind it in turn (6.7.9p23).
use Rattle.std.specs.Prelude.{◌≡◌, ◌+◌, ◌<◌, ◌≤◌, ℕ, List, [], length, Some, slice_get}
use Rattle.c_typed.specs.declared.tree.Node.{Node, out-Node}
use Rattle.c_typed.specs.declared.tree.Node.TheOpen as shape
use Rattle.c_typed.specs.declared.tree.Node.TheOpen.{Node-F}
use Rattle.c_typed.specs.declared.tree.Typed.{Typed, out-Typed}
use Rattle.elaborate.specs.Expressions.{full_trees}
use Rattle.run_layout.specs.declared.nodes.NodeInfo.{NodeInfo}
use Rattle.run_layout.specs.declared.steps.Expression.{Expression}
use Rattle.run_layout.specs.declared.steps.Range.{Range}
use Rattle.run_layout.specs.declared.whole.Code.{Code}

-- 1. What each function's code has.

-- the node is an isolated initializer of this tree
abbrev pub IsIsolated : NodeInfo → Typed → Type 0
IsIsolated x tree = out-Node (out-Typed x.tree.now).node ≡ shape.Isolated tree

-- the node has the number of this tree, where these have numbers in turn from one on
abbrev pub HasNumber : (first : ℕ) → List Typed → NodeInfo → Typed → Type 0
HasNumber first ts x tree = (k : ℕ) × (slice_get ts k ≡ Some tree) × (x.initializer ≡ first + k)

-- so it is with each isolated initializer
abbrev pub HaveNumbers : (first : ℕ) → List Typed → List NodeInfo → Type 0
HaveNumbers first ts nodes = (n : ℕ) (x : NodeInfo) (tree : Typed) → slice_get nodes n ≡ Some x → IsIsolated x tree → HasNumber first ts x tree

-- 2. What that says of the whole code.

-- the full expression of this number is that of the tree
abbrev pub HasTree : Code → ℕ → Typed → Type 0
HasTree code number tree = (laid : Expression) × (slice_get code.expressions.items number ≡ Some laid) × (laid.root.now ≡ tree)

-- each isolated initializer has the number of the full expression of its own tree
abbrev pub NumberInitializers : Code → List NodeInfo → Type 0
NumberInitializers code nodes = (n : ℕ) (x : NodeInfo) (tree : Typed) → slice_get nodes n ≡ Some x → IsIsolated x tree → HasTree code x.initializer tree

-- and that is one of these full expressions
abbrev pub NumberWithin : Range → List NodeInfo → Type 0
NumberWithin range nodes = (n : ℕ) (x : NodeInfo) (tree : Typed) → slice_get nodes n ≡ Some x → IsIsolated x tree
    → (range.first ≤ x.initializer) × (x.initializer < range.first + range.count)

-- 3. As the nodes are gone through.

-- a node's own tree and the own trees in that, if it is an isolated initializer
abbrev pub trees_of_node : Node-F Node Typed → List Typed
trees_of_node (shape.Isolated tree) = full_trees tree
trees_of_node _ = []

abbrev pub trees_at : Typed → List Typed
trees_at t = trees_of_node (out-Node (out-Typed t).node)

-- those of the nodes from one on have the numbers of these trees, which come in turn from the one number on, before the other
pub record AreOwned (from : ℕ) (ts : List Typed) (nodes : List NodeInfo) (low high : ℕ) : Type 0 where
  pub each : (n : ℕ) (x : NodeInfo) (tree : Typed) → from ≤ n → slice_get nodes n ≡ Some x → IsIsolated x tree → HasNumber low ts x tree
  pub count : high ≡ low + length ts

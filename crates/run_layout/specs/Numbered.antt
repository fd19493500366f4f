-- The nodes of a full expression by their numbers, in preorder: the operands of a node follow it, each with all below it.
use Rattle.std.specs.Prelude.{◌≡◌, ℕ, suc, ◌+◌, ◌≤◌, length, List, [], ◌∷◌, Option, Some, None, slice_get}
use Rattle.c_typed.specs.declared.tree.Typed.{Typed, out-Typed}
use Rattle.c_typed.specs.Tree.{tree_of, size}
use Rattle.run_layout.specs.declared.nodes.NodeInfo.{NodeInfo}
use Rattle.run_layout.specs.Resolved.{resolved}

-- the node of this number is the root of this tree, below that node
abbrev pub IsAt : List NodeInfo → ℕ → Option ℕ → Typed → Type 0
IsAt nodes n parent t = (x : NodeInfo) × (slice_get nodes n ≡ Some x) × (x.tree.now ≡ t) × (x.parent ≡ parent)

-- these are the operands of a node from one on, whose number is m
abbrev pub AreBelow : List NodeInfo → ℕ → ℕ → List Typed → Type 0
AreBelow nodes parent m [] = Unit {0}
AreBelow nodes parent m (t ∷ ts) = IsAt nodes m (Some parent) t × AreBelow nodes parent (m + size (tree_of t)) ts

-- what is noted of the node of this number
pub record IsNode (firsts : List ℕ) (nodes : List NodeInfo) (n : ℕ) (x : NodeInfo) : Type 0 where
  pub operand : x.operand ≡ resolved firsts x.tree.now n
  pub next : x.next ≡ n + size (tree_of x.tree.now)
  pub below : AreBelow nodes n (suc n) (out-Typed x.tree.now).children

abbrev pub AreNoted : List ℕ → List NodeInfo → Type 0
AreNoted firsts nodes = (n : ℕ) (x : NodeInfo) → slice_get nodes n ≡ Some x → IsNode firsts nodes n x

-- the nodes of a tree
pub record AreNodes (firsts : List ℕ) (root : Typed) (nodes : List NodeInfo) : Type 0 where
  pub count : length nodes ≡ size (tree_of root)
  pub top : IsAt nodes 0 None root
  pub each : AreNoted firsts nodes

-- what was there is there as before
abbrev pub AreKept : List NodeInfo → List NodeInfo → Type 0
AreKept old new = (n : ℕ) (x : NodeInfo) → slice_get old n ≡ Some x → slice_get new n ≡ Some x

-- the nodes of a tree behind those that were there
pub record AreAdded (firsts : List ℕ) (parent : Option ℕ) (t : Typed) (old new : List NodeInfo) : Type 0 where
  pub kept : AreKept old new
  pub count : length new ≡ length old + size (tree_of t)
  pub top : IsAt new (length old) parent t
  pub each : (n : ℕ) (x : NodeInfo) → length old ≤ n → slice_get new n ≡ Some x → IsNode firsts new n x

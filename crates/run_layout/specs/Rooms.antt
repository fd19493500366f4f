-- The rooms for the values of a full expression, and for what its updates are to store.
use Rattle.std.specs.Prelude.{◌≡◌, ℕ, ◌+◌, ◌<◌, ◌≤◌, ◌^◌, Bool, true, false, List, length, Some, slice_get}
use Rattle.c_typed.specs.declared.tree.Node.TheOpen as shape
use Rattle.c_typed.specs.declared.tree.Typed.{out-Typed}
use Rattle.c_typed.specs.Sites.{Head}
use Rattle.run_layout.specs.declared.nodes.NodeInfo.{NodeInfo}
use Rattle.run_layout.specs.EventActs.{head_at}

-- an update that gives the old value (6.5.2.4p2)
abbrev pub gives_old : Head → Bool
gives_old (shape.Update c true) = true
gives_old h = false

-- the node of this number is such an update
abbrev pub IsOld : List NodeInfo → ℕ → NodeInfo → Type 0
IsOld nodes n x = (slice_get nodes n ≡ Some x) × (gives_old (head_at (out-Typed x.tree.now).node) ≡ true)

-- Of so many rooms there is one for each node, and behind these one for each update that gives the old value, no two of them one. Their number has 32 bits.
pub record IsRoomedBy (nodes : List NodeInfo) (rooms : ℕ) : Type 0 where
  pub few : rooms < 2 ^ 32
  pub own : length nodes ≤ rooms
  pub behind : (n : ℕ) (x : NodeInfo) → IsOld nodes n x → length nodes + x.room < rooms
  pub apart : (n k : ℕ) (x y : NodeInfo) → IsOld nodes n x → IsOld nodes k y → x.room ≡ y.room → n ≡ k

-- how many such updates there are with a node, behind so many
abbrev pub olds_with : Head → ℕ → ℕ
olds_with (shape.Update c true) olds = olds + 1
olds_with h olds = olds

-- the rooms of those of the nodes from one on are these in turn
pub record AreRoomed (from : ℕ) (nodes : List NodeInfo) (low high : ℕ) : Type 0 where
  pub order : low ≤ high
  pub each : (n : ℕ) (x : NodeInfo) → from ≤ n → IsOld nodes n x → (low ≤ x.room) × (x.room < high)
  pub rising : (n k : ℕ) (x y : NodeInfo) → from ≤ n → n < k → IsOld nodes n x → IsOld nodes k y → x.room < y.room

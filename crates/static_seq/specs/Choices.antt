-- The choice of operands that leaves out each operand in which neither of two nodes stands, and the branches of `?:`.
use Rattle.std.specs.Prelude.{
  ◌≡◌,
  ℕ,
  ◌+◌,
  ◌-◌,
  ◌^◌,
  min,
  ◌<◌,
  length,
  nat_lt,
  nat_le,
  Bool,
  false,
  ◌&&◌,
  ◌||◌,
  List,
  [],
  ◌∷◌,
  slice_get,
  Option,
  Some,
  None,
  if◌then◌else◌,
}
use Rattle.std.specs.Borrow.{Bor}
use Rattle.static_places.specs.Preorder.{nodes_of, trees_at}
use Rattle.c_typed.specs.declared.tree.Node.{Node, out-Node}
use Rattle.c_typed.specs.declared.tree.Node.TheOpen as shape
use Rattle.c_typed.specs.declared.tree.Node.TheOpen.{Node-F}
use Rattle.c_typed.specs.declared.tree.Typed.{Typed, out-Typed}
use Rattle.c_typed.specs.Tree.{tree_of, size}
use Rattle.c_typed.specs.Order.{Taken}
use Rattle.static_seq.specs.Accesses.{next}

-- how many nodes a tree has; the greatest number of the type stands for more
abbrev pub count : Typed → ℕ
count t = min (size (tree_of t)) (2 ^ 32 - 1)

abbrev pub count_in : Option Typed → ℕ
count_in None = 0
count_in (Some t) = count t

abbrev pub operand_count : Typed → ℕ → ℕ
operand_count t j = count_in (slice_get (out-Typed t).children j)

-- the node m stands in operand j, the last one, of the tree whose root has the number n
abbrev pub is_in_last : Typed → ℕ → ℕ → ℕ → Bool
is_in_last t j n m = nat_le (n + count t - operand_count t j) m && nat_lt m (n + count t)

-- it stands in the second of three operands
abbrev pub is_in_second : Typed → ℕ → ℕ → Bool
is_in_second t n m = nat_le (n + 1 + operand_count t 0) m && nat_lt m (n + count t - operand_count t 2)

abbrev pub node_of : Typed → Node-F Node Typed
node_of t = out-Node (out-Typed t).node

-- `&&` and `||` evaluate their second operand only where one of the two nodes stands in it, and `?:` its third (6.5.13p4, 6.5.14p4, 6.5.15p4)
abbrev pub spared_by : Typed → ℕ → ℕ → ℕ → Node-F Node Typed → Option ℕ
spared_by t n u v shape.And = if is_in_last t 1 n u || is_in_last t 1 n v then Some 1 else None
spared_by t n u v shape.Or = if is_in_last t 1 n u || is_in_last t 1 n v then Some 1 else None
spared_by t n u v shape.Cond = if is_in_last t 2 n u || is_in_last t 2 n v then Some 2 else Some 1
spared_by t n u v _ = None

abbrev pub spared_at : Typed → ℕ → ℕ → ℕ → Option ℕ
spared_at t n u v = spared_by t n u v (node_of t)

abbrev pub spared_where : Option Typed → ℕ → ℕ → ℕ → Option ℕ
spared_where None n u v = None
spared_where (Some t) n u v = spared_at t n u v

-- of each of these nodes, by its number
abbrev pub spared_of : List Typed → ℕ → ℕ → Taken
spared_of ts u v n = spared_where (slice_get ts n) n u v

abbrev pub parts_at : Typed → ℕ → ℕ → ℕ → Node-F Node Typed → Bool
parts_at t n u v shape.Cond = (is_in_second t n u && is_in_last t 2 n v) || (is_in_second t n v && is_in_last t 2 n u)
parts_at t n u v _ = false

-- the two nodes stand in the two branches of one `?:` among these nodes
abbrev pub in_branches : List Typed → ℕ → ℕ → ℕ → Bool
in_branches [] n u v = false
in_branches (t ∷ ts) n u v = parts_at t n u v (node_of t) || in_branches ts (next n) u v

-- these are the nodes of the tree, few enough that a u32 numbers them
pub record Lists (nodes : List (Bor Typed)) (root : Typed) : Type 0 where
  pub all : trees_at nodes ≡ nodes_of root
  pub few : length nodes < 2 ^ 32
  pub count : size (tree_of root) < 2 ^ 32

-- Open full expressions, and which of the evaluations of a node's tree come before the node's value (6.5p1 to p3).
use Rattle.std.specs.Prelude.{◌≡◌, ◌⊎◌, ◌≤◌, ◌<◌, ◌+◌, ℕ, suc, ◌==◌, nat_lt, Bool, true, false, List, Option, Some, None, is_some, slice_get, if◌then◌else◌}
use Rattle.c_typed.specs.declared.tree.Place.{Place}
use Rattle.c_typed.specs.declared.class.Class.{Class}
use Rattle.c_typed.specs.declared.class.Class.TheVariants as class
use Rattle.c_typed.specs.Tree.{Tree, Trees, node, none, more, size, is_quiet}
use Rattle.c_typed.specs.Order.{Taken, place, goes}
use Rattle.c_typed.specs.Decide.{to_val, due_in}
use Rattle.evaluation_log.specs.declared.log.Logged.{Logged}
use Rattle.evaluation_log.specs.declared.rules.Rule.{Rule}
use Rattle.evaluation_log.specs.declared.rules.Rule.TheVariants.{Open, Closed, Choice, Comma}
use Rattle.evaluation_log.specs.Sides.{Side, sides_from}

-- an open full expression: its tree, and which operand each And, Or and Cond has chosen by now
pub record Scope : Type 0 where
  pub tree : Tree
  pub taken : Taken

abbrev mutual
  -- the tree of the node n, in the tree whose root has the number k
  pub part_in : ℕ → Tree → ℕ → Option Tree
  part_in k (node class ts) n = if n == k then Some (node class ts) else part_among (suc k) ts n

  pub part_among : ℕ → Trees → ℕ → Option Tree
  part_among m none n = None
  part_among m (more t ts) n = if nat_lt n (m + size t) then part_in m t n else part_among (m + size t) ts n

-- the tree of a node of the full expression
abbrev pub part_of : Scope → ℕ → Option Tree
part_of s n = part_in 0 s.tree n

abbrev pub place_of : Option Logged → Option Place
place_of None = None
place_of (Some e) = Some (place e.node e.kind)

-- the event is one of the due events in the tree of the node n
pub record IsBelow (s : Scope) (n : ℕ) (u : Place) : Type 0 where
  pub part : Tree
  pub there : part_of s n ≡ Some part
  pub low : n ≤ u.node
  pub high : u.node < n + size part
  pub due : due_in s.taken n part u ≡ true

-- and it is the value of the node n, or comes before that
abbrev pub ComesTo : Scope → ℕ → Place → Type 0
ComesTo s n u = (part : Tree) → part_of s n ≡ Some part → to_val s.taken n part u ≡ true

-- the number of the last of these operands, the first of which has the number m
abbrev pub last_number : ℕ → Trees → ℕ → ℕ
last_number m none n = n
last_number m (more t ts) n = last_number (m + size t) ts m

-- the node of this number has this rule, and as an And, Or or Cond it has chosen a further operand or not; closed are calls, and lists, whose operands are
-- the own trees of their initializers (6.7.9p23), each a full expression of its own
pub record IsRuled (s : Scope) (n : ℕ) (c : Class) (ts : Trees) (rule : Rule) (chosen : Bool) : Type 0 where
  pub there : part_of s n ≡ Some (node c ts)
  pub closed : rule ≡ Closed → (c ≡ class.Call) ⊎
      ((i : ℕ) (side : Side) → slice_get (sides_from (suc n) ts) i ≡ Some side → side.tree ≡ node class.Isolated none)
  pub choice : rule ≡ Choice → (c ≡ class.Choice) × (chosen ≡ is_some (s.taken n))
  pub comma : (last : ℕ) → rule ≡ Comma last → (c ≡ class.Comma) × (last ≡ last_number (suc n) ts n)

-- the node m is operand i of the node n, which is evaluated and has a value
pub record IsOperandOf (s : Scope) (n : ℕ) (c : Class) (ts : Trees) (i m : ℕ) : Type 0 where
  pub side : Side
  pub there : slice_get (sides_from (suc n) ts) i ≡ Some side
  pub number : side.number ≡ m
  pub goes : goes c (s.taken n) i ≡ true
  pub loud : is_quiet side.tree ≡ false

-- the own tree of a listed initializer is a full expression of its own (6.8p4), so its node has no operands
abbrev pub ListsAreAlone : Scope → Type 0
ListsAreAlone s = (n : ℕ) (ts : Trees) → part_of s n ≡ Some (node class.Isolated ts) → ts ≡ none

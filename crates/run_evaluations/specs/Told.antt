-- What is told of open frames: which evaluations of their full expressions are done, and of which nodes (own).
use Rattle.std.specs.Prelude.{◌≡◌, ◌⊎◌, ◌≤◌, ◌<◌, ◌+◌, ◌^◌, ℕ, suc, nat_lt, ◌==◌, Bool, true, false, ◌&&◌, ◌||◌, List, [], ◌∷◌, ◌++◌, Some, None, length}
use Rattle.ub_base.specs.declared.names.Frame.{Frame}
use Rattle.ub_base.specs.declared.names.Item.{Item}
use Rattle.c_typed.specs.declared.tree.Place.{Place}
use Rattle.c_typed.specs.declared.class.Class.{Class}
use Rattle.c_typed.specs.declared.class.Class.TheVariants as class
use Rattle.c_typed.specs.Tree.{Tree, Trees, node, none, size}
use Rattle.c_typed.specs.Order.{Taken, place}
use Rattle.c_typed.specs.Decide.{due_in}
use Rattle.evaluation_log.specs.Touched.{touched}
use Rattle.ub_base.specs.declared.clause.Kind.{Kind}
use Rattle.evaluation_log.specs.declared.rules.Rule.{Rule}
use Rattle.run_evaluations.specs.Scopes.{Scope, part_of, IsRuled, IsOperandOf}

-- an evaluation that is done: its place, which items it has, and which the frame that it started
pub record Evaluation : Type 0 where
  pub place : Place
  pub own : Item → Bool
  pub body : Item → Bool

-- which items it has, with those of that frame
abbrev pub has : Evaluation → Item → Bool
has e j = e.own j || e.body j

-- an open frame and its full expression: the evaluations that are done, in the order in which they were told, and of which nodes
-- what is done stands together, with all that is done below them
pub record Opened : Type 0 where
  pub frame : Frame
  pub turn : ℕ
  pub scope : Scope
  pub done : List Evaluation
  pub parts : ℕ → Bool

-- ---- what a call tells
-- an evaluation that touched these items, and has started no frame yet
abbrev pub evaluation : ℕ → Kind → List Item → Evaluation
evaluation n kind items = record { place = place n kind; own = touched items 0 (length items); body = λ j. false }

-- what is done of the node and below it, which begins behind what is done before the node, stands together
abbrev pub parts_with : ℕ → (ℕ → Bool) → ℕ → Bool
parts_with n parts m = (nat_lt m n && parts m) || (m == n)

-- operands of the node are complete
abbrev pub gathered : ℕ → Opened → Opened
gathered n t = record t { parts = parts_with n t.parts }

-- an evaluation is done
abbrev pub told : Evaluation → Opened → Opened
told e t = record t { done = t.done ++ (e ∷ []); parts = parts_with e.place.node t.parts }

abbrev pub no_parts : ℕ → Bool
no_parts m = false

-- a full expression begins
abbrev pub begun : ℕ → Scope → Opened → Opened
begun turn s t = record t { turn = turn; scope = s; done = []; parts = no_parts }

-- it is settled
abbrev pub settled : Opened → Opened
settled t = record t { done = []; parts = no_parts }

abbrev pub no_scope : Scope
no_scope = record { tree = node class.Constant none; taken = λ n. None }

-- a frame begins
abbrev pub entered : Frame → Opened
entered f = record { frame = f; turn = 0; scope = no_scope; done = []; parts = no_parts }

-- the last evaluation started a frame that has these items
abbrev pub last_given : (Item → Bool) → List Evaluation → List Evaluation
last_given body [] = []
last_given body (e ∷ []) = record e { body = body } ∷ []
last_given body (d ∷ e ∷ es) = d ∷ last_given body (e ∷ es)

abbrev pub given : (Item → Bool) → Opened → Opened
given body t = record t { done = last_given body t.done }

-- a node that has chosen an operand keeps it
abbrev pub Grows : Taken → Taken → Type 0
Grows old new = (n i : ℕ) → old n ≡ Some i → new n ≡ Some i

-- nodes have chosen these operands by now
abbrev pub chosen_by : Taken → Opened → Opened
chosen_by taken t = record t { scope = record { tree = t.scope.tree; taken = taken } }

-- ---- what may be told
-- the node m is an operand of the node n, which is evaluated and has a value
pub record IsOperandIn (s : Scope) (n m : ℕ) : Type 0 where
  pub class : Class
  pub operands : Trees
  pub there : part_of s n ≡ Some (node class operands)
  pub index : ℕ
  pub of : IsOperandOf s n class operands index m

-- the node m stands in the tree of the node n, below it
pub record IsUnder (s : Scope) (n m : ℕ) : Type 0 where
  pub part : Tree
  pub there : part_of s n ≡ Some part
  pub low : n < m
  pub high : m < n + size part

-- the node m is an operand of a node above the node n, which stands behind it
pub record IsBeside (s : Scope) (m n : ℕ) : Type 0 where
  pub above : ℕ
  pub operand : IsOperandIn s above m
  pub way : IsUnder s above n
  pub behind : (part : Tree) → part_of s m ≡ Some part → m + size part ≤ n

-- The node is next in post-order: what is done stands behind it in its own operands, and before it in operands of nodes above it.
abbrev pub IsNext : Opened → ℕ → Class → Trees → Type 0
IsNext t n class operands = (m : ℕ) → t.parts m ≡ true → (m ≡ n) ⊎ (((i : ℕ) × IsOperandOf t.scope n class operands i m) ⊎ IsBeside t.scope m n)

-- operands of the node are complete, which has this rule, and as an And, Or or Cond it has chosen a further operand or not
pub record TellsNode (t : Opened) (n : ℕ) (rule : Rule) (chosen : Bool) : Type 0 where
  pub class : Class
  pub operands : Trees
  pub ruled : IsRuled t.scope n class operands rule chosen
  pub next : IsNext t n class operands
  pub small : n + 1 < 2 ^ 32

-- an evaluation of the full expression is done
pub record Tells (t : Opened) (u : Place) (rule : Rule) (chosen : Bool) : Type 0 where
  pub own : TellsNode t u.node rule chosen
  pub due : due_in t.scope.taken 0 t.scope.tree u ≡ true

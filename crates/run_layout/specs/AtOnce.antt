-- The choices that are made as soon as a tree is due: those whose tests are quiet, so that no event gives them their value (own).
use Rattle.std.specs.Prelude.{◌≡◌, ℕ, zero, suc, ◌+◌, ◌==◌, Bool, true, false, not, List, [], ◌∷◌, ◌++◌, length, Option, Some, None, if◌then◌else◌}
use Rattle.std.specs.Prelude.{unsigned_abs}
use Rattle.c_typed.specs.declared.tree.Node.{Node, out-Node}
use Rattle.c_typed.specs.declared.tree.Node.TheOpen as shape
use Rattle.c_typed.specs.declared.tree.Node.TheOpen.{Node-F, Typed-F}
use Rattle.c_typed.specs.declared.tree.Typed.{Typed, para-Typed}
use Rattle.c_typed.specs.Tree.{tree_of, size}
use Rattle.run_layout.specs.declared.steps.Operand.{Operand}
use Rattle.run_layout.specs.declared.steps.Operand.TheVariants.{Integer, Address, Function, Done}
use Rattle.run_layout.specs.declared.steps.Range.{Range}
use Rattle.run_layout.specs.InRange.{IsRange, part_of}
use Rattle.run_layout.specs.Resolved.{resolved}
use Rattle.run_layout.specs.Choosing.{chooses}

-- whether a value that is known beforehand is unequal to 0; no object stands at the address 0
abbrev pub truth_of : Operand → Bool
truth_of (Integer z) = not (unsigned_abs z == 0)
truth_of (Address a) = not (a == 0)
truth_of (Function a) = not (a == 0)
truth_of _ = true

-- the operand that a node takes by the truth of its test (6.5.13p4, 6.5.14p4, 6.5.15p4)
abbrev pub takes : {A B : Type 0} → Node-F A B → Bool → Option ℕ
takes shape.And true = Some 1
takes shape.Or false = Some 1
takes shape.Cond true = Some 1
takes shape.Cond false = Some 2
takes _ test = None

-- a value that no event gives
abbrev pub is_known : Operand → Bool
is_known (Done n) = false
is_known _ = true

-- the operand that a choice evaluates first: its test, unless the value of that is known
abbrev pub takes_first : {A B : Type 0} → Node-F A B → Operand → Option ℕ
takes_first d o = if is_known o then takes d (truth_of o) else Some 0

-- the choice of a node that takes this operand, if that isn't its test
abbrev pub own_choice : (k operand : ℕ) → List (ℕ × ℕ)
own_choice k zero = []
own_choice k (suc i) = (k, suc i) ∷ []

-- those of a tree whose root has this number, each with the number of its node
abbrev pub Chosen : Type 0
Chosen = ℕ → List (ℕ × ℕ)

-- those in operand i, the first operand having the number m
abbrev pub in_operand : List (Typed × Chosen) → (i m : ℕ) → List (ℕ × ℕ)
in_operand [] i m = []
in_operand (t ∷ ts) zero m = t.1 m
in_operand (t ∷ ts) (suc i) m = in_operand ts i (m + size (tree_of t.0))

abbrev pub in_all : List (Typed × Chosen) → (m : ℕ) → List (ℕ × ℕ)
in_all [] m = []
in_all (t ∷ ts) m = t.1 m ++ in_all ts (m + size (tree_of t.0))

-- those of a choice that evaluates this operand first
abbrev pub from_operand : ℕ → Option ℕ → List (Typed × Chosen) → List (ℕ × ℕ)
from_operand k None ts = []
from_operand k (Some i) ts = own_choice k i ++ in_operand ts i (suc k)

-- what a choice with this test evaluates first
abbrev pub first_evaluated : {A B : Type 0} → List ℕ → Node-F A B → ℕ → Option Typed → Option ℕ
first_evaluated firsts d k None = None
first_evaluated firsts d k (Some test) = takes_first d (resolved firsts test (suc k))

abbrev pub of_choice : {A B : Type 0} → List ℕ → Node-F A B → ℕ → List (Typed × Chosen) → List (ℕ × ℕ)
of_choice firsts d k [] = []
of_choice firsts d k (t ∷ ts) = from_operand k (first_evaluated firsts d k (Some t.0)) (t ∷ ts)

-- a node that chooses evaluates one operand first, another all of them
abbrev pub of_node : {A B : Type 0} → List ℕ → Node-F A B → ℕ → List (Typed × Chosen) → List (ℕ × ℕ)
of_node firsts d k ts = if chooses d then of_choice firsts d k ts else in_all ts (suc k)

abbrev pub node_itself : Node-F (Node × Unit {0}) (Typed × Chosen) → Unit {0}
node_itself n = tt

abbrev pub of_tree : List ℕ → Typed-F (Node × Unit {0}) (Typed × Chosen) → Chosen
of_tree firsts t k = of_node firsts (out-Node t.node.0) k t.children

abbrev pub chosen_of : List ℕ → Typed → Chosen
chosen_of firsts = para-Typed (Unit {0}) Chosen node_itself (of_tree firsts)

-- the number of operand i of a node, the first of which has the number m
abbrev pub operand_number : List Typed → (i m : ℕ) → ℕ
operand_number [] i m = m
operand_number (t ∷ ts) zero m = m
operand_number (t ∷ ts) (suc i) m = operand_number ts i (m + size (tree_of t))

-- those in operand i
abbrev pub chosen_in : List ℕ → List Typed → (i m : ℕ) → List (ℕ × ℕ)
chosen_in firsts [] i m = []
chosen_in firsts (t ∷ ts) zero m = chosen_of firsts t m
chosen_in firsts (t ∷ ts) (suc i) m = chosen_in firsts ts i (m + size (tree_of t))

-- the entries of a range of the table are these
pub record Lists (table : List (ℕ × ℕ)) (r : Range) (all : List (ℕ × ℕ)) : Type 0 where
  pub within : IsRange (length table) r
  pub entries : part_of table r ≡ all

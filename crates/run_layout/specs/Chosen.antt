-- The choices that the code makes of a full expression are those of the definitions (6.5.13p4, 6.5.14p4, 6.5.15p4).
use Rattle.std.specs.Prelude.{◌≡◌, ◌⊎◌, ℕ, suc, ◌+◌, ◌==◌, true, false, List, [], ◌∷◌, Option, Some, None, slice_get, if◌then◌else◌}
use Rattle.ub_base.specs.declared.clause.Kind.TheVariants.{Val}
use Rattle.c_typed.specs.declared.tree.Node.{out-Node}
use Rattle.c_typed.specs.declared.tree.Place.{Place}
use Rattle.c_typed.specs.declared.tree.Typed.{Typed, out-Typed}
use Rattle.c_typed.specs.Tree as typed
use Rattle.c_typed.specs.Tree.{size, is_quiet}
use Rattle.c_typed.specs.Order.{Taken, place, is_due}
use Rattle.c_model.specs.Program.{Expr, expr, Exprs, none, more, tree_of}
use Rattle.c_model.specs.Values.{Value, truth}
use Rattle.c_model.specs.World.{World}
use Rattle.c_model.specs.Steps.{Scene, Begun, with_given, quiet_value, taken_by}
use Rattle.elaborate.specs.Formed.{is_formed}
use Rattle.run_layout.specs.Branches.{IsChoiceOf}
use Rattle.run_layout.specs.Resolved.{resolved}
use Rattle.run_layout.specs.Choosing.{chooses}
use Rattle.run_layout.specs.AtOnce.{truth_of, takes, is_known, chosen_of, chosen_in}

-- choices that are made one after the other, each of a node with the operand that it takes
abbrev pub with_chosen : List (ℕ × ℕ) → Taken → Taken
with_chosen [] taken = taken
with_chosen (c ∷ cs) taken = with_chosen cs (λ n. if c.0 == n then Some c.1 else taken n)

-- the value of a node is known beforehand where it has no event, and is then unequal to 0 where that of the definitions is
pub record IsKnown (world : World) (f : Scene) (firsts : List ℕ) (k : ℕ) (t : Typed) (e : Expr) : Type 0 where
  pub known : is_known (resolved firsts t k) ≡ is_quiet (tree_of e)
  pub alike : is_quiet (tree_of e) ≡ true → truth_of (resolved firsts t k) ≡ truth (quiet_value world f e)

-- a typed tree, whose root has this number, and what it is to the definitions
abbrev mutual
  pub Views : World → Scene → (firsts : List ℕ) → ℕ → Typed → Expr → Type 0
  Views world f firsts k t (expr h ty line es) =
      IsKnown world f firsts k t (expr h ty line es) × IsChoiceOf (out-Node (out-Typed t).node) h
      × (size (typed.tree_of t) ≡ size (tree_of (expr h ty line es))) × ViewAll world f firsts (suc k) (out-Typed t).children es

  pub ViewAll : World → Scene → (firsts : List ℕ) → ℕ → List Typed → Exprs → Type 0
  ViewAll world f firsts m [] none = Unit {0}
  ViewAll world f firsts m (t ∷ ts) (more e es) = Views world f firsts m t e × ViewAll world f firsts (m + size (tree_of e)) ts es
  ViewAll world f firsts m [] (more e es) = ⊥
  ViewAll world f firsts m (t ∷ ts) none = ⊥

-- the choice of a node where it is evaluated
abbrev pub where_due : World → Scene → Begun → Taken
where_due world f e n = if is_due (tree_of e.root) (taken_by world f e) (place n Val) then taken_by world f e n else None

-- What is kept is what is chosen by the definitions, of the nodes that are evaluated, and nothing of others; and no others have a value.
pub record IsKept (world : World) (f : Scene) (e : Begun) (kept : Taken) : Type 0 where
  pub chosen : (n : ℕ) → kept n ≡ where_due world f e n
  pub given : (n : ℕ) → is_due (tree_of e.root) (taken_by world f e) (place n Val) ≡ false → e.given (place n Val) ≡ None

-- the choices that are made as it begins
abbrev pub ChosenAtOnce : Type 0
ChosenAtOnce =
    (world : World) (f : Scene) (firsts : List ℕ) (t : Typed) (e : Begun) → Views world f firsts 0 t e.root → is_formed (tree_of e.root) ≡ true
    → ((u : Place) → e.given u ≡ None) → IsKept world f e (with_chosen (chosen_of firsts t 0) (λ k. None))

-- the node of this number is the root of this typed tree, and this expression to the definitions
abbrev mutual
  pub IsNodeOf : ℕ → Typed → Expr → (p : ℕ) → Typed → Expr → Type 0
  IsNodeOf k t (expr h ty line es) p x y =
      ((k ≡ p) × (t ≡ x) × (expr h ty line es ≡ y)) ⊎ IsNodeBelow (suc k) (out-Typed t).children es p x y

  pub IsNodeBelow : ℕ → List Typed → Exprs → (p : ℕ) → Typed → Expr → Type 0
  IsNodeBelow m [] es p x y = ⊥
  IsNodeBelow m (t ∷ ts) none p x y = ⊥
  IsNodeBelow m (t ∷ ts) (more e es) p x y = IsNodeOf m t e p x y ⊎ IsNodeBelow (m + size (tree_of e)) ts es p x y

-- the choice of a node that takes this operand, and those that are made with it
abbrev pub by_way : (p : ℕ) → Option ℕ → (ℕ → List (ℕ × ℕ)) → List (ℕ × ℕ)
by_way p None later = []
by_way p (Some i) later = (p, i) ∷ later i

-- and those at the value of a node's test: of that node, and with it in what it takes at once
abbrev pub ChosenAtTest : Type 0
ChosenAtTest =
    (world : World) (f : Scene) (firsts : List ℕ) (t : Typed) (e : Begun) (kept : Taken) (p : ℕ) (x test : Typed) (y : Expr) (v : Value)
    → Views world f firsts 0 t e.root → is_formed (tree_of e.root) ≡ true → IsKept world f e kept
    → IsNodeOf 0 t e.root p x y → chooses (out-Node (out-Typed x).node) ≡ true → slice_get (out-Typed x).children 0 ≡ Some test
    → is_due (tree_of e.root) (taken_by world f e) (place (suc p) Val) ≡ true → e.given (place (suc p) Val) ≡ None
    → (o : Option ℕ) → o ≡ takes (out-Node (out-Typed x).node) (truth v)
    → IsKept world f (with_given e (place (suc p) Val) v) (with_chosen (by_way p o (λ i. chosen_in firsts (out-Typed x).children i (suc p))) kept)

-- an event is no value of a node's test
abbrev pub IsNoTest : Typed → Expr → Place → Type 0
IsNoTest t root u =
    (u.kind ≡ Val) → (p : ℕ) (x test : Typed) (y : Expr) → IsNodeOf 0 t root p x y → chooses (out-Node (out-Typed x).node) ≡ true
    → slice_get (out-Typed x).children 0 ≡ Some test → u.node ≡ suc p → ⊥

-- Any other event makes no choice.
abbrev pub ChosenElsewhere : Type 0
ChosenElsewhere =
    (world : World) (f : Scene) (firsts : List ℕ) (t : Typed) (e : Begun) (kept : Taken) (u : Place) (v : Value) → Views world f firsts 0 t e.root
    → is_formed (tree_of e.root) ≡ true → IsKept world f e kept → is_due (tree_of e.root) (taken_by world f e) u ≡ true → IsNoTest t e.root u
    → IsKept world f (with_given e u v) kept

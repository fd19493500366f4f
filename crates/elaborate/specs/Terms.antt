-- The term of a tree, by the class of its root.
use Rattle.std.specs.Prelude.{ℕ, suc, ◌+◌, ◌-◌, ◌^◌, min, List, [], ◌∷◌}
use Rattle.ub_base.specs.declared.clause.Kind.TheVariants.{Val, Eff}
use Rattle.c_typed.specs.declared.class.Class.{Class}
use Rattle.c_typed.specs.declared.class.Class.TheVariants.{Object, Constant, Plain, Store, Update, Choice, Comma, Call, Isolated}
use Rattle.c_typed.specs.Tree.{Tree, node, Trees, none, more, size}
use Rattle.core_ir.specs.Term.{Term, pure, act, unseq, weak, strong, choose, atomic, indet, invoke, terms_from}

abbrev pub value : ℕ → Term
value k = act k Val

abbrev pub effect : ℕ → Term
effect k = act k Eff

abbrev pub body : ℕ → Term
body k = indet (invoke k)

-- the first of the parts, and a node without events where none is left
abbrev pub head_of : ℕ → List Term → Term
head_of k [] = pure k
head_of k (t ∷ ts) = t

abbrev pub rest_of : List Term → List Term
rest_of [] = []
rest_of (t ∷ ts) = ts

-- the first operand, and the two that may follow it
abbrev pub choice_of : ℕ → List Term → Term
choice_of k ts = choose k (head_of k ts) (head_of k (rest_of ts)) (head_of k (rest_of (rest_of ts)))

-- all of each operand before what follows, of the last its value before the node's
abbrev pub comma_of : ℕ → List Term → Term
comma_of k [] = weak (pure k) (value k)
comma_of k (t ∷ []) = weak t (value k)
comma_of k (t ∷ ts) = strong t (comma_of k ts)

-- the term of a node from those of its operands
abbrev pub node_term : ℕ → Class → List Term → Term
node_term k Object ts = pure k
node_term k Constant ts = pure k
node_term k Plain ts = weak (unseq (terms_from ts)) (value k)
node_term k Store ts = weak (unseq (terms_from ts)) (unseq (terms_from (value k ∷ effect k ∷ [])))
node_term k Update ts = weak (unseq (terms_from ts)) (atomic (weak (value k) (effect k)))
node_term k Choice ts = weak (choice_of k ts) (value k)
node_term k Comma ts = comma_of k ts
node_term k Call ts = weak (strong (unseq (terms_from ts)) (body k)) (value k)
node_term k Isolated ts = weak (body k) (value k)

abbrev mutual
  -- the term of the tree whose root has the number k
  pub term_for : ℕ → Tree → Term
  term_for k (node class ts) = node_term k class (terms_for (suc k) ts)

  pub terms_for : ℕ → Trees → List Term
  terms_for k none = []
  terms_for k (more t ts) = term_for k t ∷ terms_for (k + size t) ts

-- the greatest number of a node stands for more
abbrev pub capped : ℕ → ℕ
capped n = min n (2 ^ 32 - 1)

abbrev mutual
  -- the term with numbers that end there
  pub capped_for : ℕ → Tree → Term
  capped_for k (node class ts) = node_term k class (capped_terms (capped (k + 1)) ts)

  pub capped_terms : ℕ → Trees → List Term
  capped_terms k none = []
  capped_terms k (more t ts) = capped_for k t ∷ capped_terms (capped (k + size t)) ts

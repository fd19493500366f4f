-- When a term is true to the tree of its full expression.
use Rattle.std.specs.Prelude.{◌≡◌, ◌↔◌, ℕ, List, [], ◌∷◌, ◌++◌, false, IsTrue}
use Rattle.ub_base.specs.declared.clause.Kind.TheVariants.{Val, Eff}
use Rattle.c_typed.specs.declared.tree.Place.{Place}
use Rattle.c_typed.specs.Tree.{Tree}
use Rattle.c_typed.specs.Order.{Taken, place, has, events, is_due, Before}
use Rattle.core_ir.specs.Term.{Term, Terms, none, more, listing, Ordered}

-- whatever operands are chosen, the term lists exactly the due events, each once, each effect straight after the value of
-- its node, and it orders all that is sequenced
pub record IsStrict (root : Tree) (term : Term) : Type 0 where
  pub due : (taken : Taken) (u : Place) → IsTrue (has (listing taken term) u) ↔ IsTrue (is_due root taken u)
  pub once : (taken : Taken) (us vs : List Place) (v : Place) → listing taken term ≡ us ++ v ∷ vs → has us v ≡ false
  pub effects : (taken : Taken) (us vs : List Place) (n : ℕ) → listing taken term ≡ us ++ place n Eff ∷ vs → (ws : List Place) × (us ≡ ws ++ place n Val ∷ [])
  pub sequenced : (taken : Taken) (u v : Place) → Before root taken u v → Ordered term taken u v

-- strict, and it orders nothing more, and lists the events as the canonical order takes them: in post-order
pub record IsFaithful (root : Tree) (term : Term) : Type 0 where
  pub strict : IsStrict root term
  pub nothing_more : (taken : Taken) (u v : Place) → Ordered term taken u v → Before root taken u v
  pub canonical : (taken : Taken) → listing taken term ≡ events taken 0 root

-- one term for each tree, in their order
abbrev pub AreFaithful : List Tree → Terms → Type 0
AreFaithful [] none = Unit {0}
AreFaithful (t ∷ ts) (more m ms) = IsFaithful t m × AreFaithful ts ms
AreFaithful _ _ = ⊥

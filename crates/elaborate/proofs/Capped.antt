-- Numbers that don't end leave a term as it is.
use Rattle.std.proofs.Common.{◌≡◌, ℕ, suc, ◌+◌, ◌<◌, ◌^◌, List, [], ◌∷◌, map, refl, ap, ◌∙◌, arith}
use Rattle.c_typed.specs.Tree.{Tree, node, Trees, none, more, size, sizes}
use Rattle.elaborate.specs.Terms.{term_for, terms_for, node_term, capped, capped_for, capped_terms}
use Rattle.elaborate.specs.Formed.{EachCounts}

cap : (n : ℕ) → n < 2 ^ 32 → capped n ≡ n
cap n h = omega arith

mutual
  same : (t : Tree) (k : ℕ) → k + size t < 2 ^ 32 → capped_for k t ≡ term_for k t
  same (node class ts) k h = ap (λ n. node_term k class (capped_terms n ts)) (cap (k + 1) (omega arith) ∙ up k) ∙ ap (node_term k class)
      (same_all ts (suc k) (omega arith))
    where
      up : (n : ℕ) → n + 1 ≡ suc n
      up n = omega arith

  same_all : (ts : Trees) (k : ℕ) → k + sizes ts < 2 ^ 32 → capped_terms k ts ≡ terms_for k ts
  same_all none k h = refl
  same_all (more t ts) k h =
      ap (λ z. z ∷ capped_terms (capped (k + size t)) ts) (same t k (omega arith))
      ∙ ap (λ z. term_for k t ∷ z) (ap (λ n. capped_terms n ts) (cap (k + size t) (omega arith)) ∙ same_all ts (k + size t) (omega arith))

pub each_same : (ts : List Tree) → EachCounts ts → map (capped_for 0) ts ≡ map (term_for 0) ts
each_same [] h = refl
each_same (t ∷ ts) h = ap (λ z. z ∷ map (capped_for 0) ts) (same t 0 (omega (arith, h.0))) ∙ ap (λ z. term_for 0 t ∷ z) (each_same ts h.1)

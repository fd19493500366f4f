-- Paths of frames, and the entries of a trace.
use Rattle.std.proofs.Common.{◌≡◌, ℕ, ◌≤◌, true, ◌==◌, List, [], ◌∷◌, length, Some}
use Rattle.std.proofs.Common.{refl, sym, ap, ap₂, ◌∙◌, subst, ◌⊎◌, inl, inr, arith}
use Rattle.ub_base.specs.Frames.{Path}
use Rattle.c_typed.specs.declared.tree.Place.{Place}
use Rattle.c_model.specs.Runs.{Entry}
use Rattle.c_model.specs.Findings.{same_path, is_under, Has, first, later, Both, newest, older}
use Rattle.c_model.proofs.Ranks.{eq_of, eq_eq, and_l, and_r, or_cases}
use Rattle.c_model.proofs.Decided.{and_b, or_a, or_b}

pub path_is : (a b : Path) → same_path a b ≡ true → a ≡ b
path_is [] [] h = refl
path_is (x ∷ f) (y ∷ g) h =
    let k = and_r (x.0 == y.0) _ h in
    let e0 = eq_of x.0 y.0 (and_l (x.0 == y.0) _ h) in
    let e1 = eq_of x.1 y.1 (and_l (x.1 == y.1) _ k) in
    ap₂ (λ s p. s ∷ p) (λ i. (e0 i, e1 i)) (path_is f g (and_r (x.1 == y.1) _ k))
path_is [] (y ∷ g) h = absurd (cc)
path_is (x ∷ f) [] h = absurd (cc)

pub path_refl : (a : Path) → same_path a a ≡ true
path_refl [] = refl
path_refl (x ∷ f) = and_b _ _ (eq_eq x.0 x.0 refl) (and_b _ _ (eq_eq x.1 x.1 refl) (path_refl f))

pub under_refl : (p : Path) → is_under p p ≡ true
under_refl [] = refl
under_refl (a ∷ p) = or_a _ _ (path_refl (a ∷ p))

pub under_tail : (p : Path) (a : ℕ × ℕ) (q : Path) → is_under p (a ∷ q) ≡ true → is_under p q ≡ true
under_tail [] a q h = absurd (cc)
under_tail (b ∷ p) a q h = go (or_cases (same_path (b ∷ p) (a ∷ q)) (is_under p (a ∷ q)) h) (under_tail p a q)
  where
    tail_of : Path → Path
    tail_of [] = []
    tail_of (c ∷ r) = r

    go : (same_path (b ∷ p) (a ∷ q) ≡ true) ⊎ (is_under p (a ∷ q) ≡ true) → (is_under p (a ∷ q) ≡ true → is_under p q ≡ true) → is_under (b ∷ p) q ≡ true
    go (inl s) again = or_b (same_path (b ∷ p) q) _ (subst (λ z. is_under z q ≡ true) (sym (ap tail_of (path_is (b ∷ p) (a ∷ q) s))) (under_refl q))
    go (inr s) again = or_b (same_path (b ∷ p) q) _ (again s)

pub under_length : (p q : Path) → is_under p q ≡ true → length q ≤ length p
under_length [] q h = (let k = ap length (path_is [] q h) in omega (arith, k))
under_length (a ∷ p) q h = go (or_cases (same_path (a ∷ p) q) (is_under p q) h) (under_length p q)
  where
    go : (same_path (a ∷ p) q ≡ true) ⊎ (is_under p q ≡ true) → (is_under p q ≡ true → length q ≤ length p) → length q ≤ length (a ∷ p)
    go (inl s) again = (let k = ap length (path_is (a ∷ p) q s) in omega (arith, k))
    go (inr u) again = (let k = again u in omega (arith, k))

pub under_same : (p q r : Path) → is_under p q ≡ true → is_under p r ≡ true → length q ≡ length r → q ≡ r
under_same [] q r h k l = sym (path_is [] q h) ∙ path_is [] r k
under_same (a ∷ p) q r h k l = go (or_cases (same_path (a ∷ p) q) (is_under p q) h) (or_cases (same_path (a ∷ p) r) (is_under p r) k)
    (λ s t. under_same p q r s t l)
  where
    go : (same_path (a ∷ p) q ≡ true) ⊎ (is_under p q ≡ true) → (same_path (a ∷ p) r ≡ true) ⊎ (is_under p r ≡ true)
        → (is_under p q ≡ true → is_under p r ≡ true → q ≡ r) → q ≡ r
    go (inl s) (inl t) again = sym (path_is (a ∷ p) q s) ∙ path_is (a ∷ p) r t
    go (inr s) (inr t) again = again s t
    go (inl s) (inr t) again = (let m = ap length (path_is (a ∷ p) q s) in let n = under_length p r t in absurd (omega (arith, m, n, l)))
    go (inr s) (inl t) again = (let m = ap length (path_is (a ∷ p) r t) in let n = under_length p q s in absurd (omega (arith, m, n, l)))

-- an event of a longer trace
pub has_cases : (x : Entry) (trace : List Entry) (e : Entry) (v : Place) → Has (x ∷ trace) e v → ((x ≡ e) × (x.place ≡ Some v)) ⊎ Has trace e v
has_cases x trace _ v (first _ _ _ p) = inl (refl, p)
has_cases x trace e v (later _ _ _ _ h) = inr h

pub record IsNewest (x : Entry) (trace : List Entry) (d : Entry) (u : Place) (e : Entry) (v : Place) : Type 0 where
  pub entry : x ≡ d
  pub at : x.place ≡ Some u
  pub among : Has trace e v
  pub of_frame : same_path x.path e.path ≡ true
  pub of_turn : x.turn ≡ e.turn

pub both_cases : (x : Entry) (trace : List Entry) (d : Entry) (u : Place) (e : Entry) (v : Place) → Both (x ∷ trace) d u e v
    → IsNewest x trace d u e v ⊎ Both trace d u e v
both_cases x trace _ u e v (newest _ _ _ _ _ p h s t) = inl (record { entry = refl; at = p; among = h; of_frame = s; of_turn = t })
both_cases x trace d u e v (older _ _ _ _ _ _ b) = inr b

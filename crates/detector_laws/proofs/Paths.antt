-- Paths of frames, and which of them stand under which.
use Rattle.std.proofs.Common.{◌≡◌, ◌⊎◌, inl, inr, ℕ, ◌<◌, ◌≤◌, Bool, true, false, ◌&&◌, ◌||◌, ◌==◌, [], ◌∷◌, length}
use Rattle.std.proofs.Common.{refl, sym, ap, ap₂, subst, ◌∙◌, true≢false, arith}
use Rattle.std.proofs.lemmas.Bool.Decides.{nat_tests}
use Rattle.ub_base.specs.Frames.{Path}
use Rattle.c_model.specs.Findings.{is_under, same_path}

eq_of : (a b : ℕ) → (a == b) ≡ true → a ≡ b
eq_of a b h = grind (arith, nat_tests, h)

eq_itself : (a : ℕ) → (a == a) ≡ true
eq_itself a = grind (arith, nat_tests)

pub and_l : (a b : Bool) → (a && b) ≡ true → a ≡ true
and_l true b h = refl
and_l false b h = h

pub and_r : (a b : Bool) → (a && b) ≡ true → b ≡ true
and_r true b h = h
and_r false b h = absurd (true≢false (sym h))

pub and_b : (a b : Bool) → a ≡ true → b ≡ true → (a && b) ≡ true
and_b true b h k = k
and_b false b h k = absurd (true≢false (sym h))

pub or_cases : (a b : Bool) → (a || b) ≡ true → (a ≡ true) ⊎ (b ≡ true)
or_cases true b h = inl refl
or_cases false b h = inr h

pub or_a : (a b : Bool) → a ≡ true → (a || b) ≡ true
or_a true b h = refl
or_a false b h = absurd (true≢false (sym h))

pub or_b : (a b : Bool) → b ≡ true → (a || b) ≡ true
or_b true b h = refl
or_b false b h = h

pub not_true : (b : Bool) → (b ≡ true → ⊥) → b ≡ false
not_true true f = absurd (f refl)
not_true false f = refl

pub path_is : (a b : Path) → same_path a b ≡ true → a ≡ b
path_is [] [] h = refl
path_is (x ∷ f) (y ∷ g) h =
    let k = and_r (x.0 == y.0) _ h in
    let first = eq_of x.0 y.0 (and_l (x.0 == y.0) _ h) in
    let second = eq_of x.1 y.1 (and_l (x.1 == y.1) _ k) in
    ap₂ (λ s p. s ∷ p) (λ i. (first i, second i)) (path_is f g (and_r (x.1 == y.1) _ k))
path_is [] (y ∷ g) h = absurd (true≢false (sym h))
path_is (x ∷ f) [] h = absurd (true≢false (sym h))

pub path_itself : (a : Path) → same_path a a ≡ true
path_itself [] = refl
path_itself (x ∷ f) = and_b _ _ (eq_itself x.0) (and_b _ _ (eq_itself x.1) (path_itself f))

pub under_itself : (p : Path) → is_under p p ≡ true
under_itself [] = refl
under_itself (a ∷ p) = or_a _ _ (path_itself (a ∷ p))

pub under_length : (p q : Path) → is_under p q ≡ true → length q ≤ length p
under_length [] q h = let k = ap length (path_is [] q h) in omega (arith, k)
under_length (a ∷ p) q h = go (or_cases (same_path (a ∷ p) q) (is_under p q) h) (under_length p q)
  where
    go : (same_path (a ∷ p) q ≡ true) ⊎ (is_under p q ≡ true) → (is_under p q ≡ true → length q ≤ length p) → length q ≤ length (a ∷ p)
    go (inl s) again = (let k = ap length (path_is (a ∷ p) q s) in omega (arith, k))
    go (inr u) again = (let k = again u in omega (arith, k))

pub not_under : (p q : Path) → length p < length q → is_under p q ≡ false
not_under p q l = not_true (is_under p q) (λ h. let k = under_length p q h in omega (arith, k, l))

pub not_same : (p q : Path) → length p < length q → same_path q p ≡ false
not_same p q l = not_true (same_path q p) (λ h. let k = ap length (path_is q p h) in omega (arith, k, l))

pub under_same : (p q r : Path) → is_under p q ≡ true → is_under p r ≡ true → length q ≡ length r → q ≡ r
under_same [] q r h k l = sym (path_is [] q h) ∙ path_is [] r k
under_same (a ∷ p) q r h k l =
    go (or_cases (same_path (a ∷ p) q) (is_under p q) h) (or_cases (same_path (a ∷ p) r) (is_under p r) k) (λ s t. under_same p q r s t l)
  where
    go : (same_path (a ∷ p) q ≡ true) ⊎ (is_under p q ≡ true) → (same_path (a ∷ p) r ≡ true) ⊎ (is_under p r ≡ true)
        → (is_under p q ≡ true → is_under p r ≡ true → q ≡ r) → q ≡ r
    go (inl s) (inl t) again = sym (path_is (a ∷ p) q s) ∙ path_is (a ∷ p) r t
    go (inr s) (inr t) again = again s t
    go (inl s) (inr t) again = (let m = ap length (path_is (a ∷ p) q s) in let n = under_length p r t in absurd (omega (arith, m, n, l)))
    go (inr s) (inl t) again = (let m = ap length (path_is (a ∷ p) r t) in let n = under_length p q s in absurd (omega (arith, m, n, l)))

-- what is under a frame that another one started is under that one
pub under_tail : (p : Path) (a : ℕ × ℕ) (q : Path) → is_under p (a ∷ q) ≡ true → is_under p q ≡ true
under_tail [] a q h = absurd (true≢false (sym h))
under_tail (b ∷ p) a q h = go (or_cases (same_path (b ∷ p) (a ∷ q)) (is_under p (a ∷ q)) h) (under_tail p a q)
  where
    tail_of : Path → Path
    tail_of [] = []
    tail_of (c ∷ r) = r

    go : (same_path (b ∷ p) (a ∷ q) ≡ true) ⊎ (is_under p (a ∷ q) ≡ true) → (is_under p (a ∷ q) ≡ true → is_under p q ≡ true) → is_under (b ∷ p) q ≡ true
    go (inl s) later = or_b (same_path (b ∷ p) q) _ (subst (λ z. is_under z q ≡ true) (sym (ap tail_of (path_is (b ∷ p) (a ∷ q) s))) (under_itself q))
    go (inr s) later = or_b (same_path (b ∷ p) q) _ (later s)

head_of : ℕ × ℕ → Path → ℕ × ℕ
head_of d [] = d
head_of d (a ∷ p) = a

pub node_of_head : (a b : ℕ × ℕ) (p q : Path) → a ∷ p ≡ b ∷ q → a.1 ≡ b.1
unfolding head_of
node_of_head a b p q e = ap (λ z. (head_of a z).1) e

pub turn_of_head : (a b : ℕ × ℕ) (p q : Path) → a ∷ p ≡ b ∷ q → a.0 ≡ b.0
unfolding head_of
turn_of_head a b p q e = ap (λ z. (head_of a z).0) e

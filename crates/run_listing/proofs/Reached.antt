-- Where an event is reached, nothing is passed over behind it.
use Rattle.std.proofs.Common.{◌≡◌, ℕ, zero, suc, Bool, true, false, ◌||◌, if◌then◌else◌, List, [], ◌∷◌, ◌++◌, append_assoc, refl, sym, ap, subst, ◌∙◌, inl, inr}
use Rattle.std.proofs.Common.{true≢false}
use Rattle.c_typed.specs.declared.tree.Place.{Place}
use Rattle.c_typed.specs.Order.{Taken, same_place, has, is_number}
use Rattle.elaborate.proofs.Once.{Unique, unique_once}
use Rattle.elaborate.proofs.Ranges.{or_cases, or_b, has_cases, has_left}
use Rattle.run_layout.specs.Listings.{Entry, event, operand, passed}
use Rattle.run_listing.proofs.Once.{places, places_append}

-- how many entries are still passed over behind these
abbrev left_over : Taken → ℕ → List Entry → ℕ
left_over taken skip [] = skip
left_over taken (suc skip) (e ∷ es) = left_over taken skip es
left_over taken zero (event p ∷ es) = left_over taken 0 es
left_over taken zero (operand node index count ∷ es) = left_over taken (if is_number (taken node) index then 0 else count) es

passed_append : (taken : Taken) (skip : ℕ) (xs ys : List Entry) →
    passed taken skip (xs ++ ys) ≡ passed taken skip xs ++ passed taken (left_over taken skip xs) ys
passed_append taken skip [] ys = refl
passed_append taken (suc skip) (e ∷ xs) ys = passed_append taken skip xs ys
passed_append taken zero (event p ∷ xs) ys = ap (λ z. p ∷ z) (passed_append taken 0 xs ys)
passed_append taken zero (operand node index count ∷ xs) ys = passed_append taken (if is_number (taken node) index then 0 else count) xs ys

-- only what stands there is listed
pub passed_has : (taken : Taken) (skip : ℕ) (es : List Entry) (u : Place) → has (passed taken skip es) u ≡ true → has (places es) u ≡ true
passed_has taken skip [] u h = h
passed_has taken (suc skip) (event p ∷ es) u h = or_b (same_place u p) _ (passed_has taken skip es u h)
passed_has taken (suc skip) (operand node index count ∷ es) u h = passed_has taken skip es u h
passed_has taken zero (event p ∷ es) u h = elim (or_cases (same_place u p) _ h) [
  | inl e ↦ first (same_place u p) (has (places es) u) e
  | inr e ↦ or_b (same_place u p) _ (passed_has taken 0 es u e)
]
  where
    first : (a b : Bool) → a ≡ true → (a || b) ≡ true
    first true b e = refl
    first false b e = absurd (true≢false (sym e))
passed_has taken zero (operand node index count ∷ es) u h = passed_has taken (if is_number (taken node) index then 0 else count) es u h

unique_behind : (us vs : List Place) (v : Place) → Unique (us ++ v ∷ vs) → has vs v ≡ true → ⊥
unique_behind [] vs v a h = a.0 h
unique_behind (u ∷ us) vs v a h = unique_behind us vs v a.1 h

-- the entry of this event stands here, and nowhere else
pub record StandsOnce (xs ys : List Entry) (v : Place) : Type 0 where
  pub before : has (places xs) v ≡ false
  pub behind : has (places ys) v ≡ false

pub stands_once : (xs ys : List Entry) (v : Place) → Unique (places (xs ++ event v ∷ ys)) → StandsOnce xs ys v
stands_once xs ys v a =
    let b = subst Unique (places_append xs (event v ∷ ys)) a in
    record { before = unique_once (places xs) (places ys) v b; behind = not_true _ (unique_behind (places xs) (places ys) v b) }
  where
    not_true : (b : Bool) → (b ≡ true → ⊥) → b ≡ false
    not_true true f = absurd (f refl)
    not_true false f = refl

-- where it is listed, nothing is passed over there
reached : (taken : Taken) (xs ys : List Entry) (v : Place) → StandsOnce xs ys v → has (passed taken 0 (xs ++ event v ∷ ys)) v ≡ true →
    left_over taken 0 xs ≡ 0
reached taken xs ys v once h = go (left_over taken 0 xs) refl (subst (λ us. has us v ≡ true) (passed_append taken 0 xs (event v ∷ ys)) h)
  where
    go : (n : ℕ) → left_over taken 0 xs ≡ n → has (passed taken 0 xs ++ passed taken (left_over taken 0 xs) (event v ∷ ys)) v ≡ true → left_over taken 0 xs ≡ 0
    go zero e g = e
    go (suc n) e g = absurd (elim (has_cases (passed taken 0 xs) (passed taken (left_over taken 0 xs) (event v ∷ ys)) v g) [
      | inl i ↦ true≢false (sym (passed_has taken 0 xs v i) ∙ once.before)
      | inr i ↦ true≢false (sym (passed_has taken n ys v (subst (λ z. has (passed taken z (event v ∷ ys)) v ≡ true) e i)) ∙ once.behind)
    ])

-- so what is listed parts there
pub parts : (taken : Taken) (xs ys : List Entry) (v : Place) → StandsOnce xs ys v → has (passed taken 0 (xs ++ event v ∷ ys)) v ≡ true →
    passed taken 0 (xs ++ event v ∷ ys) ≡ passed taken 0 xs ++ v ∷ passed taken 0 ys
parts taken xs ys v once h =
    passed_append taken 0 xs (event v ∷ ys)
    ∙ ap (λ n. passed taken 0 xs ++ passed taken n (event v ∷ ys)) (reached taken xs ys v once h)

pub up_to : (taken : Taken) (xs ys : List Entry) (v : Place) → StandsOnce xs ys v → has (passed taken 0 (xs ++ event v ∷ ys)) v ≡ true →
    passed taken 0 (xs ++ event v ∷ []) ≡ passed taken 0 xs ++ v ∷ []
up_to taken xs ys v once h =
    passed_append taken 0 xs (event v ∷ [])
    ∙ ap (λ n. passed taken 0 xs ++ passed taken n (event v ∷ [])) (reached taken xs ys v once h)

-- what is listed up to its own entry is listed in the whole
pub further : (taken : Taken) (xs ys : List Entry) (v : Place) → has (passed taken 0 (xs ++ event v ∷ [])) v ≡ true →
    has (passed taken 0 (xs ++ event v ∷ ys)) v ≡ true
further taken xs ys v h =
    ap (λ es. has (passed taken 0 es) v) (sym (append_assoc xs (event v ∷ []) ys))
    ∙ ap (λ us. has us v) (passed_append taken 0 (xs ++ event v ∷ []) ys)
    ∙ has_left (passed taken 0 (xs ++ event v ∷ [])) (passed taken (left_over taken 0 (xs ++ event v ∷ [])) ys) v h

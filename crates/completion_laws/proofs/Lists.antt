-- Lists of events that are split at one of them, and events that stand outside a range of nodes.
use Rattle.std.proofs.Common.{
  ◌≡◌,
  ℕ,
  ◌<◌,
  ◌≤◌,
  Bool,
  true,
  false,
  not,
  ◌&&◌,
  ◌==◌,
  List,
  [],
  ◌∷◌,
  ◌++◌,
  ◌⊎◌,
  inl,
  inr,
  refl,
  sym,
  ap,
  ap₂,
  ◌∙◌,
  true≢false,
  arith,
}
use Rattle.std.specs.List.{list_all}
use Rattle.std.proofs.lemmas.Bool.Decides.{nat_tests}
use Rattle.c_typed.specs.declared.tree.Place.{Place}
use Rattle.c_typed.specs.Order.{has, same_place}
use Rattle.c_model.specs.Moments.{holds}
use Rattle.elaborate.proofs.Ranges.{or_b, has_itself}
use Rattle.completion_laws.specs.Completed.{comes_next}

-- ---- lists
abbrev head_of : Place → List Place → Place
head_of d [] = d
head_of d (x ∷ xs) = x

abbrev tail_of : List Place → List Place
tail_of [] = []
tail_of (x ∷ xs) = xs

-- the event stands in the first or in the second of two lists
pub data Split (xs ys passed ahead : List Place) (u : Place) : Type 0 where
  left : (rest : List Place) → xs ≡ passed ++ u ∷ rest → ahead ≡ rest ++ ys → Split xs ys passed ahead u
  right : (before : List Place) → passed ≡ xs ++ before → ys ≡ before ++ u ∷ ahead → Split xs ys passed ahead u

pub split : (xs ys passed ahead : List Place) (u : Place) → xs ++ ys ≡ passed ++ u ∷ ahead → Split xs ys passed ahead u
split [] ys passed ahead u h = right passed refl h
split (x ∷ xs) ys [] ahead u h = left xs (ap (λ z. z ∷ xs) (ap (head_of u) h)) (sym (ap tail_of h))
split (x ∷ xs) ys (q ∷ qs) ahead u h = elim (split xs ys qs ahead u (ap tail_of h)) [
  | left rest a b ↦ left rest (ap₂ (λ z zs. z ∷ zs) (ap (head_of u) h) a) b
  | right before a b ↦ right before (ap₂ (λ z zs. z ∷ zs) (sym (ap (head_of u) h)) a) b
]

pub no_split : (passed ahead : List Place) (u : Place) → [] ≡ passed ++ u ∷ ahead → ⊥
no_split [] ahead u h = absurd (cc)
no_split (q ∷ qs) ahead u h = absurd (cc)

pub has_at : (passed ahead : List Place) (u : Place) → has (passed ++ u ∷ ahead) u ≡ true
has_at [] ahead u = has_itself u ahead
has_at (q ∷ qs) ahead u = or_b (same_place u q) _ (has_at qs ahead u)

-- ---- ranges of nodes
pub has_behind : (passed : List Place) (u : Place) (ahead : List Place) (w : Place) → has ahead w ≡ true → has (passed ++ u ∷ ahead) w ≡ true
has_behind [] u ahead w h = or_b (same_place w u) _ h
has_behind (q ∷ qs) u ahead w h = or_b (same_place w q) _ (has_behind qs u ahead w h)

pub out_of : (from to n : ℕ) → (n < from) ⊎ (to ≤ n) → holds from to n ≡ false
out_of from to n (inl h) = grind (arith, nat_tests, h)
out_of from to n (inr h) = grind (arith, nat_tests, h)

pub within : (from to n : ℕ) → from ≤ n → n < to → holds from to n ≡ true
within from to n h g = grind (arith, nat_tests, h, g)

pub other : (a b : ℕ) → (a < b) ⊎ (b < a) → (a == b) ≡ false
other a b (inl h) = grind (arith, nat_tests, h)
other a b (inr h) = grind (arith, nat_tests, h)

-- no event is of a node of the range
abbrev pub outside : ℕ → ℕ → List Place → Bool
outside from to us = list_all (λ u. not (holds from to u.node)) us

-- so it is of each
abbrev pub AreOutside : ℕ → ℕ → List Place → Type 0
AreOutside from to us = (w : Place) → has us w ≡ true → holds from to w.node ≡ false

pub and_both : (a b : Bool) → a ≡ true → b ≡ true → (a && b) ≡ true
and_both true true h g = refl
and_both false b h g = absurd (true≢false (sym h))
and_both true false h g = absurd (true≢false (sym g))

pub all_outside : (from to : ℕ) (us : List Place) → AreOutside from to us → outside from to us ≡ true
all_outside from to [] f = refl
all_outside from to (u ∷ us) f =
    and_both _ _ (ap not (f u (has_itself u us))) (all_outside from to us (λ w h. f w (or_b (same_place w u) _ h)))

and_true : (a b : Bool) → b ≡ true → (a && b) ≡ a
and_true true b h = h
and_true false b h = refl

and_same : (a b c : Bool) → a ≡ b → c ≡ true → (a && c) ≡ b
and_same a b c h g = and_true a c g ∙ h

and_assoc : (a b c : Bool) → (a && (b && c)) ≡ ((a && b) && c)
and_assoc true b c = refl
and_assoc false b c = refl

pub outside_both : (from to : ℕ) (us vs : List Place) → outside from to (us ++ vs) ≡ (outside from to us && outside from to vs)
outside_both from to [] vs = refl
outside_both from to (u ∷ us) vs =
    ap (λ z. not (holds from to u.node) && z) (outside_both from to us vs) ∙ and_assoc (not (holds from to u.node)) (outside from to us) (outside from to vs)

-- behind others, events outside the range change nothing
pub outside_more : (from to : ℕ) (us vs : List Place) → AreOutside from to vs → outside from to (us ++ vs) ≡ outside from to us
outside_more from to us vs f = outside_both from to us vs ∙ and_true _ _ (all_outside from to vs f)

pub not_outside : (from to : ℕ) (u : Place) (us : List Place) → holds from to u.node ≡ true → outside from to (u ∷ us) ≡ false
not_outside from to u us h = ap (λ z. not z && outside from to us) h

-- ---- what comes next
pub AreOf : (n : ℕ) → List Place → Type 0
AreOf n us = (w : Place) → has us w ≡ true → w.node ≡ n

pub none_next : (n : ℕ) (us : List Place) → ((w : Place) → has us w ≡ true → (w.node == n) ≡ false) → comes_next n us ≡ false
none_next n [] f = refl
none_next n (u ∷ us) f = f u (has_itself u us)

-- The least pair, sought along a list.
use Rattle.std.proofs.Common.{◌≡◌, ◌⊎◌, inl, inr, ⊎_elim, Bool, true, false, cond, ◌||◌, IfSome, refl, sym, ap, subst, List, [], ◌∷◌, Some, None, Option}
use Rattle.std.specs.declared.cmp.Ordering.{Ordering}
use Rattle.std.specs.declared.cmp.Ordering.TheVariants.{Less, Equal}
use Rattle.std.specs.Ordering.{is_lt, is_eq}
use Rattle.std.specs.List.{list_any}
use Rattle.std.specs.BTreeMap.{is_at}
use Rattle.ub_base.specs.declared.names.Item.{Item}
use Rattle.ub_base.specs.Frames.{Row}
use Rattle.footprint.specs.Least.{pair_cmp, IsLeast, lesser}
use Rattle.footprint.proofs.RangeStarts.{is_equal, or_split}
use Rattle.footprint.proofs.LeastLemmas.{pair_total, not_less_first, not_less_second}

-- the pair found so far isn't greater than this one
abbrev pub Reached : List Row → Option (Item × Item) → Item → Item → Type 0
Reached rows None i j = ⊥
Reached rows (Some p) i j = pair_cmp rows (i, j) p ≡ Less → ⊥

-- the pair is one of some element's
abbrev pub AnyOf : {E : Type 0} → (E → Item → Item → Type 0) → List E → Item → Item → Type 0
AnyOf C [] i j = ⊥
AnyOf C (e ∷ es) i j = C e i j ⊎ AnyOf C es i j

-- the least pair of the elements of a list but the rest
pub record Goes {E : Type 0} (rows : List Row) (C : E → Item → Item → Type 0) (whole rest : List E) (best : Option (Item × Item)) : Type 0 where
  pub sound : IfSome best (λ p. AnyOf C whole p.0 p.1)
  pub left : (i j : Item) → AnyOf C whole i j → AnyOf C rest i j ⊎ Reached rows best i j
  pub part : (i j : Item) → AnyOf C rest i j → AnyOf C whole i j

kept_by : (b : Bool) (rows : List Row) (p q : Item × Item) (i j : Item) → is_lt (pair_cmp rows q p) ≡ b →
    (pair_cmp rows (i, j) p ≡ Less → ⊥) → Reached rows (cond b (Some q) (Some p)) i j
kept_by true rows p q i j h reach = not_less_second (pair_cmp rows) (pair_total rows) p q (i, j) h reach
kept_by false rows p q i j h reach = reach

kept : (rows : List Row) (best cand : Option (Item × Item)) (i j : Item) → Reached rows best i j → Reached rows (lesser rows best cand) i j
kept rows None cand i j h = absurd h
kept rows (Some p) None i j h = h
kept rows (Some p) (Some q) i j h = kept_by (is_lt (pair_cmp rows q p)) rows p q i j refl h

own_by : (b : Bool) (rows : List Row) (p q : Item × Item) (i j : Item) → is_lt (pair_cmp rows q p) ≡ b →
    (pair_cmp rows (i, j) q ≡ Less → ⊥) → Reached rows (cond b (Some q) (Some p)) i j
own_by true rows p q i j h reach = reach
own_by false rows p q i j h reach = not_less_first (pair_cmp rows) (pair_total rows) p q (i, j) h reach

own : (rows : List Row) (best cand : Option (Item × Item)) (i j : Item) → Reached rows cand i j → Reached rows (lesser rows best cand) i j
own rows None cand i j h = h
own rows (Some p) None i j h = absurd h
own rows (Some p) (Some q) i j h = own_by (is_lt (pair_cmp rows q p)) rows p q i j refl h

one_of : (b : Bool) (P : Item × Item → Type 0) (p q : Item × Item) → P p → P q → IfSome (cond b (Some q) (Some p)) P
one_of true P p q hp hq = hq
one_of false P p q hp hq = hp

one_by : (rows : List Row) (P : Item × Item → Type 0) (best cand : Option (Item × Item)) → IfSome best P → IfSome cand P → IfSome (lesser rows best cand) P
one_by rows P None cand hb hc = hc
one_by rows P (Some p) None hb hc = hb
one_by rows P (Some p) (Some q) hb hc = one_of (is_lt (pair_cmp rows q p)) P p q hb hc

holds_of : (rows : List Row) (Q P : Item → Item → Type 0) (o : Option (Item × Item)) → ((i j : Item) → Q i j → P i j) → IsLeast rows Q o →
    IfSome o (λ p. P p.0 p.1)
holds_of rows Q P None f h = tt
holds_of rows Q P (Some p) f h = f p.0 p.1 h.0

reached_of : (rows : List Row) (Q : Item → Item → Type 0) (o : Option (Item × Item)) → IsLeast rows Q o → (i j : Item) → Q i j → Reached rows o i j
reached_of rows Q None h i j q = h i j q
reached_of rows Q (Some p) h i j q = h.1 i j q

pub start : {E : Type 0} (rows : List Row) (C : E → Item → Item → Type 0) (whole rest : List E) → rest ≡ whole → Goes rows C whole rest None
start rows C whole rest e = record {
  sound = tt;
  left = λ i j a. inl (subst (λ es. AnyOf C es i j) (sym e) a);
  part = λ i j a. subst (λ es. AnyOf C es i j) e a;
}

pub turn : {E : Type 0} (rows : List Row) (C : E → Item → Item → Type 0) (whole rest more : List E) (e : E) (best cand new : Option (Item × Item)) →
    rest ≡ e ∷ more → IsLeast rows (C e) cand → new ≡ lesser rows best cand → Goes rows C whole rest best → Goes rows C whole more new
turn rows C whole rest more e best cand new is least step before = record {
  sound = subst (λ o. IfSome o (λ p. AnyOf C whole p.0 p.1)) (sym step)
      (one_by rows (λ p. AnyOf C whole p.0 p.1) best cand before.sound
      (holds_of rows (C e) (AnyOf C whole) cand (λ i j c. before.part i j (at_rest i j (inl c))) least));
  left = λ i j a. ⊎_elim
      (λ r. ⊎_elim
      (λ c. inr (subst (λ o. Reached rows o i j) (sym step) (own rows best cand i j (reached_of rows (C e) cand least i j c))))
      (λ m. inl m)
      (subst (λ es. AnyOf C es i j) is r))
      (λ r. inr (subst (λ o. Reached rows o i j) (sym step) (kept rows best cand i j r)))
      (before.left i j a);
  part = λ i j m. before.part i j (at_rest i j (inr m));
}
  where
    at_rest : (i j : Item) → AnyOf C (e ∷ more) i j → AnyOf C rest i j
    at_rest i j a = subst (λ es. AnyOf C es i j) (sym is) a

finish_by : {E : Type 0} (rows : List Row) (C : E → Item → Item → Type 0) (whole : List E) (best : Option (Item × Item)) → Goes rows C whole [] best →
    IsLeast rows (AnyOf C whole) best
finish_by rows C whole None g = λ i j a. ⊎_elim (λ r. r) (λ r. r) (g.left i j a)
finish_by rows C whole (Some p) g = (g.sound, λ i j a. ⊎_elim (λ r. absurd r) (λ r. r) (g.left i j a))

pub finish : {E : Type 0} (rows : List Row) (C : E → Item → Item → Type 0) (whole rest : List E) (best : Option (Item × Item)) → rest ≡ [] →
    Goes rows C whole rest best → IsLeast rows (AnyOf C whole) best
finish rows C whole rest best e g = finish_by rows C whole best (subst (λ es. Goes rows C whole es best) e g)

-- ---- the elements of a set
pub any_in : {K : Type 0} {R : K → K → Ordering} → ((x y : K) → R x y ≡ Equal → x ≡ y) → (C : K → Item → Item → Type 0) (k : K) (ks : List K) (i j : Item) →
    list_any (is_at (R k)) ks ≡ true → C k i j → AnyOf C ks i j
any_in exact C k [] i j h c = absurd (cc)
any_in {K} {R} exact C k (x ∷ xs) i j h c =
    or_split (is_eq (R k x)) (list_any (is_at (R k)) xs) h
    (λ t. inl (subst (λ (y : K). C y i j) (exact k x (is_equal _ t)) c))
    (λ t. inr (any_in exact C k xs i j t c))

pub any_out : {K : Type 0} (R : K → K → Ordering) → ((x : K) → R x x ≡ Equal) → (C : K → Item → Item → Type 0) (ks : List K) (i j : Item) → AnyOf C ks i j →
    (k : K) × (list_any (is_at (R k)) ks ≡ true) × C k i j
any_out R own_tie C [] i j a = absurd a
any_out R own_tie C (x ∷ xs) i j a =
    ⊎_elim
    (λ c. (x, first_true (is_eq (R x x)) (list_any (is_at (R x)) xs) (ap is_eq (own_tie x)), c))
    (λ r. let found = any_out R own_tie C xs i j r in (found.0, second_true (is_eq (R found.0 x)) (list_any (is_at (R found.0)) xs) found.1, found.2))
    a
  where
    first_true : (p q : Bool) → p ≡ true → (p || q) ≡ true
    first_true p q h = ap (λ b. b || q) h

    second_true : (p q : Bool) → q ≡ true → (p || q) ≡ true
    second_true true q h = refl
    second_true false q h = h

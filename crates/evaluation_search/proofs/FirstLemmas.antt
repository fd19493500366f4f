-- Conflicts in the order in which they count, and events in theirs.
use Rattle.std.proofs.Common.{◌≡◌, ◌⊎◌, inl, inr, ⊎_elim, ℕ, zero, suc, ◌≤◌, ◌<◌, ◌+◌, max, Bool, true, false, cond, List, refl, sym, ap, ◌∙◌, arith, Option}
use Rattle.std.proofs.Common.{Some, None, subst}
use Rattle.std.proofs.Common.{if◌then◌else◌}
use Rattle.std.specs.Prelude.{slice_get}
use Rattle.std.specs.declared.cmp.Ordering.{Ordering}
use Rattle.std.specs.declared.cmp.Ordering.TheVariants.{Less, Equal, Greater}
use Rattle.std.specs.Ordering.{nat_cmp, ordering_then, is_lt}
use Rattle.std.specs.Cmp.{IsTotalOrder}
use Rattle.std.proofs.lemmas.Cmp.{on_total, then_total, nat_cmp_total, tied_itself}
use Rattle.std.proofs.lemmas.Option.{same_Some}
use Rattle.ub_base.specs.declared.names.Event.{Event}
use Rattle.ub_base.specs.Frames.{Row as FrameRow}
use Rattle.c_names.specs.Orders.{event_cmp}
use Rattle.footprint.proofs.LeastLemmas.{event_total, not_less_first, not_less_second}
use Rattle.evaluation_log.specs.declared.found.Found.{Found}
use Rattle.evaluation_log.specs.FoundItems.{is_lesser, counts_before, first_found}
use Rattle.evaluation_search.specs.First.{IsFirst, IsFirstOf, comes_first, IsLeastEvent, Takes}

-- ---- tests of an order
pub never_less : (r : Ordering) → is_lt r ≡ false → r ≡ Less → ⊥
never_less Less h e = absurd (cc)
never_less Equal h e = absurd (cc)
never_less Greater h e = absurd (cc)

pub not_less : (r : Ordering) → (r ≡ Less → ⊥) → is_lt r ≡ false
not_less Less h = absurd (h refl)
not_less Equal h = refl
not_less Greater h = refl

-- ---- conflicts, a race before another one
race_rank : Bool → ℕ
race_rank b = cond b 0 1

count_cmp : List FrameRow → Found → Found → Ordering
count_cmp frames f g = ordering_then (nat_cmp (race_rank f.race) (race_rank g.race))
    (ordering_then (event_cmp frames f.event g.event) (event_cmp frames f.against g.against))

count_total : (frames : List FrameRow) → IsTotalOrder (count_cmp frames)
unfolding count_cmp
count_total frames =
    then_total (on_total (λ (f : Found). race_rank f.race) nat_cmp_total)
    (then_total (on_total (λ (f : Found). f.event) (event_total frames)) (on_total (λ (f : Found). f.against) (event_total frames)))

by_races : (a b : Bool) (r : Ordering) →
    (if a then (if b then is_lt r else true) else (if b then false else is_lt r)) ≡ is_lt (ordering_then (nat_cmp (race_rank a) (race_rank b)) r)
unfolding race_rank
by_races true true r = refl
by_races true false r = refl
by_races false true r = refl
by_races false false r = refl

counts_is : (frames : List FrameRow) (f g : Found) → counts_before frames f g ≡ is_lt (count_cmp frames f g)
unfolding count_cmp
counts_is frames f g = by_races f.race g.race (ordering_then (event_cmp frames f.event g.event) (event_cmp frames f.against g.against))

pub counts_same : (frames : List FrameRow) (f g : Found) → f.race ≡ g.race → (event_cmp frames f.event g.event ≡ Less → ⊥) →
    (event_cmp frames f.event g.event ≡ Equal → event_cmp frames f.against g.against ≡ Less → ⊥) → counts_before frames f g ≡ false
counts_same frames f g e first second =
    alike f.race g.race _ e (not_less _ (by_parts (event_cmp frames f.event g.event) (event_cmp frames f.against g.against) first second))
  where
    alike : (a b l : Bool) → a ≡ b → l ≡ false → (if a then (if b then l else true) else (if b then false else l)) ≡ false
    alike true true l h k = k
    alike true false l h k = absurd (cc)
    alike false true l h k = refl
    alike false false l h k = k

    by_parts : (o p : Ordering) → (o ≡ Less → ⊥) → (o ≡ Equal → p ≡ Less → ⊥) → ordering_then o p ≡ Less → ⊥
    by_parts Less p h k e = h refl
    by_parts Equal p h k e = k refl e
    by_parts Greater p h k e = absurd (cc)

-- a race counts before what is none
pub counts_race : (frames : List FrameRow) (f g : Found) → f.race ≡ false → g.race ≡ true → counts_before frames f g ≡ false
counts_race frames f g is_none is_race = behind f.race g.race _ is_none is_race
  where
    behind : (a b l : Bool) → a ≡ false → b ≡ true → (if a then (if b then l else true) else (if b then false else l)) ≡ false
    behind true b l h k = absurd (cc)
    behind false true l h k = refl
    behind false false l h k = absurd (cc)

pub event_itself : (frames : List FrameRow) (e : Event) → event_cmp frames e e ≡ Equal
event_itself frames e = tied_itself (event_total frames) e

module _ (frames : List FrameRow) where
  never : (f g : Found) → counts_before frames f g ≡ false → count_cmp frames f g ≡ Less → ⊥
  never f g h = never_less _ (sym (counts_is frames f g) ∙ h)

  not_before : (f g : Found) → (count_cmp frames f g ≡ Less → ⊥) → counts_before frames f g ≡ false
  not_before f g h = counts_is frames f g ∙ not_less _ h

  chosen : (P Q : Found → Type 0) (f g : Found) (b : Bool) → counts_before frames g f ≡ b → IsFirst frames P f → IsFirst frames Q g →
      IsFirstOf frames (λ x. P x ⊎ Q x) (if b then Some g else Some f)
  chosen P Q f g true e p q = (
    inr q.0,
    λ x one. ⊎_elim
        (λ old. not_before x g (not_less_second (count_cmp frames) (count_total frames) f g x (sym (counts_is frames g f) ∙ e) (never x f (p.1 x old))))
        (λ new. q.1 x new) one,
  )
  chosen P Q f g false e p q = (
    inl p.0,
    λ x one. ⊎_elim (λ old. p.1 x old)
        (λ new. not_before x f (not_less_first (count_cmp frames) (count_total frames) f g x (sym (counts_is frames g f) ∙ e) (never x g (q.1 x new))))
        one,
  )

  -- of two lots the one of the firsts that counts
  pub both : (P Q : Found → Type 0) (o q : Option Found) → IsFirstOf frames P o → IsFirstOf frames Q q →
      IsFirstOf frames (λ x. P x ⊎ Q x) (first_found frames o q)
  both P Q None None p q = λ x one. ⊎_elim (λ old. p x old) (λ new. q x new) one
  both P Q None (Some g) p q = (inr q.0, λ x one. ⊎_elim (λ old. absurd (p x old)) (λ new. q.1 x new) one)
  both P Q (Some f) None p q = (inl p.0, λ x one. ⊎_elim (λ old. p.1 x old) (λ new. absurd (q x new)) one)
  both P Q (Some f) (Some g) p q = chosen P Q f g (counts_before frames g f) refl p q

  -- the same conflicts by another word
  pub alike : (P Q : Found → Type 0) (o : Option Found) → ((f : Found) → P f → Q f) → ((f : Found) → Q f → P f) → IsFirstOf frames P o → IsFirstOf frames Q o
  alike P Q None there back h = λ f q. h f (back f q)
  alike P Q (Some f) there back h = (there f h.0, λ g q. h.1 g (back g q))

  -- ---- along a range
  abbrev Within : (ℕ → Found → Type 0) → (from n : ℕ) → Found → Type 0
  Within Q from n f = (i : ℕ) × (from ≤ i) × (i < n) × Q i f

  pub range_none : (Q : ℕ → Found → Type 0) (from : ℕ) → IsFirstOf frames (Within Q from from) None
  range_none Q from f h = absurd (let l = h.1 in let m = h.2 in omega (arith, l, m))

  pub range_more : (Q : ℕ → Found → Type 0) (from n : ℕ) (best found : Option Found) → from ≤ n → IsFirstOf frames (Within Q from n) best →
      IsFirstOf frames (Q n) found → IsFirstOf frames (Within Q from (n + 1)) (first_found frames best found)
  range_more Q from n best found le old new =
      alike (λ f. Within Q from n f ⊎ Q n f) (Within Q from (n + 1)) (first_found frames best found)
      (λ f one. ⊎_elim (λ h. let m = h.2 in (h.0, h.1, omega (arith, m), h.3)) (λ h. (n, le, omega arith, h)) one)
      (λ f h. ⊎_elim (λ less. inl (h.0, h.1, less, h.3)) (λ same. inr (subst (λ i. Q i f) same h.3)) (below_or_at h.0 n h.2))
      (both (Within Q from n) (Q n) best found old new)
    where
      below_or_at : (i n : ℕ) → i < n + 1 → (i < n) ⊎ (i ≡ n)
      below_or_at i n h = grind arith

-- ---- the least event so far
module _ (frames : List FrameRow) (name : ℕ → Option Event) where
  first_less : (a b : Option Event) → comes_first frames a b ≡ true →
      (x : Event) × (y : Event) × (a ≡ Some x) × (b ≡ Some y) × (is_lt (event_cmp frames x y) ≡ true)
  first_less None b h = absurd (cc)
  first_less (Some x) None h = absurd (cc)
  first_less (Some x) (Some y) h = (x, y, refl, refl, h)

  none_first : (a b : Option Event) → ((x y : Event) → a ≡ Some x → b ≡ Some y → event_cmp frames x y ≡ Less → ⊥) → comes_first frames a b ≡ false
  none_first None b h = refl
  none_first (Some x) None h = refl
  none_first (Some x) (Some y) h = not_less _ (h x y refl refl)

  -- k isn't before m, and at is: k isn't before at
  passed : (k m at : ℕ) → comes_first frames (name at) (name m) ≡ true → comes_first frames (name k) (name m) ≡ false →
      comes_first frames (name k) (name at) ≡ false
  passed k m at less not_k =
      let l = first_less (name at) (name m) less in
      none_first (name k) (name at) (λ x y is_k is_at lt.
      let z : y ≡ l.0 = same_Some y l.0 (sym is_at ∙ l.2) in
      not_less_second (event_cmp frames) (event_total frames) l.1 l.0 x l.4
      (never_less _ (sym (λ i. comes_first frames (is_k i) (l.3 i)) ∙ not_k)) (ap (event_cmp frames x) (sym z) ∙ lt))

  pub least_more : (Q : ℕ → Type 0) (from at : ℕ) (best r : Option ℕ) → from ≤ at →
      IsLeastEvent frames name (λ k. (from ≤ k) × (k < at) × Q k) best → Takes frames name (Q at) at best r →
      IsLeastEvent frames name (λ k. (from ≤ k) × (k < at + 1) × Q k) r
  least_more Q from at best r le old step = ⊎_elim
      (λ stays. subst (λ (o : Option ℕ). IsLeastEvent frames name (λ k. (from ≤ k) × (k < at + 1) × Q k) o) (sym stays.0) (kept best old stays.1))
      (λ goes. subst (λ (o : Option ℕ). IsLeastEvent frames name (λ k. (from ≤ k) × (k < at + 1) × Q k) o) (sym goes.0) (taken best old goes.1 goes.2))
      step
    where
      below_or_at : (i n : ℕ) → i < n + 1 → (i < n) ⊎ (i ≡ n)
      below_or_at i n h = grind arith

      kept : (best : Option ℕ) → IsLeastEvent frames name (λ k. (from ≤ k) × (k < at) × Q k) best →
          (Q at → (m : ℕ) × (best ≡ Some m) × (comes_first frames (name at) (name m) ≡ false)) →
          IsLeastEvent frames name (λ k. (from ≤ k) × (k < at + 1) × Q k) best
      kept None old h = λ k q. ⊎_elim (λ less. old k (q.0, less, q.2))
          (λ same. let z = h (subst Q same q.2) in absurd (let e : None ≡ Some z.0 = z.1 in cc)) (below_or_at k at q.1)
      kept (Some m) old h = let lt = old.0.1 in (
        (old.0.0, omega (arith, lt), old.0.2),
        λ k q. ⊎_elim (λ less. old.1 k (q.0, less, q.2))
            (λ same. let z = h (subst Q same q.2) in
            (λ i. comes_first frames (name (same i)) (name m)) ∙ (ap (λ n. comes_first frames (name at) (name n)) (same_Some m z.0 z.1) ∙ z.2))
            (below_or_at k at q.1),
      )

      taken : (best : Option ℕ) → IsLeastEvent frames name (λ k. (from ≤ k) × (k < at) × Q k) best → Q at →
          ((m : ℕ) → best ≡ Some m → comes_first frames (name at) (name m) ≡ true) →
          IsLeastEvent frames name (λ k. (from ≤ k) × (k < at + 1) × Q k) (Some at)
      taken best old here h = (
        (le, omega arith, here),
        λ k q. ⊎_elim (λ less. past best old h k (q.0, less, q.2)) (λ same. itself k same) (below_or_at k at q.1),
      )
        where
          itself : (k : ℕ) → k ≡ at → comes_first frames (name k) (name at) ≡ false
          itself k same = ap (λ n. comes_first frames (name n) (name at)) same ∙ none_first (name at) (name at) (λ x y is_x is_y lt.
              let z : x ≡ y = same_Some x y (sym is_x ∙ is_y) in
              let e = event_itself frames y in
              let l : event_cmp frames y y ≡ Less = ap (λ w. event_cmp frames w y) (sym z) ∙ lt in
              absurd (cc))

          past : (best : Option ℕ) → IsLeastEvent frames name (λ k. (from ≤ k) × (k < at) × Q k) best →
              ((m : ℕ) → best ≡ Some m → comes_first frames (name at) (name m) ≡ true) → (k : ℕ) → (from ≤ k) × (k < at) × Q k →
              comes_first frames (name k) (name at) ≡ false
          past None old h k q = absurd (old k q)
          past (Some m) old h k q = passed k m at (h m refl) (old.1 k q)

  pub least_none : (Q : ℕ → Type 0) (from : ℕ) → IsLeastEvent frames name (λ k. (from ≤ k) × (k < from) × Q k) None
  least_none Q from k h = absurd (let l = h.0 in let m = h.1 in omega (arith, l, m))

  -- at the end of a range
  pub least_end : (Q : ℕ → Type 0) (from to at : ℕ) (best : Option ℕ) → to ≤ at → at ≤ max from to →
      IsLeastEvent frames name (λ k. (from ≤ k) × (k < at) × Q k) best → IsLeastEvent frames name (λ k. (from ≤ k) × (k < to) × Q k) best
  least_end Q from to at None past bound old = λ k q. old k (q.0, (let l = q.1 in omega (arith, l, past)), q.2)
  least_end Q from to at (Some m) past bound old =
      let low = old.0.0 in
      let high = old.0.1 in (
        (low, within from to at m low high bound, old.0.2),
        λ k q. old.1 k (q.0, (let l = q.1 in omega (arith, l, past)), q.2),
      )
    where
      within : (from to at m : ℕ) → from ≤ m → m < at → at ≤ max from to → m < to
      within from to at m low high bound = omega (arith, low, high, bound)

  -- the same of two conditions
  pub flat_none : (P Q : ℕ → Type 0) (from : ℕ) → IsLeastEvent frames name (λ k. (from ≤ k) × (k < from) × P k × Q k) None
  flat_none P Q from k h = absurd (let l = h.0 in let m = h.1 in omega (arith, l, m))

  nested : (P Q : ℕ → Type 0) (from n : ℕ) (o : Option ℕ) → IsLeastEvent frames name (λ k. (from ≤ k) × (k < n) × P k × Q k) o →
      IsLeastEvent frames name (λ k. (from ≤ k) × (k < n) × (P k × Q k)) o
  nested P Q from n None h = λ k q. h k (q.0, q.1, q.2.0, q.2.1)
  nested P Q from n (Some m) h = ((h.0.0, h.0.1, (h.0.2, h.0.3)), λ k q. h.1 k (q.0, q.1, q.2.0, q.2.1))

  flattened : (P Q : ℕ → Type 0) (from n : ℕ) (o : Option ℕ) → IsLeastEvent frames name (λ k. (from ≤ k) × (k < n) × (P k × Q k)) o →
      IsLeastEvent frames name (λ k. (from ≤ k) × (k < n) × P k × Q k) o
  flattened P Q from n None h = λ k q. h k (q.0, q.1, (q.2, q.3))
  flattened P Q from n (Some m) h = ((h.0.0, h.0.1, h.0.2.0, h.0.2.1), λ k q. h.1 k (q.0, q.1, (q.2, q.3)))

  pub flat_more : (P Q : ℕ → Type 0) (from at : ℕ) (best r : Option ℕ) → from ≤ at →
      IsLeastEvent frames name (λ k. (from ≤ k) × (k < at) × P k × Q k) best → Takes frames name (P at × Q at) at best r →
      IsLeastEvent frames name (λ k. (from ≤ k) × (k < at + 1) × P k × Q k) r
  flat_more P Q from at best r le old step =
      flattened P Q from (at + 1) r (least_more (λ k. P k × Q k) from at best r le (nested P Q from at best old) step)

  pub flat_end : (P Q : ℕ → Type 0) (from to at : ℕ) (best : Option ℕ) → to ≤ at → at ≤ max from to →
      IsLeastEvent frames name (λ k. (from ≤ k) × (k < at) × P k × Q k) best → IsLeastEvent frames name (λ k. (from ≤ k) × (k < to) × P k × Q k) best
  flat_end P Q from to at best past bound old =
      flattened P Q from to best (least_end (λ k. P k × Q k) from to at best past bound (nested P Q from at best old))

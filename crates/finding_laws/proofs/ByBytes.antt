-- Two items conflict exactly where a byte of one conflicts with a byte of the other.
use Rattle.std.proofs.Common.{
  ◌≡◌,
  ◌⊎◌,
  inl,
  inr,
  ⊎_elim,
  ◌≤◌,
  ◌<◌,
  ◌+◌,
  max,
  ℕ,
  zero,
  suc,
  Bool,
  true,
  false,
  cond,
  ◌&&◌,
  ◌||◌,
  List,
  [],
  ◌∷◌,
  ◌++◌,
  refl,
  sym,
  ap,
  ◌∙◌,
  arith,
}
use Rattle.std.proofs.lemmas.Bool.Decides.{nat_tests}
use Rattle.ub_base.specs.Names.{same_object}
use Rattle.ub_base.specs.declared.names.ObjName.{ObjName}
use Rattle.ub_base.specs.declared.names.Item.{Item}
use Rattle.ub_base.specs.declared.names.Item.TheVariants.{Read, Write, Born, Dies, Alive, Expose, Lookup, Narrow, Input, Output, Ending, Any}
use Rattle.addr_map.specs.declared.map.Row.{Row}
use Rattle.addr_map.specs.Conflict.{overlap, conflicts_one, items_conflict, conflicts_with, some_conflict, stands_at, is_access}
use Rattle.c_model.specs.Findings.{accesses}
use Rattle.c_model.specs.Keys.{each_byte, by_bytes, all_by_bytes}
use Rattle.finding_laws.specs.Footprints.{IsAmong}
use Rattle.finding_laws.specs.Conflicts.{ConflictsAreTold, RacesAreTold}
use Rattle.finding_laws.proofs.Bytes.{left_of, right_of, one_of}

and_left : (p q : Bool) → p && q ≡ true → p ≡ true
and_left true q h = refl
and_left false q h = h

and_right : (p q : Bool) → p && q ≡ true → q ≡ true
and_right true q h = h
and_right false q h = absurd (cc)

both : (p q : Bool) → p ≡ true → q ≡ true → p && q ≡ true
both p q h k = (λ i. h i && k i)

or_split : (p q : Bool) → p || q ≡ true → (p ≡ true) ⊎ (q ≡ true)
or_split true q h = inl refl
or_split false q h = inr h

or_left : (p q : Bool) → p ≡ true → p || q ≡ true
or_left p q h = ap (λ r. r || q) h

or_right : (p q : Bool) → q ≡ true → p || q ≡ true
or_right true q h = refl
or_right false q h = h

-- ---- bytes of ranges
each_at : (f : ℕ → Item) (a n : ℕ) (i : Item) → IsAmong (each_byte f a n) i → (k : ℕ) × (a ≤ k) × (k < a + n) × (f k ≡ i)
each_at f a zero i h = absurd h
each_at f a (suc n) i h =
    ⊎_elim (λ e. (a, omega arith, omega arith, e)) (λ t. let r = each_at f (suc a) n i t in (r.0, omega (arith, r.1), omega (arith, r.2), r.3)) h

at_each : (f : ℕ → Item) (a n k : ℕ) → a ≤ k → k < a + n → IsAmong (each_byte f a n) (f k)
at_each f a zero k low high = absurd (omega arith)
at_each f a (suc n) k low high = ⊎_elim (λ e. inl (ap f e)) (λ lt. inr (at_each f (suc a) n k lt (omega arith))) (split a k low)
  where
    split : (m l : ℕ) → m ≤ l → (m ≡ l) ⊎ (suc m ≤ l)
    split m l le = grind arith

alone : (j i : Item) → IsAmong (j ∷ []) i → j ≡ i
alone j i h = ⊎_elim (λ e. e) (λ t. absurd t) h

low_first : (a n b m : ℕ) → overlap a n b m ≡ true → max a b < a + n
low_first a n b m h = grind (arith, nat_tests)

low_second : (a n b m : ℕ) → overlap a n b m ≡ true → max a b < b + m
low_second a n b m h = grind (arith, nat_tests)

itself : (k : ℕ) → overlap k 1 k 1 ≡ true
itself k = grind (arith, nat_tests)

wide : (a n b m k l : ℕ) → a ≤ k → k < a + n → b ≤ l → l < b + m → overlap k 1 l 1 ≡ true → overlap a n b m ≡ true
wide a n b m k l p q r s h = grind (arith, nat_tests)

module _ (stands : ObjName → ℕ → Bool) where
  abbrev Halves : Item → Item → Type 0
  Halves i j = (p : Item) × (q : Item) × IsAmong (by_bytes i) p × IsAmong (by_bytes j) q × (conflicts_one stands p q ≡ true)

  at_byte : (f g : ℕ → Item) (x y : ObjName) (a n b m : ℕ) → (same_object x y && overlap a n b m) ≡ true →
      ((k : ℕ) → conflicts_one stands (f k) (g k) ≡ (same_object x y && overlap k 1 k 1)) →
      (p : Item) × (q : Item) × IsAmong (each_byte f a n) p × IsAmong (each_byte g b m) q × (conflicts_one stands p q ≡ true)
  at_byte f g x y a n b m h one =
      let o = and_right (same_object x y) _ h in (
        f (max a b),
        g (max a b),
        at_each f a n (max a b) (omega arith) (low_first a n b m o),
        at_each g b m (max a b) (omega arith) (low_second a n b m o),
        one (max a b) ∙ both _ _ (and_left (same_object x y) _ h) (itself (max a b)),
      )

  halves : (i j : Item) → conflicts_one stands i j ≡ true → Halves i j
  halves (Write x a n) (Read y b m) h = at_byte (λ k. Write x k 1) (λ k. Read y k 1) x y a n b m h (λ k. refl)
  halves (Write x a n) (Write y b m) h = at_byte (λ k. Write x k 1) (λ k. Write y k 1) x y a n b m h (λ k. refl)
  halves (Born x) (Alive y) h = (Born x, Alive y, inl refl, inl refl, h)
  halves (Born x) (Expose y) h = (Born x, Expose y, inl refl, inl refl, h)
  halves (Dies x) (Alive y) h = (Dies x, Alive y, inl refl, inl refl, h)
  halves (Dies x) (Born y) h = (Dies x, Born y, inl refl, inl refl, h)
  halves (Dies x) (Dies y) h = (Dies x, Dies y, inl refl, inl refl, h)
  halves (Lookup a) (Expose y) h = (Lookup a, Expose y, inl refl, inl refl, h)
  halves (Lookup a) (Dies y) h = (Lookup a, Dies y, inl refl, inl refl, h)
  halves (Narrow d x) (Narrow e y) h = (Narrow d x, Narrow e y, inl refl, inl refl, h)
  halves Input Input h = (Input, Input, inl refl, inl refl, h)
  halves Output Output h = (Output, Output, inl refl, inl refl, h)
  halves Ending Any h = (Ending, Any, inl refl, inl refl, h)
  halves _ _ h = absurd (cc)

  joined : (f g : ℕ → Item) (x y : ObjName) (a n b m : ℕ) (p q : Item) → IsAmong (each_byte f a n) p → IsAmong (each_byte g b m) q →
      ((k l : ℕ) → conflicts_one stands (f k) (g l) ≡ (same_object x y && overlap k 1 l 1)) → conflicts_one stands p q ≡ true →
      (same_object x y && overlap a n b m) ≡ true
  joined f g x y a n b m p q hp hq one h =
      let k = each_at f a n p hp in
      let l = each_at g b m q hq in
      let c : (same_object x y && overlap k.0 1 l.0 1) ≡ true = sym (one k.0 l.0) ∙ (λ t. conflicts_one stands (k.3 t) (l.3 t)) ∙ h in
      both _ _ (and_left (same_object x y) _ c) (wide a n b m k.0 l.0 k.1 k.2 l.1 l.2 (and_right (same_object x y) _ c))

  whole : (i j p q : Item) → IsAmong (by_bytes i) p → IsAmong (by_bytes j) q → conflicts_one stands p q ≡ true → conflicts_one stands i j ≡ true
  whole (Read x a n) j p q hp hq h =
      let k = each_at (λ c. Read x c 1) a n p hp in
      absurd (let e : conflicts_one stands (Read x k.0 1) q ≡ true = ap (λ (r : Item). conflicts_one stands r q) k.3 ∙ h in cc)
  whole (Write x a n) (Read y b m) p q hp hq h = joined (λ k. Write x k 1) (λ k. Read y k 1) x y a n b m p q hp hq (λ k l. refl) h
  whole (Write x a n) (Write y b m) p q hp hq h = joined (λ k. Write x k 1) (λ k. Write y k 1) x y a n b m p q hp hq (λ k l. refl) h
  whole (Write x a n) j p q hp hq h =
      let k = each_at (λ c. Write x c 1) a n p hp in
      let f : j ≡ q = alone j q hq in
      absurd (let e : conflicts_one stands (Write x k.0 1) j ≡ true = (λ t. conflicts_one stands (k.3 t) (f t)) ∙ h in cc)
  whole i (Read y b m) p q hp hq h =
      let l = each_at (λ c. Read y c 1) b m q hq in
      let f : i ≡ p = alone i p hp in
      absurd (let e : conflicts_one stands i (Read y l.0 1) ≡ true = (λ t. conflicts_one stands (f t) (l.3 t)) ∙ h in cc)
  whole i (Write y b m) p q hp hq h =
      let l = each_at (λ c. Write y c 1) b m q hq in
      let f : i ≡ p = alone i p hp in
      absurd (let e : conflicts_one stands i (Write y l.0 1) ≡ true = (λ t. conflicts_one stands (f t) (l.3 t)) ∙ h in cc)
  whole i j p q hp hq h =
      let e : i ≡ p = alone i p hp in
      let f : j ≡ q = alone j q hq in
      (λ t. conflicts_one stands (e t) (f t)) ∙ h

  abbrev Parts : List Item → List Item → Type 0
  Parts is js = (p : Item) × (q : Item) × IsAmong (all_by_bytes is) p × IsAmong (all_by_bytes js) q × (items_conflict stands p q ≡ true)

  parts : (i j : Item) → items_conflict stands i j ≡ true → (p : Item) × (q : Item) × IsAmong (by_bytes i) p × IsAmong (by_bytes j) q ×
      (items_conflict stands p q ≡ true)
  parts i j h =
      ⊎_elim (λ one. let r = halves i j one in (r.0, r.1, r.2, r.3, or_left _ _ r.4))
      (λ two. let r = halves j i two in (r.1, r.0, r.3, r.2, or_right (conflicts_one stands r.1 r.0) _ r.4))
      (or_split (conflicts_one stands i j) (conflicts_one stands j i) h)

  pub of_parts : (i j p q : Item) → IsAmong (by_bytes i) p → IsAmong (by_bytes j) q → items_conflict stands p q ≡ true → items_conflict stands i j ≡ true
  of_parts i j p q hp hq h =
      ⊎_elim (λ one. or_left _ _ (whole i j p q hp hq one)) (λ two. or_right (conflicts_one stands i j) _ (whole j i q p hq hp two))
      (or_split (conflicts_one stands p q) (conflicts_one stands q p) h)

module _ (rows : List Row) where
  beside_parts : (i : Item) (js : List Item) → conflicts_with rows i js ≡ true →
      (p : Item) × (q : Item) × IsAmong (by_bytes i) p × IsAmong (all_by_bytes js) q × (items_conflict (stands_at rows) p q ≡ true)
  beside_parts i [] h = absurd (cc)
  beside_parts i (j ∷ js) h =
      ⊎_elim (λ one. let r = parts (stands_at rows) i j one in (r.0, r.1, r.2, left_of (by_bytes j) (all_by_bytes js) r.1 r.3, r.4))
      (λ more. let r = beside_parts i js more in (r.0, r.1, r.2, right_of (by_bytes j) (all_by_bytes js) r.1 r.3, r.4))
      (or_split (items_conflict (stands_at rows) i j) (conflicts_with rows i js) h)

  some_parts : (is js : List Item) → some_conflict rows is js ≡ true → Parts (stands_at rows) is js
  some_parts [] js h = absurd (cc)
  some_parts (i ∷ is) js h =
      ⊎_elim (λ one. let r = beside_parts i js one in (r.0, r.1, left_of (by_bytes i) (all_by_bytes is) r.0 r.2, r.3, r.4))
      (λ more. let r = some_parts is js more in (r.0, r.1, right_of (by_bytes i) (all_by_bytes is) r.0 r.2, r.3, r.4))
      (or_split (conflicts_with rows i js) (some_conflict rows is js) h)

  parts_beside : (i : Item) (js : List Item) (p q : Item) → IsAmong (by_bytes i) p → IsAmong (all_by_bytes js) q →
      items_conflict (stands_at rows) p q ≡ true → conflicts_with rows i js ≡ true
  parts_beside i [] p q hp hq h = absurd hq
  parts_beside i (j ∷ js) p q hp hq h =
      ⊎_elim (λ one. or_left _ _ (of_parts (stands_at rows) i j p q hp one h))
      (λ more. or_right (items_conflict (stands_at rows) i j) _ (parts_beside i js p q hp more h))
      (one_of (by_bytes j) (all_by_bytes js) q hq)

  parts_some : (is js : List Item) (p q : Item) → IsAmong (all_by_bytes is) p → IsAmong (all_by_bytes js) q →
      items_conflict (stands_at rows) p q ≡ true → some_conflict rows is js ≡ true
  parts_some [] js p q hp hq h = absurd hp
  parts_some (i ∷ is) js p q hp hq h =
      ⊎_elim (λ one. or_left _ _ (parts_beside i js p q one hq h))
      (λ more. or_right (conflicts_with rows i js) _ (parts_some is js p q more hq h))
      (one_of (by_bytes i) (all_by_bytes is) p hp)

pub conflicts_told : ConflictsAreTold
conflicts_told rows is js f g hf hg = (
  λ c. parts_some rows is js c.0 c.1 ((hf c.0).0 c.2.0) ((hg c.1).0 c.2.1) c.2.2,
  λ h. let r = some_parts rows is js h in (r.0, r.1, ((hf r.0).1 r.2, (hg r.1).1 r.3, r.4)),
)

-- ---- accesses
access_bytes : (i p : Item) → IsAmong (by_bytes i) p → is_access p ≡ is_access i
access_bytes (Read x a n) p h = let k = each_at (λ c. Read x c 1) a n p h in ap is_access (sym k.3)
access_bytes (Write x a n) p h = let k = each_at (λ c. Write x c 1) a n p h in ap is_access (sym k.3)
access_bytes i p h = let e : i ≡ p = alone i p h in ap is_access (sym e)

kept_by : (b : Bool) (i : Item) (is : List Item) (p : Item) → is_access i ≡ b → is_access p ≡ true →
    IsAmong (by_bytes i) p ⊎ IsAmong (all_by_bytes (accesses is)) p →
    IsAmong (all_by_bytes (cond b (i ∷ accesses is) (accesses is))) p
kept_by true i is p e a h =
    ⊎_elim (λ one. left_of (by_bytes i) (all_by_bytes (accesses is)) p one) (λ more. right_of (by_bytes i) (all_by_bytes (accesses is)) p more) h
kept_by false i is p e a h = ⊎_elim (λ one. absurd (let c = access_bytes i p one in cc)) (λ more. more) h

accessed : (is : List Item) (p : Item) → is_access p ≡ true → IsAmong (all_by_bytes is) p → IsAmong (all_by_bytes (accesses is)) p
accessed [] p a h = h
accessed (i ∷ is) p a h =
    kept_by (is_access i) i is p refl a
    (⊎_elim (λ one. inl one) (λ more. inr (accessed is p a more)) (one_of (by_bytes i) (all_by_bytes is) p h))

from_by : (b : Bool) (i : Item) (is : List Item) (p : Item) → is_access i ≡ b →
    (IsAmong (all_by_bytes (accesses is)) p → IsAmong (all_by_bytes is) p × (is_access p ≡ true)) →
    IsAmong (all_by_bytes (cond b (i ∷ accesses is) (accesses is))) p → IsAmong (by_bytes i ++ all_by_bytes is) p × (is_access p ≡ true)
from_by true i is p e more h =
    ⊎_elim (λ one. (left_of (by_bytes i) (all_by_bytes is) p one, access_bytes i p one ∙ e))
    (λ rest. let r = more rest in (right_of (by_bytes i) (all_by_bytes is) p r.0, r.1)) (one_of (by_bytes i) (all_by_bytes (accesses is)) p h)
from_by false i is p e more h = let r = more h in (right_of (by_bytes i) (all_by_bytes is) p r.0, r.1)

from_accesses : (is : List Item) (p : Item) → IsAmong (all_by_bytes (accesses is)) p → IsAmong (all_by_bytes is) p × (is_access p ≡ true)
from_accesses [] p h = absurd h
from_accesses (i ∷ is) p h = from_by (is_access i) i is p refl (from_accesses is p) h

-- where objects stand makes no difference to accesses
anywhere : (s t : ObjName → ℕ → Bool) (i j : Item) → is_access i ≡ true → is_access j ≡ true → items_conflict s i j ≡ items_conflict t i j
anywhere s t (Read x a n) (Read y b m) h k = refl
anywhere s t (Read x a n) (Write y b m) h k = refl
anywhere s t (Write x a n) (Read y b m) h k = refl
anywhere s t (Write x a n) (Write y b m) h k = refl
anywhere s t (Read x a n) j h k = absurd (cc)
anywhere s t (Write x a n) j h k = absurd (cc)
anywhere s t i j h k = absurd (cc)

pub races_told : RacesAreTold
races_told rows is js f g hf hg = (
  λ c. parts_some rows (accesses is) (accesses js) c.0 c.1 (accessed is c.0 c.2.2 ((hf c.0).0 c.2.0)) (accessed js c.1 c.2.3 ((hg c.1).0 c.2.1))
      (anywhere (stands_at rows) (λ x n. true) c.0 c.1 c.2.2 c.2.3 ∙ c.2.4),
  λ h. let r = some_parts rows (accesses is) (accesses js) h in
      let a = from_accesses is r.0 r.2 in
      let b = from_accesses js r.1 r.3 in
      (r.0, r.1, ((hf r.0).1 a.0, (hg r.1).1 b.0, a.1, b.1, anywhere (λ x n. true) (stands_at rows) r.0 r.1 a.1 b.1 ∙ r.4)),
)

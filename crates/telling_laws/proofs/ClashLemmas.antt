-- What has the items of two lists clashes where these conflict.
use Rattle.std.proofs.Common.{◌≡◌, ◌⊎◌, inl, inr, ⊎_elim, ◌≤◌, ◌<◌, ◌+◌, max, ℕ, zero, suc, Bool, true, false, cond, ◌&&◌, List, [], ◌∷◌, ◌++◌, refl, sym, ap}
use Rattle.std.proofs.Common.{subst}
use Rattle.std.proofs.Common.{◌∙◌, arith, true≢false, Option, Some, None}
use Rattle.std.specs.declared.cmp.Ordering.TheVariants.{Less}
use Rattle.std.proofs.lemmas.Bool.Decides.{nat_tests}
use Rattle.ub_base.specs.Frames.{Row as FrameRow}
use Rattle.ub_base.specs.Names.{same_object}
use Rattle.ub_base.specs.declared.names.ObjName.{ObjName}
use Rattle.ub_base.specs.declared.names.Item.{Item}
use Rattle.ub_base.specs.declared.names.Item.TheVariants.{Read, Write, Born, Dies, Alive, Expose, Lookup, Narrow, Input, Output, Ending, Any as AnyItem}
use Rattle.addr_map.specs.declared.map.Row.{Row}
use Rattle.addr_map.specs.Conflict.{overlap, conflicts_one, items_conflict, conflicts_with, some_conflict, stands_at, is_access}
use Rattle.c_model.specs.Findings.{accesses}
use Rattle.c_model.specs.Keys.{each_byte, by_bytes, all_by_bytes}
use Rattle.elaborate.proofs.Listed.{and_l, and_r}
use Rattle.elaborate.proofs.Ranges.{and_b, or_a, or_b, or_cases}
use Rattle.completion_laws.proofs.Ahead.{by_test}
use Rattle.evaluation_log.specs.Clashes.{Clash}
use Rattle.evaluation_log.specs.declared.sought.Sought.TheVariants.{Any, Races}
use Rattle.finding_laws.specs.Footprints.{IsAmong}
use Rattle.finding_laws.proofs.ByBytes.{of_parts}
use Rattle.finding_laws.proofs.Bytes.{left_of, right_of, one_of}
use Rattle.footprint.specs.Least.{IsLeast, lesser, pair_cmp}
use Rattle.footprint.proofs.LeastLemmas.{pair_total, both, alike, not_itself}
use Rattle.telling_laws.specs.Met.{MeetsByItems, RacesByItems, HasLeast}

-- ---- a conflict of two items is one of two of their bytes
each_at : (f : ℕ → Item) (a n : ℕ) (i : Item) → IsAmong (each_byte f a n) i → (k : ℕ) × (f k ≡ i)
each_at f a zero i h = absurd h
each_at f a (suc n) i h = ⊎_elim (λ e. (a, e)) (λ t. each_at f (suc a) n i t) h

at_each : (f : ℕ → Item) (a n k : ℕ) → a ≤ k → k < a + n → IsAmong (each_byte f a n) (f k)
at_each f a zero k low high = absurd (omega arith)
at_each f a (suc n) k low high = ⊎_elim (λ e. inl (ap f e)) (λ lt. inr (at_each f (suc a) n k lt (omega arith))) (first_or a k low)
  where
    first_or : (m l : ℕ) → m ≤ l → (m ≡ l) ⊎ (suc m ≤ l)
    first_or m l le = grind arith

alone : (j i : Item) → IsAmong (j ∷ []) i → j ≡ i
alone j i h = ⊎_elim (λ e. e) (λ t. absurd t) h

low_first : (a n b m : ℕ) → overlap a n b m ≡ true → max a b < a + n
low_first a n b m h = grind (arith, nat_tests)

low_second : (a n b m : ℕ) → overlap a n b m ≡ true → max a b < b + m
low_second a n b m h = grind (arith, nat_tests)

itself : (k : ℕ) → overlap k 1 k 1 ≡ true
itself k = grind (arith, nat_tests)

module _ (stands : ObjName → ℕ → Bool) where
  abbrev Halves : Item → Item → Type 0
  Halves i j = (p : Item) × (q : Item) × IsAmong (by_bytes i) p × IsAmong (by_bytes j) q × (conflicts_one stands p q ≡ true)

  at_byte : (f g : ℕ → Item) (x y : ObjName) (a n b m : ℕ) → (same_object x y && overlap a n b m) ≡ true →
      ((k : ℕ) → conflicts_one stands (f k) (g k) ≡ (same_object x y && overlap k 1 k 1)) →
      (p : Item) × (q : Item) × IsAmong (each_byte f a n) p × IsAmong (each_byte g b m) q × (conflicts_one stands p q ≡ true)
  at_byte f g x y a n b m h one =
      let o = and_r (same_object x y) _ h in (
        f (max a b),
        g (max a b),
        at_each f a n (max a b) (omega arith) (low_first a n b m o),
        at_each g b m (max a b) (omega arith) (low_second a n b m o),
        one (max a b) ∙ and_b _ _ (and_l (same_object x y) _ h) (itself (max a b)),
      )

  halves : (i j : Item) → conflicts_one stands i j ≡ true → Halves i j
  halves (Write x a n) (Read y b m) h = at_byte (λ k. Write x k 1) (λ k. Read y k 1) x y a n b m h (λ k. refl)
  halves (Write x a n) (Write y b m) h = at_byte (λ k. Write x k 1) (λ k. Write y k 1) x y a n b m h (λ k. refl)
  halves (Born x) (Alive y) h = (Born x, Alive y, inl refl, inl refl, h)
  halves (Born x) (Expose y) h = (Born x, Expose y, inl refl, inl refl, h)
  halves (Dies x) (Alive y) h = (Dies x, Alive y, inl refl, inl refl, h)
  halves (Dies x) (Born y) h = (Dies x, Born y, inl refl, inl refl, h)
  halves (Dies x) (Dies y) h = (Dies x, Dies y, inl refl, inl refl, h)
  halves (Lookup a) (Expose y) h = (Lookup a, Expose y, inl refl, inl refl, h)
  halves (Lookup a) (Dies y) h = (Lookup a, Dies y, inl refl, inl refl, h)
  halves (Narrow d x) (Narrow e y) h = (Narrow d x, Narrow e y, inl refl, inl refl, h)
  halves Input Input h = (Input, Input, inl refl, inl refl, h)
  halves Output Output h = (Output, Output, inl refl, inl refl, h)
  halves Ending AnyItem h = (Ending, AnyItem, inl refl, inl refl, h)
  halves _ _ h = absurd (cc)

  parts : (i j : Item) → items_conflict stands i j ≡ true → (p : Item) × (q : Item) × IsAmong (by_bytes i) p × IsAmong (by_bytes j) q ×
      (items_conflict stands p q ≡ true)
  parts i j h =
      ⊎_elim (λ one. let r = halves i j one in (r.0, r.1, r.2, r.3, or_a _ _ r.4))
      (λ two. let r = halves j i two in (r.1, r.0, r.3, r.2, or_b (conflicts_one stands r.1 r.0) _ r.4))
      (or_cases (conflicts_one stands i j) (conflicts_one stands j i) h)

-- ---- so it is of lists
module _ (rows : List Row) where
  abbrev pub Parts : List Item → List Item → Type 0
  Parts is js = (p : Item) × (q : Item) × IsAmong (all_by_bytes is) p × IsAmong (all_by_bytes js) q × (items_conflict (stands_at rows) p q ≡ true)

  beside_parts : (i : Item) (js : List Item) → conflicts_with rows i js ≡ true →
      (p : Item) × (q : Item) × IsAmong (by_bytes i) p × IsAmong (all_by_bytes js) q × (items_conflict (stands_at rows) p q ≡ true)
  beside_parts i [] h = absurd (cc)
  beside_parts i (j ∷ js) h =
      ⊎_elim (λ one. let r = parts (stands_at rows) i j one in (r.0, r.1, r.2, left_of (by_bytes j) (all_by_bytes js) r.1 r.3, r.4))
      (λ more. let r = beside_parts i js more in (r.0, r.1, r.2, right_of (by_bytes j) (all_by_bytes js) r.1 r.3, r.4))
      (or_cases (items_conflict (stands_at rows) i j) (conflicts_with rows i js) h)

  pub some_parts : (is js : List Item) → some_conflict rows is js ≡ true → Parts is js
  some_parts [] js h = absurd (cc)
  some_parts (i ∷ is) js h =
      ⊎_elim (λ one. let r = beside_parts i js one in (r.0, r.1, left_of (by_bytes i) (all_by_bytes is) r.0 r.2, r.3, r.4))
      (λ more. let r = some_parts is js more in (r.0, r.1, right_of (by_bytes i) (all_by_bytes is) r.0 r.2, r.3, r.4))
      (or_cases (conflicts_with rows i js) (some_conflict rows is js) h)

  parts_beside : (i : Item) (js : List Item) (p q : Item) → IsAmong (by_bytes i) p → IsAmong (all_by_bytes js) q →
      items_conflict (stands_at rows) p q ≡ true → conflicts_with rows i js ≡ true
  parts_beside i [] p q hp hq h = absurd hq
  parts_beside i (j ∷ js) p q hp hq h =
      ⊎_elim (λ one. or_a _ _ (of_parts (stands_at rows) i j p q hp one h))
      (λ more. or_b (items_conflict (stands_at rows) i j) _ (parts_beside i js p q hp more h))
      (one_of (by_bytes j) (all_by_bytes js) q hq)

  pub parts_some : (is js : List Item) (p q : Item) → IsAmong (all_by_bytes is) p → IsAmong (all_by_bytes js) q →
      items_conflict (stands_at rows) p q ≡ true → some_conflict rows is js ≡ true
  parts_some [] js p q hp hq h = absurd hp
  parts_some (i ∷ is) js p q hp hq h =
      ⊎_elim (λ one. or_a _ _ (parts_beside i js p q one hq h))
      (λ more. or_b (conflicts_with rows i js) _ (parts_some is js p q more hq h))
      (one_of (by_bytes i) (all_by_bytes is) p hp)

pub meets_by_items : MeetsByItems
meets_by_items rows f g is js hf hg = (
  λ c. parts_some rows is js c.0 c.1 ((hf c.0).0 c.2.0) ((hg c.1).0 c.2.1) c.2.2,
  λ h. let r = some_parts rows is js h in (r.0, r.1, ((hf r.0).1 r.2, (hg r.1).1 r.3, r.4)),
)

-- ---- accesses
access_bytes : (i p : Item) → IsAmong (by_bytes i) p → is_access p ≡ is_access i
access_bytes (Read x a n) p h = let k = each_at (λ c. Read x c 1) a n p h in ap is_access (sym k.1)
access_bytes (Write x a n) p h = let k = each_at (λ c. Write x c 1) a n p h in ap is_access (sym k.1)
access_bytes i p h = let e : i ≡ p = alone i p h in ap is_access (sym e)

kept_by : (b : Bool) (i : Item) (is : List Item) (p : Item) → is_access i ≡ b → is_access p ≡ true →
    IsAmong (by_bytes i) p ⊎ IsAmong (all_by_bytes (accesses is)) p →
    IsAmong (all_by_bytes (cond b (i ∷ accesses is) (accesses is))) p
kept_by true i is p e a h =
    ⊎_elim (λ one. left_of (by_bytes i) (all_by_bytes (accesses is)) p one) (λ more. right_of (by_bytes i) (all_by_bytes (accesses is)) p more) h
kept_by false i is p e a h = ⊎_elim (λ one. absurd (let c = access_bytes i p one in cc)) (λ more. more) h

pub accessed : (is : List Item) (p : Item) → is_access p ≡ true → IsAmong (all_by_bytes is) p → IsAmong (all_by_bytes (accesses is)) p
accessed [] p a h = h
accessed (i ∷ is) p a h =
    kept_by (is_access i) i is p refl a
    (⊎_elim (λ one. inl one) (λ more. inr (accessed is p a more)) (one_of (by_bytes i) (all_by_bytes is) p h))

from_by : (b : Bool) (i : Item) (is : List Item) (p : Item) → is_access i ≡ b →
    (IsAmong (all_by_bytes (accesses is)) p → IsAmong (all_by_bytes is) p × (is_access p ≡ true)) →
    IsAmong (all_by_bytes (cond b (i ∷ accesses is) (accesses is))) p → IsAmong (by_bytes i ++ all_by_bytes is) p × (is_access p ≡ true)
from_by true i is p e more h =
    ⊎_elim (λ one. (left_of (by_bytes i) (all_by_bytes is) p one, access_bytes i p one ∙ e))
    (λ rest. let r = more rest in (right_of (by_bytes i) (all_by_bytes is) p r.0, r.1)) (one_of (by_bytes i) (all_by_bytes (accesses is)) p h)
from_by false i is p e more h = let r = more h in (right_of (by_bytes i) (all_by_bytes is) p r.0, r.1)

from_accesses : (is : List Item) (p : Item) → IsAmong (all_by_bytes (accesses is)) p → IsAmong (all_by_bytes is) p × (is_access p ≡ true)
from_accesses [] p h = absurd h
from_accesses (i ∷ is) p h = from_by (is_access i) i is p refl (from_accesses is p) h

-- where objects stand makes no difference to accesses
pub anywhere : (s t : ObjName → ℕ → Bool) (i j : Item) → is_access i ≡ true → is_access j ≡ true → items_conflict s i j ≡ items_conflict t i j
anywhere s t (Read x a n) (Read y b m) h k = refl
anywhere s t (Read x a n) (Write y b m) h k = refl
anywhere s t (Write x a n) (Read y b m) h k = refl
anywhere s t (Write x a n) (Write y b m) h k = refl
anywhere s t (Read x a n) j h k = absurd (cc)
anywhere s t (Write x a n) j h k = absurd (cc)
anywhere s t i j h k = absurd (cc)

pub races_by_items : RacesByItems
races_by_items rows f g is js hf hg = (
  λ c. parts_some rows (accesses is) (accesses js) c.0 c.1 (accessed is c.0 c.2.2 ((hf c.0).0 c.2.0)) (accessed js c.1 c.2.3 ((hg c.1).0 c.2.1))
      (anywhere (stands_at rows) (λ x n. true) c.0 c.1 c.2.2 c.2.3 ∙ c.2.4),
  λ h. let r = some_parts rows (accesses is) (accesses js) h in
      let a = from_accesses is r.0 r.2 in
      let b = from_accesses js r.1 r.3 in
      (r.0, r.1, ((hf r.0).1 a.0, (hg r.1).1 b.0, a.1, b.1, anywhere (λ x n. true) (stands_at rows) r.0 r.1 a.1 b.1 ∙ r.4)),
)

-- ---- the least of finitely many pairs
module _ (frames : List FrameRow) (test : Item → Item → Bool) where
  abbrev One : Item → Item → Item → Item → Type 0
  One i j a b = (i ≡ a) × (j ≡ b) × (test a b ≡ true)

  abbrev Beside : Item → List Item → Item → Item → Type 0
  Beside i js a b = (i ≡ a) × IsAmong js b × (test a b ≡ true)

  abbrev pub Among : List Item → List Item → Item → Item → Type 0
  Among is js a b = IsAmong is a × IsAmong js b × (test a b ≡ true)

  one_alone : (i j : Item) → test i j ≡ true → IsLeast frames (One i j) (Some (i, j))
  one_alone i j h = (
    (refl, refl, h),
    λ a b same lt. not_itself (pair_cmp frames) (pair_total frames) (i, j) (subst (λ (p : Item × Item). pair_cmp frames p (i, j) ≡ Less)
        (λ t. (sym same.0 t, sym same.1 t)) lt),
  )

  least_one : (i j : Item) → (o : Option (Item × Item)) × IsLeast frames (One i j) o
  least_one i j = by_test (test i j)
      (λ e. (Some (i, j), one_alone i j e))
      (λ e. (None, λ a b one. true≢false (sym (at one.0 one.1 one.2) ∙ e)))
    where
      at : {a b : Item} → i ≡ a → j ≡ b → test a b ≡ true → test i j ≡ true
      at e f g = (λ t. test (e t) (f t)) ∙ g

  least_beside : (i : Item) (js : List Item) → (o : Option (Item × Item)) × IsLeast frames (Beside i js) o
  least_beside i [] = (None, λ a b one. absurd one.1)
  least_beside i (j ∷ js) =
      let first = least_one i j in
      let rest = least_beside i js in (
        lesser frames first.0 rest.0,
        alike frames (λ a b. One i j a b ⊎ Beside i js a b) (Beside i (j ∷ js)) (lesser frames first.0 rest.0)
            (λ a b one. ⊎_elim (λ p. (p.0, inl p.1, p.2)) (λ q. (q.0, inr q.1, q.2)) one)
            (λ a b one. ⊎_elim (λ e. inl (one.0, e, one.2)) (λ t. inr (one.0, t, one.2)) one.1)
            (both frames (One i j) (Beside i js) first.0 rest.0 first.1 rest.1),
      )

  pub least_among : (is js : List Item) → (o : Option (Item × Item)) × IsLeast frames (Among is js) o
  least_among [] js = (None, λ a b one. absurd one.0)
  least_among (i ∷ is) js =
      let first = least_beside i js in
      let rest = least_among is js in (
        lesser frames first.0 rest.0,
        alike frames (λ a b. Beside i js a b ⊎ Among is js a b) (Among (i ∷ is) js) (lesser frames first.0 rest.0)
            (λ a b one. ⊎_elim (λ p. (inl p.0, p.1, p.2)) (λ q. (inr q.0, q.1, q.2)) one)
            (λ a b one. ⊎_elim (λ e. inl (e, one.1, one.2)) (λ t. inr (t, one.1, one.2)) one.0)
            (both frames (Beside i js) (Among is js) first.0 rest.0 first.1 rest.1),
      )

abbrev pub access_test : Item → Item → Bool
access_test i j = is_access i && (is_access j && items_conflict (λ x n. true) i j)

pub some_least : (frames : List FrameRow) (Q : Item → Item → Type 0) (o : Option (Item × Item)) → IsLeast frames Q o → (i j : Item) → Q i j →
    (p : Item × Item) × IsLeast frames Q (Some p)
some_least frames Q None h i j q = absurd (h i j q)
some_least frames Q (Some p) h i j q = (p, h)

pub has_least : HasLeast
has_least rows frames Any f g is js hf hg c =
    let o = least_among frames (items_conflict (stands_at rows)) (all_by_bytes is) (all_by_bytes js) in
    some_least frames (Clash Any rows f g) o.0
    (alike frames (Among frames (items_conflict (stands_at rows)) (all_by_bytes is) (all_by_bytes js)) (Clash Any rows f g) o.0
    (λ i j q. ((hf i).1 q.0, (hg j).1 q.1, q.2)) (λ i j q. ((hf i).0 q.0, (hg j).0 q.1, q.2)) o.1) c.0 c.1 c.2
has_least rows frames Races f g is js hf hg c =
    let o = least_among frames access_test (all_by_bytes is) (all_by_bytes js) in
    some_least frames (Clash Races rows f g) o.0
    (alike frames (Among frames access_test (all_by_bytes is) (all_by_bytes js)) (Clash Races rows f g) o.0
    (λ i j q. let r = and_r (is_access i) _ q.2 in
    ((hf i).1 q.0, (hg j).1 q.1, and_l (is_access i) _ q.2, and_l (is_access j) _ r, and_r (is_access j) _ r))
    (λ i j q. ((hf i).0 q.0, (hg j).0 q.1, and_b _ _ q.2 (and_b _ _ q.3 q.4))) o.1) c.0 c.1 c.2

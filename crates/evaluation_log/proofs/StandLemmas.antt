-- Items conflict where some that they stand for do.
use Rattle.std.proofs.Common.{◌≡◌, ◌⊎◌, inl, inr, ⊎_elim, ◌≤◌, ◌<◌, ◌+◌, ◌-◌, ◌^◌, min, ◌==◌, ℕ, Bool, true, false, ◌&&◌, ◌||◌, refl, sym, ap, ◌∙◌, arith}
use Rattle.std.specs.Prelude.{nat_lt, nat_le}
use Rattle.std.proofs.lemmas.Bool.Decides.{nat_tests}
use Rattle.ub_base.specs.Names.{same_object, same_event}
use Rattle.ub_base.proofs.NameLemmas.{same_object_is, same_event_is}
use Rattle.ub_base.specs.declared.names.ObjName.{ObjName}
use Rattle.ub_base.specs.declared.names.Item.{Item}
use Rattle.ub_base.specs.declared.names.Item.TheVariants.{Read, Write, Born, Dies, Alive, Expose, Lookup, Narrow, Input, Output, Ending, Any}
use Rattle.addr_map.specs.Conflict.{overlap, conflicts_one, items_conflict, is_access}
use Rattle.footprint.specs.Ranges.{range_has}
use Rattle.footprint.specs.Holds.{stands_for}

and_left : (p q : Bool) → p && q ≡ true → p ≡ true
and_left true q h = refl
and_left false q h = h

and_right : (p q : Bool) → p && q ≡ true → q ≡ true
and_right true q h = h
and_right false q h = absurd (cc)

both : (p q : Bool) → p ≡ true → q ≡ true → p && q ≡ true
both p q h k = (λ i. h i && k i)

or_split : (p q : Bool) → p || q ≡ true → (p ≡ true) ⊎ (q ≡ true)
or_split true q h = inl refl
or_split false q h = inr h

or_left : (p q : Bool) → p ≡ true → p || q ≡ true
or_left p q h = ap (λ r. r || q) h

or_right : (p q : Bool) → q ≡ true → p || q ≡ true
or_right true q h = refl
or_right false q h = h

-- ---- what an item stands for
one_byte : (m : ℕ) → (m == 1) ≡ true → m ≡ 1
one_byte m h = grind (arith, nat_tests)

low : (a n k : ℕ) → nat_le a k && nat_lt k (min (a + n) (2 ^ 64 - 1)) ≡ true → a ≤ k
low a n k h = let e = and_left (nat_le a k) _ h in grind (arith, nat_tests)

high : (a n k : ℕ) → nat_le a k && nat_lt k (min (a + n) (2 ^ 64 - 1)) ≡ true → k < a + n
high a n k h = let e = and_right (nat_le a k) _ h in grind (arith, nat_tests)

in_range : (x y : ObjName) (a n k m : ℕ) → (m == 1) && range_has ((x, a), min (a + n) (2 ^ 64 - 1)) y k ≡ true → (x ≡ y) × (m ≡ 1) × (a ≤ k) × (k < a + n)
in_range x y a n k m h =
    let one = and_left (m == 1) _ h in
    let range = and_right (m == 1) _ h in
    let bytes = and_right (same_object x y) _ range in
    (same_object_is x y (and_left (same_object x y) _ range), one_byte m one, low a n k bytes, high a n k bytes)

as_read : (x : ObjName) (a n : ℕ) (i : Item) → stands_for (Read x a n) i ≡ true → (k : ℕ) × (a ≤ k) × (k < a + n) × (Read x k 1 ≡ i)
as_read x a n (Read y k m) h =
    let r = in_range x y a n k m h in
    (k, r.2, r.3, (λ t. Read (r.0 t) k (sym r.1 t)))
as_read x a n _ h = absurd (cc)

as_write : (x : ObjName) (a n : ℕ) (i : Item) → stands_for (Write x a n) i ≡ true → (k : ℕ) × (a ≤ k) × (k < a + n) × (Write x k 1 ≡ i)
as_write x a n (Write y k m) h =
    let r = in_range x y a n k m h in
    (k, r.2, r.3, (λ t. Write (r.0 t) k (sym r.1 t)))
as_write x a n _ h = absurd (cc)

same_number : (a b : ℕ) → (a == b) ≡ true → a ≡ b
same_number a b h = grind (arith, nat_tests)

alone : (x i : Item) → is_access x ≡ false → stands_for x i ≡ true → x ≡ i
alone (Born x) (Born y) none h = ap Born (same_object_is x y h)
alone (Dies x) (Dies y) none h = ap Dies (same_object_is x y h)
alone (Alive x) (Alive y) none h = ap Alive (same_object_is x y h)
alone (Expose x) (Expose y) none h = ap Expose (same_object_is x y h)
alone (Lookup a) (Lookup b) none h = ap Lookup (same_number a b h)
alone (Narrow d x) (Narrow e y) none h =
    (λ t. Narrow (same_event_is d e (and_left (same_event d e) _ h) t) (same_object_is x y (and_right (same_event d e) _ h) t))
alone Input Input none h = refl
alone Output Output none h = refl
alone Ending Ending none h = refl
alone Any Any none h = refl
alone _ _ none h = absurd (cc)

-- ---- a conflict of what they stand for
wide : (a n b m k l : ℕ) → a ≤ k → k < a + n → b ≤ l → l < b + m → overlap k 1 l 1 ≡ true → overlap a n b m ≡ true
wide a n b m k l p q r s h = grind (arith, nat_tests)

module _ (stands : ObjName → ℕ → Bool) where
  whole : (i j p q : Item) → stands_for i p ≡ true → stands_for j q ≡ true → conflicts_one stands p q ≡ true → conflicts_one stands i j ≡ true
  whole (Read x a n) j p q hp hq h =
      let k = as_read x a n p hp in
      absurd (let e : conflicts_one stands (Read x k.0 1) q ≡ true = ap (λ (r : Item). conflicts_one stands r q) k.3 ∙ h in cc)
  whole (Write x a n) (Read y b m) p q hp hq h =
      let k = as_write x a n p hp in
      let l = as_read y b m q hq in
      let c : (same_object x y && overlap k.0 1 l.0 1) ≡ true = (λ t. conflicts_one stands (k.3 t) (l.3 t)) ∙ h in
      both _ _ (and_left (same_object x y) _ c) (wide a n b m k.0 l.0 k.1 k.2 l.1 l.2 (and_right (same_object x y) _ c))
  whole (Write x a n) (Write y b m) p q hp hq h =
      let k = as_write x a n p hp in
      let l = as_write y b m q hq in
      let c : (same_object x y && overlap k.0 1 l.0 1) ≡ true = (λ t. conflicts_one stands (k.3 t) (l.3 t)) ∙ h in
      both _ _ (and_left (same_object x y) _ c) (wide a n b m k.0 l.0 k.1 k.2 l.1 l.2 (and_right (same_object x y) _ c))
  whole (Write x a n) j p q hp hq h =
      let k = as_write x a n p hp in
      let f : j ≡ q = alone j q refl hq in
      absurd (let e : conflicts_one stands (Write x k.0 1) j ≡ true = (λ t. conflicts_one stands (k.3 t) (f t)) ∙ h in cc)
  whole i (Read y b m) p q hp hq h =
      let l = as_read y b m q hq in
      let f : i ≡ p = alone i p refl hp in
      absurd (let e : conflicts_one stands i (Read y l.0 1) ≡ true = (λ t. conflicts_one stands (f t) (l.3 t)) ∙ h in cc)
  whole i (Write y b m) p q hp hq h =
      let l = as_write y b m q hq in
      let f : i ≡ p = alone i p refl hp in
      absurd (let e : conflicts_one stands i (Write y l.0 1) ≡ true = (λ t. conflicts_one stands (f t) (l.3 t)) ∙ h in cc)
  whole i j p q hp hq h =
      let e : i ≡ p = alone i p refl hp in
      let f : j ≡ q = alone j q refl hq in
      (λ t. conflicts_one stands (e t) (f t)) ∙ h

  pub stand_conflict : (i j p q : Item) → stands_for i p ≡ true → stands_for j q ≡ true → items_conflict stands p q ≡ true → items_conflict stands i j ≡ true
  stand_conflict i j p q hp hq h =
      ⊎_elim (λ one. or_left _ _ (whole i j p q hp hq one)) (λ two. or_right (conflicts_one stands i j) _ (whole j i q p hq hp two))
      (or_split (conflicts_one stands p q) (conflicts_one stands q p) h)

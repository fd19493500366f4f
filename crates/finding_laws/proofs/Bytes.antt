-- Items of a list, a byte at a time, and footprints that have them.
use Rattle.std.proofs.Common.{
  ◌≡◌,
  ◌⊎◌,
  inl,
  inr,
  ⊎_elim,
  ◌≤◌,
  ◌<◌,
  ◌+◌,
  ◌-◌,
  ◌^◌,
  min,
  ◌==◌,
  ℕ,
  zero,
  suc,
  Bool,
  true,
  false,
  ◌&&◌,
  ◌||◌,
  List,
  [],
  ◌∷◌,
  ◌++◌,
  refl,
  sym,
  ap,
  ◌∙◌,
  subst,
  arith,
  append_assoc,
}
use Rattle.std.specs.Prelude.{nat_lt, nat_le}
use Rattle.std.proofs.lemmas.Bool.Decides.{nat_tests}
use Rattle.ub_base.specs.Names.{same_object, same_event}
use Rattle.ub_base.proofs.NameLemmas.{same_object_refl, same_object_is, same_event_refl, same_event_is}
use Rattle.ub_base.specs.declared.names.ObjName.{ObjName}
use Rattle.ub_base.specs.declared.names.Item.{Item}
use Rattle.ub_base.specs.declared.names.Item.TheVariants.{Read, Write, Born, Dies, Alive, Expose, Lookup, Narrow, Input, Output, Ending, Any}
use Rattle.footprint.specs.Holds.{holds, stands_for}
use Rattle.footprint.specs.Ranges.{range_has}
use Rattle.c_model.specs.Keys.{each_byte, by_bytes, all_by_bytes}
use Rattle.finding_laws.specs.Footprints.{IsAmong, IsWithin, EmptyIsNone, AddIsMore, UnionIsBoth}
use Rattle.finding_laws.proofs.OneItem.{IsByte}

pub left_of : (is js : List Item) (i : Item) → IsAmong is i → IsAmong (is ++ js) i
left_of [] js i h = absurd h
left_of (k ∷ is) js i h = ⊎_elim (λ e. inl e) (λ t. inr (left_of is js i t)) h

pub right_of : (is js : List Item) (i : Item) → IsAmong js i → IsAmong (is ++ js) i
right_of [] js i h = h
right_of (k ∷ is) js i h = inr (right_of is js i h)

pub one_of : (is js : List Item) (i : Item) → IsAmong (is ++ js) i → IsAmong is i ⊎ IsAmong js i
one_of [] js i h = inr h
one_of (k ∷ is) js i h = ⊎_elim (λ e. inl (inl e)) (λ t. ⊎_elim (λ l. inl (inr l)) (λ r. inr r) (one_of is js i t)) h

-- ---- each item is of one byte
read_byte : (x : ObjName) (a n : ℕ) (i : Item) → IsAmong (each_byte (λ b. Read x b 1) a n) i → IsByte i
read_byte x a zero i h = absurd h
read_byte x a (suc n) i h = ⊎_elim (λ e. subst IsByte e refl) (λ t. read_byte x (suc a) n i t) h

write_byte : (x : ObjName) (a n : ℕ) (i : Item) → IsAmong (each_byte (λ b. Write x b 1) a n) i → IsByte i
write_byte x a zero i h = absurd h
write_byte x a (suc n) i h = ⊎_elim (λ e. subst IsByte e refl) (λ t. write_byte x (suc a) n i t) h

own_byte : (j i : Item) → IsByte j → IsAmong (j ∷ []) i → IsByte i
own_byte j i own h = ⊎_elim (λ e. subst IsByte e own) (λ t. absurd t) h

one_byte : (j i : Item) → IsAmong (by_bytes j) i → IsByte i
one_byte (Read x a n) i h = read_byte x a n i h
one_byte (Write x a n) i h = write_byte x a n i h
one_byte (Born x) i h = own_byte (Born x) i tt h
one_byte (Dies x) i h = own_byte (Dies x) i tt h
one_byte (Alive x) i h = own_byte (Alive x) i tt h
one_byte (Expose x) i h = own_byte (Expose x) i tt h
one_byte (Lookup a) i h = own_byte (Lookup a) i tt h
one_byte (Narrow d x) i h = own_byte (Narrow d x) i tt h
one_byte Input i h = own_byte Input i tt h
one_byte Output i h = own_byte Output i tt h
one_byte Ending i h = own_byte Ending i tt h
one_byte Any i h = own_byte Any i tt h

pub are_bytes : (is : List Item) (i : Item) → IsAmong (all_by_bytes is) i → IsByte i
are_bytes [] i h = absurd h
are_bytes (j ∷ is) i h = ⊎_elim (λ l. one_byte j i l) (λ r. are_bytes is i r) (one_of (by_bytes j) (all_by_bytes is) i h)

-- ---- what an item stands for is what it is a byte at a time
and_left : (p q : Bool) → p && q ≡ true → p ≡ true
and_left true q h = refl
and_left false q h = h

and_right : (p q : Bool) → p && q ≡ true → q ≡ true
and_right true q h = h
and_right false q h = absurd (cc)

both : (p q : Bool) → p ≡ true → q ≡ true → p && q ≡ true
both p q h k = (λ i. h i && k i)

read_among : (x : ObjName) (a n b : ℕ) → a ≤ b → b < a + n → IsAmong (each_byte (λ c. Read x c 1) a n) (Read x b 1)
read_among x a zero b low high = absurd (omega arith)
read_among x a (suc n) b low high = ⊎_elim (λ e. inl (ap (λ (c : ℕ). Read x c 1) e)) (λ lt. inr (read_among x (suc a) n b lt (omega arith))) (split a b low)
  where
    split : (m k : ℕ) → m ≤ k → (m ≡ k) ⊎ (suc m ≤ k)
    split m k le = grind arith

write_among : (x : ObjName) (a n b : ℕ) → a ≤ b → b < a + n → IsAmong (each_byte (λ c. Write x c 1) a n) (Write x b 1)
write_among x a zero b low high = absurd (omega arith)
write_among x a (suc n) b low high = ⊎_elim (λ e. inl (ap (λ (c : ℕ). Write x c 1) e)) (λ lt. inr (write_among x (suc a) n b lt (omega arith))) (split a b low)
  where
    split : (m k : ℕ) → m ≤ k → (m ≡ k) ⊎ (suc m ≤ k)
    split m k le = grind arith

-- the tests of one byte of a range
in_range : (x y : ObjName) (a n b m : ℕ) → a + n < 2 ^ 64 → (m == 1) && range_has ((x, a), min (a + n) (2 ^ 64 - 1)) y b ≡ true →
    (x ≡ y) × (1 ≡ m) × (a ≤ b) × (b < a + n)
in_range x y a n b m within h =
    let range = and_right (m == 1) _ h in
    let bounds = and_right (same_object x y) _ range in (
      same_object_is x y (and_left (same_object x y) _ range),
      one m (and_left (m == 1) _ h),
      below_by a b (and_left _ _ bounds),
      under b n (and_right _ _ bounds),
    )
  where
    one : (k : ℕ) → (k == 1) ≡ true → 1 ≡ k
    one k e = grind (arith, nat_tests)

    below_by : (k l : ℕ) → nat_le k l ≡ true → k ≤ l
    below_by k l e = grind (arith, nat_tests)

    under : (k l : ℕ) → nat_lt k (min (a + n) (2 ^ 64 - 1)) ≡ true → k < a + n
    under k l e = grind (arith, nat_tests)

-- a byte of a range is stood for
in_by : (x : ObjName) (a n b : ℕ) → a + n < 2 ^ 64 → a ≤ b → b < a + n → range_has ((x, a), min (a + n) (2 ^ 64 - 1)) x b ≡ true
in_by x a n b within low high = both (same_object x x) _ (same_object_refl x) (both (nat_le a b) _ (up_to a b low) (under b high))
  where
    up_to : (k l : ℕ) → k ≤ l → nat_le k l ≡ true
    up_to k l h = grind (arith, nat_tests)

    under : (k : ℕ) → k < a + n → nat_lt k (min (a + n) (2 ^ 64 - 1)) ≡ true
    under k h = grind (arith, nat_tests)

stood_read : (x : ObjName) (a n c m : ℕ) (i : Item) → a + n < 2 ^ 64 → a ≤ c → c + m ≤ a + n → IsAmong (each_byte (λ b. Read x b 1) c m) i →
    stands_for (Read x a n) i ≡ true
stood_read x a n c zero i within low high h = absurd h
stood_read x a n c (suc m) i within low high h =
    ⊎_elim (λ e. subst (λ (j : Item). stands_for (Read x a n) j ≡ true) e (in_by x a n c within low (omega arith)))
    (λ t. stood_read x a n (suc c) m i within (omega arith) (omega arith) t) h

stood_write : (x : ObjName) (a n c m : ℕ) (i : Item) → a + n < 2 ^ 64 → a ≤ c → c + m ≤ a + n → IsAmong (each_byte (λ b. Write x b 1) c m) i →
    stands_for (Write x a n) i ≡ true
stood_write x a n c zero i within low high h = absurd h
stood_write x a n c (suc m) i within low high h =
    ⊎_elim (λ e. subst (λ (j : Item). stands_for (Write x a n) j ≡ true) e (in_by x a n c within low (omega arith)))
    (λ t. stood_write x a n (suc c) m i within (omega arith) (omega arith) t) h

own_stood : (j i : Item) → stands_for j j ≡ true → IsAmong (j ∷ []) i → stands_for j i ≡ true
own_stood j i own h = ⊎_elim (λ e. subst (λ (k : Item). stands_for j k ≡ true) e own) (λ t. absurd t) h

stood_for : (j i : Item) → IsWithin j → IsAmong (by_bytes j) i → stands_for j i ≡ true
stood_for (Read x a n) i within h = stood_read x a n a n i within (omega arith) (omega arith) h
stood_for (Write x a n) i within h = stood_write x a n a n i within (omega arith) (omega arith) h
stood_for (Born x) i within h = own_stood (Born x) i (same_object_refl x) h
stood_for (Dies x) i within h = own_stood (Dies x) i (same_object_refl x) h
stood_for (Alive x) i within h = own_stood (Alive x) i (same_object_refl x) h
stood_for (Expose x) i within h = own_stood (Expose x) i (same_object_refl x) h
stood_for (Lookup a) i within h = own_stood (Lookup a) i (itself a) h
  where
    itself : (k : ℕ) → (k == k) ≡ true
    itself k = grind (arith, nat_tests)
stood_for (Narrow d x) i within h = own_stood (Narrow d x) i (both _ _ (same_event_refl d) (same_object_refl x)) h
stood_for Input i within h = own_stood Input i refl h
stood_for Output i within h = own_stood Output i refl h
stood_for Ending i within h = own_stood Ending i refl h
stood_for Any i within h = own_stood Any i refl h

-- what an item stands for is among its bytes
in_bytes : (j i : Item) → IsWithin j → stands_for j i ≡ true → IsAmong (by_bytes j) i
in_bytes (Read x a n) (Read y b m) within h =
    let r = in_range x y a n b m within h in
    subst (λ (i : Item). IsAmong (each_byte (λ c. Read x c 1) a n) i) (λ t. Read (r.0 t) b (r.1 t)) (read_among x a n b r.2 r.3)
in_bytes (Write x a n) (Write y b m) within h =
    let r = in_range x y a n b m within h in
    subst (λ (i : Item). IsAmong (each_byte (λ c. Write x c 1) a n) i) (λ t. Write (r.0 t) b (r.1 t)) (write_among x a n b r.2 r.3)
in_bytes (Born x) (Born y) within h = inl (ap Born (same_object_is x y h))
in_bytes (Dies x) (Dies y) within h = inl (ap Dies (same_object_is x y h))
in_bytes (Alive x) (Alive y) within h = inl (ap Alive (same_object_is x y h))
in_bytes (Expose x) (Expose y) within h = inl (ap Expose (same_object_is x y h))
in_bytes (Lookup a) (Lookup b) within h = inl (ap Lookup (same a b h))
  where
    same : (k l : ℕ) → (k == l) ≡ true → k ≡ l
    same k l e = grind (arith, nat_tests)
in_bytes (Narrow d x) (Narrow e y) within h =
    let event = same_event_is d e (and_left (same_event d e) _ h) in
    let object = same_object_is x y (and_right (same_event d e) _ h) in
    inl (λ t. Narrow (event t) (object t))
in_bytes Input Input within h = inl refl
in_bytes Output Output within h = inl refl
in_bytes Ending Ending within h = inl refl
in_bytes Any Any within h = inl refl
in_bytes _ _ within h = absurd (cc)

-- ---- footprints
or_split : (p q : Bool) → p || q ≡ true → (p ≡ true) ⊎ (q ≡ true)
or_split true q h = inl refl
or_split false q h = inr h

or_left : (p q : Bool) → p ≡ true → p || q ≡ true
or_left p q h = ap (λ r. r || q) h

or_right : (p q : Bool) → q ≡ true → p || q ≡ true
or_right true q h = refl
or_right false q h = h

pub empty_is : EmptyIsNone
empty_is f none i = (λ h. absurd (let e = none i in cc), λ h. absurd h)

pub add_is : AddIsMore
add_is f g item is within has now i = (
  λ h. ⊎_elim (λ old. right_of (by_bytes item) (all_by_bytes is) i ((has i).0 old))
      (λ new. left_of (by_bytes item) (all_by_bytes is) i (in_bytes item i within new))
      (or_split (holds f i) (stands_for item i) (sym (now i) ∙ h)),
  λ h. now i ∙ ⊎_elim (λ new. or_right (holds f i) (stands_for item i) (stood_for item i within new))
      (λ old. or_left (holds f i) (stands_for item i) ((has i).1 old))
      (one_of (by_bytes item) (all_by_bytes is) i h),
)

by_parts : (is js : List Item) → all_by_bytes (is ++ js) ≡ all_by_bytes is ++ all_by_bytes js
by_parts [] js = refl
by_parts (i ∷ is) js = ap (λ (l : List Item). by_bytes i ++ l) (by_parts is js) ∙ sym (append_assoc (by_bytes i) (all_by_bytes is) (all_by_bytes js))

pub union_is : UnionIsBoth
union_is f g h is js hf hg now i = (
  λ e. subst (λ (l : List Item). IsAmong l i) (sym (by_parts is js))
      (⊎_elim (λ one. left_of (all_by_bytes is) (all_by_bytes js) i ((hf i).0 one))
      (λ other. right_of (all_by_bytes is) (all_by_bytes js) i ((hg i).0 other))
      (or_split (holds f i) (holds g i) (sym (now i) ∙ e))),
  λ e. now i ∙ ⊎_elim (λ one. or_left (holds f i) (holds g i) ((hf i).1 one)) (λ other. or_right (holds f i) (holds g i) ((hg i).1 other))
      (one_of (all_by_bytes is) (all_by_bytes js) i (subst (λ (l : List Item). IsAmong l i) (by_parts is js) e)),
)

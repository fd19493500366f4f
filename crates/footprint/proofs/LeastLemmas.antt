-- The order of pairs is total, and the lesser of two least pairs is the least of both.
use Rattle.std.proofs.Common.{
  ◌≡◌,
  ◌⊎◌,
  inl,
  inr,
  ⊎_elim,
  ℕ,
  ◌≤◌,
  ◌<◌,
  ◌||◌,
  IfSome,
  arith,
  Bool,
  true,
  false,
  cond,
  refl,
  sym,
  ap,
  ◌∙◌,
  subst,
  List,
  [],
  ◌∷◌,
  reverse,
  Some,
  None,
  Option,
}
use Rattle.std.specs.declared.cmp.Ordering.{Ordering}
use Rattle.std.specs.declared.cmp.Ordering.TheVariants.{Less, Equal, Greater}
use Rattle.std.specs.Ordering.{nat_cmp, ordering_then, ordering_reverse, is_lt}
use Rattle.std.specs.Cmp.{IsTotalOrder}
use Rattle.std.specs.Cmp.Lexicographic.{slice_cmp}
use Rattle.std.proofs.lemmas.Cmp.{on_total, then_total, lists_total, nat_cmp_total, tied_itself, alike_right}
use Rattle.ub_base.specs.declared.names.Event.{Event}
use Rattle.ub_base.specs.declared.names.ObjName.{ObjName}
use Rattle.ub_base.specs.declared.names.Item.{Item}
use Rattle.ub_base.specs.Frames.{Row, Path, path_of}
use Rattle.c_names.specs.Orders.{step_cmp, steps_cmp, frame_cmp, kind_rank, event_cmp, object_rank, place_frame, place_turn, place_number, object_cmp}
use Rattle.c_names.proofs.OrderLemmas.{objects_by_place, four_then}
use Rattle.footprint.specs.Least.{item_rank, item_event, item_object, item_number, item_cmp, pair_cmp, IsLeast, lesser, byte_cmp, Reaches}
use Rattle.footprint.specs.declared.span.Byte.{Byte}
use Rattle.footprint.specs.Ranges.{range_has, has_byte, IsFirstByte}
use Rattle.ub_base.specs.Names.{same_object}
use Rattle.ub_base.proofs.NameLemmas.{same_object_is}
use Rattle.footprint.proofs.RangeStarts.{and_left, and_right, within, or_true, first_of_or, or_split}
use Rattle.std.proofs.lemmas.Bool.Decides.{nat_tests}

step_total : IsTotalOrder step_cmp
step_total = then_total (on_total (λ (s : ℕ × ℕ). s.0) nat_cmp_total) (on_total (λ (s : ℕ × ℕ). s.1) nat_cmp_total)

steps_is : (p q : Path) → slice_cmp step_cmp p q ≡ steps_cmp p q
steps_is [] [] = refl
steps_is [] (t ∷ q) = refl
steps_is (s ∷ p) [] = refl
steps_is (s ∷ p) (t ∷ q) = ap (ordering_then (step_cmp s t)) (steps_is p q)

steps_total : IsTotalOrder steps_cmp
steps_total = subst (λ (R : Path → Path → Ordering). IsTotalOrder R) (λ i p q. steps_is p q i) (lists_total step_total)

frame_total : (rows : List Row) → IsTotalOrder (frame_cmp rows)
frame_total rows = on_total (λ (f : ℕ). reverse (path_of rows f)) steps_total

pub event_total : (rows : List Row) → IsTotalOrder (event_cmp rows)
event_total rows =
    then_total (on_total (λ (e : Event). e.frame.0) (frame_total rows))
    (then_total (on_total (λ (e : Event). e.turn) nat_cmp_total)
    (then_total (on_total (λ (e : Event). e.node) nat_cmp_total) (on_total (λ (e : Event). kind_rank e.kind) nat_cmp_total)))

place_cmp : List Row → ObjName → ObjName → Ordering
place_cmp rows o p = ordering_then (nat_cmp (object_rank o) (object_rank p))
    (ordering_then (frame_cmp rows (place_frame o) (place_frame p))
    (ordering_then (nat_cmp (place_turn o) (place_turn p)) (nat_cmp (place_number o) (place_number p))))

place_total : (rows : List Row) → IsTotalOrder (place_cmp rows)
unfolding place_cmp
place_total rows =
    then_total (on_total object_rank nat_cmp_total)
    (then_total (on_total place_frame (frame_total rows)) (then_total (on_total place_turn nat_cmp_total) (on_total place_number nat_cmp_total)))

place_is : (rows : List Row) (o p : ObjName) → place_cmp rows o p ≡ object_cmp rows o p
unfolding place_cmp
place_is rows o p = objects_by_place rows o p

pub object_total : (rows : List Row) → IsTotalOrder (object_cmp rows)
object_total rows = subst (λ (R : ObjName → ObjName → Ordering). IsTotalOrder R) (λ i o p. place_is rows o p i) (place_total rows)

pub byte_total : (rows : List Row) → IsTotalOrder (byte_cmp rows)
byte_total rows = then_total (on_total (λ (b : ObjName × ℕ). b.0) (object_total rows)) (on_total (λ (b : ObjName × ℕ). b.1) nat_cmp_total)

pub item_total : (rows : List Row) → IsTotalOrder (item_cmp rows)
item_total rows =
    then_total (on_total item_rank nat_cmp_total)
    (then_total (on_total item_event (event_total rows)) (then_total (on_total item_object (object_total rows)) (on_total item_number nat_cmp_total)))

pub pair_total : (rows : List Row) → IsTotalOrder (pair_cmp rows)
pair_total rows = then_total (on_total (λ (p : Item × Item). p.0) (item_total rows)) (on_total (λ (p : Item × Item). p.1) (item_total rows))

-- ---- what is not less than the lesser is not less than the other
module _ {K : Type 0} (R : K → K → Ordering) (o : IsTotalOrder R) where
  by_order : (r : Ordering) (p q x : K) → R q p ≡ r → (is_lt r ≡ false) → R x p ≡ Less → R x q ≡ Less
  by_order Less p q x e h lt = absurd (cc)
  by_order Equal p q x e h lt = alike_right o q p x e ∙ lt
  by_order Greater p q x e h lt = o.trans x p q lt (o.antisymm p q ∙ ap ordering_reverse e)

  -- q isn't less than p, and x isn't less than q
  pub not_less_first : (p q x : K) → is_lt (R q p) ≡ false → (R x q ≡ Less → ⊥) → R x p ≡ Less → ⊥
  not_less_first p q x h none lt = none (by_order (R q p) p q x refl h lt)

  is_less : (r : Ordering) → is_lt r ≡ true → r ≡ Less
  is_less Less h = refl
  is_less Equal h = absurd (cc)
  is_less Greater h = absurd (cc)

  -- q is less than p, and x isn't less than p
  pub not_less_second : (p q x : K) → is_lt (R q p) ≡ true → (R x p ≡ Less → ⊥) → R x q ≡ Less → ⊥
  not_less_second p q x h none lt = none (o.trans x q p lt (is_less (R q p) h))

  pub not_itself : (x : K) → R x x ≡ Less → ⊥
  not_itself x h = let e = tied_itself o x in absurd (cc)

both_by : (b : Bool) (rows : List Row) (P Q : Item → Item → Type 0) (p q : Item × Item) → is_lt (pair_cmp rows q p) ≡ b → IsLeast rows P (Some p) →
    IsLeast rows Q (Some q) → IsLeast rows (λ i j. P i j ⊎ Q i j) (cond b (Some q) (Some p))
both_by true rows P Q p q h hp hq = (
  inr hq.0,
  λ i j one. elim one as (λ s. pair_cmp rows (i, j) q ≡ Less → ⊥)
      [ inl a ↦ not_less_second (pair_cmp rows) (pair_total rows) p q (i, j) h (hp.1 i j a) | inr b ↦ hq.1 i j b ],
)
both_by false rows P Q p q h hp hq = (
  inl hp.0,
  λ i j one. elim one as (λ s. pair_cmp rows (i, j) p ≡ Less → ⊥)
      [ inl a ↦ hp.1 i j a | inr b ↦ not_less_first (pair_cmp rows) (pair_total rows) p q (i, j) h (hq.1 i j b) ],
)

-- the lesser of the least pairs is the least of both
pub both : (rows : List Row) (P Q : Item → Item → Type 0) (o q : Option (Item × Item)) → IsLeast rows P o → IsLeast rows Q q →
    IsLeast rows (λ i j. P i j ⊎ Q i j) (lesser rows o q)
both rows P Q None None ho hq = λ i j one. elim one as (λ s. ⊥) [ inl a ↦ ho i j a | inr b ↦ hq i j b ]
both rows P Q None (Some q) ho hq = (
  inr hq.0,
  λ i j one. elim one as (λ s. pair_cmp rows (i, j) q ≡ Less → ⊥)
      [ inl a ↦ absurd (ho i j a) | inr b ↦ hq.1 i j b ],
)
both rows P Q (Some p) None ho hq = (
  inl ho.0,
  λ i j one. elim one as (λ s. pair_cmp rows (i, j) p ≡ Less → ⊥)
      [ inl a ↦ ho.1 i j a | inr b ↦ absurd (hq i j b) ],
)
both rows P Q (Some p) (Some q) ho hq = both_by (is_lt (pair_cmp rows q p)) rows P Q p q refl ho hq

-- the same pairs by another word
pub alike : (rows : List Row) (P Q : Item → Item → Type 0) (o : Option (Item × Item)) → ((i j : Item) → P i j → Q i j) →
    ((i j : Item) → Q i j → P i j) → IsLeast rows P o → IsLeast rows Q o
alike rows P Q None there back h = λ i j q. h i j (back i j q)
alike rows P Q (Some p) there back h = (there p.0 p.1 h.0, λ i j q. h.1 i j (back i j q))

pub four_from : (f t n k a b c : Ordering) {F T N K : Ordering} → a ≡ ordering_then f t → b ≡ ordering_then a n → c ≡ ordering_then b k → f ≡ F → t ≡ T →
    n ≡ N → k ≡ K → c ≡ ordering_then F (ordering_then T (ordering_then N K))
four_from f t n k a b c ea eb ec hf ht hn hk =
    ec ∙ ap (λ o. ordering_then o k) (eb ∙ ap (λ o. ordering_then o n) ea) ∙ four_then f t n k k refl ∙
    (λ i. ordering_then (hf i) (ordering_then (ht i) (ordering_then (hn i) (hk i))))

-- ---- bytes
-- the byte found so far isn't greater than this one
pub not_less_own : (rows : List Row) (x : ObjName) (i at : ℕ) → at ≤ i → byte_cmp rows (x, i) (x, at) ≡ Less → ⊥
not_less_own rows x i at le h =
    let e : nat_cmp i at ≡ Less = ap (λ o. ordering_then o (nat_cmp i at)) (sym (tied_itself (object_total rows) x)) ∙ h in
    not_below i at le e
  where
    not_below : (m n : ℕ) → n ≤ m → nat_cmp m n ≡ Less → ⊥
    not_below m n to e = grind (arith, nat_tests)

pub kept_reach : (rows : List Row) (byte old : Byte) (x : ObjName) (i : ℕ) → is_lt (byte_cmp rows (byte.object, byte.at) (old.object, old.at)) ≡ true →
    Reaches rows (Some old) x i → Reaches rows (Some byte) x i
kept_reach rows byte old x i lt h = not_less_second (byte_cmp rows) (byte_total rows) (old.object, old.at) (byte.object, byte.at) (x, i) lt h

pub own_reach : (rows : List Row) (byte old : Byte) (x : ObjName) (i : ℕ) → is_lt (byte_cmp rows (byte.object, byte.at) (old.object, old.at)) ≡ false →
    Reaches rows (Some byte) x i → Reaches rows (Some old) x i
own_reach rows byte old x i apart h = not_less_first (byte_cmp rows) (byte_total rows) (old.object, old.at) (byte.object, byte.at) (x, i) apart h

pub first_reaches : (rows : List Row) (rs : List ((ObjName × ℕ) × ℕ)) (x : ObjName) (s t at : ℕ) → IsFirstByte rs x s t (Some at) →
    (y : ObjName) (i : ℕ) → range_has ((x, s), t) y i ≡ true → has_byte rs y i ≡ true → byte_cmp rows (y, i) (x, at) ≡ Less → ⊥
first_reaches rows rs x s t at first y i r h =
    let own : x ≡ y = same_object_is x y (and_left _ _ r) in
    let bounds = within s i t (and_right (same_object x y) _ r) in
    subst (λ (z : ObjName). byte_cmp rows (z, i) (x, at) ≡ Less → ⊥) own
    (not_less_own rows x i at (late bounds.0 (subst (λ (z : ObjName). has_byte rs z i ≡ true) (sym own) h)))
  where
    late : s ≤ i → has_byte rs x i ≡ true → at ≤ i
    late from there = ⊎_elim (λ le. le) (λ lt. let gone = first.3 i from lt in absurd (cc)) (either at i)
      where
        either : (a b : ℕ) → (a ≤ b) ⊎ (b < a)
        either a b = grind arith

module _ (rows : List Row) (few many rest more : List ((ObjName × ℕ) × ℕ)) (r : (ObjName × ℕ) × ℕ) (e : rest ≡ r ∷ more)
    (part : (x : ObjName) (i : ℕ) → has_byte rest x i ≡ true → has_byte few x i ≡ true) where
  at_rest : (x : ObjName) (i : ℕ) → (range_has r x i || has_byte more x i) ≡ true → has_byte rest x i ≡ true
  at_rest x i h = ap (λ (rs : List ((ObjName × ℕ) × ℕ)). has_byte rs x i) e ∙ h

  pub part_turn : (x : ObjName) (i : ℕ) → has_byte more x i ≡ true → has_byte few x i ≡ true
  part_turn x i h = part x i (at_rest x i (or_true (range_has r x i) (has_byte more x i) h))

  pub shared_turn : (best result : Option Byte) → IfSome best (λ b. (has_byte few b.object b.at ≡ true) × (has_byte many b.object b.at ≡ true)) →
      IfSome result (λ b. (best ≡ Some b) ⊎ ((range_has r b.object b.at ≡ true) × (has_byte many b.object b.at ≡ true))) →
      IfSome result (λ b. (has_byte few b.object b.at ≡ true) × (has_byte many b.object b.at ≡ true))
  shared_turn best None h from = from
  shared_turn best (Some b) h from =
      ⊎_elim
      (λ old. subst (λ (o : Option Byte). IfSome o (λ b. (has_byte few b.object b.at ≡ true) × (has_byte many b.object b.at ≡ true))) old h)
      (λ new. (part b.object b.at (at_rest b.object b.at (first_of_or (range_has r b.object b.at) (has_byte more b.object b.at) new.0)), new.1))
      from

  pub left_turn : (best result : Option Byte) →
      ((x : ObjName) (i : ℕ) → has_byte few x i ≡ true → has_byte many x i ≡ true → (has_byte rest x i ≡ true) ⊎ Reaches rows best x i) →
      ((x : ObjName) (i : ℕ) → Reaches rows best x i → Reaches rows result x i)
      → ((x : ObjName) (i : ℕ) → range_has r x i ≡ true → has_byte many x i ≡ true → Reaches rows result x i)
      → (x : ObjName) (i : ℕ) → has_byte few x i ≡ true → has_byte many x i ≡ true → (has_byte more x i ≡ true) ⊎ Reaches rows result x i
  left_turn best result left kept own x i hf hm =
      ⊎_elim
      (λ there. or_split (range_has r x i) (has_byte more x i) (sym (ap (λ (rs : List ((ObjName × ℕ) × ℕ)). has_byte rs x i) e) ∙ there)
      (λ t. inr (own x i t hm)) (λ t. inl t))
      (λ reach. inr (kept x i reach))
      (left x i hf hm)

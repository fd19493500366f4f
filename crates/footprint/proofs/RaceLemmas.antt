-- The least pair of accesses of one byte.
use Rattle.std.proofs.Common.{◌≡◌, ◌⊎◌, inl, inr, ⊎_elim, ℕ, ◌||◌, ◌&&◌, IfSome, arith, Bool, true, false, refl, sym, ap, ◌∙◌, subst, List, Some, None, Option}
use Rattle.std.specs.Prelude.{◌==◌, ◌↔◌, IsTrue}
use Rattle.std.specs.declared.cmp.Ordering.{Ordering}
use Rattle.std.specs.declared.cmp.Ordering.TheVariants.{Less, Equal, Greater}
use Rattle.std.specs.Ordering.{ordering_then}
use Rattle.std.proofs.lemmas.Cmp.{tied_itself}
use Rattle.std.proofs.lemmas.Bool.Decides.{nat_tests}
use Rattle.ub_base.specs.declared.names.ObjName.{ObjName}
use Rattle.ub_base.specs.declared.names.Item.{Item}
use Rattle.ub_base.specs.declared.names.Item.TheVariants.{Read, Write}
use Rattle.ub_base.specs.Names.{same_object}
use Rattle.ub_base.specs.Frames.{Row}
use Rattle.ub_base.proofs.NameLemmas.{same_object_is}
use Rattle.footprint.specs.declared.foot.Foot.{Foot}
use Rattle.footprint.specs.declared.span.Byte.{Byte}
use Rattle.footprint.specs.Ranges.{has_byte, Meet}
use Rattle.addr_map.specs.Conflict.{is_access, overlap}
use Rattle.footprint.specs.Conflicts.{MayConflict}
use Rattle.footprint.specs.Found.{RaceIn, SomeRace}
use Rattle.footprint.specs.Least.{no_event, item_cmp, pair_cmp, IsLeast, lesser, byte_cmp, IsLeastShared, read_at, write_at, paired}
use Rattle.footprint.proofs.Pairs.{read_written, written_read, written_twice}
use Rattle.footprint.proofs.LeastLemmas.{event_total, both, alike}
use Rattle.footprint.proofs.RangeStarts.{and_left, and_right}

-- accesses of one byte of both
abbrev pub Shared : List ((ObjName × ℕ) × ℕ) → List ((ObjName × ℕ) × ℕ) → (ObjName → ℕ → Item) → (ObjName → ℕ → Item) → Item → Item → Type 0
Shared rs ss f g i j = (x : ObjName) × (k : ℕ) × (has_byte rs x k ≡ true) × (has_byte ss x k ≡ true) × (i ≡ f x k) × (j ≡ g x k)

reads_by_byte : (rows : List Row) (x y : ObjName) (i j : ℕ) → item_cmp rows (read_at x i) (read_at y j) ≡ byte_cmp rows (x, i) (y, j)
reads_by_byte rows x y i j = ap (λ o. ordering_then o (byte_cmp rows (x, i) (y, j))) (tied_itself (event_total rows) no_event)

writes_by_byte : (rows : List Row) (x y : ObjName) (i j : ℕ) → item_cmp rows (write_at x i) (write_at y j) ≡ byte_cmp rows (x, i) (y, j)
writes_by_byte rows x y i j = ap (λ o. ordering_then o (byte_cmp rows (x, i) (y, j))) (tied_itself (event_total rows) no_event)

twice : (o : Ordering) → ordering_then o o ≡ o
twice Less = refl
twice Equal = refl
twice Greater = refl

module _ (rows : List Row) (f g : ObjName → ℕ → Item) (by_f : (x y : ObjName) (i j : ℕ) → item_cmp rows (f x i) (f y j) ≡ byte_cmp rows (x, i) (y, j))
    (by_g : (x y : ObjName) (i j : ℕ) → item_cmp rows (g x i) (g y j) ≡ byte_cmp rows (x, i) (y, j)) where
  pairs_by_byte : (x y : ObjName) (i j : ℕ) → pair_cmp rows (f x i, g x i) (f y j, g y j) ≡ byte_cmp rows (x, i) (y, j)
  pairs_by_byte x y i j = (λ k. ordering_then (by_f x y i j k) (by_g x y i j k)) ∙ twice (byte_cmp rows (x, i) (y, j))

  pub least_shared : (rs ss : List ((ObjName × ℕ) × ℕ)) (o : Option Byte) → IsLeastShared rows rs ss o → IsLeast rows (Shared rs ss f g) (paired f g o)
  least_shared rs ss None h = λ i j s. h s.0 s.1 s.2 s.3
  least_shared rs ss (Some b) h = (
    (b.object, b.at, h.0, h.1, refl, refl),
    λ i j s lt. h.2 s.0 s.1 s.2 s.3
        (sym (pairs_by_byte s.0 b.object s.1 b.at) ∙ (λ k. pair_cmp rows (sym s.4 k, sym s.5 k) (f b.object b.at, g b.object b.at)) ∙ lt),
  )

-- ---- these are the accesses that conflict
one_byte : (n : ℕ) (h : Bool) → ((n == 1) && h) ≡ true → (n ≡ 1) × (h ≡ true)
one_byte n h e =
    let first : (n == 1) ≡ true = and_left (n == 1) h e in
    (grind (arith, nat_tests), and_right (n == 1) h e)

same_place : (i k : ℕ) → overlap i 1 k 1 ≡ true → i ≡ k
same_place i k h = grind (arith, nat_tests)

or_self : (a : Bool) → (a || false) ≡ true → a ≡ true
or_self true h = refl
or_self false h = h

turned_place : (i k : ℕ) → overlap k 1 i 1 ≡ true → i ≡ k
turned_place i k h = grind (arith, nat_tests)

module _ (a b : Foot) where
  Rw : Item → Item → Type 0
  Rw = Shared a.reads.ends.entries b.writes.ends.entries read_at write_at

  Wr : Item → Item → Type 0
  Wr = Shared a.writes.ends.entries b.reads.ends.entries write_at read_at

  Ww : Item → Item → Type 0
  Ww = Shared a.writes.ends.entries b.writes.ends.entries write_at write_at

  shared_of : (rs ss : List ((ObjName × ℕ) × ℕ)) (f g : ObjName → ℕ → ℕ → Item) (x y : ObjName) (i k n m : ℕ) → ((n == 1) && has_byte rs x i) ≡ true →
      ((m == 1) && has_byte ss y k) ≡ true → (n ≡ 1 → m ≡ 1 → (x ≡ y) × (i ≡ k)) → Shared rs ss (λ z l. f z l 1) (λ z l. g z l 1) (f x i n) (g y k m)
  shared_of rs ss f g x y i k n m hr hs at =
      let r = one_byte n _ hr in
      let s = one_byte m _ hs in
      let same = at r.0 s.0 in (
        x,
        i,
        r.1,
        subst (λ (z : ObjName). has_byte ss z i ≡ true) (sym same.0) (subst (λ (l : ℕ). has_byte ss y l ≡ true) (sym same.1) s.1),
        (λ t. f x i (r.0 t)),
        (λ t. g (sym same.0 t) (sym same.1 t) (s.0 t)),
      )

  place_of : (x y : ObjName) (i k n m : ℕ) → (same_object x y && overlap i n k m) ≡ true → n ≡ 1 → m ≡ 1 → (x ≡ y) × (i ≡ k)
  place_of x y i k n m h en em =
      let over : overlap i n k m ≡ true = and_right (same_object x y) _ h in
      (same_object_is x y (and_left _ _ h), same_place i k ((λ t. overlap i (sym en t) k (sym em t)) ∙ over))

  turned_of : (x y : ObjName) (i k n m : ℕ) → (same_object y x && overlap k m i n) ≡ true → n ≡ 1 → m ≡ 1 → (x ≡ y) × (i ≡ k)
  turned_of x y i k n m h en em =
      let over : overlap k m i n ≡ true = and_right (same_object y x) _ h in
      (sym (same_object_is y x (and_left _ _ h)), turned_place i k ((λ t. overlap k (sym em t) i (sym en t)) ∙ over))

  either_of : (x y : ObjName) (i k n m : ℕ) (p q : Bool) → (same_object x y && overlap i n k m) ≡ p → (same_object y x && overlap k m i n) ≡ q →
      (p || q) ≡ true → n ≡ 1 → m ≡ 1 → (x ≡ y) × (i ≡ k)
  either_of x y i k n m true q hp hq h = place_of x y i k n m hp
  either_of x y i k n m false q hp hq h = turned_of x y i k n m (hq ∙ h)

  race_is : (i j : Item) → RaceIn a b i j → (Rw i j ⊎ Wr i j) ⊎ Ww i j
  unfolding Rw Wr Ww
  race_is (Read x i n) (Read y k m) h = absurd (let c : false ≡ true = h.4 in cc)
  race_is (Read x i n) (Write y k m) h = inl
      (inl (shared_of a.reads.ends.entries b.writes.ends.entries Read Write x y i k n m h.0 h.1 (turned_of x y i k n m h.4)))
  race_is (Read x i n) _ h = absurd (cc)
  race_is (Write x i n) (Read y k m) h = inl
      (inr (shared_of a.writes.ends.entries b.reads.ends.entries Write Read x y i k n m h.0 h.1 (place_of x y i k n m (or_self _ h.4))))
  race_is (Write x i n) (Write y k m) h = inr
      (shared_of a.writes.ends.entries b.writes.ends.entries Write Write x y i k n m h.0 h.1 (either_of x y i k n m _ _ refl refl h.4))
  race_is (Write x i n) _ h = absurd (cc)
  race_is _ j h = absurd (cc)

  race_from : (i j : Item) → (Rw i j ⊎ Wr i j) ⊎ Ww i j → RaceIn a b i j
  unfolding Rw Wr Ww
  race_from i j (inl (inl s)) = subst (λ (p : Item × Item). RaceIn a b p.0 p.1) (λ t. (sym s.4 t, sym s.5 t)) (s.2, s.3, refl, refl, read_written s.0 s.1)
  race_from i j (inl (inr s)) = subst (λ (p : Item × Item). RaceIn a b p.0 p.1) (λ t. (sym s.4 t, sym s.5 t)) (s.2, s.3, refl, refl, written_read s.0 s.1)
  race_from i j (inr s) = subst (λ (p : Item × Item). RaceIn a b p.0 p.1) (λ t. (sym s.4 t, sym s.5 t)) (s.2, s.3, refl, refl, written_twice s.0 s.1)

  pub least_race : (rows : List Row) (first second third : Option Byte) → IsLeastShared rows a.reads.ends.entries b.writes.ends.entries first →
      IsLeastShared rows a.writes.ends.entries b.reads.ends.entries second → IsLeastShared rows a.writes.ends.entries b.writes.ends.entries third
      → IsLeast rows (RaceIn a b) (lesser rows (lesser rows (paired read_at write_at first) (paired write_at read_at second)) (paired write_at write_at third))
  unfolding Rw Wr Ww
  least_race rows first second third hf hs ht =
      alike rows (λ i j. (Rw i j ⊎ Wr i j) ⊎ Ww i j) (RaceIn a b) _ race_from race_is
      (both rows (λ i j. Rw i j ⊎ Wr i j) Ww _ _
      (both rows Rw Wr _ _
      (least_shared rows read_at write_at (reads_by_byte rows) (writes_by_byte rows) _ _ first hf)
      (least_shared rows write_at read_at (writes_by_byte rows) (reads_by_byte rows) _ _ second hs))
      (least_shared rows write_at write_at (writes_by_byte rows) (writes_by_byte rows) _ _ third ht))

pub race_may : (a b : Foot) (rows : List Row) (o : Option (Item × Item)) → IsLeast rows (RaceIn a b) o → IfSome o (λ p. MayConflict p.0 p.1)
race_may a b rows None h = tt
race_may a b rows (Some p) h = h.0.4

pub race_found : (a b : Foot) (rows : List Row) (first second third : Option Byte) (p q r s o : Option (Item × Item)) →
    IsLeastShared rows a.reads.ends.entries b.writes.ends.entries first → IsLeastShared rows a.writes.ends.entries b.reads.ends.entries second →
    IsLeastShared rows a.writes.ends.entries b.writes.ends.entries third
    → p ≡ paired read_at write_at first → q ≡ paired write_at read_at second → r ≡ paired write_at write_at third → s ≡ lesser rows p q →
    o ≡ lesser rows s r → IsLeast rows (RaceIn a b) o
race_found a b rows first second third p q r s o hf hs ht ep eq er es eo =
    subst (λ (x : Option (Item × Item)). IsLeast rows (RaceIn a b) x) (sym (eo ∙ (λ i. lesser rows ((es ∙ (λ k. lesser rows (ep k) (eq k))) i) (er i))))
    (least_race a b rows first second third hf hs ht)

-- ---- whether some do
module _ (a b : Foot) where
  pub race_twice : Meet a.writes.ends.entries b.writes.ends.entries → SomeRace a b
  race_twice m = (write_at m.0 m.1, write_at m.0 m.1, (m.2, m.3, refl, refl, written_twice m.0 m.1))

  pub race_written : Meet a.writes.ends.entries b.reads.ends.entries → SomeRace a b
  race_written m = (write_at m.0 m.1, read_at m.0 m.1, (m.2, m.3, refl, refl, written_read m.0 m.1))

  pub race_read : Meet a.reads.ends.entries b.writes.ends.entries → SomeRace a b
  race_read m = (read_at m.0 m.1, write_at m.0 m.1, (m.2, m.3, refl, refl, read_written m.0 m.1))

  -- where the other two sets of bytes have none in common
  pub only_read : (p q r : Bool) → IsTrue p ↔ Meet a.writes.ends.entries b.writes.ends.entries → IsTrue q ↔ Meet a.writes.ends.entries b.reads.ends.entries →
      IsTrue r ↔ Meet a.reads.ends.entries b.writes.ends.entries → p ≡ false → q ≡ false → SomeRace a b → IsTrue r
  unfolding Rw Wr Ww
  only_read p q r hp hq hr np nq s =
      ⊎_elim
      (λ either. ⊎_elim
      (λ one. hr.1 (one.0, one.1, one.2, one.3))
      (λ one. let t : q ≡ true = hq.1 (one.0, one.1, one.2, one.3) in absurd (cc))
      either)
      (λ one. let t : p ≡ true = hp.1 (one.0, one.1, one.2, one.3) in absurd (cc))
      (race_is a b s.0 s.1 s.2)

pub race_accesses : (a b : Foot) (rows : List Row) (o : Option (Item × Item)) → IsLeast rows (RaceIn a b) o →
    IfSome o (λ p. (is_access p.0 ≡ true) × (is_access p.1 ≡ true))
race_accesses a b rows None h = tt
race_accesses a b rows (Some p) h = (h.0.2, h.0.3)

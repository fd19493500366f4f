-- Items that are backed stand with the questions whether their objects live, a byte at a time.
use Rattle.std.proofs.Common.{◌≡◌, ◌⊎◌, inl, inr, ⊎_elim, ℕ, zero, suc, Bool, true, false, ◌&&◌, ◌||◌, List, [], ◌∷◌, ◌++◌, refl, sym, ap, subst, ◌∙◌}
use Rattle.ub_base.specs.declared.names.ObjName.{ObjName}
use Rattle.ub_base.specs.declared.names.Item.{Item}
use Rattle.ub_base.specs.declared.names.Item.TheVariants.{Read, Write, Alive, Ending}
use Rattle.ub_base.specs.Names.{same_object}
use Rattle.ub_base.proofs.NameLemmas.{same_object_is}
use Rattle.c_model.specs.Keys.{all_by_bytes, by_bytes, each_byte}
use Rattle.mem_laws.specs.Frame.{any_of}
use Rattle.finding_laws.specs.Footprints.{IsAmong}
use Rattle.finding_laws.specs.Forgotten.{AreAsked}
use Rattle.finding_laws.proofs.Bytes.{left_of, one_of, right_of}
use Rattle.order_laws.specs.StrictItems.{all_backed, asks, backed, backed_by}

or_split : (p q : Bool) → (p || q) ≡ true → (p ≡ true) ⊎ (q ≡ true)
or_split true q h = inl refl
or_split false q h = inr h

and_first : (p q : Bool) → (p && q) ≡ true → p ≡ true
and_first true q h = refl
and_first false q h = h

and_second : (p q : Bool) → (p && q) ≡ true → q ≡ true
and_second true q h = h
and_second false q h = absurd (cc)

-- ---- what asks for an object
asks_it : (x : ObjName) (i : Item) → asks i x ≡ true → IsAmong (by_bytes i) (Alive x)
asks_it x (Alive y) h = inl (ap Alive (same_object_is y x h))
asks_it x i h = absurd (cc)

some_asks : (x : ObjName) (is : List Item) → any_of (λ j. asks j x) is ≡ true → IsAmong (all_by_bytes is) (Alive x)
some_asks x [] h = absurd (cc)
some_asks x (i ∷ is) h =
    ⊎_elim (λ one. left_of (by_bytes i) (all_by_bytes is) (Alive x) (asks_it x i one))
    (λ more. right_of (by_bytes i) (all_by_bytes is) (Alive x) (some_asks x is more))
    (or_split (asks i x) (any_of (λ j. asks j x) is) h)

-- ---- the bytes of a range
at_some : (f : ℕ → Item) (a n : ℕ) (i : Item) → IsAmong (each_byte f a n) i → (k : ℕ) × (f k ≡ i)
at_some f a zero i h = absurd h
at_some f a (suc n) i h = ⊎_elim (λ e. (a, e)) (λ t. at_some f (suc a) n i t) h

alone : (j i : Item) → IsAmong (j ∷ []) i → j ≡ i
alone j i h = ⊎_elim (λ e. e) (λ t. absurd t) h

object_of_read : Item → ObjName → ObjName
object_of_read (Read x a n) y = x
object_of_read i y = y

object_of_write : Item → ObjName → ObjName
object_of_write (Write x a n) y = x
object_of_write i y = y

module _ (all : List Item) where
  abbrev Asks : ObjName → Type 0
  Asks x = any_of (λ j. asks j x) all ≡ true

  of_read : (x : ObjName) (a n : ℕ) (i : Item) → backed_by all i ≡ true → IsAmong (by_bytes i) (Read x a n) → Asks x
  unfolding object_of_read
  of_read x a n (Read y b m) k h =
      let r = at_some (λ c. Read y c 1) b m (Read x a n) h in subst Asks (ap (λ j. object_of_read j x) r.1) k
  of_read x a n (Write y b m) k h = let r = at_some (λ c. Write y c 1) b m (Read x a n) h in absurd (let e = r.1 in cc)
  of_read x a n i k h = let e : i ≡ Read x a n = alone i (Read x a n) h in absurd (cc)

  of_write : (x : ObjName) (a n : ℕ) (i : Item) → backed_by all i ≡ true → IsAmong (by_bytes i) (Write x a n) → Asks x
  unfolding object_of_write
  of_write x a n (Write y b m) k h =
      let r = at_some (λ c. Write y c 1) b m (Write x a n) h in subst Asks (ap (λ j. object_of_write j x) r.1) k
  of_write x a n (Read y b m) k h = let r = at_some (λ c. Read y c 1) b m (Write x a n) h in absurd (let e = r.1 in cc)
  of_write x a n i k h = let e : i ≡ Write x a n = alone i (Write x a n) h in absurd (cc)

  reads_ask : (x : ObjName) (a n : ℕ) (is : List Item) → all_backed all is ≡ true → IsAmong (all_by_bytes is) (Read x a n) → Asks x
  reads_ask x a n [] k h = absurd h
  reads_ask x a n (i ∷ is) k h =
      ⊎_elim (λ one. of_read x a n i (and_first (backed_by all i) _ k) one)
      (λ more. reads_ask x a n is (and_second (backed_by all i) _ k) more)
      (one_of (by_bytes i) (all_by_bytes is) (Read x a n) h)

  writes_ask : (x : ObjName) (a n : ℕ) (is : List Item) → all_backed all is ≡ true → IsAmong (all_by_bytes is) (Write x a n) → Asks x
  writes_ask x a n [] k h = absurd h
  writes_ask x a n (i ∷ is) k h =
      ⊎_elim (λ one. of_write x a n i (and_first (backed_by all i) _ k) one)
      (λ more. writes_ask x a n is (and_second (backed_by all i) _ k) more)
      (one_of (by_bytes i) (all_by_bytes is) (Write x a n) h)

pub backed_asks : (is : List Item) → backed is ≡ true → AreAsked is
backed_asks is h = record {
  reads = λ x a n k. some_asks x is (reads_ask is x a n is h k);
  writes = λ x a n k. some_asks x is (writes_ask is x a n is h k);
}

pub none_asks : AreAsked []
none_asks = record { reads = λ x a n h. absurd h; writes = λ x a n h. absurd h }

pub ending_asks : AreAsked (Ending ∷ [])
ending_asks = record {
  reads = λ x a n h. absurd (let e : Ending ≡ Read x a n = alone Ending (Read x a n) h in cc);
  writes = λ x a n h. absurd (let e : Ending ≡ Write x a n = alone Ending (Write x a n) h in cc);
}

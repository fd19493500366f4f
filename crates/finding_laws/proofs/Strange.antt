-- Accesses of an object conflict with no item that has nothing to do with it.
use Rattle.std.proofs.Common.{◌≡◌, ℕ, zero, suc, Bool, true, false, not, cond, ◌&&◌, ◌||◌, List, [], ◌∷◌, ◌++◌, refl, sym, ap, ◌∙◌, subst, Option, Some, None}
use Rattle.ub_base.specs.declared.names.ObjName.{ObjName}
use Rattle.ub_base.specs.declared.names.Item.{Item}
use Rattle.ub_base.specs.declared.names.Item.TheVariants.{Read, Write, Born, Dies, Alive, Expose, Lookup, Narrow, Input, Output, Ending, Any}
use Rattle.ub_base.specs.Names.{same_object}
use Rattle.ub_base.proofs.NameLemmas.{same_object_refl, same_object_is}
use Rattle.addr_map.specs.declared.map.Row.{Row}
use Rattle.addr_map.specs.Conflict.{overlap, conflicts_one, items_conflict, conflicts_with, some_conflict, stands_at}
use Rattle.footprint.specs.Holds.{is_forgotten}
use Rattle.c_model.specs.World.{World}
use Rattle.c_model.specs.Runs.{Entry}
use Rattle.c_model.specs.Findings.{clash}
use Rattle.c_model.specs.Keys.{lesser, least_beside, least_among, each_byte, by_bytes, all_by_bytes}
use Rattle.finding_laws.specs.Forgotten.{without, is_part_of, IsStrangeTo, ForgottenTellNothing}

and_left : (p q : Bool) → p && q ≡ true → p ≡ true
and_left true q h = refl
and_left false q h = h

and_right : (p q : Bool) → p && q ≡ true → q ≡ true
and_right true q h = h
and_right false q h = absurd (cc)

not_true : (b : Bool) → not b ≡ true → b ≡ false
not_true true h = absurd (cc)
not_true false h = refl

abbrev AreStrange : ObjName → List Item → Type 0
AreStrange x [] = Unit {0}
AreStrange x (j ∷ js) = (is_part_of x j ≡ false) × AreStrange x js

abbrev AreForgotten : ObjName → List Item → Type 0
AreForgotten x [] = Unit {0}
AreForgotten x (i ∷ is) = (is_forgotten x i ≡ true) × AreForgotten x is

strange_from : (x : ObjName) (js : List Item) → IsStrangeTo x js → AreStrange x js
strange_from x [] h = tt
strange_from x (j ∷ js) h = (not_true _ (and_left (not (is_part_of x j)) _ h), strange_from x js (and_right (not (is_part_of x j)) _ h))

-- ---- one item
stranger_by : (b : Bool) (x z : ObjName) → same_object z x ≡ b → same_object x z ≡ false → same_object z x ≡ false
stranger_by false x z e h = e
stranger_by true x z e h =
    let same : z ≡ x = same_object_is z x e in
    let back : same_object x z ≡ true = subst (λ (w : ObjName). same_object w z ≡ true) same (same_object_refl z) in
    absurd (cc)

stranger : (x z : ObjName) → same_object x z ≡ false → same_object z x ≡ false
stranger x z h = stranger_by (same_object z x) x z refl h

module _ (stands : ObjName → ℕ → Bool) where
  read_apart : (x : ObjName) (a n : ℕ) (j : Item) → is_part_of x j ≡ false → items_conflict stands (Read x a n) j ≡ false
  read_apart x a n (Write z b m) h = ap (λ c. c && overlap b m a n) (stranger x z h)
  read_apart x a n _ h = refl

  write_apart : (x : ObjName) (a n : ℕ) (j : Item) → is_part_of x j ≡ false → items_conflict stands (Write x a n) j ≡ false
  write_apart x a n (Read z b m) h = ap (λ c. (c && overlap a n b m) || false) h
  write_apart x a n (Write z b m) h = (λ i. (h i && overlap a n b m) || (stranger x z h i && overlap b m a n))
  write_apart x a n _ h = refl

  alive_apart : (x : ObjName) (j : Item) → is_part_of x j ≡ false → items_conflict stands (Alive x) j ≡ false
  alive_apart x (Born z) h = stranger x z h
  alive_apart x (Dies z) h = stranger x z h
  alive_apart x _ h = refl

  own : (P : ObjName → Type 0) (x y : ObjName) → same_object x y ≡ true → P x → P y
  own P x y h p = subst P (same_object_is x y h) p

  apart : (x : ObjName) (i j : Item) → is_forgotten x i ≡ true → is_part_of x j ≡ false → items_conflict stands i j ≡ false
  apart x (Read y a n) j f h = own (λ (z : ObjName). items_conflict stands (Read z a n) j ≡ false) x y f (read_apart x a n j h)
  apart x (Write y a n) j f h = own (λ (z : ObjName). items_conflict stands (Write z a n) j ≡ false) x y f (write_apart x a n j h)
  apart x (Alive y) j f h = own (λ (z : ObjName). items_conflict stands (Alive z) j ≡ false) x y f (alive_apart x j h)
  apart x _ j f h = absurd (cc)

  apart_back : (x : ObjName) (i j : Item) → is_forgotten x i ≡ true → is_part_of x j ≡ false → items_conflict stands j i ≡ false
  apart_back x i j f h = or_swapped (conflicts_one stands j i) (conflicts_one stands i j) ∙ apart x i j f h
    where
      or_swapped : (p q : Bool) → (p || q) ≡ (q || p)
      or_swapped true true = refl
      or_swapped true false = refl
      or_swapped false true = refl
      or_swapped false false = refl

-- ---- lists of items
module _ (rows : List Row) where
  no_conflicts : (x : ObjName) (i : Item) (js : List Item) → is_forgotten x i ≡ true → AreStrange x js → conflicts_with rows i js ≡ false
  no_conflicts x i [] f h = refl
  no_conflicts x i (j ∷ js) f h = (λ t. apart (stands_at rows) x i j f h.0 t || no_conflicts x i js f h.1 t)

  first_some : (b : Bool) (x : ObjName) (i : Item) (is js : List Item) → is_forgotten x i ≡ b → AreStrange x js →
      some_conflict rows (without x is) js ≡ some_conflict rows is js →
      some_conflict rows (cond b (without x is) (i ∷ without x is)) js ≡ some_conflict rows (i ∷ is) js
  first_some true x i is js f h e = e ∙ sym (ap (λ c. c || some_conflict rows is js) (no_conflicts x i js f h))
  first_some false x i is js f h e = ap (λ c. conflicts_with rows i js || c) e

  pub conflicts_first : (x : ObjName) (is js : List Item) → AreStrange x js → some_conflict rows (without x is) js ≡ some_conflict rows is js
  conflicts_first x [] js h = refl
  conflicts_first x (i ∷ is) js h = first_some (is_forgotten x i) x i is js refl h (conflicts_first x is js h)

  with_by : (b : Bool) (x : ObjName) (j i : Item) (is : List Item) → is_forgotten x i ≡ b → is_part_of x j ≡ false →
      conflicts_with rows j (without x is) ≡ conflicts_with rows j is →
      conflicts_with rows j (cond b (without x is) (i ∷ without x is)) ≡ conflicts_with rows j (i ∷ is)
  with_by true x j i is f h e = e ∙ sym (ap (λ c. c || conflicts_with rows j is) (apart_back (stands_at rows) x i j f h))
  with_by false x j i is f h e = ap (λ c. items_conflict (stands_at rows) j i || c) e

  with_without : (x : ObjName) (j : Item) (is : List Item) → is_part_of x j ≡ false → conflicts_with rows j (without x is) ≡ conflicts_with rows j is
  with_without x j [] h = refl
  with_without x j (i ∷ is) h = with_by (is_forgotten x i) x j i is refl h (with_without x j is h)

  pub conflicts_second : (x : ObjName) (is js : List Item) → AreStrange x js → some_conflict rows js (without x is) ≡ some_conflict rows js is
  conflicts_second x is [] h = refl
  conflicts_second x is (j ∷ js) h = (λ t. with_without x j is h.0 t || conflicts_second x is js h.1 t)

-- ---- a byte at a time
each_strange : (x : ObjName) (f : ℕ → Item) (a n : ℕ) → ((b : ℕ) → is_part_of x (f b) ≡ false) → AreStrange x (each_byte f a n)
each_strange x f a zero h = tt
each_strange x f a (suc n) h = (h a, each_strange x f (suc a) n h)

each_forgotten : (x : ObjName) (f : ℕ → Item) (a n : ℕ) → ((b : ℕ) → is_forgotten x (f b) ≡ true) → AreForgotten x (each_byte f a n)
each_forgotten x f a zero h = tt
each_forgotten x f a (suc n) h = (h a, each_forgotten x f (suc a) n h)

bytes_strange : (x : ObjName) (j : Item) → is_part_of x j ≡ false → AreStrange x (by_bytes j)
bytes_strange x (Read y a n) h = each_strange x (λ b. Read y b 1) a n (λ b. h)
bytes_strange x (Write y a n) h = each_strange x (λ b. Write y b 1) a n (λ b. h)
bytes_strange x (Born y) h = (h, tt)
bytes_strange x (Dies y) h = (h, tt)
bytes_strange x (Alive y) h = (h, tt)
bytes_strange x (Expose y) h = (h, tt)
bytes_strange x (Lookup a) h = (h, tt)
bytes_strange x (Narrow d y) h = (h, tt)
bytes_strange x Input h = (h, tt)
bytes_strange x Output h = (h, tt)
bytes_strange x Ending h = (h, tt)
bytes_strange x Any h = (h, tt)

bytes_forgotten : (x : ObjName) (i : Item) → is_forgotten x i ≡ true → AreForgotten x (by_bytes i)
bytes_forgotten x (Read y a n) h = each_forgotten x (λ b. Read y b 1) a n (λ b. h)
bytes_forgotten x (Write y a n) h = each_forgotten x (λ b. Write y b 1) a n (λ b. h)
bytes_forgotten x (Alive y) h = (h, tt)
bytes_forgotten x _ h = absurd (cc)

strange_append : (x : ObjName) (is js : List Item) → AreStrange x is → AreStrange x js → AreStrange x (is ++ js)
strange_append x [] js h k = k
strange_append x (i ∷ is) js h k = (h.0, strange_append x is js h.1 k)

all_strange : (x : ObjName) (js : List Item) → AreStrange x js → AreStrange x (all_by_bytes js)
all_strange x [] h = tt
all_strange x (j ∷ js) h = strange_append x (by_bytes j) (all_by_bytes js) (bytes_strange x j h.0) (all_strange x js h.1)

module _ (world : World) (trace : List Entry) where
  beside_none : (x : ObjName) (i : Item) (js : List Item) (best : Option (Item × Item)) → is_forgotten x i ≡ true → AreStrange x js →
      least_beside world trace i js best ≡ best
  beside_none x i [] best f h = refl
  beside_none x i (j ∷ js) best f h =
      ap (λ c. least_beside world trace i js (cond c (Some (lesser world trace (i, j) best)) best)) (apart (stands_at world.rows) x i j f h.0) ∙
      beside_none x i js best f h.1

  among_none : (x : ObjName) (is js : List Item) (best : Option (Item × Item)) → AreForgotten x is → AreStrange x js → least_among world trace is js best ≡ best
  among_none x [] js best f h = refl
  among_none x (i ∷ is) js best f h =
      ap (λ (b : Option (Item × Item)). least_among world trace is js b) (beside_none x i js best f.0 h) ∙ among_none x is js best f.1 h

  among_append : (is more js : List Item) (best : Option (Item × Item)) →
      least_among world trace (is ++ more) js best ≡ least_among world trace more js (least_among world trace is js best)
  among_append [] more js best = refl
  among_append (i ∷ is) more js best = among_append is more js (least_beside world trace i js best)

  first_by : (b : Bool) (x : ObjName) (i : Item) (is js : List Item) (best : Option (Item × Item)) → is_forgotten x i ≡ b → AreStrange x js →
      ((o : Option (Item × Item)) → least_among world trace (all_by_bytes (without x is)) js o ≡ least_among world trace (all_by_bytes is) js o) →
      least_among world trace (all_by_bytes (cond b (without x is) (i ∷ without x is))) js best ≡
      least_among world trace (all_by_bytes (i ∷ is)) js best
  first_by true x i is js best f h e =
      e best ∙
      sym (among_append (by_bytes i) (all_by_bytes is) js best ∙
      ap (λ (b : Option (Item × Item)). least_among world trace (all_by_bytes is) js b) (among_none x (by_bytes i) js best (bytes_forgotten x i f) h))
  first_by false x i is js best f h e =
      among_append (by_bytes i) (all_by_bytes (without x is)) js best ∙ e (least_among world trace (by_bytes i) js best) ∙
      sym (among_append (by_bytes i) (all_by_bytes is) js best)

  least_first : (x : ObjName) (is js : List Item) (best : Option (Item × Item)) → AreStrange x js →
      least_among world trace (all_by_bytes (without x is)) js best ≡ least_among world trace (all_by_bytes is) js best
  least_first x [] js best h = refl
  least_first x (i ∷ is) js best h = first_by (is_forgotten x i) x i is js best refl h (λ o. least_first x is js o h)

  beside_append : (j : Item) (is more : List Item) (best : Option (Item × Item)) →
      least_beside world trace j (is ++ more) best ≡ least_beside world trace j more (least_beside world trace j is best)
  beside_append j [] more best = refl
  beside_append j (i ∷ is) more best = beside_append j is more (cond (clash world.rows j i) (Some (lesser world trace (j, i) best)) best)

  none_beside : (x : ObjName) (j : Item) (is : List Item) (best : Option (Item × Item)) → AreForgotten x is → is_part_of x j ≡ false →
      least_beside world trace j is best ≡ best
  none_beside x j [] best f h = refl
  none_beside x j (i ∷ is) best f h =
      ap (λ c. least_beside world trace j is (cond c (Some (lesser world trace (j, i) best)) best)) (apart_back (stands_at world.rows) x i j f.0 h) ∙
      none_beside x j is best f.1 h

  second_by : (b : Bool) (x : ObjName) (j i : Item) (is : List Item) (best : Option (Item × Item)) → is_forgotten x i ≡ b → is_part_of x j ≡ false →
      ((o : Option (Item × Item)) → least_beside world trace j (all_by_bytes (without x is)) o ≡ least_beside world trace j (all_by_bytes is) o) →
      least_beside world trace j (all_by_bytes (cond b (without x is) (i ∷ without x is))) best ≡
      least_beside world trace j (all_by_bytes (i ∷ is)) best
  second_by true x j i is best f h e =
      e best ∙
      sym (beside_append j (by_bytes i) (all_by_bytes is) best ∙
      ap (λ (b : Option (Item × Item)). least_beside world trace j (all_by_bytes is) b) (none_beside x j (by_bytes i) best (bytes_forgotten x i f) h))
  second_by false x j i is best f h e =
      beside_append j (by_bytes i) (all_by_bytes (without x is)) best ∙ e (least_beside world trace j (by_bytes i) best) ∙
      sym (beside_append j (by_bytes i) (all_by_bytes is) best)

  beside_without : (x : ObjName) (j : Item) (is : List Item) (best : Option (Item × Item)) → is_part_of x j ≡ false →
      least_beside world trace j (all_by_bytes (without x is)) best ≡ least_beside world trace j (all_by_bytes is) best
  beside_without x j [] best h = refl
  beside_without x j (i ∷ is) best h = second_by (is_forgotten x i) x j i is best refl h (λ o. beside_without x j is o h)

  least_second : (x : ObjName) (is js : List Item) (best : Option (Item × Item)) → AreStrange x js →
      least_among world trace js (all_by_bytes (without x is)) best ≡ least_among world trace js (all_by_bytes is) best
  least_second x is [] best h = refl
  least_second x is (j ∷ js) best h =
      ap (λ (b : Option (Item × Item)). least_among world trace js (all_by_bytes (without x is)) b) (beside_without x j is best h.0) ∙
      least_second x is js (least_beside world trace j (all_by_bytes is) best) h.1

pub tell_nothing : ForgottenTellNothing
tell_nothing world trace x is js strange =
    let h : AreStrange x js = strange_from x js strange in (
      conflicts_first world.rows x is js h,
      conflicts_second world.rows x is js h,
      least_first world trace x is (all_by_bytes js) None (all_strange x js h),
      least_second world trace x is (all_by_bytes js) None (all_strange x js h),
    )

-- Backed items without a told conflict don't some_interference.
use Rattle.std.proofs.Common.{◌≡◌, Bool, true, false, ◌&&◌, ◌||◌, List, [], ◌∷◌, refl, sym, ap, ◌∙◌, subst}
use Rattle.ub_base.specs.declared.names.ObjName.{ObjName}
use Rattle.ub_base.specs.declared.names.Item.{Item}
use Rattle.ub_base.specs.declared.names.Item.TheVariants.{Read, Write, Born, Dies, Alive}
use Rattle.ub_base.specs.Names.{same_object}
use Rattle.ub_base.proofs.NameLemmas.{same_object_is, same_object_refl}
use Rattle.addr_map.specs.declared.map.Row.{Row}
use Rattle.addr_map.specs.Conflict.{conflicts_one, items_conflict, stands_at, conflicts_with, some_conflict}
use Rattle.mem_laws.specs.Frame.{any_of, bears, life_conflict, interferes, interferes_with, some_interference}
use Rattle.machine_laws.specs.ToldConflicts.{bear}
use Rattle.order_laws.specs.StrictItems.{asks, backed_by, all_backed, backed}

or_l : (a b : Bool) → (a || b) ≡ false → a ≡ false
or_l false b h = refl
or_l true b h = h

or_r : (a b : Bool) → (a || b) ≡ false → b ≡ false
or_r false b h = h
or_r true b h = absurd (cc)

neither : (a b : Bool) → a ≡ false → b ≡ false → (a || b) ≡ false
neither false b h k = k
neither true b h k = absurd (cc)

and_l : (a b : Bool) → (a && b) ≡ true → a ≡ true
and_l true b h = refl
and_l false b h = h

and_r : (a b : Bool) → (a && b) ≡ true → b ≡ true
and_r true b h = h
and_r false b h = absurd (cc)

module _ (rows : List Row) where
  pub stricter : (i j : Item) → interferes rows i j ≡ false → items_conflict (stands_at rows) i j ≡ false
  stricter i j h = or_l (items_conflict (stands_at rows) i j) (life_conflict i j || life_conflict j i) h

  -- an item of a list
  data In (i : Item) : List Item → Type 0 where
    here : (is : List Item) → In i (i ∷ is)
    there : (j : Item) (is : List Item) → In i is → In i (j ∷ is)

  pair_one : (i j : Item) (js : List Item) → conflicts_with rows i js ≡ false → In j js → items_conflict (stands_at rows) i j ≡ false
  pair_one i j _ h (here js) = or_l (items_conflict (stands_at rows) i j) (conflicts_with rows i js) h
  pair_one i j _ h (there k js n) = pair_one i j js (or_r (items_conflict (stands_at rows) i k) (conflicts_with rows i js) h) n

  pair : (i j : Item) (is js : List Item) → some_conflict rows is js ≡ false → In i is → In j js → items_conflict (stands_at rows) i j ≡ false
  pair i j _ js h (here is) n = pair_one i j js (or_l (conflicts_with rows i js) (some_conflict rows is js) h) n
  pair i j _ js h (there k is m) n = pair i j is js (or_r (conflicts_with rows k js) (some_conflict rows is js) h) m n

  all_one : (i : Item) (js : List Item) → ((j : Item) → In j js → interferes rows i j ≡ false) → interferes_with rows i js ≡ false
  all_one i [] f = refl
  all_one i (j ∷ js) f = neither (interferes rows i j) (interferes_with rows i js) (f j (here js)) (all_one i js (λ k n. f k (there j js n)))

  all_pairs : (is js : List Item) → ((i j : Item) → In i is → In j js → interferes rows i j ≡ false) → some_interference rows is js ≡ false
  all_pairs [] js f = refl
  all_pairs (i ∷ is) js f = neither (interferes_with rows i js) (some_interference rows is js) (all_one i js (λ j n. f i j (here is) n))
      (all_pairs is js (λ k j m n. f k j (there i is m) n))

  backed_at : (all : List Item) (i : Item) (is : List Item) → all_backed all is ≡ true → In i is → backed_by all i ≡ true
  backed_at all i _ h (here is) = and_l (backed_by all i) (all_backed all is) h
  backed_at all i _ h (there j is n) = backed_at all i is (and_r (backed_by all j) (all_backed all is) h) n

  -- the question that backs an access
  record Asked (x : ObjName) (js : List Item) : Type 0 where
    object : ObjName
    among : In (Alive object) js
    is_it : same_object object x ≡ true

  asked : (x : ObjName) (js : List Item) → any_of (λ j. asks j x) js ≡ true → Asked x js
  asked x [] h = absurd (cc)
  asked x (j ∷ js) h = go (asks j x) refl (asked x js)
    where
      later : Asked x js → Asked x (j ∷ js)
      later a = record { object = a.object; among = there j js a.among; is_it = a.is_it }

      here_it : (j : Item) → asks j x ≡ true → Asked x (j ∷ js)
      here_it (Alive y) e = record { object = y; among = here js; is_it = e }
      here_it _ e = absurd (cc)

      go : (b : Bool) → asks j x ≡ b → (any_of (λ j. asks j x) js ≡ true → Asked x js) → Asked x (j ∷ js)
      go true e again = here_it j e
      go false e again = later (again (subst (λ b. (b || any_of (λ j. asks j x) js) ≡ true) e h))

  -- a birth or a death meets no access behind a question that it doesn't meet
  unasked : (x y : ObjName) (js : List Item) → any_of (λ j. asks j y) js ≡ true → ((z : ObjName) → In (Alive z) js → same_object x z ≡ false)
      → same_object x y ≡ false
  unasked x y js h no_one = go (same_object x y) refl
    where
      go : (b : Bool) → same_object x y ≡ b → same_object x y ≡ false
      go false e = e
      go true e =
          let a = asked y js h in
          let xy = same_object_is x y e in
          let zy = same_object_is a.object y a.is_it in
          let n = no_one a.object a.among in
          let m = subst (λ z. same_object x z ≡ false) (zy ∙ sym xy) n in
          let r = same_object_refl x in
          absurd (cc (m, r))

  bears_in : (x : ObjName) (is : List Item) → In (Born x) is → bear bears is x ≡ true
  bears_in x _ (here is) = ap (λ b. b || bear bears is x) (same_object_refl x)
  bears_in x _ (there j is n) = right (bears j x) (bear bears is x) (bears_in x is n)
    where
      right : (a b : Bool) → b ≡ true → (a || b) ≡ true
      right true b h = refl
      right false b h = h

  mixed : (i j : Item) (js : List Item) → backed_by js j ≡ true → In j js → ((k : Item) → In k js → conflicts_one (stands_at rows) i k ≡ false)
      → ((x : ObjName) → i ≡ Born x → bear bears js x ≡ true → ⊥) → life_conflict i j ≡ false
  mixed (Born x) (Read y a n) js b m f once = unasked x y js b (λ z k. f (Alive z) k)
  mixed (Born x) (Write y a n) js b m f once = unasked x y js b (λ z k. f (Alive z) k)
  mixed (Dies x) (Read y a n) js b m f once = unasked x y js b (λ z k. f (Alive z) k)
  mixed (Dies x) (Write y a n) js b m f once = unasked x y js b (λ z k. f (Alive z) k)
  mixed (Born x) (Born y) js b m f once = go (same_object x y) refl
    where
      go : (b : Bool) → same_object x y ≡ b → same_object x y ≡ false
      go false e = e
      go true e = absurd (once x refl (subst (λ z. bear bears js z ≡ true) (sym (same_object_is x y e)) (bears_in y js m)))
  mixed _ _ js b m f once = refl

  pub told_is_enough : (is js : List Item) → backed is ≡ true → backed js ≡ true → ((x : ObjName) → bear bears is x ≡ true → bear bears js x ≡ true → ⊥)
      → some_conflict rows is js ≡ false → some_interference rows is js ≡ false
  told_is_enough is js bi bj once h = all_pairs is js one
    where
      one : (i j : Item) → In i is → In j js → interferes rows i j ≡ false
      one i j m n =
          let p = pair i j is js h m n in
          let a = mixed i j js (backed_at js j js bj n) n (λ k nk. or_l (conflicts_one (stands_at rows) i k) (conflicts_one (stands_at rows) k i)
          (pair i k is js h m nk))
          (λ x e b. once x (bears_in x is (subst (λ z. In z is) e m)) b) in
          let d = mixed j i is (backed_at is i is bi m) m (λ k mk. or_r (conflicts_one (stands_at rows) k j) (conflicts_one (stands_at rows) j k)
          (pair k j is js h mk n))
          (λ x e b. once x b (bears_in x js (subst (λ z. In z js) e n))) in
          neither (items_conflict (stands_at rows) i j) (life_conflict i j || life_conflict j i) p (neither (life_conflict i j) (life_conflict j i) a d)

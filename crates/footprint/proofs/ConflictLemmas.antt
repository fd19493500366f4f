-- The least conflicting pairs that begin with one kind of item.
use Rattle.std.proofs.Common.{◌≡◌, ◌⊎◌, inl, inr, ℕ, Bool, true, false, cond, ◌&&◌, ◌||◌, refl, sym, ap, ◌∙◌, subst, List, Option}
use Rattle.std.specs.Ordering.{nat_cmp}
use Rattle.std.proofs.lemmas.Cmp.{tied_itself, nat_cmp_total}
use Rattle.std.proofs.lemmas.Map.Lookups.{exact_unsigned}
use Rattle.ub_base.specs.declared.names.ObjName.{ObjName}
use Rattle.ub_base.specs.declared.names.Item.{Item}
use Rattle.ub_base.specs.declared.names.Item.TheVariants.{Born, Dies, Alive, Expose, Lookup}
use Rattle.ub_base.specs.Names.{same_object}
use Rattle.ub_base.specs.Frames.{Row}
use Rattle.ub_base.proofs.NameLemmas.{same_object_is, same_object_refl}
use Rattle.addr_map.specs.declared.map.Row.{Row as Place}
use Rattle.footprint.specs.declared.foot.Foot.{Foot}
use Rattle.footprint.specs.declared.state.State.{State}
use Rattle.footprint.specs.States.{nothing, state_in, only_at, said_by}
use Rattle.addr_map.specs.Conflict.{items_conflict, stands_at}
use Rattle.footprint.specs.Found.{AtObject, AtAddress}
use Rattle.footprint.specs.Holds.{holds}
use Rattle.footprint.specs.Least.{pair_cmp, IsLeast, lesser}
use Rattle.footprint.specs.Candidates.{when, least_of_three, whole_pair}
use Rattle.footprint.proofs.Pairs.{born_dies, born_alive, born_expose, dies_born, dies_dies, dies_alive, alive_born, alive_dies, expose_born}
use Rattle.footprint.proofs.RangeStarts.{or_split, and_left, and_right}
use Rattle.footprint.proofs.LeastLemmas.{pair_total, not_itself, both, alike}
use Rattle.footprint.proofs.Loops.{AnyOf, any_in, any_out}

-- the pair p, q where the test holds
abbrev pub Single : Bool → Item → Item → Item → Item → Type 0
Single c p q i j = (c ≡ true) × (i ≡ p) × (j ≡ q)

pub single : (rows : List Row) (c : Bool) (p q : Item) → IsLeast rows (Single c p q) (when c p q)
single rows true p q = (
  (refl, refl, refl),
  λ i j s lt. not_itself (pair_cmp rows) (pair_total rows) (p, q)
      ((λ t. pair_cmp rows (sym s.1 t, sym s.2 t) (p, q)) ∙ lt),
)
single rows false p q = λ i j s. absurd (let h : false ≡ true = s.0 in cc)

pub three : (rows : List Row) (P Q R : Item → Item → Type 0) (p q r : Option (Item × Item)) → IsLeast rows P p → IsLeast rows Q q → IsLeast rows R r →
    IsLeast rows (λ i j. (P i j ⊎ Q i j) ⊎ R i j) (least_of_three rows p q r)
three rows P Q R p q r hp hq hr = both rows (λ i j. P i j ⊎ Q i j) R _ r (both rows P Q p q hp hq) hr

pub and_both : (a b : Bool) → a ≡ true → b ≡ true → (a && b) ≡ true
and_both a b h g = (λ t. h t && g t)

pub or_one : (a : Bool) → (a || false) ≡ true → a ≡ true
or_one true h = refl
or_one false h = h

-- ---- what was done to one object
at_by : (b : Bool) (part : State → Bool) (x y : ObjName) (s : State) → same_object x y ≡ b → part nothing ≡ false → part (cond b s nothing) ≡ true → (x ≡ y) ×
    (part s ≡ true)
at_by true part x y s same none h = (same_object_is x y same, h)
at_by false part x y s same none h = absurd (cc)

at_it : (part : State → Bool) (x y : ObjName) (s : State) → part nothing ≡ false → part (only_at x s y) ≡ true → (x ≡ y) × (part s ≡ true)
at_it part x y s none h = at_by (same_object x y) part x y s refl none h

at_own : (part : State → Bool) (x : ObjName) (s : State) → part s ≡ true → part (only_at x s x) ≡ true
at_own part x s h = ap (λ b. part (cond b s nothing)) (same_object_refl x) ∙ h

-- both items are of that object, by what its two states say
abbrev pub WholeAt : (ObjName → ℕ → Bool) → ObjName → State → State → Item → Item → Type 0
WholeAt stands x s t i j = (said_by (only_at x s) i ≡ true) × (said_by (only_at x t) j ≡ true) × (items_conflict stands i j ≡ true)

pair_at : (f g : ObjName → Item) (ps pt : State → Bool) (x y z : ObjName) (s t : State) → ps nothing ≡ false → pt nothing ≡ false →
    ps (only_at x s y) ≡ true → pt (only_at x t z) ≡ true → Single (ps s && pt t) (f x) (g x) (f y) (g z)
pair_at f g ps pt x y z s t ns nt hs ht =
    let a = at_it ps x y s ns hs in
    let b = at_it pt x z t nt ht in
    (and_both (ps s) (pt t) a.1 b.1, (λ k. f (sym a.0 k)), (λ k. g (sym b.0 k)))

module _ (stands : ObjName → ℕ → Bool) (x : ObjName) (s t : State) where
  Pairs : Item → Item → Type 0
  Pairs i j =
      (((Single (s.born && t.dies) (Born x) (Dies x) i j ⊎ Single (s.born && t.alive) (Born x) (Alive x) i j) ⊎
      Single (s.born && t.expose) (Born x) (Expose x) i j)
      ⊎ ((Single (s.dies && t.born) (Dies x) (Born x) i j ⊎ Single (s.dies && t.dies) (Dies x) (Dies x) i j) ⊎
      Single (s.dies && t.alive) (Dies x) (Alive x) i j))
      ⊎ ((Single (s.alive && t.born) (Alive x) (Born x) i j ⊎ Single (s.alive && t.dies) (Alive x) (Dies x) i j) ⊎
      Single (s.expose && t.born) (Expose x) (Born x) i j)

  whole_is : (i j : Item) → WholeAt stands x s t i j → Pairs i j
  unfolding Pairs
  whole_is (Born y) (Dies z) h = inl (inl (inl (inl (pair_at Born Dies (λ u. u.born) (λ u. u.dies) x y z s t refl refl h.0 h.1))))
  whole_is (Born y) (Alive z) h = inl (inl (inl (inr (pair_at Born Alive (λ u. u.born) (λ u. u.alive) x y z s t refl refl h.0 h.1))))
  whole_is (Born y) (Expose z) h = inl (inl (inr (pair_at Born Expose (λ u. u.born) (λ u. u.expose) x y z s t refl refl h.0 h.1)))
  whole_is (Born y) (Born z) h = absurd (let c : false ≡ true = h.2 in cc)
  whole_is (Dies y) (Born z) h = inl (inr (inl (inl (pair_at Dies Born (λ u. u.dies) (λ u. u.born) x y z s t refl refl h.0 h.1))))
  whole_is (Dies y) (Dies z) h = inl (inr (inl (inr (pair_at Dies Dies (λ u. u.dies) (λ u. u.dies) x y z s t refl refl h.0 h.1))))
  whole_is (Dies y) (Alive z) h = inl (inr (inr (pair_at Dies Alive (λ u. u.dies) (λ u. u.alive) x y z s t refl refl h.0 h.1)))
  whole_is (Dies y) (Expose z) h = absurd (let c : false ≡ true = h.2 in cc)
  whole_is (Alive y) (Born z) h = inr (inl (inl (pair_at Alive Born (λ u. u.alive) (λ u. u.born) x y z s t refl refl h.0 h.1)))
  whole_is (Alive y) (Dies z) h = inr (inl (inr (pair_at Alive Dies (λ u. u.alive) (λ u. u.dies) x y z s t refl refl h.0 h.1)))
  whole_is (Alive y) (Alive z) h = absurd (let c : false ≡ true = h.2 in cc)
  whole_is (Alive y) (Expose z) h = absurd (let c : false ≡ true = h.2 in cc)
  whole_is (Expose y) (Born z) h = inr (inr (pair_at Expose Born (λ u. u.expose) (λ u. u.born) x y z s t refl refl h.0 h.1))
  whole_is (Expose y) (Dies z) h = absurd (let c : false ≡ true = h.2 in cc)
  whole_is (Expose y) (Alive z) h = absurd (let c : false ≡ true = h.2 in cc)
  whole_is (Expose y) (Expose z) h = absurd (let c : false ≡ true = h.2 in cc)
  whole_is (Born y) _ h = absurd (let c : false ≡ true = h.1 in cc)
  whole_is (Dies y) _ h = absurd (let c : false ≡ true = h.1 in cc)
  whole_is (Alive y) _ h = absurd (let c : false ≡ true = h.1 in cc)
  whole_is (Expose y) _ h = absurd (let c : false ≡ true = h.1 in cc)
  whole_is _ j h = absurd (let c : false ≡ true = h.0 in cc)

  from_single : (p q : Item) (c : Bool) (i j : Item) → (c ≡ true → WholeAt stands x s t p q) → Single c p q i j → WholeAt stands x s t i j
  from_single p q c i j f h = subst (λ (r : Item × Item). WholeAt stands x s t r.0 r.1) (λ k. (sym h.1 k, sym h.2 k)) (f h.0)

  split : (a b : Bool) → (a && b) ≡ true → (a ≡ true) × (b ≡ true)
  split a b h = (and_left a b h, and_right a b h)

  whole_from : (i j : Item) → Pairs i j → WholeAt stands x s t i j
  unfolding Pairs
  whole_from i j (inl (inl (inl (inl h)))) = from_single (Born x) (Dies x) _ i j
      (λ e. let c = split s.born t.dies e in (at_own (λ u. u.born) x s c.0, at_own (λ u. u.dies) x t c.1, born_dies x)) h
  whole_from i j (inl (inl (inl (inr h)))) = from_single (Born x) (Alive x) _ i j
      (λ e. let c = split s.born t.alive e in (at_own (λ u. u.born) x s c.0, at_own (λ u. u.alive) x t c.1, born_alive x)) h
  whole_from i j (inl (inl (inr h))) = from_single (Born x) (Expose x) _ i j
      (λ e. let c = split s.born t.expose e in (at_own (λ u. u.born) x s c.0, at_own (λ u. u.expose) x t c.1, born_expose x)) h
  whole_from i j (inl (inr (inl (inl h)))) = from_single (Dies x) (Born x) _ i j
      (λ e. let c = split s.dies t.born e in (at_own (λ u. u.dies) x s c.0, at_own (λ u. u.born) x t c.1, dies_born x)) h
  whole_from i j (inl (inr (inl (inr h)))) = from_single (Dies x) (Dies x) _ i j
      (λ e. let c = split s.dies t.dies e in (at_own (λ u. u.dies) x s c.0, at_own (λ u. u.dies) x t c.1, dies_dies x)) h
  whole_from i j (inl (inr (inr h))) = from_single (Dies x) (Alive x) _ i j
      (λ e. let c = split s.dies t.alive e in (at_own (λ u. u.dies) x s c.0, at_own (λ u. u.alive) x t c.1, dies_alive x)) h
  whole_from i j (inr (inl (inl h))) = from_single (Alive x) (Born x) _ i j
      (λ e. let c = split s.alive t.born e in (at_own (λ u. u.alive) x s c.0, at_own (λ u. u.born) x t c.1, alive_born x)) h
  whole_from i j (inr (inl (inr h))) = from_single (Alive x) (Dies x) _ i j
      (λ e. let c = split s.alive t.dies e in (at_own (λ u. u.alive) x s c.0, at_own (λ u. u.dies) x t c.1, alive_dies x)) h
  whole_from i j (inr (inr h)) = from_single (Expose x) (Born x) _ i j
      (λ e. let c = split s.expose t.born e in (at_own (λ u. u.expose) x s c.0, at_own (λ u. u.born) x t c.1, expose_born x)) h

  pub whole_least : (rows : List Row) → IsLeast rows (WholeAt stands x s t) (whole_pair rows x s t)
  unfolding Pairs
  whole_least rows =
      alike rows Pairs (WholeAt stands x s t) _ whole_from whole_is
      (three rows _ _ _ _ _ _
      (three rows _ _ _ _ _ _ (single rows (s.born && t.dies) (Born x) (Dies x)) (single rows (s.born && t.alive) (Born x) (Alive x))
      (single rows (s.born && t.expose) (Born x) (Expose x)))
      (three rows _ _ _ _ _ _ (single rows (s.dies && t.born) (Dies x) (Born x)) (single rows (s.dies && t.dies) (Dies x) (Dies x))
      (single rows (s.dies && t.alive) (Dies x) (Alive x)))
      (three rows _ _ _ _ _ _ (single rows (s.alive && t.born) (Alive x) (Born x)) (single rows (s.alive && t.dies) (Alive x) (Dies x))
      (single rows (s.expose && t.born) (Expose x) (Born x))))

-- ---- an object against a whole footprint
same_left : (y z : ObjName) → (same_object y z || false) ≡ true → y ≡ z
same_left y z h = same_object_is y z (or_one (same_object y z) h)

same_right : (y z : ObjName) → same_object z y ≡ true → y ≡ z
same_right y z h = sym (same_object_is z y h)

same_either : (y z : ObjName) → (same_object y z || same_object z y) ≡ true → y ≡ z
same_either y z h = or_split (same_object y z) (same_object z y) h (λ a. same_object_is y z a) (λ b. same_right y z b)

module _ (b : Foot) (places : List Place) (x : ObjName) (s : State) where
  beside_it : (part whose : State → Bool) (y z : ObjName) → whose nothing ≡ false → whose (only_at x s y) ≡ true → part (state_in b.states z) ≡ true → y ≡ z →
      part (only_at x (state_in b.states x) z) ≡ true
  beside_it part whose y z none hs ht same =
      let own : x ≡ z = (at_it whose x y s none hs).0 ∙ same in
      subst (λ (w : ObjName). part (only_at x (state_in b.states x) w) ≡ true) own
      (at_own part x (state_in b.states x) (subst (λ (w : ObjName). part (state_in b.states w) ≡ true) (sym own) ht))

  object_is : (i j : Item) → AtObject b places x s i j → WholeAt (stands_at places) x s (state_in b.states x) i j ⊎ AtAddress b places x s i j
  object_is (Born y) (Dies z) h = inl (h.0, beside_it (λ u. u.dies) (λ u. u.born) y z refl h.0 h.1 (same_right y z h.2), h.2)
  object_is (Born y) (Alive z) h = inl (h.0, beside_it (λ u. u.alive) (λ u. u.born) y z refl h.0 h.1 (same_left y z h.2), h.2)
  object_is (Born y) (Expose z) h = inl (h.0, beside_it (λ u. u.expose) (λ u. u.born) y z refl h.0 h.1 (same_left y z h.2), h.2)
  object_is (Dies y) (Born z) h = inl (h.0, beside_it (λ u. u.born) (λ u. u.dies) y z refl h.0 h.1 (same_left y z h.2), h.2)
  object_is (Dies y) (Dies z) h = inl (h.0, beside_it (λ u. u.dies) (λ u. u.dies) y z refl h.0 h.1 (same_either y z h.2), h.2)
  object_is (Dies y) (Alive z) h = inl (h.0, beside_it (λ u. u.alive) (λ u. u.dies) y z refl h.0 h.1 (same_left y z h.2), h.2)
  object_is (Dies y) (Lookup a) h = inr (h.0, refl, h.1, h.2)
  object_is (Alive y) (Born z) h = inl (h.0, beside_it (λ u. u.born) (λ u. u.alive) y z refl h.0 h.1 (same_right y z h.2), h.2)
  object_is (Alive y) (Dies z) h = inl (h.0, beside_it (λ u. u.dies) (λ u. u.alive) y z refl h.0 h.1 (same_right y z h.2), h.2)
  object_is (Expose y) (Born z) h = inl (h.0, beside_it (λ u. u.born) (λ u. u.expose) y z refl h.0 h.1 (same_right y z h.2), h.2)
  object_is (Expose y) (Lookup a) h = inr (h.0, refl, h.1, h.2)
  object_is (Born y) _ h = absurd (let c : false ≡ true = h.2 in cc)
  object_is (Dies y) _ h = absurd (let c : false ≡ true = h.2 in cc)
  object_is (Alive y) _ h = absurd (let c : false ≡ true = h.2 in cc)
  object_is (Expose y) _ h = absurd (let c : false ≡ true = h.2 in cc)
  object_is _ j h = absurd (let c : false ≡ true = h.0 in cc)

  held_of : (j : Item) → said_by (only_at x (state_in b.states x)) j ≡ true → holds b j ≡ true
  held_of (Born z) h = let a = at_it (λ u. u.born) x z (state_in b.states x) refl h in subst (λ (w : ObjName). (state_in b.states w).born ≡ true) a.0 a.1
  held_of (Dies z) h = let a = at_it (λ u. u.dies) x z (state_in b.states x) refl h in subst (λ (w : ObjName). (state_in b.states w).dies ≡ true) a.0 a.1
  held_of (Alive z) h = let a = at_it (λ u. u.alive) x z (state_in b.states x) refl h in subst (λ (w : ObjName). (state_in b.states w).alive ≡ true) a.0 a.1
  held_of (Expose z) h = let a = at_it (λ u. u.expose) x z (state_in b.states x) refl h in subst (λ (w : ObjName). (state_in b.states w).expose ≡ true) a.0 a.1
  held_of _ h = absurd (let c : false ≡ true = h in cc)

  object_from : (i j : Item) → WholeAt (stands_at places) x s (state_in b.states x) i j ⊎ AtAddress b places x s i j → AtObject b places x s i j
  object_from i j (inl h) = (h.0, held_of j h.1, h.2)
  object_from i j (inr h) = (h.0, h.2, h.3)

  pub object_least : (rows : List Row) (p q o : Option (Item × Item)) → p ≡ whole_pair rows x s (state_in b.states x) →
      IsLeast rows (AtAddress b places x s) q → o ≡ lesser rows p q → IsLeast rows (AtObject b places x s) o
  object_least rows p q o ep hq eo =
      subst (λ (r : Option (Item × Item)). IsLeast rows (AtObject b places x s) r) (sym eo)
      (alike rows _ (AtObject b places x s) _ object_from object_is
      (both rows (WholeAt (stands_at places) x s (state_in b.states x)) (AtAddress b places x s) p q
      (subst (λ (r : Option (Item × Item)). IsLeast rows (WholeAt (stands_at places) x s (state_in b.states x)) r) (sym ep)
      (whole_least (stands_at places) x s (state_in b.states x) rows)) hq))

  -- ---- its death or exposure with a lookup
  abbrev pub OneAddress : ℕ → Item → Item → Type 0
  OneAddress a i j = (j ≡ Lookup a) × (said_by (only_at x s) i ≡ true) × (items_conflict (stands_at places) i (Lookup a) ≡ true)

  one_is : (a : ℕ) (i j : Item) → OneAddress a i j → Single (s.dies && stands_at places x a) (Dies x) (Lookup a) i j ⊎
      Single (s.expose && stands_at places x a) (Expose x) (Lookup a) i j
  one_is a (Dies y) j h =
      let at = at_it (λ u. u.dies) x y s refl h.1 in
      inl (and_both s.dies _ at.1 (subst (λ (z : ObjName). stands_at places z a ≡ true) (sym at.0) h.2), (λ k. Dies (sym at.0 k)), h.0)
  one_is a (Expose y) j h =
      let at = at_it (λ u. u.expose) x y s refl h.1 in
      inr (and_both s.expose _ at.1 (subst (λ (z : ObjName). stands_at places z a ≡ true) (sym at.0) h.2), (λ k. Expose (sym at.0 k)), h.0)
  one_is a (Born y) j h = absurd (let c : false ≡ true = h.2 in cc)
  one_is a (Alive y) j h = absurd (let c : false ≡ true = h.2 in cc)
  one_is a _ j h = absurd (let c : false ≡ true = h.1 in cc)

  one_from : (a : ℕ) (i j : Item) → Single (s.dies && stands_at places x a) (Dies x) (Lookup a) i j ⊎
      Single (s.expose && stands_at places x a) (Expose x) (Lookup a) i j → OneAddress a i j
  one_from a i j (inl h) = (
    h.2,
    subst (λ (k : Item). said_by (only_at x s) k ≡ true) (sym h.1) (at_own (λ u. u.dies) x s (and_left s.dies _ h.0)),
    subst (λ (k : Item). items_conflict (stands_at places) k (Lookup a) ≡ true) (sym h.1) (and_right s.dies _ h.0),
  )
  one_from a i j (inr h) = (
    h.2,
    subst (λ (k : Item). said_by (only_at x s) k ≡ true) (sym h.1) (at_own (λ u. u.expose) x s (and_left s.expose _ h.0)),
    subst (λ (k : Item). items_conflict (stands_at places) k (Lookup a) ≡ true) (sym h.1) (and_right s.expose _ h.0),
  )

  pub one_least : (rows : List Row) (a : ℕ) (at : Bool) (p q o : Option (Item × Item)) → at ≡ stands_at places x a →
      p ≡ when (s.dies && at) (Dies x) (Lookup a) → q ≡ when (s.expose && at) (Expose x) (Lookup a) → o ≡ lesser rows p q → IsLeast rows (OneAddress a) o
  one_least rows a at p q o ea ep eq eo =
      subst (λ (r : Option (Item × Item)). IsLeast rows (OneAddress a) r)
      (sym (eo ∙ (λ k. lesser rows ((ep ∙ (λ l. when (s.dies && ea l) (Dies x) (Lookup a))) k)
      ((eq ∙ (λ l. when (s.expose && ea l) (Expose x) (Lookup a))) k))))
      (alike rows _ (OneAddress a) _ (one_from a) (one_is a)
      (both rows _ _ _ _ (single rows (s.dies && stands_at places x a) (Dies x) (Lookup a))
      (single rows (s.expose && stands_at places x a) (Expose x) (Lookup a))))

  address_is : (i j : Item) → AtAddress b places x s i j → AnyOf OneAddress b.lookups.keys i j
  address_is i (Lookup a) h = any_in exact_unsigned OneAddress a b.lookups.keys i (Lookup a) h.2 (refl, h.0, h.3)
  address_is i _ h = absurd (let c : false ≡ true = h.1 in cc)

  address_from : (i j : Item) → AnyOf OneAddress b.lookups.keys i j → AtAddress b places x s i j
  address_from i j h =
      let f = any_out nat_cmp (tied_itself nat_cmp_total) OneAddress b.lookups.keys i j h in
      subst (λ (k : Item). AtAddress b places x s i k) (sym f.2.0) (f.2.1, refl, f.1, f.2.2)

  pub address_least : (rows : List Row) (o : Option (Item × Item)) → IsLeast rows (AnyOf OneAddress b.lookups.keys) o → IsLeast rows (AtAddress b places x s) o
  address_least rows o h = alike rows (AnyOf OneAddress b.lookups.keys) (AtAddress b places x s) o address_from address_is h

-- A touch gives the same in two stores that differ by what doesn't conflict with it, and changes only what its item names.
use Rattle.std.proofs.Common.{◌≡◌, ℕ, zero, suc, ◌+◌, ◌<◌, ◌≤◌, Bool, true, false, not, ◌&&◌, ◌||◌, nat_lt, nat_le, List, [], ◌∷◌, ◌++◌, length}
use Rattle.std.proofs.Common.{slice_get, Option, Some, None, is_some, if◌then◌else◌, refl, sym, ap, ◌∙◌, subst, arith, ap₂, true≢false}
use Rattle.std.proofs.lemmas.Bool.Decides.{nat_tests}
use Rattle.ub_base.specs.declared.names.Event.{Event}
use Rattle.ub_base.specs.declared.names.ObjName.{ObjName}
use Rattle.ub_base.specs.declared.names.Item.{Item}
use Rattle.ub_base.specs.declared.names.Item.TheVariants.{Read, Write, Born, Dies, Alive, Expose, Lookup, Narrow, Input, Output}
use Rattle.ub_base.specs.Names.{same_event, same_object}
use Rattle.ub_base.proofs.NameLemmas.{same_object_is, same_object_refl, same_event_is}
use Rattle.addr_map.specs.declared.map.Row.{Row}
use Rattle.addr_map.specs.Conflict.{items_conflict, is_object, stands_at, overlap, conflicts_with}
use Rattle.addr_map.specs.Rows.{covers, past}
use Rattle.exposure.specs.Cells.{is_other}
use Rattle.mem_spec.specs.Store.{TaggedByte, Life, Store, range_from, is_live, dead, can_find, findable}
use Rattle.mem_spec.specs.Streams.{printed_to}
use Rattle.mem_spec.specs.Script.{Touch, Ask, Get, Put, Bear, Bury, Show, Find, Settle, Take, Print, item_of, refuses, answer, left}
use Rattle.mem_laws.specs.Frame.{bears, ends_life, shows, writes, settles_away, takes, prints, any_of, Diff}

pub diff_refl : (j : List Item) (s : Store) → Diff j s s
diff_refl j s = record {
  life = λ x a b. refl;
  known = λ x a. refl;
  exposed = λ x a b. refl;
  bytes = λ x b a c e. refl;
  found = λ x a b. refl;
  other =
      λ e x a. refl;
  kept = λ e a. refl;
  input = refl;
  position = λ a. refl;
  output = λ a. refl;
}

pub diff_trans : (j : List Item) (s t u : Store) → Diff j s t → Diff j t u → Diff j s u
diff_trans j s t u c d = record {
  life = λ x a b. c.life x a b ∙ d.life x a b;
  known = λ x a. c.known x a ∙ d.known x a;
  exposed = λ x a b. c.exposed x a b
      ∙ d.exposed x a b;
  bytes = λ x b a e f. c.bytes x b a e f ∙ d.bytes x b a e f;
  found = λ x a b. c.found x a b
      ∙ d.found x a b;
  other = λ e x a. c.other e x a ∙ d.other e x a;
  kept = λ e a. c.kept e a ∙ d.kept e a;
  input = c.input
      ∙ d.input;
  position = λ a. c.position a ∙ d.position a;
  output = λ a. c.output a ∙ d.output a;
}

pub or_left : (a b : Bool) → (a || b) ≡ false → a ≡ false
or_left false b h = refl
or_left true b h = h

pub or_right : (a b : Bool) → (a || b) ≡ false → b ≡ false
or_right false b h = h
or_right true b h = absurd (cc)

pub and_left : (a b : Bool) → (a && b) ≡ true → a ≡ true
and_left true b h = refl
and_left false b h = h

pub and_right : (a b : Bool) → (a && b) ≡ true → b ≡ true
and_right true b h = h
and_right false b h = absurd (cc)

pub or_both : (a b : Bool) → a ≡ false → b ≡ false → (a || b) ≡ false
or_both false b h k = k
or_both true b h k = h

pub any_left : (f : Item → Bool) (j k : List Item) → any_of f (j ++ k) ≡ false → any_of f j ≡ false
any_left f [] k h = refl
any_left f (i ∷ j) k h = or_both (f i) (any_of f j) (or_left _ _ h) (any_left f j k (or_right _ _ h))

pub any_right : (f : Item → Bool) (j k : List Item) → any_of f (j ++ k) ≡ false → any_of f k ≡ false
any_right f [] k h = h
any_right f (i ∷ j) k h = any_right f j k (or_right _ _ h)

pub diff_left : (j k : List Item) (s u : Store) → Diff j s u → Diff (j ++ k) s u
diff_left j k s u d = record {
  life = λ x a b. d.life x (any_left _ j k a) (any_left _ j k b);
  known = λ x a. d.known x (any_left _ j k a);
  exposed =
      λ x a b. d.exposed x (any_left _ j k a) (any_left _ j k b);
  bytes = λ x n a b e. d.bytes x n (any_left _ j k a) (any_left _ j k b) (any_left _ j k e);
  found = λ x a b. d.found x (any_left _ j k a) (any_left _ j k b);
  other = λ e x a. d.other e x (any_left _ j k a);
  kept = λ e a. d.kept e
      (any_left _ j k a);
  input = d.input;
  position = λ a. d.position (any_left _ j k a);
  output = λ a. d.output (any_left _ j k a);
}

pub diff_right : (j k : List Item) (s u : Store) → Diff k s u → Diff (j ++ k) s u
diff_right j k s u d = record {
  life = λ x a b. d.life x (any_right _ j k a) (any_right _ j k b);
  known = λ x a. d.known x (any_right _ j k a);
  exposed =
      λ x a b. d.exposed x (any_right _ j k a) (any_right _ j k b);
  bytes = λ x n a b e. d.bytes x n (any_right _ j k a) (any_right _ j k b)
      (any_right _ j k e);
  found = λ x a b. d.found x (any_right _ j k a) (any_right _ j k b);
  other = λ e x a. d.other e x (any_right _ j k a);
  kept = λ e a.
      d.kept e (any_right _ j k a);
  input = d.input;
  position = λ a. d.position (any_right _ j k a);
  output = λ a. d.output (any_right _ j k a);
}

if_same : {A : Type 0} (b : Bool) (x y : A) → b ≡ false → (if b then x else y) ≡ y
if_same false x y h = refl
if_same true x y h = absurd (cc)

pub or_false : (a : Bool) → (a || false) ≡ false → a ≡ false
or_false a h = or_left a false h

pub not_false : (b : Bool) → not b ≡ false → b ≡ true
not_false true h = refl
not_false false h = absurd (cc)

pub both_true : (a b : Bool) → a ≡ true → b ≡ true → a && b ≡ true
both_true true b h k = k
both_true false b h k = h

none_live : (o : Option Life) → is_some o ≡ false → is_live o ≡ false
none_live None h = refl
none_live (Some l) h = absurd (cc)

and_false : (a b : Bool) → b ≡ false → (a && b) ≡ false
and_false true b h = h
and_false false b h = refl

still_some : (o : Option Life) → is_some (dead o) ≡ is_some o
still_some None = refl
still_some (Some l) = refl

settle_if : (b : Bool) (e d : Event) (x z : ObjName) (s : Store) → same_event e d ≡ b → is_other (s.kept e) x ≡ false → b && not (same_object x z) ≡ false
    → is_other (s.kept d) z ≡ is_other (if b then Some x else s.kept d) z
settle_if false e d x z s eq h k = refl
settle_if true e d x z s eq h k =
    let xz = same_object_is x z (not_false _ k) in
    subst (λ f. is_other (s.kept f) z ≡ not (same_object x z)) (same_event_is e d eq) (subst (λ y. is_other (s.kept e) y ≡ false) xz h ∙ sym k)

settle_other : (e d : Event) (x z : ObjName) (s : Store) → is_other (s.kept e) x ≡ false → any_of (λ i. settles_away i d z) (Narrow e x ∷ []) ≡ false
    → is_other (s.kept d) z ≡ is_other (if same_event e d then Some x else s.kept d) z
settle_other e d x z s h a = settle_if (same_event e d) e d x z s refl h (or_false _ a)

bear_if : (c : Bool) (x y : ObjName) (l : Life) (s : Store) → same_object x y ≡ c → is_some (s.life x) ≡ false
    → can_find s y ≡ (if c then false else s.exposed y) && is_live (if c then Some l else s.life y)
bear_if true x y l s e h = and_false (s.exposed y) _ (none_live _ (subst (λ z. is_some (s.life z) ≡ false) (same_object_is x y e) h))
bear_if false x y l s e h = refl

bury_known : (c : Bool) (x y : ObjName) (s : Store) → same_object x y ≡ c → is_some (s.life y) ≡ is_some (if c then dead (s.life x) else s.life y)
bury_known true x y s e = subst (λ z. is_some (s.life z) ≡ is_some (dead (s.life x))) (same_object_is x y e) (sym (still_some (s.life x)))
bury_known false x y s e = refl

-- a touch changes only what its item names
pub changes : (map : List Row) (t : Touch) (s : Store) → refuses t s ≡ false → Diff (item_of t ∷ []) s (left t s)
changes map (Ask x) s h = diff_refl _ s
changes map (Get x b n) s h = diff_refl _ s
changes map (Put x b bs) s h = record {
  life = λ y a b. refl;
  known = λ y a. refl;
  exposed = λ y a b. refl;
  bytes = λ y k a e w. sym (if_same _ _ _ (or_false _ w));
  found = λ y a b. refl;
  other = λ e z a. refl;
  kept = λ e a. refl;
  input = refl;
  position = λ a. refl;
  output = λ a. refl;
}
changes map (Bear x size kind declared) s h = record {
  life = λ y a b. sym (if_same _ _ _ (or_false _ a));
  known = λ y a. ap is_some (sym (if_same _ _ _ (or_false _ a)));
  exposed = λ y a b. sym (if_same _ _ _ (or_false _ a));
  bytes = λ y k a e w. sym (if_same _ _ _ (or_false _ a));
  found = λ y a b. bear_if (same_object x y) x y _ s refl h;
  other = λ e z a. refl;
  kept = λ e a. refl;
  input = refl;
  position = λ a. refl;
  output = λ a. refl;
}
changes map (Bury x) s h = record {
  life = λ y a b. sym (if_same _ _ _ (or_false _ b));
  known = λ y a. bury_known (same_object x y) x y s refl;
  exposed = λ y a b. refl;
  bytes = λ y k a e w. sym (if_same _ _ _ (or_false _ e));
  found = λ y a b. ap (λ l. s.exposed y && is_live l) (sym (if_same _ _ _ (or_false _ b)));
  other = λ e z a. refl;
  kept = λ e a. refl;
  input = refl;
  position = λ a. refl;
  output = λ a. refl;
}
changes map (Show x) s h = record {
  life = λ y a b. refl;
  known = λ y a. refl;
  exposed = λ y a b. sym (if_same _ _ _ (or_false _ b));
  bytes = λ y k a e w. refl;
  found = λ y a b. ap (λ l. l && is_live (s.life y)) (sym (if_same _ _ _ (or_false _ a)));
  other = λ e z a. refl;
  kept = λ e a. refl;
  input = refl;
  position = λ a. refl;
  output = λ a. refl;
}
changes map (Find b) s h = diff_refl _ s
changes map (Settle e x c) s h = record {
  life = λ y a b. refl;
  known = λ y a. refl;
  exposed = λ y a b. refl;
  bytes = λ y k a f w. refl;
  found = λ y a b. refl;
  other = λ d z a. settle_other e d x z s h a;
  kept = λ d a. sym (if_same _ _ _ (or_false _ a));
  input = refl;
  position = λ a. refl;
  output = λ a. refl;
}
changes map Take s h = record {
  life = λ y a b. refl;
  known = λ y a. refl;
  exposed = λ y a b. refl;
  bytes = λ y k a e w. refl;
  found = λ y a b. refl;
  other = λ e z a. refl;
  kept = λ d a. refl;
  input = refl;
  position = λ a. absurd (cc);
  output = λ a. refl;
}
changes map (Print to bs) s h = record {
  life = λ y a b. refl;
  known = λ y a. refl;
  exposed = λ y a b. refl;
  bytes = λ y k a e w. refl;
  found = λ y a b. refl;
  other = λ e z a. refl;
  kept = λ d a. refl;
  input = refl;
  position = λ a. refl;
  output = λ a. absurd (cc);
}

module _ (map : List Row) where
  any_if : (b : Bool) (f : Item → Bool) (it i : Item) (rest : Bool) → f i ≡ b → (f i ≡ true → items_conflict (stands_at map) it i ≡ true)
      → items_conflict (stands_at map) it i ≡ false → rest ≡ false → b || rest ≡ false
  any_if false f it i rest e g h r = r
  any_if true f it i rest e g h r = absurd (true≢false (sym (g e) ∙ h))

  pub any_free : (f : Item → Bool) (it : Item) (j : List Item) → ((i : Item) → f i ≡ true → items_conflict (stands_at map) it i ≡ true)
      → conflicts_with map it j ≡ false → any_of f j ≡ false
  any_free f it [] g h = refl
  any_free f it (i ∷ j) g h = any_if (f i) f it i (any_of f j) refl (g i) (or_left _ _ h) (any_free f it j g (or_right _ _ h))

  pub or_true : (a b : Bool) → b ≡ true → (a || b) ≡ true
  or_true true b h = refl
  or_true false b h = h

  pub or_true' : (a b : Bool) → a ≡ true → (a || b) ≡ true
  or_true' true b h = refl
  or_true' false b h = absurd (cc)

  pub alive_bears : (x : ObjName) (i : Item) → bears i x ≡ true → items_conflict (stands_at map) (Alive x) i ≡ true
  alive_bears x (Born y) h = h
  alive_bears x _ h = absurd (cc)

  pub alive_ends : (x : ObjName) (i : Item) → ends_life i x ≡ true → items_conflict (stands_at map) (Alive x) i ≡ true
  alive_ends x (Dies y) h = h
  alive_ends x _ h = absurd (cc)

  pub same_flip : (x y : ObjName) → same_object x y ≡ true → same_object y x ≡ true
  same_flip x y h = let e = same_object_is x y h in subst (λ z. same_object z x ≡ true) e (subst (λ z. same_object x z ≡ true) (sym e) h)

  pub dies_bears : (x : ObjName) (i : Item) → bears i x ≡ true → items_conflict (stands_at map) (Dies x) i ≡ true
  dies_bears x (Born y) h = or_true' _ _ (same_flip y x h)
  dies_bears x _ h = absurd (cc)

  pub dies_ends : (x : ObjName) (i : Item) → ends_life i x ≡ true → items_conflict (stands_at map) (Dies x) i ≡ true
  dies_ends x (Dies y) h = or_true' _ _ (same_flip y x h)
  dies_ends x _ h = absurd (cc)

  pub born_ends : (x : ObjName) (i : Item) → ends_life i x ≡ true → items_conflict (stands_at map) (Born x) i ≡ true
  born_ends x (Dies y) h = h
  born_ends x _ h = absurd (cc)

  pub shows_bears : (x : ObjName) (i : Item) → bears i x ≡ true → items_conflict (stands_at map) (Expose x) i ≡ true
  shows_bears x (Born y) h = h
  shows_bears x _ h = absurd (cc)

  pub takes_takes : (i : Item) → takes i ≡ true → items_conflict (stands_at map) Input i ≡ true
  takes_takes Input h = refl
  takes_takes _ h = absurd (cc)

  pub prints_prints : (i : Item) → prints i ≡ true → items_conflict (stands_at map) Output i ≡ true
  prints_prints Output h = refl
  prints_prints _ h = absurd (cc)

  lookup_shows : (a : ℕ) (x : ObjName) (i : Item) → stands_at map x a ≡ true → shows i x ≡ true → items_conflict (stands_at map) (Lookup a) i ≡ true
  lookup_shows a x (Expose y) m h = or_true' _ _ (subst (λ z. stands_at map z a ≡ true) (same_object_is x y (same_flip y x h)) m)
  lookup_shows a x _ m h = absurd (cc)

  lookup_ends : (a : ℕ) (x : ObjName) (i : Item) → stands_at map x a ≡ true → ends_life i x ≡ true → items_conflict (stands_at map) (Lookup a) i ≡ true
  lookup_ends a x (Dies y) m h = or_true' _ _ (subst (λ z. stands_at map z a ≡ true) (same_object_is x y (same_flip y x h)) m)
  lookup_ends a x _ m h = absurd (cc)

  pub both_in : (a n c m b : ℕ) → nat_le a b && nat_lt b (a + n) ≡ true → nat_le c b && nat_lt b (c + m) ≡ true → overlap c m a n ≡ true
  both_in a n c m b h k = grind (arith, nat_tests, h, k)

  pub reads_writes : (x : ObjName) (a n b : ℕ) → nat_le a b && nat_lt b (a + n) ≡ true → (i : Item) → writes i x b ≡ true
      → items_conflict (stands_at map) (Read x a n) i ≡ true
  reads_writes x a n b h (Write y c m) w = both_true (same_object y x) _ (and_left _ _ w) (both_in a n c m b h (and_right _ _ w))
  reads_writes x a n b h _ w = absurd (cc)

  -- the object of a read, a write or a birth isn't born elsewhere, and that of a read doesn't die
  abbrev pub Extra : Touch → List Item → Type 0
  Extra (Get x a n) j = (any_of (λ i. bears i x) j ≡ false) × (any_of (λ i. ends_life i x) j ≡ false)
  Extra (Put x a bs) j = any_of (λ i. bears i x) j ≡ false
  Extra (Bear x size kind declared) j = any_of (λ i. bears i x) j ≡ false
  Extra _ j = Unit {0}

  bytes_same : (f g : ℕ → TaggedByte) (a n : ℕ) → ((b : ℕ) → a ≤ b → b < a + n → f b ≡ g b) → range_from f a n ≡ range_from g a n
  bytes_same f g a zero h = refl
  bytes_same f g a (suc n) h = ap₂ (λ c d. c ∷ d) (h a (omega arith) (omega arith)) (bytes_same f g (suc a) n (λ b l r. h b (omega arith) (omega arith)))

  if_both : {A : Type 0} (b : Bool) (x y x' y' : A) → x ≡ x' → (b ≡ false → y ≡ y') → (if b then x else y) ≡ (if b then x' else y')
  if_both true x y x' y' e f = e
  if_both false x y x' y' e f = f refl

  in_range : (a b n : ℕ) → a ≤ b → b < a + n → nat_le a b && nat_lt b (a + n) ≡ true
  in_range a b n h k = grind (arith, nat_tests, h, k)

  pub life_of : (j : List Item) (s u : Store) (x : ObjName) → Diff j s u → conflicts_with map (Alive x) j ≡ false → s.life x ≡ u.life x
  life_of j s u x d c = d.life x (any_free _ (Alive x) j (alive_bears x) c) (any_free _ (Alive x) j (alive_ends x) c)

  find_same : (o : Option ObjName) (s u : Store) → ((x : ObjName) → o ≡ Some x → can_find s x ≡ can_find u x) → findable s o ≡ findable u o
  find_same None s u h = refl
  find_same (Some x) s u h = ap (λ b. if b then Some x else None) (h x refl)

  is_it : (o : Option ObjName) (x : ObjName) → o ≡ Some x → is_object o x ≡ true
  is_it o x h = subst (λ p. is_object p x ≡ true) (sym h) (same_object_refl x)

  -- a touch gives the same in a store that differs by what doesn't conflict
  pub same_answer : (t : Touch) (s u : Store) (j : List Item) → Diff j s u → conflicts_with map (item_of t) j ≡ false → Extra t j
      → answer map t s ≡ answer map t u
  same_answer (Ask x) s u j d c ex = life_of j s u x d c
  same_answer (Get x a n) s u j d c ex = bytes_same (s.bytes x) (u.bytes x) a n
      (λ b l r. d.bytes x b ex.0 ex.1 (any_free _ (Read x a n) j (reads_writes x a n b (in_range a b n l r)) c))
  same_answer (Put x a bs) s u j d c ex = refl
  same_answer (Bear x size kind declared) s u j d c ex = refl
  same_answer (Bury x) s u j d c ex = d.life x (any_free _ (Dies x) j (dies_bears x) c) (any_free _ (Dies x) j (dies_ends x) c)
  same_answer (Show x) s u j d c ex = refl
  same_answer (Find a) s u j d c ex =
      (let h = λ (x : ObjName) (k : stands_at map x a ≡ true). d.found x (any_free _ (Lookup a) j (λ i. lookup_shows a x i k) c)
      (any_free _ (Lookup a) j (λ i. lookup_ends a x i k) c) in
      ap₂ (λ p q. (p, q)) (find_same (covers map a) s u (λ x e. h x (or_true' _ _ (is_it (covers map a) x e))))
      (find_same (past map a) s u (λ x e. h x (or_true (is_object (covers map a) x) _ (is_it (past map a) x e)))))
  same_answer (Settle e x k) s u j d c ex = refl
  same_answer Take s u j d c ex = ap₂ slice_get d.input (d.position (any_free takes Input j takes_takes c))
  same_answer (Print to bs) s u j d c ex = refl

  other_if : (b : Bool) (e d : Event) (x z : ObjName) (s u : Store) → (b ≡ false → is_other (s.kept d) z ≡ is_other (u.kept d) z)
      → is_other (if b then Some x else s.kept d) z ≡ is_other (if b then Some x else u.kept d) z
  other_if true e d x z s u h = refl
  other_if false e d x z s u h = h refl

  settles_conflict : (e : Event) (x : ObjName) (i : Item) → settles_away i e x ≡ true → items_conflict (stands_at map) (Narrow e x) i ≡ true
  settles_conflict e x (Narrow d y) h = or_true _ _ h
  settles_conflict e x _ h = absurd (cc)

  pub same_refuses : (t : Touch) (s u : Store) (j : List Item) → Diff j s u → conflicts_with map (item_of t) j ≡ false → Extra t j → refuses t s ≡ refuses t u
  same_refuses (Bear x size kind declared) s u j d c ex = ap is_some (d.life x ex (any_free _ (Born x) j (born_ends x) c))
  same_refuses (Settle e x k) s u j d c ex = d.other e x (any_free _ (Narrow e x) j (settles_conflict e x) c)
  same_refuses _ s u j d c ex = refl

  some_if : (b : Bool) (l sl ul : Option Life) → (b ≡ false → is_some sl ≡ is_some ul) → is_some (if b then l else sl) ≡ is_some (if b then l else ul)
  some_if true l sl ul h = refl
  some_if false l sl ul h = h refl

  bear_case : (b se ue : Bool) (l sl ul : Option Life) → (b ≡ false → se && is_live sl ≡ ue && is_live ul)
      → (if b then false else se) && is_live (if b then l else sl) ≡ (if b then false else ue) && is_live (if b then l else ul)
  bear_case true se ue l sl ul h = refl
  bear_case false se ue l sl ul h = h refl

  no_and : (a b : Bool) → a && false ≡ b && false
  no_and true true = refl
  no_and true false = refl
  no_and false true = refl
  no_and false false = refl

  dead_live : (o : Option Life) → is_live (dead o) ≡ false
  dead_live None = refl
  dead_live (Some l) = refl

  bury_case : (b se ue : Bool) (lx mx sl ul : Option Life) → (b ≡ false → se && is_live sl ≡ ue && is_live ul)
      → se && is_live (if b then dead lx else sl) ≡ ue && is_live (if b then dead mx else ul)
  bury_case true se ue lx mx sl ul h = ap (λ z. se && z) (dead_live lx) ∙ no_and se ue ∙ sym (ap (λ z. ue && z) (dead_live mx))
  bury_case false se ue lx mx sl ul h = h refl

  bury_some : (b : Bool) (lx mx sl ul : Option Life) → lx ≡ mx → (b ≡ false → is_some sl ≡ is_some ul)
      → is_some (if b then dead lx else sl) ≡ is_some (if b then dead mx else ul)
  bury_some true lx mx sl ul e h = ap (λ o. is_some (dead o)) e
  bury_some false lx mx sl ul e h = h refl

  show_case : (b k l se ue sl ul : Bool) → k ≡ l → (b ≡ true → sl ≡ ul) → (b ≡ false → se && sl ≡ ue && ul)
      → (if b then k else se) && sl ≡ (if b then l else ue) && ul
  show_case true k l se ue sl ul e h g = ap₂ (λ p q. p && q) e (h refl)
  show_case false k l se ue sl ul e h g = g refl

  -- and it leaves the same difference
  pub left_diff : (t : Touch) (s u : Store) (j : List Item) → Diff j s u → conflicts_with map (item_of t) j ≡ false → Extra t j → Diff j (left t s) (left t u)
  left_diff (Ask x) s u j d c ex = d
  left_diff (Get x a n) s u j d c ex = d
  left_diff (Put x a bs) s u j d c ex = record {
    life = d.life;
    known = d.known;
    exposed = d.exposed;
    bytes = λ y b p e q. if_both (same_object x y && (nat_le a b && nat_lt b (a + length bs))) _ _ _ _ refl (λ n. d.bytes y b p e q);
    found = d.found;
    other = d.other;
    kept = d.kept;
    input = d.input;
    position = d.position;
    output = d.output;
  }
  left_diff (Bear x size kind declared) s u j d c ex = record {
    life = λ y p q. if_both (same_object x y) _ _ _ _ refl (λ e. d.life y p q);
    known = λ y p. some_if (same_object x y) _ (s.life y) (u.life y) (λ e. d.known y p);
    exposed = λ y p q. if_both (same_object x y) _ _ _ _ refl (λ e. d.exposed y p q);
    bytes = λ y b p e q. if_both (same_object x y) _ _ _ _ refl (λ n. d.bytes y b p e q);
    found = λ y p q. bear_case (same_object x y) (s.exposed y) (u.exposed y) _ (s.life y) (u.life y) (λ n. d.found y p q);
    other = d.other;
    kept = d.kept;
    input = d.input;
    position = d.position;
    output = d.output;
  }
  left_diff (Bury x) s u j d c ex =
      let lx : s.life x ≡ u.life x = d.life x (any_free _ (Dies x) j (dies_bears x) c) (any_free _ (Dies x) j (dies_ends x) c) in
      record {
        life = λ y p q. if_both (same_object x y) _ _ _ _ (ap dead lx) (λ e. d.life y p q);
        known = λ y p. bury_some (same_object x y) (s.life x) (u.life x) (s.life y) (u.life y) lx (λ e. d.known y p);
        exposed = d.exposed;
        bytes = λ y b p e q. if_both (same_object x y) _ _ _ _ refl (λ n. d.bytes y b p e q);
        found = λ y p q. bury_case (same_object x y) (s.exposed y) (u.exposed y) (s.life x) (u.life x) (s.life y) (u.life y) (λ n. d.found y p q);
        other = d.other;
        kept = d.kept;
        input = d.input;
        position = d.position;
        output = d.output;
      }
  left_diff (Show x) s u j d c ex =
      let kx : is_some (s.life x) ≡ is_some (u.life x) = d.known x (any_free _ (Expose x) j (shows_bears x) c) in
      record {
        life = d.life;
        known = d.known;
        exposed = λ y p q. if_both (same_object x y) _ _ _ _ kx (λ e. d.exposed y p q);
        bytes = d.bytes;
        found = λ y p q. show_case (same_object x y) (is_some (s.life x)) (is_some (u.life x)) (s.exposed y) (u.exposed y) (is_live (s.life y))
            (is_live (u.life y)) kx (λ e. ap is_live (d.life y (any_free _ (Expose x) j
            (λ i k. shows_bears x i (subst (λ z. bears i z ≡ true) (sym (same_object_is x y e)) k)) c) q)) (λ n. d.found y p q);
        other = d.other;
        kept = d.kept;
        input = d.input;
        position = d.position;
        output = d.output;
      }
  left_diff (Find a) s u j d c ex = d
  left_diff (Settle e x k) s u j d c ex = record {
    life = d.life;
    known = d.known;
    exposed = d.exposed;
    bytes = d.bytes;
    found = d.found;
    other = λ f z p. other_if (same_event e f) e f x z s u (λ n. d.other f z p);
    kept = λ f p. if_both (same_event e f) _ _ _ _ refl (λ n. d.kept f p);
    input = d.input;
    position = d.position;
    output = d.output;
  }
  left_diff Take s u j d c ex = record {
    life = d.life;
    known = d.known;
    exposed = d.exposed;
    bytes = d.bytes;
    found = d.found;
    other = d.other;
    kept = d.kept;
    input = d.input;
    position = λ p. ap₂ (λ (bs : List ℕ) (n : ℕ). n + (if is_some (slice_get bs n) then 1 else 0)) d.input (d.position p);
    output = d.output;
  }
  left_diff (Print to bs) s u j d c ex = record {
    life = d.life;
    known = d.known;
    exposed = d.exposed;
    bytes = d.bytes;
    found = d.found;
    other = d.other;
    kept = d.kept;
    input = d.input;
    position = d.position;
    output = λ p. ap (printed_to to bs) (d.output p);
  }

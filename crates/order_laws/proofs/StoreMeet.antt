-- Two stores that differ only in what two lists of items both alter are one, where these don't some_interference.
use Rattle.std.proofs.Common.{◌≡◌, ℕ, ◌+◌, Bool, true, false, not, ◌&&◌, ◌||◌, nat_lt, nat_le, List, [], ◌∷◌, ◌++◌, Option, Some, None, is_some, refl}
use Rattle.std.proofs.Common.{sym, ap, ◌∙◌, subst, true≢false, arith}
use Rattle.std.proofs.lemmas.Bool.Decides.{nat_tests}
use Rattle.ub_base.specs.declared.names.Event.{Event}
use Rattle.ub_base.specs.declared.names.ObjName.{ObjName}
use Rattle.ub_base.specs.declared.names.Item.{Item}
use Rattle.ub_base.specs.declared.names.Item.TheVariants.{Write, Born, Dies, Expose, Narrow, Input, Output}
use Rattle.ub_base.specs.Names.{same_event, same_object}
use Rattle.ub_base.proofs.NameLemmas.{same_object_is, same_object_refl, same_event_is}
use Rattle.addr_map.specs.declared.map.Row.{Row}
use Rattle.mem_spec.specs.Store.{Store}
use Rattle.addr_map.specs.Conflict.{items_conflict, stands_at, overlap}
use Rattle.mem_laws.specs.Frame.{
  bears,
  ends_life,
  shows,
  writes,
  settles,
  takes,
  prints,
  any_of,
  life_conflict,
  interferes,
  interferes_with,
  some_interference,
}
use Rattle.order_laws.specs.StoreParts.{Part, life_of, is_exposed, byte_of, kept_for, a_truth, an_object, look, alters, was_shown, was_settled}
use Rattle.order_laws.specs.StoreParts.{settles_to, shown_after, says, same_truth, is_the, is_so}

-- of several items one passes
pub or_l : (a b : Bool) → (a || b) ≡ false → a ≡ false
or_l false b h = refl
or_l true b h = h

pub or_r : (a b : Bool) → (a || b) ≡ false → b ≡ false
or_r false b h = h
or_r true b h = absurd (cc)

pub or_both : (a b : Bool) → a ≡ false → b ≡ false → (a || b) ≡ false
or_both false b h k = k
or_both true b h k = absurd (cc)

pub or_first : (a b : Bool) → a ≡ true → (a || b) ≡ true
or_first true b h = refl
or_first false b h = absurd (cc)

pub or_second : (a b : Bool) → b ≡ true → (a || b) ≡ true
or_second true b h = refl
or_second false b h = h

pub any_or : (f g : Item → Bool) (is : List Item) → any_of f is ≡ false → any_of g is ≡ false → any_of (λ i. f i || g i) is ≡ false
any_or f g [] h k = refl
any_or f g (i ∷ is) h k =
    or_both (f i || g i) (any_of (λ i. f i || g i) is) (or_both (f i) (g i) (or_l (f i) (any_of f is) h) (or_l (g i) (any_of g is) k))
    (any_or f g is (or_r (f i) (any_of f is) h) (or_r (g i) (any_of g is) k))

pub any_first : (f g : Item → Bool) (is : List Item) → any_of (λ i. f i || g i) is ≡ false → any_of f is ≡ false
any_first f g [] h = refl
any_first f g (i ∷ is) h =
    or_both (f i) (any_of f is) (or_l (f i) (g i) (or_l (f i || g i) (any_of (λ i. f i || g i) is) h))
    (any_first f g is (or_r (f i || g i) (any_of (λ i. f i || g i) is) h))

pub any_second : (f g : Item → Bool) (is : List Item) → any_of (λ i. f i || g i) is ≡ false → any_of g is ≡ false
any_second f g [] h = refl
any_second f g (i ∷ is) h =
    or_both (g i) (any_of g is) (or_r (f i) (g i) (or_l (f i || g i) (any_of (λ i. f i || g i) is) h))
    (any_second f g is (or_r (f i || g i) (any_of (λ i. f i || g i) is) h))

module _ (rows : List Row) where
  -- no item of the one kind in one list and of the other in the other, where such some_interference
  one_apart : (f : Item → Bool) (i : Item) (js : List Item) → ((j : Item) → f j ≡ true → interferes rows i j ≡ true) → interferes_with rows i js ≡ false
      → any_of f js ≡ false
  one_apart f i [] g h = refl
  one_apart f i (j ∷ js) g h = or_both (f j) (any_of f js) (go (f j) refl) (one_apart f i js g (or_r (interferes rows i j) (interferes_with rows i js) h))
    where
      go : (b : Bool) → f j ≡ b → f j ≡ false
      go false e = e
      go true e = absurd (true≢false (sym (g j e) ∙ or_l (interferes rows i j) (interferes_with rows i js) h))

  pub apart : (f g : Item → Bool) (is js : List Item) → ((i j : Item) → f i ≡ true → g j ≡ true → interferes rows i j ≡ true)
      → some_interference rows is js ≡ false
      → any_of f is ≡ true → any_of g js ≡ false
  apart f g [] js m h k = absurd (cc)
  apart f g (i ∷ is) js m h k = go (f i) refl (apart f g is js m (or_r (interferes_with rows i js) (some_interference rows is js) h))
    where
      go : (b : Bool) → f i ≡ b → (any_of f is ≡ true → any_of g js ≡ false) → any_of g js ≡ false
      go true e later = one_apart g i js (λ j w. m i j e w) (or_l (interferes_with rows i js) (some_interference rows is js) h)
      go false e later = later (subst (λ b. (b || any_of f is) ≡ true) e k)

  -- an item that bears or ends an object meets each other one that touches it
  pub flip : (x y : ObjName) → same_object x y ≡ true → same_object y x ≡ true
  flip x y h = let e = same_object_is x y h in subst (λ z. same_object z x ≡ true) e (same_object_refl x)

  -- two objects that are one and the same third
  joined : (x y z : ObjName) → same_object x z ≡ true → same_object y z ≡ true → same_object x y ≡ true
  joined x y z h k = subst (λ w. same_object x w ≡ true) (sym (same_object_is y z k)) h

  mixed : (i j : Item) → life_conflict i j ≡ true → interferes rows i j ≡ true
  mixed i j h = or_second (items_conflict (stands_at rows) i j) (life_conflict i j || life_conflict j i) (or_first (life_conflict i j) (life_conflict j i) h)

  mixed_back : (i j : Item) → life_conflict j i ≡ true → interferes rows i j ≡ true
  mixed_back i j h = or_second (items_conflict (stands_at rows) i j) (life_conflict i j || life_conflict j i)
      (or_second (life_conflict i j) (life_conflict j i) h)

  bears_bears : (x : ObjName) (i j : Item) → bears i x ≡ true → bears j x ≡ true → interferes rows i j ≡ true
  bears_bears x (Born y) (Born z) h k = mixed (Born y) (Born z) (joined y z x h k)
  bears_bears x (Born y) _ h k = absurd (cc)
  bears_bears x _ j h k = absurd (cc)

  bears_ends : (x : ObjName) (i j : Item) → bears i x ≡ true → ends_life j x ≡ true → interferes rows i j ≡ true
  bears_ends x (Born y) (Dies z) h k = or_first (same_object z y) (false || false) (joined z y x k h)
  bears_ends x (Born y) _ h k = absurd (cc)
  bears_ends x _ j h k = absurd (cc)

  ends_bears : (x : ObjName) (i j : Item) → ends_life i x ≡ true → bears j x ≡ true → interferes rows i j ≡ true
  ends_bears x (Dies y) (Born z) h k = or_first (same_object y z || false) (false || false) (or_first (same_object y z) false (joined y z x h k))
  ends_bears x (Dies y) _ h k = absurd (cc)
  ends_bears x _ j h k = absurd (cc)

  ends_ends : (x : ObjName) (i j : Item) → ends_life i x ≡ true → ends_life j x ≡ true → interferes rows i j ≡ true
  ends_ends x (Dies y) (Dies z) h k = or_first (same_object y z || same_object z y) (false || false)
      (or_first (same_object y z) (same_object z y) (joined y z x h k))
  ends_ends x (Dies y) _ h k = absurd (cc)
  ends_ends x _ j h k = absurd (cc)

  bears_shows : (x : ObjName) (i j : Item) → bears i x ≡ true → shows j x ≡ true → interferes rows i j ≡ true
  bears_shows x (Born y) (Expose z) h k = or_first (same_object y z || false) (false || false) (or_first (same_object y z) false (joined y z x h k))
  bears_shows x (Born y) _ h k = absurd (cc)
  bears_shows x _ j h k = absurd (cc)

  shows_bears : (x : ObjName) (i j : Item) → shows i x ≡ true → bears j x ≡ true → interferes rows i j ≡ true
  shows_bears x (Expose y) (Born z) h k = or_first (false || same_object z y) (false || false) (joined z y x k h)
  shows_bears x (Expose y) _ h k = absurd (cc)
  shows_bears x _ j h k = absurd (cc)

  pub by_and : (a b : Bool) → a && b ≡ true → (a ≡ true) × (b ≡ true)
  by_and true b h = (refl, h)
  by_and false b h = absurd (cc)

  bears_writes : (x : ObjName) (b : ℕ) (i j : Item) → bears i x ≡ true → writes j x b ≡ true → interferes rows i j ≡ true
  bears_writes x b (Born y) (Write z a n) h k = mixed (Born y) (Write z a n) (joined y z x h (by_and (same_object z x) _ k).0)
  bears_writes x b (Born y) _ h k = absurd (cc)
  bears_writes x b _ j h k = absurd (cc)

  writes_bears : (x : ObjName) (b : ℕ) (i j : Item) → writes i x b ≡ true → bears j x ≡ true → interferes rows i j ≡ true
  writes_bears x b (Write y a n) (Born z) h k = mixed_back (Write y a n) (Born z) (joined z y x k (by_and (same_object y x) _ h).0)
  writes_bears x b (Write y a n) _ h k = absurd (cc)
  writes_bears x b _ j h k = absurd (cc)

  ends_writes : (x : ObjName) (b : ℕ) (i j : Item) → ends_life i x ≡ true → writes j x b ≡ true → interferes rows i j ≡ true
  ends_writes x b (Dies y) (Write z a n) h k = mixed (Dies y) (Write z a n) (joined y z x h (by_and (same_object z x) _ k).0)
  ends_writes x b (Dies y) _ h k = absurd (cc)
  ends_writes x b _ j h k = absurd (cc)

  writes_ends : (x : ObjName) (b : ℕ) (i j : Item) → writes i x b ≡ true → ends_life j x ≡ true → interferes rows i j ≡ true
  writes_ends x b (Write y a n) (Dies z) h k = mixed_back (Write y a n) (Dies z) (joined z y x k (by_and (same_object y x) _ h).0)
  writes_ends x b (Write y a n) _ h k = absurd (cc)
  writes_ends x b _ j h k = absurd (cc)

  both_in : (a n c m b : ℕ) → nat_le a b && nat_lt b (a + n) ≡ true → nat_le c b && nat_lt b (c + m) ≡ true → overlap a n c m ≡ true
  both_in a n c m b h k = grind (arith, nat_tests, h, k)

  and_intro : (a b : Bool) → a ≡ true → b ≡ true → a && b ≡ true
  and_intro true b h k = k
  and_intro false b h k = h

  writes_writes : (x : ObjName) (b : ℕ) (i j : Item) → writes i x b ≡ true → writes j x b ≡ true → interferes rows i j ≡ true
  writes_writes x b (Write y a n) (Write z c m) h k =
      let p = by_and (same_object y x) _ h in
      let q = by_and (same_object z x) _ k in
      or_first (items_conflict (stands_at rows) (Write y a n) (Write z c m)) (false || false)
      (or_first _ _ (and_intro (same_object y z) _ (joined y z x p.0 q.0) (both_in a n c m b p.1 q.1)))
  writes_writes x b (Write y a n) _ h k = absurd (cc)
  writes_writes x b _ j h k = absurd (cc)

  -- either way of altering a part
  either : (f g : Item → Bool) (i j : Item) → (f i ≡ true → interferes rows i j ≡ true) → (g i ≡ true → interferes rows i j ≡ true) → (f i || g i) ≡ true
      → interferes rows i j ≡ true
  either f g i j h k e = go (f i) refl e
    where
      go : (b : Bool) → f i ≡ b → (b || g i) ≡ true → interferes rows i j ≡ true
      go true p e = h p
      go false p e = k e

  either_of : (f g : Item → Bool) (i j : Item) → (f j ≡ true → interferes rows i j ≡ true) → (g j ≡ true → interferes rows i j ≡ true) → (f j || g j) ≡ true
      → interferes rows i j ≡ true
  either_of f g i j h k e = go (f j) refl e
    where
      go : (b : Bool) → f j ≡ b → (b || g j) ≡ true → interferes rows i j ≡ true
      go true p e = h p
      go false p e = k e

  pub lives_interfere : (x : ObjName) (i j : Item) → alters i (life_of x) ≡ true → alters j (life_of x) ≡ true → interferes rows i j ≡ true
  lives_interfere x i j h k =
      either (λ i. bears i x) (λ i. ends_life i x) i j
      (λ a. either_of (λ j. bears j x) (λ j. ends_life j x) i j (λ c. bears_bears x i j a c) (λ c. bears_ends x i j a c) k)
      (λ a. either_of (λ j. bears j x) (λ j. ends_life j x) i j (λ c. ends_bears x i j a c) (λ c. ends_ends x i j a c) k) h

  bytes_with : (x : ObjName) (b : ℕ) (i j : Item) → (bears j x ≡ true → interferes rows i j ≡ true) → (ends_life j x ≡ true → interferes rows i j ≡ true)
      → (writes j x b ≡ true → interferes rows i j ≡ true)
      → alters j (byte_of x b) ≡ true → interferes rows i j ≡ true
  bytes_with x b i j p q r k = either_of (λ j. bears j x) (λ j. ends_life j x || writes j x b) i j p
      (λ e. either_of (λ j. ends_life j x) (λ j. writes j x b) i j q r e) k

  pub bytes_interfere : (x : ObjName) (b : ℕ) (i j : Item) → alters i (byte_of x b) ≡ true → alters j (byte_of x b) ≡ true → interferes rows i j ≡ true
  bytes_interfere x b i j h k =
      either (λ i. bears i x) (λ i. ends_life i x || writes i x b) i j
      (λ a. bytes_with x b i j (bears_bears x i j a) (bears_ends x i j a) (bears_writes x b i j a) k)
      (λ e. either (λ i. ends_life i x) (λ i. writes i x b) i j
      (λ a. bytes_with x b i j (ends_bears x i j a) (ends_ends x i j a) (ends_writes x b i j a) k)
      (λ a. bytes_with x b i j (writes_bears x b i j a) (writes_ends x b i j a) (writes_writes x b i j a) k) e) h

  pub takes_interfere : (i j : Item) → takes i ≡ true → takes j ≡ true → interferes rows i j ≡ true
  takes_interfere Input Input h k = refl
  takes_interfere Input _ h k = absurd (cc)
  takes_interfere _ j h k = absurd (cc)

  pub prints_interfere : (i j : Item) → prints i ≡ true → prints j ≡ true → interferes rows i j ≡ true
  prints_interfere Output Output h k = refl
  prints_interfere Output _ h k = absurd (cc)
  prints_interfere _ j h k = absurd (cc)

  -- a part that no two apart items alter
  pub same_by : (p : Part) (is js : List Item) (s t : Store) → ((i j : Item) → alters i p ≡ true → alters j p ≡ true → interferes rows i j ≡ true)
      → some_interference rows is js ≡ false
      → (any_of (λ i. alters i p) is ≡ false → look p s ≡ look p t) → (any_of (λ i. alters i p) js ≡ false → look p s ≡ look p t) → look p s ≡ look p t
  same_by p is js s t m h f g = go (any_of (λ i. alters i p) is) refl
    where
      go : (b : Bool) → any_of (λ i. alters i p) is ≡ b → look p s ≡ look p t
      go false e = f e
      go true e = g (apart (λ i. alters i p) (λ i. alters i p) is js m h e)

  -- an object that both show was shown last
  shown_true : (is : List Item) (x : ObjName) → any_of (λ i. bears i x) is ≡ false → shown_after is x true ≡ true
  shown_true [] x h = refl
  shown_true (i ∷ is) x h =
      go (bears i x) (shows i x) (or_l (bears i x) (any_of (λ i. bears i x) is) h) (shown_true is x (or_r (bears i x) (any_of (λ i. bears i x) is) h))
    where
      go : (b c : Bool) → b ≡ false → shown_after is x true ≡ true → shown_after is x (not b && (c || true)) ≡ true
      go false true e again = again
      go false false e again = again
      go true c e again = absurd (cc)

  shown_some : (is : List Item) (x : ObjName) (b : Bool) → any_of (λ i. bears i x) is ≡ false → any_of (λ i. shows i x) is ≡ true → shown_after is x b ≡ true
  shown_some [] x b h k = absurd (cc)
  shown_some (i ∷ is) x b h k =
      go (bears i x) (shows i x) refl (or_l (bears i x) (any_of (λ i. bears i x) is) h) (shown_some is x b (or_r (bears i x) (any_of (λ i. bears i x) is) h))
    where
      go : (c d : Bool) → shows i x ≡ d → c ≡ false → (any_of (λ i. shows i x) is ≡ true → shown_after is x b ≡ true)
          → shown_after is x (not c && (d || b)) ≡ true
      go false true e f again = shown_true is x (or_r (bears i x) (any_of (λ i. bears i x) is) h)
      go false false e f again = again (subst (λ d. (d || any_of (λ i. shows i x) is) ≡ true) e k)
      go true d e f again = absurd (cc)

  pub shown_joined : (is js : List Item) (x : ObjName) (b : Bool) → shown_after (is ++ js) x b ≡ shown_after js x (shown_after is x b)
  shown_joined [] js x b = refl
  shown_joined (i ∷ is) js x b = shown_joined is js x (not (bears i x) && (shows i x || b))

  pub both_shown : (is js : List Item) (x : ObjName) → any_of (λ i. bears i x) js ≡ false → any_of (λ i. shows i x) js ≡ true
      → says (is ++ js) (was_shown x) ≡ true
  both_shown is js x h k = shown_joined is js x false ∙ shown_some js x (shown_after is x false) h k

  same_truth_is : (a b c : Bool) → same_truth a c ≡ true → same_truth b c ≡ true → a ≡ b
  same_truth_is true true c h k = refl
  same_truth_is false false c h k = refl
  same_truth_is true false true h k = absurd (cc)
  same_truth_is true false false h k = absurd (cc)
  same_truth_is false true true h k = absurd (cc)
  same_truth_is false true false h k = absurd (cc)

  truth_is : (a b : Bool) → a_truth a ≡ a_truth b → a ≡ b
  truth_is a b h = cc

  -- whether an object is exposed
  pub same_exposed : (is js : List Item) (s t : Store) (x : ObjName) → some_interference rows is js ≡ false
      → (any_of (λ i. alters i (is_exposed x)) is ≡ false → look (is_exposed x) s ≡ look (is_exposed x) t)
      → (any_of (λ i. alters i (is_exposed x)) js ≡ false → look (is_exposed x) s ≡ look (is_exposed x) t)
      → (says (is ++ js) (was_shown x) ≡ true → is_so (was_shown x) s ≡ true) → (says (js ++ is) (was_shown x) ≡ true → is_so (was_shown x) t ≡ true)
      → s.life x ≡ t.life x → s.exposed x ≡ t.exposed x
  same_exposed is js s t x h f g p q l = by_bears (any_of (λ i. bears i x) is) (any_of (λ i. bears i x) js) refl refl
    where
      seen : look (is_exposed x) s ≡ look (is_exposed x) t → s.exposed x ≡ t.exposed x
      seen e = truth_is (s.exposed x) (t.exposed x) e

      left : (b c : Bool) → any_of (λ i. bears i x) is ≡ false → any_of (λ i. bears i x) js ≡ false → any_of (λ i. shows i x) is ≡ b
          → any_of (λ i. shows i x) js ≡ c → s.exposed x ≡ t.exposed x
      left false c bi bj si sj = seen (f (any_or (λ i. bears i x) (λ i. shows i x) is bi si))
      left true false bi bj si sj = seen (g (any_or (λ i. bears i x) (λ i. shows i x) js bj sj))
      left true true bi bj si sj =
          same_truth_is (s.exposed x) (t.exposed x) (is_some (s.life x)) (p (both_shown is js x bj sj))
          (subst (λ o. same_truth (t.exposed x) (is_some o) ≡ true) (sym l) (q (both_shown js is x bi si)))

      by_bears : (b c : Bool) → any_of (λ i. bears i x) is ≡ b → any_of (λ i. bears i x) js ≡ c → s.exposed x ≡ t.exposed x
      by_bears true c bi bj =
          seen (g (any_or (λ i. bears i x) (λ i. shows i x) js (apart (λ i. bears i x) (λ i. bears i x) is js (bears_bears x) h bi)
          (apart (λ i. bears i x) (λ i. shows i x) is js (bears_shows x) h bi)))
      by_bears false true bi bj = seen (f (any_or (λ i. bears i x) (λ i. shows i x) is bi (shows_none (any_of (λ i. shows i x) is) refl)))
        where
          shows_none : (b : Bool) → any_of (λ i. shows i x) is ≡ b → any_of (λ i. shows i x) is ≡ false
          shows_none false e = e
          shows_none true e = absurd (true≢false (sym bj ∙ apart (λ i. shows i x) (λ i. bears i x) is js (shows_bears x) h e))
      by_bears false false bi bj = left (any_of (λ i. shows i x) is) (any_of (λ i. shows i x) js) bi bj refl refl

  -- to which object an ambiguity was settled
  settled_one : (e : Event) (is : List Item) → any_of (λ i. settles i e) is ≡ true → (x : ObjName) × (any_of (λ i. settles_to i e x) is ≡ true)
  settled_one e [] h = absurd (cc)
  settled_one e (i ∷ is) h = go (settles i e) refl h (settled_one e is)
    where
      one : (i : Item) → settles i e ≡ true → (x : ObjName) × (settles_to i e x ≡ true)
      one (Narrow d y) k = (y, and_intro (same_event d e) (same_object y y) k (same_object_refl y))
      one _ k = absurd (cc)

      go : (b : Bool) → settles i e ≡ b → (b || any_of (λ i. settles i e) is) ≡ true
          → (any_of (λ i. settles i e) is ≡ true → (x : ObjName) × (any_of (λ i. settles_to i e x) is ≡ true))
          → (x : ObjName) × (any_of (λ i. settles_to i e x) (i ∷ is) ≡ true)
      go true k h later = (let a = one i k in (a.0, or_first (settles_to i e a.0) (any_of (λ i. settles_to i e a.0) is) a.1))
      go false k h later = (let a = later h in (a.0, or_second (settles_to i e a.0) (any_of (λ i. settles_to i e a.0) is) a.1))

  any_joined_l : (f : Item → Bool) (is js : List Item) → any_of f is ≡ true → any_of f (is ++ js) ≡ true
  any_joined_l f [] js h = absurd (cc)
  any_joined_l f (i ∷ is) js h = go (f i) h (any_joined_l f is js)
    where
      go : (b : Bool) → (b || any_of f is) ≡ true → (any_of f is ≡ true → any_of f (is ++ js) ≡ true) → (b || any_of f (is ++ js)) ≡ true
      go true h later = refl
      go false h later = later h

  pub any_joined_r : (f : Item → Bool) (is js : List Item) → any_of f js ≡ true → any_of f (is ++ js) ≡ true
  any_joined_r f [] js h = h
  any_joined_r f (i ∷ is) js h = or_second (f i) (any_of f (is ++ js)) (any_joined_r f is js h)

  pub is_the_one : (o : Option ObjName) (x : ObjName) → is_the o x ≡ true → o ≡ Some x
  is_the_one None x h = absurd (cc)
  is_the_one (Some y) x h = ap Some (same_object_is y x h)

  -- settled to different objects interferes
  settled_apart : (e : Event) (x y : ObjName) (i j : Item) → same_object x y ≡ false → settles_to i e x ≡ true → settles_to j e y ≡ true
      → interferes rows i j ≡ true
  settled_apart e x y (Narrow c z) (Narrow d w) n h k =
      let p = by_and (same_event c e) (same_object z x) h in
      let q = by_and (same_event d e) (same_object w y) k in
      let cd : same_event c d ≡ true = subst (λ v. same_event c v ≡ true) (sym (same_event_is d e q.0)) p.0 in
      let zw : same_object z w ≡ false = subst (λ v. same_object v w ≡ false) (sym (same_object_is z x p.1))
      (subst (λ v. same_object x v ≡ false) (sym (same_object_is w y q.1)) n) in
      or_first (items_conflict (stands_at rows) (Narrow c z) (Narrow d w)) (false || false)
      (or_first _ _ (and_intro (same_event c d) (not (same_object z w)) cd (ap not zw)))
  settled_apart e x y (Narrow c z) _ n h k = absurd (cc)
  settled_apart e x y _ j n h k = absurd (cc)

  object_is : (a b : Option ObjName) → an_object a ≡ an_object b → a ≡ b
  object_is a b h = cc

  pub same_kept : (is js : List Item) (s t : Store) (e : Event) → some_interference rows is js ≡ false
      → (any_of (λ i. settles i e) is ≡ false → look (kept_for e) s ≡ look (kept_for e) t)
      → (any_of (λ i. settles i e) js ≡ false → look (kept_for e) s ≡ look (kept_for e) t)
      → ((x : ObjName) → says (is ++ js) (was_settled e x) ≡ true → is_so (was_settled e x) s ≡ true)
      → ((x : ObjName) → says (js ++ is) (was_settled e x) ≡ true → is_so (was_settled e x) t ≡ true)
      → s.kept e ≡ t.kept e
  same_kept is js s t e h f g p q = go (any_of (λ i. settles i e) is) (any_of (λ i. settles i e) js) refl refl
    where
      seen : look (kept_for e) s ≡ look (kept_for e) t → s.kept e ≡ t.kept e
      seen k = object_is (s.kept e) (t.kept e) k

      go : (b c : Bool) → any_of (λ i. settles i e) is ≡ b → any_of (λ i. settles i e) js ≡ c → s.kept e ≡ t.kept e
      go false c si sj = seen (f si)
      go true false si sj = seen (g sj)
      go true true si sj =
          let a = settled_one e is si in
          is_the_one (s.kept e) a.0 (p a.0 (any_joined_l (λ i. settles_to i e a.0) is js a.1))
          ∙ sym (is_the_one (t.kept e) a.0 (q a.0 (any_joined_r (λ i. settles_to i e a.0) js is a.1)))

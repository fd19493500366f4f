-- Where all that is done was reached, the canonical order takes a permitted event, until all due events are done.
use Rattle.std.proofs.Common.{
  ◌≡◌,
  ◌≤◌,
  ◌<◌,
  ◌⊎◌,
  ℕ,
  suc,
  ◌+◌,
  Bool,
  true,
  false,
  not,
  ◌&&◌,
  ◌||◌,
  ◌==◌,
  nat_lt,
  if◌then◌else◌,
  true≢false,
  List,
  [],
  ◌∷◌,
  ◌++◌,
  Option,
  Some,
  None,
  is_some,
  is_none,
  refl,
  sym,
  ap,
  ◌∙◌,
  subst,
  inl,
  inr,
  arith,
}
use Rattle.std.specs.List.{list_all}
use Rattle.std.proofs.lemmas.Bool.Decides.{nat_tests}
use Rattle.ub_base.specs.declared.clause.Kind.TheVariants.{Val, Eff}
use Rattle.c_typed.specs.declared.tree.Place.{Place}
use Rattle.c_typed.specs.declared.class.Class.{Class}
use Rattle.c_typed.specs.declared.class.Class.TheVariants.{Update}
use Rattle.c_typed.specs.Tree.{Tree, node, Trees, none, more, size, sizes}
use Rattle.c_typed.specs.Order.{Taken, goes, place, same_place, events, has, is_body, own_rule, update_is_open, operand_is_open, IsPermitted}
use Rattle.c_typed.specs.Decide.{due_in, is_before, is_ready, is_permitted, first_place, canonical}
use Rattle.c_model.specs.Program.{tree_of}
use Rattle.c_model.specs.Values.{Value}
use Rattle.c_model.specs.World.{World}
use Rattle.c_model.specs.Steps.{Scene, Begun, taken_by, is_done}
use Rattle.c_model.specs.ChoiceLaws.{IsNext, IsReached, IsClosed, is_update, update_at, update_among}
use Rattle.c_model.proofs.Decided.{and_b, or_a, or_b, has_due}
use Rattle.c_model.proofs.Closed.{before_due, before_found, found_before}
use Rattle.c_model.proofs.Listed.{same_place_eq, same_place_itself, respected}
use Rattle.c_model.proofs.Updates.{due_halves, halves_back}

and_l : (a b : Bool) → (a && b) ≡ true → a ≡ true
and_l true b h = refl
and_l false b h = h

and_r : (a b : Bool) → (a && b) ≡ true → b ≡ true
and_r true b h = h
and_r false b h = absurd (true≢false (sym h))

not_true : (b : Bool) → not b ≡ true → b ≡ false
not_true true h = absurd (true≢false (sym h))
not_true false h = refl

not_false : (b : Bool) → not b ≡ false → b ≡ true
not_false true h = refl
not_false false h = absurd (true≢false h)

to_not : (b : Bool) → b ≡ false → not b ≡ true
to_not true h = absurd (true≢false h)
to_not false h = refl

or_left : (a b : Bool) → (a || not b) ≡ true → b ≡ true → a ≡ true
or_left true b h k = refl
or_left false true h k = absurd (true≢false (sym h))
or_left false false h k = absurd (true≢false (sym k))

left_none : (o : Option Value) → not (is_some o) ≡ true → o ≡ None
left_none None h = refl
left_none (Some v) h = absurd (true≢false (sym h))

-- an item of a list for which a test of all holds
all_at : (p : Place → Bool) (ws : List Place) (w : Place) → list_all p ws ≡ true → has ws w ≡ true → p w ≡ true
all_at p [] w h g = absurd (true≢false (sym g))
all_at p (x ∷ ws) w h g = go (same_place w x) refl (all_at p ws w (and_r (p x) _ h))
  where
    go : (b : Bool) → same_place w x ≡ b → (has ws w ≡ true → p w ≡ true) → p w ≡ true
    go true e again = subst (λ z. p z ≡ true) (sym (same_place_eq w x e)) (and_l (p x) _ h)
    go false e again = again (subst (λ b. (b || has ws w) ≡ true) e g)

all_of : (p : Place → Bool) (ws : List Place) → ((w : Place) → has ws w ≡ true → p w ≡ true) → list_all p ws ≡ true
all_of p [] f = refl
all_of p (w ∷ ws) f = and_b _ _ (f w (or_a _ _ (same_place_itself w))) (all_of p ws (λ x h. f x (or_b (same_place x w) _ h)))

-- where the first that passes stands in a list
record First (test : Place → Bool) (ws : List Place) (v : Place) : Type 0 where
  before : List Place
  after : List Place
  listed : ws ≡ before ++ v ∷ after
  earlier : (w : Place) → has before w ≡ true → test w ≡ false
  passes : test v ≡ true

early : (test : Place → Bool) (w x : Place) (us : List Place) → test w ≡ false → (b : Bool) → same_place x w ≡ b
    → (has us x ≡ true → test x ≡ false) → (b || has us x) ≡ true → test x ≡ false
early test w x us e true s f g = subst (λ z. test z ≡ false) (sym (same_place_eq x w s)) e
early test w x us e false s f g = f g

first_here : (test : Place → Bool) (w v : Place) (ws : List Place) → test w ≡ true → w ≡ v → First test (w ∷ ws) v
first_here test w v ws e q = record {
  before = [];
  after = ws;
  listed = ap (λ z. z ∷ ws) q;
  earlier = λ x g. absurd (true≢false (sym g));
  passes = subst (λ z. test z ≡ true) q e;
}

first_later : (test : Place → Bool) (w v : Place) (ws : List Place) → test w ≡ false → First test ws v → First test (w ∷ ws) v
first_later test w v ws e r = record {
  before = w ∷ r.before;
  after = r.after;
  listed = ap (λ z. w ∷ z) r.listed;
  earlier = λ x g. early test w x r.before e (same_place x w) refl (r.earlier x) g;
  passes = r.passes;
}

some_inj : (w v : Place) → Some w ≡ Some v → w ≡ v
some_inj w v h = cc

first_of : (test : Place → Bool) (ws : List Place) (v : Place) → first_place test ws ≡ Some v → First test ws v
first_of test [] v h = absurd (cc)
first_of test (w ∷ ws) v h = go (test w) refl h (first_of test ws v)
  where
    go : (b : Bool) → test w ≡ b → (if b then Some w else first_place test ws) ≡ Some v → (first_place test ws ≡ Some v → First test ws v) →
        First test (w ∷ ws) v
    go true e k again = first_here test w v ws e (some_inj w v k)
    go false e k again = first_later test w v ws e (again k)

none_passes : (test : Place → Bool) (ws : List Place) (w : Place) → first_place test ws ≡ None → has ws w ≡ true → test w ≡ true → ⊥
none_passes test [] w h g p = true≢false (sym g)
none_passes test (x ∷ ws) w h g p = go (test x) refl h (λ k c. none_passes test ws w k c p)
  where
    same : test x ≡ false → (has ws w ≡ true → ⊥) → (s : Bool) → same_place w x ≡ s → ⊥
    same e again true q = true≢false (sym (subst (λ z. test z ≡ true) (same_place_eq w x q) p) ∙ e)
    same e again false q = again (subst (λ b. (b || has ws w) ≡ true) q g)

    go : (b : Bool) → test x ≡ b → (if b then Some x else first_place test ws) ≡ None → (first_place test ws ≡ None → has ws w ≡ true → ⊥) → ⊥
    go true e k again = cc (k)
    go false e k again = same e (again k) (same_place w x) refl

in_list : (us vs : List Place) (v : Place) → has (us ++ v ∷ vs) v ≡ true
in_list [] vs v = or_a _ _ (same_place_itself v)
in_list (u ∷ us) vs v = or_b (same_place v u) _ (in_list us vs v)

-- the update that stands between its halves
record Halfway (done : Place → Bool) (k : ℕ) (t : Tree) : Type 0 where
  number : ℕ
  low : k ≤ number
  high : number < k + size t
  update : update_at k t number ≡ true
  value : done (place number Val) ≡ true
  effect : done (place number Eff) ≡ false

record HalfwayAmong (done : Place → Bool) (k : ℕ) (ts : Trees) : Type 0 where
  number : ℕ
  low : k ≤ number
  high : number < k + sizes ts
  update : update_among k ts number ≡ true
  value : done (place number Val) ≡ true
  effect : done (place number Eff) ≡ false

at_itself : (n : ℕ) (b : Bool) {A : Type 0} (x y : A) → (n == n) ≡ b → (if b then x else y) ≡ x
at_itself n true x y e = refl
at_itself n false x y e = absurd (cc (e, same_number n))
  where
    same_number : (m : ℕ) → (m == m) ≡ true
    same_number m = grind (arith, nat_tests)

other_number : (m k : ℕ) (b : Bool) {A : Type 0} (x y : A) → k < m → (m == k) ≡ b → (if b then x else y) ≡ y
other_number m k false x y l e = refl
other_number m k true x y l e = absurd (let q : m ≡ k = grind (arith, nat_tests, e) in omega (arith, q, l))

lower_number : (m k : ℕ) (b : Bool) {A : Type 0} (x y : A) → m < k → nat_lt m k ≡ b → (if b then x else y) ≡ x
lower_number m k true x y l e = refl
lower_number m k false x y l e = absurd (let q : k ≤ m = grind (arith, nat_tests, e) in omega (arith, q, l))

higher_number : (m k : ℕ) (b : Bool) {A : Type 0} (x y : A) → k ≤ m → nat_lt m k ≡ b → (if b then x else y) ≡ y
higher_number m k false x y l e = refl
higher_number m k true x y l e = absurd (let q : m < k = grind (arith, nat_tests, e) in omega (arith, q, l))

or_cases : (a b : Bool) → (a || b) ≡ true → (a ≡ true) ⊎ (b ≡ true)
or_cases true b h = inl refl
or_cases false b h = inr h

is_an_update : (class : Class) → own_rule class Val Eff ≡ true → is_update class ≡ true
is_an_update Update h = refl
is_an_update _ h = absurd (true≢false (sym h))

abbrev mutual
  halfway : (taken : Taken) (done : Place → Bool) (t : Tree) (k : ℕ) → update_is_open taken done k t ≡ true → Halfway done k t
  halfway taken done (node class ts) k h = elim (or_cases (own_rule class Val Eff && (done (place k Val) && not (done (place k Eff)))) _ h) [
    | inl a ↦ record {
      number = k;
      low = omega arith;
      high = omega arith;
      update = at_itself k (k == k) (is_update class) (update_among (suc k) ts k) refl ∙ is_an_update class (and_l _ _ a);
      value = and_l _ _ (and_r (own_rule class Val Eff) _ a);
      effect = not_true _ (and_r (done (place k Val)) _ (and_r (own_rule class Val Eff) _ a));
    }
    | inr a ↦ (let r = halfway_among taken done ts class (taken k) 0 (suc k) a in record {
      number = r.number;
      low = omega (arith, r.low);
      high = omega (arith, r.high);
      update = other_number r.number k (r.number == k) (is_update class) (update_among (suc k) ts r.number) (omega (arith, r.low)) refl ∙ r.update;
      value = r.value;
      effect = r.effect;
    })
  ]

  halfway_among : (taken : Taken) (done : Place → Bool) (ts : Trees) (class : Class) (choice : Option ℕ) (i m : ℕ)
      → operand_is_open taken done class choice i m ts ≡ true → HalfwayAmong done m ts
  halfway_among taken done none class choice i m h = absurd (true≢false (sym h))
  halfway_among taken done (more t ts) class choice i m h = elim (or_cases (goes class choice i && update_is_open taken done m t) _ h) [
    | inl a ↦ (let r = halfway taken done t m (and_r (goes class choice i) _ a) in record {
      number = r.number;
      low = r.low;
      high = omega (arith, r.high);
      update = lower_number r.number (m + size t) (nat_lt r.number (m + size t)) (update_at m t r.number) (update_among (m + size t) ts r.number) r.high
          refl ∙ r.update;
      value = r.value;
      effect = r.effect;
    })
    | inr a ↦ (let r = halfway_among taken done ts class choice (suc i) (m + size t) a in record {
      number = r.number;
      low = omega (arith, r.low);
      high = omega (arith, r.high);
      update = higher_number r.number (m + size t) (nat_lt r.number (m + size t)) (update_at m t r.number) (update_among (m + size t) ts r.number) r.low
          refl ∙ r.update;
      value = r.value;
      effect = r.effect;
    })
  ]

not_body : (u : Place) (b : Bool) → u.kind ≡ Eff → not (is_body u.kind && b) ≡ true
not_body u b e = subst (λ k. not (is_body k && b) ≡ true) (sym e) refl

and_not : (a b : Bool) → b ≡ false → not (a && b) ≡ true
and_not true b h = to_not b h
and_not false b h = refl

module _ (world : World) (f : Scene) (e : Begun) where
  abbrev T : Taken
  T = taken_by world f e

  abbrev root : Tree
  root = tree_of e.root

  abbrev done : Place → Bool
  done = is_done e

  abbrev all : List Place
  all = events T 0 root

  -- what the test of a permitted event says
  pub permitted : (u : Place) → is_permitted root T done u ≡ true → IsPermitted root T done u
  permitted u h =
      let r : is_ready root T done u ≡ true = and_l (is_ready root T done u) _ h in
      let s : (not (done u) && list_all (λ v. done v || not (is_before T 0 root v u)) all) ≡ true = and_r (due_in T 0 root u) _ r in
      record {
        ready = record {
          due = has_due T root 0 u ∙ and_l (due_in T 0 root u) _ r;
          left = not_true _ (and_l (not (done u)) _ s);
          earlier = λ v b. or_left (done v) (is_before T 0 root v u)
              (all_at (λ v. done v || not (is_before T 0 root v u)) all v (and_r (not (done u)) _ s) (before_due root T v u b).0) (before_found root T v u b);
        };
        no_split = not_true _ (and_r (is_ready root T done u) _ h);
      }

  pub next : (u : Place) → is_permitted root T done u ≡ true → IsNext world f e u
  next u h =
      let r : is_ready root T done u ≡ true = and_l (is_ready root T done u) _ h in
      let s : (not (done u) && list_all (λ v. done v || not (is_before T 0 root v u)) all) ≡ true = and_r (due_in T 0 root u) _ r in
      record {
        due = and_l (due_in T 0 root u) _ r;
        left = left_none (e.given u) (and_l (not (done u)) _ s);
        earlier = λ v d b. or_left (done v) (is_before T 0 root v u)
            (all_at (λ v. done v || not (is_before T 0 root v u)) all v (and_r (not (done u)) _ s) (has_due T root 0 v ∙ d)) b;
      }

  module _ (closed : IsClosed world f e) where
    -- the effect of an update that stands between its halves may come
    effect_may : (o : Halfway done 0 root) → is_permitted root T done (place o.number Eff) ≡ true
    effect_may o =
        let r = closed (place o.number Val) o.value in
        let step : (w : Place) → has all w ≡ true → (done w || not (is_before T 0 root w (place o.number Eff))) ≡ true = λ w hw.
        before_it o r w hw (is_before T 0 root w (place o.number Eff)) refl in
        and_b _ _
        (and_b _ _ (due_halves T o.number root 0 o.update r.due)
        (and_b _ _ (to_not _ o.effect) (all_of (λ w. done w || not (is_before T 0 root w (place o.number Eff))) all step)))
        (not_body (place o.number Eff) (update_is_open T done 0 root) refl)
      where
        before_it : (o : Halfway done 0 root) → IsReached world f e (place o.number Val) → (w : Place) → has all w ≡ true
            → (b : Bool) → is_before T 0 root w (place o.number Eff) ≡ b → (done w || not b) ≡ true
        before_it o r w hw false q = or_b (done w) true refl
        before_it o r w hw true q = or_a _ _ (elim (halves_back T o.number root 0 w o.update q) [
          | inl s ↦ subst (λ z. done z ≡ true) (sym s) o.value
          | inr s ↦ r.earlier w (sym (has_due T root 0 w) ∙ hw) s
        ])

    -- and where none does, the first event that isn't done may
    first_may : (v : Place) → First (λ u. not (done u)) all v → update_is_open T done 0 root ≡ false → is_permitted root T done v ≡ true
    first_may v r shut =
        let due : has all v ≡ true = subst (λ z. has z v ≡ true) (sym r.listed) (in_list r.before r.after v) in
        and_b _ _
        (and_b _ _ (sym (has_due T root 0 v) ∙ due)
        (and_b _ _ r.passes (all_of (λ w. done w || not (is_before T 0 root w v)) all (λ w hw. step w hw due (is_before T 0 root w v) refl))))
        (and_not (is_body v.kind) _ shut)
      where
        step : (w : Place) → has all w ≡ true → has all v ≡ true → (b : Bool) → is_before T 0 root w v ≡ b → (done w || not b) ≡ true
        step w hw due false q = or_b (done w) true refl
        step w hw due true q = or_a _ _ (not_false _ (r.earlier w (respected root T r.before r.after v r.listed w hw (found_before root T w v hw due q))))

    -- so where the canonical order takes none, all due events are done
    pub settled : canonical root T done ≡ None → is_none (first_place (λ u. not (done u)) all) ≡ true
    settled h = go (first_place (λ u. not (done u)) all) refl
      where
        go : (o : Option Place) → first_place (λ u. not (done u)) all ≡ o → is_none o ≡ true
        go None q = refl
        go (Some v) q = absurd (either (update_is_open T done 0 root) refl)
          where
            r : First (λ u. not (done u)) all v
            r = first_of (λ u. not (done u)) all v q

            either : (b : Bool) → update_is_open T done 0 root ≡ b → ⊥
            either true s =
                let o = halfway T done root 0 s in
                let reached = closed (place o.number Val) o.value in
                none_passes (is_permitted root T done) all (place o.number Eff) h
                (has_due T root 0 (place o.number Eff) ∙ due_halves T o.number root 0 o.update reached.due) (effect_may o)
            either false s =
                none_passes (is_permitted root T done) all v h (subst (λ z. has z v ≡ true) (sym r.listed) (in_list r.before r.after v)) (first_may v r s)

  -- the event that it takes is permitted
  pub taken_may : (u : Place) → canonical root T done ≡ Some u → is_permitted root T done u ≡ true
  taken_may u h = let r = first_of (is_permitted root T done) all u h in r.passes

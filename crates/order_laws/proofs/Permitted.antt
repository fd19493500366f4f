-- The picks that are permitted in the model are the machine's, and the next one of the canonical order is permitted.
use Rattle.std.proofs.Common.{◌≡◌, ℕ, suc, ◌+◌, ◌<◌, ◌≤◌, Bool, true, false, not, ◌&&◌, ◌||◌, ◌==◌, nat_lt, if◌then◌else◌, true≢false, List, [], ◌∷◌}
use Rattle.std.proofs.Common.{◌++◌, Option, Some, None, is_some, refl, sym, ap, ◌∙◌, subst, ◌⊎◌, inl, inr, append_assoc, arith}
use Rattle.std.specs.Prelude.{is_none}
use Rattle.std.specs.List.{list_all}
use Rattle.ub_base.specs.declared.clause.Kind.TheVariants.{Val, Eff}
use Rattle.c_typed.specs.declared.tree.Place.{Place}
use Rattle.c_typed.specs.declared.class.Class.{Class}
use Rattle.c_typed.specs.declared.class.Class.TheVariants.{Update}
use Rattle.c_typed.specs.Tree.{kinds_of, Tree, node, Trees, none, more, size, sizes}
use Rattle.c_typed.specs.Order.{Taken, place, same_place, is_body, goes, own_rule, has, events, is_due, Before, update_is_open, operand_is_open, IsPermitted}
use Rattle.c_typed.specs.Decide.{has_kind, due_in, due_among, is_before, is_ready, is_permitted, first_place, canonical}
use Rattle.c_model.specs.Program.{tree_of}
use Rattle.c_model.specs.World.{World}
use Rattle.c_model.specs.Steps.{Scene, Local, Begun, Pick, Control, Ev, is_done, taken_by, is_settled, MayPick}
use Rattle.c_model.specs.Runs.{chosen_pick, canonical_pick}
use Rattle.c_model.specs.ModelMachine.{nodes, none_open, ready_in, may_start_in}
use Rattle.c_model.specs.ChoiceLaws.{IsClosed, due_now, is_update, update_at, update_among}
use Rattle.c_model.proofs.Decided.{has_due}
use Rattle.c_model.proofs.Closed.{before_due, before_found, found_before}
use Rattle.c_model.proofs.Listed.{same_place_eq, same_place_itself, respected}
use Rattle.c_model.proofs.Updates.{halves_back}
use Rattle.c_model.proofs.FramesKeep.{get, all, none_get, none_put, implied, due_lt, next_of, ready_b}
use Rattle.order_laws.specs.PermittedPicks.{ClosedIn, PicksAgree, CanonicalIsPermitted}

pub and_l : (a b : Bool) → (a && b) ≡ true → a ≡ true
and_l true b h = refl
and_l false b h = h

pub and_r : (a b : Bool) → (a && b) ≡ true → b ≡ true
and_r true b h = h
and_r false b h = absurd (cc)

pub and_b : (a b : Bool) → a ≡ true → b ≡ true → (a && b) ≡ true
and_b true b h k = k
and_b false b h k = h

pub or_a : (a b : Bool) → a ≡ true → (a || b) ≡ true
or_a true b h = refl
or_a false b h = absurd (cc)

pub or_b : (a b : Bool) → b ≡ true → (a || b) ≡ true
or_b true b h = refl
or_b false b h = h

pub not_of : (b : Bool) → not b ≡ true → b ≡ false
not_of false h = refl
not_of true h = absurd (cc)

pub to_not : (b : Bool) → b ≡ false → not b ≡ true
to_not false h = refl
to_not true h = absurd (cc)

pub none_is : {A : Type 0} (o : Option A) → is_some o ≡ false → o ≡ None
none_is None h = refl
none_is (Some a) h = absurd (cc)

is_none_is : {A : Type 0} (o : Option A) → is_none o ≡ true → o ≡ None
is_none_is None h = refl
is_none_is (Some a) h = absurd (cc)

-- an update that is open in the part that is evaluated
record OpenAt (done : Place → Bool) (k n : ℕ) (up : ℕ → Bool) : Type 0 where
  number : ℕ
  update : up number ≡ true
  value : done (place number Val) ≡ true
  effect : done (place number Eff) ≡ false
  from : k ≤ number
  to : number < k + n

eq_refl : (m : ℕ) → (m == m) ≡ true
eq_refl m = grind arith

is_update_of : (class : Class) → own_rule class Val Eff ≡ true → is_update class ≡ true
is_update_of Update h = refl
is_update_of _ h = absurd (cc)

rule_of : (class : Class) → is_update class ≡ true → own_rule class Val Eff ≡ true
rule_of Update h = refl
rule_of _ h = absurd (cc)

own_at : (class : Class) (ts : Trees) (k : ℕ) → is_update class ≡ true → update_at k (node class ts) k ≡ true
own_at class ts k h = pick (k == k) (eq_refl k)
  where
    pick : (b : Bool) → b ≡ true → (if b then is_update class else update_among (suc k) ts k) ≡ true
    pick true e = h
    pick false e = absurd (cc)

ne_test : (m k : ℕ) → k < m → (m == k) ≡ false
ne_test m k h = grind (arith, h)

lt_test : (m n : ℕ) → m < n → nat_lt m n ≡ true
lt_test m n h = grind (arith, h)

ge_test : (m n : ℕ) → n ≤ m → nat_lt m n ≡ false
ge_test m n h = grind (arith, h)

below_at : (class : Class) (ts : Trees) (k m : ℕ) → k < m → update_among (suc k) ts m ≡ true → update_at k (node class ts) m ≡ true
below_at class ts k m l h = pick (m == k) (ne_test m k l)
  where
    pick : (b : Bool) → b ≡ false → (if b then is_update class else update_among (suc k) ts m) ≡ true
    pick false e = h
    pick true e = absurd (cc)

first_at : (t : Tree) (ts : Trees) (k m : ℕ) → m < k + size t → update_at k t m ≡ true → update_among k (more t ts) m ≡ true
first_at t ts k m l h = pick (nat_lt m (k + size t)) (lt_test m (k + size t) l)
  where
    pick : (b : Bool) → b ≡ true → (if b then update_at k t m else update_among (k + size t) ts m) ≡ true
    pick true e = h
    pick false e = absurd (cc)

later_at : (t : Tree) (ts : Trees) (k m : ℕ) → k + size t ≤ m → update_among (k + size t) ts m ≡ true → update_among k (more t ts) m ≡ true
later_at t ts k m l h = pick (nat_lt m (k + size t)) (ge_test m (k + size t) l)
  where
    pick : (b : Bool) → b ≡ false → (if b then update_at k t m else update_among (k + size t) ts m) ≡ true
    pick false e = h
    pick true e = absurd (cc)

pub or_cases : (a b : Bool) → (a || b) ≡ true → (a ≡ true) ⊎ (b ≡ true)
or_cases true b h = inl refl
or_cases false b h = inr h

opened_or : (taken : Taken) (done : Place → Bool) (class : Class) (ts : Trees) (k : ℕ)
    → ((own_rule class Val Eff && (done (place k Val) && not (done (place k Eff)))) ≡ true) ⊎ (operand_is_open taken done class (taken k) 0 (suc k) ts ≡ true)
    → (operand_is_open taken done class (taken k) 0 (suc k) ts ≡ true → OpenAt done (suc k) (sizes ts) (update_among (suc k) ts))
    → OpenAt done k (size (node class ts)) (update_at k (node class ts))
opened_or taken done class ts k (inl a) later =
    let b = and_r (own_rule class Val Eff) _ a in
    record {
      number = k;
      update = own_at class ts k (is_update_of class (and_l (own_rule class Val Eff) _ a));
      value = and_l (done (place k Val)) _ b;
      effect = not_of _ (and_r (done (place k Val)) _ b);
      from = omega arith;
      to = omega arith;
    }
opened_or taken done class ts k (inr a) later =
    let o = later a in
    record {
      number = o.number;
      update = below_at class ts k o.number (let l = o.from in omega (arith, l)) o.update;
      value = o.value;
      effect = o.effect;
      from = (let l = o.from in omega (arith, l));
      to = (let l = o.to in omega (arith, l));
    }

opened_next : (taken : Taken) (done : Place → Bool) (t : Tree) (ts : Trees) (class : Class) (choice : Option ℕ) (i m : ℕ)
    → ((goes class choice i && update_is_open taken done m t) ≡ true) ⊎ (operand_is_open taken done class choice (suc i) (m + size t) ts ≡ true)
    → (update_is_open taken done m t ≡ true → OpenAt done m (size t) (update_at m t))
    → (operand_is_open taken done class choice (suc i) (m + size t) ts ≡ true → OpenAt done (m + size t) (sizes ts) (update_among (m + size t) ts))
    → OpenAt done m (sizes (more t ts)) (update_among m (more t ts))
opened_next taken done t ts class choice i m (inl a) here later =
    let o = here (and_r (goes class choice i) _ a) in
    record {
      number = o.number;
      update = first_at t ts m o.number o.to o.update;
      value = o.value;
      effect = o.effect;
      from = o.from;
      to = (let l = o.to in omega (arith, l));
    }
opened_next taken done t ts class choice i m (inr a) here later =
    let o = later a in
    record {
      number = o.number;
      update = later_at t ts m o.number o.from o.update;
      value = o.value;
      effect = o.effect;
      from = (let l = o.from in omega (arith, l));
      to = (let l = o.to in omega (arith, l));
    }

mutual
  opened_in : (taken : Taken) (done : Place → Bool) (t : Tree) (k : ℕ) → update_is_open taken done k t ≡ true → OpenAt done k (size t) (update_at k t)
  opened_in taken done (node class ts) k h =
      opened_or taken done class ts k (or_cases (own_rule class Val Eff && (done (place k Val) && not (done (place k Eff)))) _ h)
      (opened_among taken done ts class (taken k) 0 (suc k))

  opened_among : (taken : Taken) (done : Place → Bool) (ts : Trees) (class : Class) (choice : Option ℕ) (i m : ℕ)
      → operand_is_open taken done class choice i m ts ≡ true
      → OpenAt done m (sizes ts) (update_among m ts)
  opened_among taken done none class choice i m h = absurd (true≢false (sym h))
  opened_among taken done (more t ts) class choice i m h =
      opened_next taken done t ts class choice i m (or_cases (goes class choice i && update_is_open taken done m t) _ h) (opened_in taken done t m)
      (opened_among taken done ts class choice (suc i) (m + size t))

-- and one whose value is due and done and whose effect isn't done is open
module _ (taken : Taken) (done : Place → Bool) (m : ℕ) (value : done (place m Val) ≡ true) (effect : done (place m Eff) ≡ false) where
  node_open : (b x y : Bool) (class : Class) (k : ℕ) → (m == k) ≡ b → (if b then is_update class else x) ≡ true → (b ≡ false → x ≡ true → y ≡ true)
      → ((own_rule class Val Eff && (done (place k Val) && not (done (place k Eff)))) || y) ≡ true
  node_open true x y class k e h f =
      let mk : m ≡ k = grind (arith, e) in
      or_a _ _ (and_b _ _ (rule_of class h) (and_b _ _ (subst (λ z. done (place z Val) ≡ true) mk value)
      (to_not _ (subst (λ z. done (place z Eff) ≡ false) mk effect))))
  node_open false x y class k e h f = or_b _ _ (f refl h)

  pass : (b x y : Bool) → b ≡ false → (if b then x else y) ≡ true → y ≡ true
  pass false x y e h = h
  pass true x y e h = absurd (cc)

  next_open : (b g d d2 u u2 o o2 : Bool) → (if b then g && d else d2) ≡ true → (if b then u else u2) ≡ true → (d ≡ true → u ≡ true → o ≡ true)
      → (d2 ≡ true → u2 ≡ true → o2 ≡ true) → ((g && o) || o2) ≡ true
  next_open true g d d2 u u2 o o2 h k f f2 = or_a _ _ (and_b g o (and_l g d h) (f (and_r g d h) k))
  next_open false g d d2 u u2 o o2 h k f f2 = or_b _ _ (f2 h k)

  mutual
    open_at : (t : Tree) (k : ℕ) → due_in taken k t (place m Val) ≡ true → update_at k t m ≡ true → update_is_open taken done k t ≡ true
    open_at (node class ts) k d u =
        node_open (m == k) (update_among (suc k) ts m) (operand_is_open taken done class (taken k) 0 (suc k) ts) class k refl u
        (λ e x. open_among ts class (taken k) 0 (suc k) (pass (m == k) _ _ e d) x)

    open_among : (ts : Trees) (class : Class) (choice : Option ℕ) (i k : ℕ) → due_among taken class choice i k ts (place m Val) ≡ true
        → update_among k ts m ≡ true
        → operand_is_open taken done class choice i k ts ≡ true
    open_among none class choice i k d u = absurd (true≢false (sym d))
    open_among (more t ts) class choice i k d u =
        next_open (nat_lt m (k + size t)) (goes class choice i) (due_in taken k t (place m Val))
        (due_among taken class choice (suc i) (k + size t) ts (place m Val))
        (update_at k t m) (update_among (k + size t) ts m) (update_is_open taken done k t) (operand_is_open taken done class choice (suc i) (k + size t) ts) d
        u
        (open_at t k) (open_among ts class choice (suc i) (k + size t))

-- lists of places
pub first_none : (test : Place → Bool) (us : List Place) (u : Place) → first_place test us ≡ None → has us u ≡ true → test u ≡ false
first_none test [] u h k = absurd (cc)
first_none test (v ∷ us) u h k = go (test v) refl h (or_cases (same_place u v) (has us u) k) (first_none test us u)
  where
    go : (b : Bool) → test v ≡ b → (if b then Some v else first_place test us) ≡ None → (same_place u v ≡ true) ⊎ (has us u ≡ true)
        → (first_place test us ≡ None → has us u ≡ true → test u ≡ false) → test u ≡ false
    go true e h k later = absurd (cc)
    go false e h (inl s) later = subst (λ z. test z ≡ false) (sym (same_place_eq u v s)) e
    go false e h (inr s) later = later h s

none_first : (test : Place → Bool) (us : List Place) → ((u : Place) → has us u ≡ true → test u ≡ false) → first_place test us ≡ None
none_first test [] f = refl
none_first test (v ∷ us) f = go (test v) (f v (or_a _ _ (same_place_itself v))) (none_first test us (λ u h. f u (or_b _ _ h)))
  where
    go : (b : Bool) → b ≡ false → first_place test us ≡ None → (if b then Some v else first_place test us) ≡ None
    go false e h = h
    go true e h = absurd (cc)

pub first_some : (test : Place → Bool) (us : List Place) (u : Place) → first_place test us ≡ Some u → (test u ≡ true) × (has us u ≡ true)
first_some test [] u h = absurd (cc)
first_some test (v ∷ us) u h = go (test v) refl h (first_some test us u)
  where
    go : (b : Bool) → test v ≡ b → (if b then Some v else first_place test us) ≡ Some u → (first_place test us ≡ Some u → (test u ≡ true) × (has us u ≡ true))
        → (test u ≡ true) × (has (v ∷ us) u ≡ true)
    go true e h later = (let k : v ≡ u = cc in (subst (λ z. test z ≡ true) k e, or_a _ _ (subst (λ z. same_place u z ≡ true) (sym k) (same_place_itself u))))
    go false e h later = (let a = later h in (a.0, or_b _ _ a.1))

pub all_has : (p : Place → Bool) (us : List Place) (u : Place) → list_all p us ≡ true → has us u ≡ true → p u ≡ true
all_has p [] u h k = absurd (cc)
all_has p (v ∷ us) u h k = go (or_cases (same_place u v) (has us u) k) (all_has p us u (and_r (p v) (list_all p us) h))
  where
    go : (same_place u v ≡ true) ⊎ (has us u ≡ true) → (has us u ≡ true → p u ≡ true) → p u ≡ true
    go (inl s) later = subst (λ z. p z ≡ true) (sym (same_place_eq u v s)) (and_l (p v) (list_all p us) h)
    go (inr s) later = later s

pub all_of : (p : Place → Bool) (us : List Place) → ((u : Place) → has us u ≡ true → p u ≡ true) → list_all p us ≡ true
all_of p [] f = refl
all_of p (v ∷ us) f = and_b _ _ (f v (or_a _ _ (same_place_itself v))) (all_of p us (λ u h. f u (or_b _ _ h)))

has_right : (us vs : List Place) (u : Place) → has vs u ≡ true → has (us ++ vs) u ≡ true
has_right [] vs u h = h
has_right (v ∷ us) vs u h = or_b _ _ (has_right us vs u h)

has_parts : (us vs : List Place) (u : Place) → has (us ++ vs) u ≡ true → (has us u ≡ true) ⊎ (has vs u ≡ true)
has_parts [] vs u h = inr h
has_parts (v ∷ us) vs u h = go (or_cases (same_place u v) (has (us ++ vs) u) h) (has_parts us vs u)
  where
    go : (same_place u v ≡ true) ⊎ (has (us ++ vs) u ≡ true) → (has (us ++ vs) u ≡ true → (has us u ≡ true) ⊎ (has vs u ≡ true))
        → (has (v ∷ us) u ≡ true) ⊎ (has vs u ≡ true)
    go (inl s) later = inl (or_a _ _ s)
    go (inr s) later = elim (later s) [
      | inl k ↦ inl (or_b _ _ k)
      | inr k ↦ inr k
    ]

-- where the value of an update is due, so is its effect
module _ (taken : Taken) where
  own_due : (b x y : Bool) (class : Class) → (if b then is_update class else x) ≡ true → (if b then has_kind (kinds_of class) Val else y) ≡ true
      → (z : Bool) → (x ≡ true → y ≡ true → z ≡ true)
      → (if b then has_kind (kinds_of class) Eff else z) ≡ true
  own_due true x y Update h k z f = refl
  own_due true x y _ h k z f = absurd (cc)
  own_due false x y class h k z f = f h k

  next_due : (b g d d2 u u2 e e2 : Bool) → (if b then u else u2) ≡ true → (if b then g && d else d2) ≡ true → (u ≡ true → d ≡ true → e ≡ true)
      → (u2 ≡ true → d2 ≡ true → e2 ≡ true)
      → (if b then g && e else e2) ≡ true
  next_due true g d d2 u u2 e e2 k h f f2 = and_b g e (and_l g d h) (f k (and_r g d h))
  next_due false g d d2 u u2 e e2 k h f f2 = f2 k h

  mutual
    effect_due : (t : Tree) (k m : ℕ) → update_at k t m ≡ true → due_in taken k t (place m Val) ≡ true → due_in taken k t (place m Eff) ≡ true
    effect_due (node class ts) k m u d =
        own_due (m == k) (update_among (suc k) ts m) (due_among taken class (taken k) 0 (suc k) ts (place m Val)) class u d
        (due_among taken class (taken k) 0 (suc k) ts (place m Eff))
        (effect_among ts class (taken k) 0 (suc k) m)

    effect_among : (ts : Trees) (class : Class) (choice : Option ℕ) (i k m : ℕ) → update_among k ts m ≡ true
        → due_among taken class choice i k ts (place m Val) ≡ true
        → due_among taken class choice i k ts (place m Eff) ≡ true
    effect_among none class choice i k m u d = absurd (true≢false (sym d))
    effect_among (more t ts) class choice i k m u d =
        next_due (nat_lt m (k + size t)) (goes class choice i) (due_in taken k t (place m Val))
        (due_among taken class choice (suc i) (k + size t) ts (place m Val))
        (update_at k t m) (update_among (k + size t) ts m) (due_in taken k t (place m Eff))
        (due_among taken class choice (suc i) (k + size t) ts (place m Eff)) u d
        (effect_due t k m) (effect_among ts class choice (suc i) (k + size t) m)

module _ (world : World) where
  open_none : (f : Scene) (e : Begun) → IsClosed world f e → update_is_open (taken_by world f e) (is_done e) 0 (tree_of e.root) ≡ false → none_open e ≡ true
  open_none f e closed h = none_put e (λ m l up g. go m up g (is_some (e.given (place m Eff))) refl)
    where
      go : (m : ℕ) → update_at 0 (tree_of e.root) m ≡ true → is_some (e.given (place m Val)) ≡ true → (b : Bool) → is_some (e.given (place m Eff)) ≡ b
          → is_some (e.given (place m Eff)) ≡ true
      go m up g true k = k
      go m up g false k =
          absurd (true≢false (sym (open_at (taken_by world f e) (is_done e) m g k (tree_of e.root) 0 (closed (place m Val) g).due up) ∙ h))

  none_is_open : (f : Scene) (e : Begun) → none_open e ≡ true → update_is_open (taken_by world f e) (is_done e) 0 (tree_of e.root) ≡ false
  none_is_open f e h = go (update_is_open (taken_by world f e) (is_done e) 0 (tree_of e.root)) refl
    where
      go : (b : Bool) → update_is_open (taken_by world f e) (is_done e) 0 (tree_of e.root) ≡ b
          → update_is_open (taken_by world f e) (is_done e) 0 (tree_of e.root) ≡ false
      go false k = k
      go true k =
          (let o = opened_in (taken_by world f e) (is_done e) (tree_of e.root) 0 k in
          absurd (true≢false (sym (none_get e h o.number (let l = o.to in omega (arith, l)) o.update o.value) ∙ o.effect)))

  pub to_due : (f : Scene) (e : Begun) (u : Place) → is_due (tree_of e.root) (taken_by world f e) u ≡ true → due_now world f e u ≡ true
  to_due f e u h = sym (has_due (taken_by world f e) (tree_of e.root) 0 u) ∙ h

  pub of_due : (f : Scene) (e : Begun) (u : Place) → due_now world f e u ≡ true → is_due (tree_of e.root) (taken_by world f e) u ≡ true
  of_due f e u h = has_due (taken_by world f e) (tree_of e.root) 0 u ∙ h

  event_ready : (f : Scene) (e : Begun) (u : Place) → IsClosed world f e → IsPermitted (tree_of e.root) (taken_by world f e) (is_done e) u
      → (ready_in world f (Some e) (Ev u) ≡ true) × (may_start_in (Some e) (Ev u) ≡ true)
  event_ready f e u closed p = (
    ready_b world f e u (record {
      due = to_due f e u p.ready.due;
      left = none_is (e.given u) p.ready.left;
      earlier = λ v d b. p.ready.earlier v (found_before (tree_of e.root) (taken_by world f e) v u (of_due f e v d) p.ready.due b);
    }) (λ v l g. closed v g),
    starts (is_body u.kind) p.no_split,
  )
    where
      starts : (b : Bool) → (b && update_is_open (taken_by world f e) (is_done e) 0 (tree_of e.root)) ≡ false → (not b || none_open e) ≡ true
      starts false h = refl
      starts true h = open_none f e closed h

  event_permitted : (f : Scene) (e : Begun) (u : Place) → ready_in world f (Some e) (Ev u) ≡ true → may_start_in (Some e) (Ev u) ≡ true
      → IsPermitted (tree_of e.root) (taken_by world f e) (is_done e) u
  event_permitted f e u r s =
      let n = next_of world f e u r in
      record {
        ready = record {
          due = of_due f e u n.due;
          left = ap is_some n.left;
          earlier = λ v b. n.earlier v (to_due f e v (before_due (tree_of e.root) (taken_by world f e) v u b).0)
              (before_found (tree_of e.root) (taken_by world f e) v u b);
        };
        no_split = splits (is_body u.kind) s;
      }
    where
      splits : (b : Bool) → (not b || none_open e) ≡ true → (b && update_is_open (taken_by world f e) (is_done e) 0 (tree_of e.root)) ≡ false
      splits false h = refl
      splits true h = none_is_open f e h

  control_ready : (f : Local) (e : Begun) → is_settled world f e ≡ true → ready_in world f.scene (Some e) Control ≡ true
  control_ready f e h =
      all (λ u. not (due_now world f.scene e u) || is_some (e.given u)) (nodes e) (λ u l. go u (due_now world f.scene e u) refl)
    where
      settled : (u : Place) → due_now world f.scene e u ≡ true → not (is_done e u) ≡ false
      settled u d = first_none (λ u. not (is_done e u)) (events (taken_by world f.scene e) 0 (tree_of e.root)) u (is_none_is _ h) (of_due f.scene e u d)

      not_not : (b : Bool) → not b ≡ false → b ≡ true
      not_not true k = refl
      not_not false k = absurd (cc)

      go : (u : Place) (b : Bool) → due_now world f.scene e u ≡ b → (not b || is_some (e.given u)) ≡ true
      go u false d = refl
      go u true d = not_not (is_some (e.given u)) (settled u d)

  pub settled_done : (f : Local) (e : Begun) → ready_in world f.scene (Some e) Control ≡ true → (u : Place) → due_now world f.scene e u ≡ true
      → is_done e u ≡ true
  settled_done f e h u d =
      implied (due_now world f.scene e u) (is_some (e.given u))
      (get (λ u. not (due_now world f.scene e u) || is_some (e.given u)) (nodes e) h u
      (let r = due_lt (taken_by world f.scene e) (tree_of e.root) 0 u d in omega (arith, r))) d

  control_settled : (f : Local) (e : Begun) → ready_in world f.scene (Some e) Control ≡ true → is_settled world f e ≡ true
  control_settled f e h = ap is_none (none_first (λ u. not (is_done e u)) (events (taken_by world f.scene e) 0 (tree_of e.root))
      (λ u k. one u (to_due f.scene e u k)))
    where
      one : (u : Place) → due_now world f.scene e u ≡ true → not (is_done e u) ≡ false
      one u d =
          ap not (implied (due_now world f.scene e u) (is_some (e.given u))
          (get (λ u. not (due_now world f.scene e u) || is_some (e.given u)) (nodes e) h u
          (let r = due_lt (taken_by world f.scene e) (tree_of e.root) 0 u d in omega (arith, r))) d)

  agree_in : (f : Local) (o : Option Begun) (p : Pick) → ClosedIn world f o
      → (MayPick world f o p → (ready_in world f.scene o p ≡ true) × (may_start_in o p ≡ true))
      × ((ready_in world f.scene o p ≡ true) × (may_start_in o p ≡ true) → MayPick world f o p)
  agree_in f None Control c = ((λ h. (refl, refl)), (λ h. tt))
  agree_in f None (Ev u) c = ((λ h. absurd h), (λ h. absurd (cc (h.0))))
  agree_in f (Some e) Control c = ((λ h. (control_ready f e h, refl)), (λ h. control_settled f e h.0))
  agree_in f (Some e) (Ev u) c = ((λ h. event_ready f.scene e u c h), (λ h. event_permitted f.scene e u h.0 h.1))

  -- the canonical order
  module _ (f : Local) (e : Begun) (closed : IsClosed world f.scene e) where
    abbrev root : Tree
    root = tree_of e.root

    abbrev taken : Taken
    taken = taken_by world f.scene e

    abbrev done : Place → Bool
    done = is_done e

    ready_is : (u : Place) → is_permitted root taken done u ≡ true → IsPermitted root taken done u
    ready_is u h =
        let r = and_l (is_ready root taken done u) _ h in
        let l = and_r (due_in taken 0 root u) _ r in
        let d = of_due f.scene e u (and_l (due_in taken 0 root u) _ r) in
        record {
          ready = record {
            due = d;
            left = not_of _ (and_l (not (done u)) _ l);
            earlier = λ v b. before_done v b (all_has (λ v. done v || not (is_before taken 0 root v u)) (events taken 0 root) v (and_r (not (done u)) _ l)
                (before_due root taken v u b).0);
          };
          no_split = not_of _ (and_r (is_ready root taken done u) _ h);
        }
      where
        before_done : (v : Place) → Before root taken v u → (done v || not (is_before taken 0 root v u)) ≡ true → done v ≡ true
        before_done v b k = go (done v) (is_before taken 0 root v u) (before_found root taken v u b) k
          where
            go : (c d : Bool) → d ≡ true → (c || not d) ≡ true → c ≡ true
            go true d p k = refl
            go false true p k = absurd (cc)
            go false false p k = absurd (cc)

    -- where none is permitted, the effect of an open update would be
    effect_permitted : (m : ℕ) → update_at 0 root m ≡ true → due_in taken 0 root (place m Eff) ≡ true → done (place m Val) ≡ true
        → done (place m Eff) ≡ false → is_permitted root taken done (place m Eff) ≡ true
    effect_permitted m up d v l =
        and_b _ _
        (and_b _ _ d (and_b _ _ (to_not _ l) (all_of (λ w. done w || not (is_before taken 0 root w (place m Eff))) (events taken 0 root)
        (λ w h. go w h (is_before taken 0 root w (place m Eff)) refl))))
        refl
      where
        earlier : (w : Place) → has (events taken 0 root) w ≡ true → (w ≡ place m Val) ⊎ (is_before taken 0 root w (place m Val) ≡ true) → done w ≡ true
        earlier w h (inl q) = subst (λ z. done z ≡ true) (sym q) v
        earlier w h (inr q) = (closed (place m Val) v).earlier w (to_due f.scene e w h) q

        go : (w : Place) → has (events taken 0 root) w ≡ true → (b : Bool) → is_before taken 0 root w (place m Eff) ≡ b → (done w || not b) ≡ true
        go w h false k = or_b _ _ refl
        go w h true k = or_a _ _ (earlier w h (halves_back taken m root 0 w up k))

    module _ (no_one : canonical root taken done ≡ None) where
      not_permitted : (u : Place) → has (events taken 0 root) u ≡ true → is_permitted root taken done u ≡ false
      not_permitted u h = first_none (is_permitted root taken done) (events taken 0 root) u no_one h

      no_update : update_is_open taken done 0 root ≡ false
      no_update = go (update_is_open taken done 0 root) refl
        where
          go : (b : Bool) → update_is_open taken done 0 root ≡ b → update_is_open taken done 0 root ≡ false
          go false k = k
          go true k =
              (let o = opened_in taken done root 0 k in
              let d = effect_due taken root 0 o.number o.update (closed (place o.number Val) o.value).due in
              absurd (true≢false (sym (effect_permitted o.number o.update d o.value o.effect)
              ∙ not_permitted (place o.number Eff) (of_due f.scene e (place o.number Eff) d))))

      last_done : (us : List Place) (v : Place) (vs : List Place) → events taken 0 root ≡ us ++ v ∷ vs → ((w : Place) → has us w ≡ true → done w ≡ true)
          → has (events taken 0 root) v ≡ true → done v ≡ true
      last_done us v vs listed before listed_v = go (done v) refl
        where
          earlier : (w : Place) → has (events taken 0 root) w ≡ true → (b : Bool) → is_before taken 0 root w v ≡ b → (done w || not b) ≡ true
          earlier w h false k = or_b _ _ refl
          earlier w h true k = or_a _ _ (before w (respected root taken us vs v listed w h (found_before root taken w v h listed_v k)))

          ready : done v ≡ false → is_ready root taken done v ≡ true
          ready l =
              and_b _ _ (to_due f.scene e v listed_v)
              (and_b _ _ (to_not _ l) (all_of (λ w. done w || not (is_before taken 0 root w v)) (events taken 0 root)
              (λ w h. earlier w h (is_before taken 0 root w v) refl)))

          no_body : (b : Bool) → not (b && update_is_open taken done 0 root) ≡ true
          no_body false = refl
          no_body true = to_not _ no_update

          go : (b : Bool) → done v ≡ b → done v ≡ true
          go true k = k
          go false k = absurd (true≢false (sym (and_b _ _ (ready k) (no_body (is_body v.kind))) ∙ not_permitted v listed_v))

      all_done : (us vs : List Place) → events taken 0 root ≡ us ++ vs → ((w : Place) → has us w ≡ true → done w ≡ true) → (w : Place) → has vs w ≡ true
          → done w ≡ true
      all_done us [] listed before w h = absurd (cc)
      all_done us (v ∷ vs) listed before w h =
          let dv = last_done us v vs listed before (subst (λ z. has z v ≡ true) (sym listed) (has_right us (v ∷ vs) v (or_a _ _ (same_place_itself v)))) in
          go dv (or_cases (same_place w v) (has vs w) h) (all_done (us ++ v ∷ []) vs (listed ∙ sym (append_assoc us (v ∷ []) vs))
          (λ x k. one dv x (has_parts us (v ∷ []) x k)))
        where
          one : done v ≡ true → (x : Place) → (has us x ≡ true) ⊎ (has (v ∷ []) x ≡ true) → done x ≡ true
          one dv x (inl k) = before x k
          one dv x (inr k) = (elim (or_cases (same_place x v) false k) [
            | inl s ↦ subst (λ z. done z ≡ true) (sym (same_place_eq x v s)) dv
            | inr s ↦ absurd (cc)
          ])

          go : done v ≡ true → (same_place w v ≡ true) ⊎ (has vs w ≡ true) → ((x : Place) → has vs x ≡ true → done x ≡ true) → done w ≡ true
          go dv (inl s) later = subst (λ z. done z ≡ true) (sym (same_place_eq w v s)) dv
          go dv (inr s) later = later w s

      settled : is_settled world f e ≡ true
      settled = ap is_none (none_first (λ u. not (is_done e u)) (events taken 0 root)
          (λ u h. ap not (all_done [] (events taken 0 root) refl (λ w k. absurd (cc (k))) u h)))

    canonical_in : (c : Option Place) → canonical root taken done ≡ c → MayPick world f (Some e) (chosen_pick world c)
    canonical_in None h = settled h
    canonical_in (Some u) h = ready_is u (first_some (is_permitted root taken done) (events taken 0 root) u h).0

  canonical_of : (f : Local) (o : Option Begun) → ClosedIn world f o → MayPick world f o (canonical_pick world f o)
  canonical_of f None c = tt
  canonical_of f (Some e) c = canonical_in f e c (canonical (tree_of e.root) (taken_by world f.scene e) (is_done e)) refl

pub picks_agree : PicksAgree
picks_agree world f p c = agree_in world f f.begun p c

pub canonical_is_permitted : CanonicalIsPermitted
canonical_is_permitted world f c = canonical_of world f f.begun c

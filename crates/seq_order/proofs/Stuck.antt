-- Where an update is open and what comes before a done event is done, its effect is ready.
use Rattle.std.proofs.Common.{
  ◌≡◌,
  ℕ,
  suc,
  ◌+◌,
  ◌<◌,
  ◌≤◌,
  Bool,
  true,
  false,
  not,
  ◌&&◌,
  ◌||◌,
  ◌==◌,
  nat_lt,
  if◌then◌else◌,
  List,
  [],
  ◌∷◌,
  ◌++◌,
  Option,
  Some,
  None,
  refl,
  sym,
  ap,
  ◌∙◌,
  ◌⊎◌,
  inl,
  inr,
  true≢false,
  arith,
}
use Rattle.std.specs.List.{list_all}
use Rattle.ub_base.proofs.Tests.{
  number_is,
  or_cases,
  and_left,
  and_right,
  not_true,
  or_left,
  or_right,
  number_equal,
  number_other,
  less_test,
  not_less_test,
  if_true,
  if_false,
  and_both,
}
use Rattle.ub_base.specs.declared.clause.Kind.{Kind}
use Rattle.ub_base.specs.declared.clause.Kind.TheVariants.{Val, Eff, Body}
use Rattle.c_typed.specs.declared.tree.Place.{Place}
use Rattle.c_typed.specs.declared.class.Class.{Class}
use Rattle.c_typed.specs.declared.class.Class.TheVariants.{Update}
use Rattle.c_typed.specs.Tree.{Tree, node, Trees, none, more, size, sizes}
use Rattle.c_typed.specs.Order.{Taken, goes, place, own_events, events, operand_events, own_rule, update_is_open, operand_is_open}
use Rattle.c_typed.specs.Decide.{due_in, is_before, rises, between, earlier_done, first_place, canonical}
use Rattle.seq_order.specs.Walks.{walked, is_left, is_free_beside}
use Rattle.seq_order.specs.Closed.{IsClosed}
use Rattle.seq_order.proofs.Listing.{Each, no_more, and_then, Due, listed_due}
use Rattle.seq_order.proofs.Canonical.{first_beside, body_next}

data Among (u : Place) : List Place → Type 0 where
  now : (us : List Place) → Among u (u ∷ us)
  later : (v : Place) (us : List Place) → Among u us → Among u (v ∷ us)

among_left : (u : Place) (us vs : List Place) → Among u us → Among u (us ++ vs)
among_left u _ vs (now us) = now (us ++ vs)
among_left u _ vs (later v us a) = later v (us ++ vs) (among_left u us vs a)

among_right : (u : Place) (us vs : List Place) → Among u vs → Among u (us ++ vs)
among_right u [] vs a = a
among_right u (v ∷ us) vs a = later v (us ++ vs) (among_right u us vs a)

among_if : (u : Place) (c : Bool) (us : List Place) → c ≡ true → Among u us → Among u (if c then us else [])
among_if u true us e a = a
among_if u false us e a = absurd (true≢false (sym e))

each_at : (P : Place → Type 0) (u : Place) (us : List Place) → Each P us → Among u us → P u
each_at P u _ no_more a = elim a [ ]
each_at P u _ (and_then _ _ p h) (now us) = p
each_at P u _ (and_then _ _ p h) (later v us a) = each_at P u us h a

none_of : (test : Place → Bool) (u : Place) (us : List Place) → first_place test us ≡ None → Among u us → test u ≡ false
none_of test u _ h (now us) = step (test u) h
  where
    step : (b : Bool) → (if b then Some u else first_place test us) ≡ None → b ≡ false
    step true e = absurd (cc)
    step false e = refl
none_of test u _ h (later v us a) = none_of test u us (rest (test v) h) a
  where
    rest : (b : Bool) → (if b then Some v else first_place test us) ≡ None → first_place test us ≡ None
    rest true e = absurd (cc)
    rest false e = e

module _ (taken : Taken) (done : Place → Bool) where
  -- an update of the tree between its halves; what comes before its effect is its value or comes before that
  record Stuck (k count : ℕ) (us : List Place) (before : Place → Place → Bool) : Type 0 where
    number : ℕ
    low : k ≤ number
    high : number < k + count
    value : done (place number Val) ≡ true
    effect : done (place number Eff) ≡ false
    has_value : Among (place number Val) us
    has_effect : Among (place number Eff) us
    led : (w : Place) → before w (place number Eff) ≡ true → (w ≡ place number Val) ⊎ (before w (place number Val) ≡ true)

  same_rise : (choice : Option ℕ) (ts : Trees) (i m : ℕ) (w : Place) → rises taken Update choice i m ts w Eff ≡ rises taken Update choice i m ts w Val
  same_rise choice none i m w = refl
  same_rise choice (more t ts) i m w = step (nat_lt w.node (m + size t)) _ _ _ (same_rise choice ts (suc i) (m + size t) w)
    where
      step : (b : Bool) (x y z : Bool) → x ≡ y → (if b then z else x) ≡ (if b then z else y)
      step true x y z e = refl
      step false x y z e = e

  val_only : (kind : Kind) → own_rule Update kind Eff ≡ true → kind ≡ Val
  val_only Val h = refl
  val_only Eff h = absurd (true≢false (sym h))
  val_only Body h = absurd (true≢false (sym h))

  same_place : (w : Place) (k : ℕ) (kind : Kind) → w.node ≡ k → w.kind ≡ kind → w ≡ place k kind
  same_place w k kind e f = λ i. record { node = e i; kind = f i }

  led_own : (k : ℕ) (ts : Trees) (w : Place) → is_before taken k (node Update ts) w (place k Eff) ≡ true → (w ≡ place k Val) ⊎
      (is_before taken k (node Update ts) w (place k Val) ≡ true)
  led_own k ts w h = step (w.node == k) refl
    where
      step : (b : Bool) → (w.node == k) ≡ b → (w ≡ place k Val) ⊎ (is_before taken k (node Update ts) w (place k Val) ≡ true)
      step true e = inl (same_place w k Val (number_is w.node k e)
          (val_only w.kind (and_right (k == k) (own_rule Update w.kind Eff) (sym (if_true (w.node == k) _ _ e) ∙ h))))
      step false e =
          let up : rises taken Update (taken k) 0 (suc k) ts w Eff ≡ true =
          sym (if_false (w.node == k) _ _ e ∙ if_true (k == k) _ _ (number_equal k k refl)) ∙ h in
          inr (if_false (w.node == k) _ _ e ∙ (if_true (k == k) _ _ (number_equal k k refl) ∙ (sym (same_rise (taken k) ts 0 (suc k) w) ∙ up)))

  stuck_own : (class : Class) (k : ℕ) (ts : Trees) → (own_rule class Val Eff && (done (place k Val) && not (done (place k Eff)))) ≡ true
      → Stuck k (size (node class ts)) (events taken k (node class ts)) (is_before taken k (node class ts))
  stuck_own Update k ts h = record {
    number = k;
    low = omega arith;
    high = omega arith;
    value = and_left _ _ h;
    effect = not_true _ (and_right (done (place k Val)) _ h);
    has_value = among_right (place k Val) (operand_events taken Update (taken k) 0 (suc k) ts) (own_events k Update) (now (place k Eff ∷ []));
    has_effect = among_right (place k Eff) (operand_events taken Update (taken k) 0 (suc k) ts) (own_events k Update)
        (later (place k Val) (place k Eff ∷ []) (now []));
    led = led_own k ts;
  }
  stuck_own _ k ts h = absurd (true≢false (sym h))

  -- seen from the root
  led_below : (k n : ℕ) (class : Class) (ts : Trees) → suc k ≤ n
      → ((w : Place) → between taken class (taken k) 0 (suc k) ts w (place n Eff) ≡ true → (w ≡ place n Val) ⊎
      (between taken class (taken k) 0 (suc k) ts w (place n Val) ≡ true))
      → (w : Place) → is_before taken k (node class ts) w (place n Eff) ≡ true → (w ≡ place n Val) ⊎ (is_before taken k (node class ts) w (place n Val) ≡ true)
  led_below k n class ts l f w h = step (w.node == k) refl
    where
      apart : (n == k) ≡ false
      apart = number_other n k (λ e. omega (arith, e, l))

      step : (b : Bool) → (w.node == k) ≡ b → (w ≡ place n Val) ⊎ (is_before taken k (node class ts) w (place n Val) ≡ true)
      step true e = absurd (true≢false (sym h ∙ (if_true (w.node == k) _ _ e ∙ ap (λ z. z && own_rule class w.kind Eff) apart)))
      step false e = elim (f w (sym (if_false (w.node == k) _ _ e ∙ if_false (n == k) _ _ apart) ∙ h)) [
        | inl a ↦ inl a
        | inr a ↦ inr (if_false (w.node == k) _ _ e ∙ (if_false (n == k) _ _ apart ∙ a))
      ]

  module _ (class : Class) (choice : Option ℕ) (i m n : ℕ) (t : Tree) (ts : Trees) where
    led_first : n < m + size t → ((w : Place) → is_before taken m t w (place n Eff) ≡ true → (w ≡ place n Val) ⊎ (is_before taken m t w (place n Val) ≡ true))
        → (w : Place) → between taken class choice i m (more t ts) w (place n Eff) ≡ true → (w ≡ place n Val) ⊎
        (between taken class choice i m (more t ts) w (place n Val) ≡ true)
    led_first l f w h = step (nat_lt w.node (m + size t)) refl
      where
        near : nat_lt n (m + size t) ≡ true
        near = less_test n (m + size t) l

        step : (b : Bool) → nat_lt w.node (m + size t) ≡ b → (w ≡ place n Val) ⊎ (between taken class choice i m (more t ts) w (place n Val) ≡ true)
        step true e = elim (f w (sym (if_true (nat_lt w.node (m + size t)) _ _ e ∙ if_true (nat_lt n (m + size t)) _ _ near) ∙ h)) [
          | inl a ↦ inl a
          | inr a ↦ inr (if_true (nat_lt w.node (m + size t)) _ _ e ∙ (if_true (nat_lt n (m + size t)) _ _ near ∙ a))
        ]
        step false e = absurd (true≢false (sym h ∙ (if_false (nat_lt w.node (m + size t)) _ _ e ∙ if_true (nat_lt n (m + size t)) _ _ near)))

    led_rest : m + size t ≤ n
        → ((w : Place) → between taken class choice (suc i) (m + size t) ts w (place n Eff) ≡ true → (w ≡ place n Val) ⊎
        (between taken class choice (suc i) (m + size t) ts w (place n Val) ≡ true))
        → (w : Place) → between taken class choice i m (more t ts) w (place n Eff) ≡ true → (w ≡ place n Val) ⊎
        (between taken class choice i m (more t ts) w (place n Val) ≡ true)
    led_rest l f w h = step (nat_lt w.node (m + size t)) refl
      where
        far : nat_lt n (m + size t) ≡ false
        far = not_less_test n (m + size t) l

        step : (b : Bool) → nat_lt w.node (m + size t) ≡ b → (w ≡ place n Val) ⊎ (between taken class choice i m (more t ts) w (place n Val) ≡ true)
        step true e =
            let c = sym (if_true (nat_lt w.node (m + size t)) _ _ e ∙ if_false (nat_lt n (m + size t)) _ _ far) ∙ h in
            inr (if_true (nat_lt w.node (m + size t)) _ _ e ∙ (if_false (nat_lt n (m + size t)) _ _ far ∙ c))
        step false e = elim (f w (sym (if_false (nat_lt w.node (m + size t)) _ _ e ∙ if_false (nat_lt n (m + size t)) _ _ far) ∙ h)) [
          | inl a ↦ inl a
          | inr a ↦ inr (if_false (nat_lt w.node (m + size t)) _ _ e ∙ (if_false (nat_lt n (m + size t)) _ _ far ∙ a))
        ]

  mutual
    stuck_in : (t : Tree) (k : ℕ) → update_is_open taken done k t ≡ true → Stuck k (size t) (events taken k t) (is_before taken k t)
    stuck_in (node class ts) k h = elim (or_cases (own_rule class Val Eff && (done (place k Val) && not (done (place k Eff)))) _ h) [
      | inl a ↦ stuck_own class k ts a
      | inr a ↦
          (let s = stuck_among class (taken k) ts 0 (suc k) a in
          let l = s.low in
          let g = s.high in
          record {
            number = s.number;
            low = omega (arith, l);
            high = omega (arith, g);
            value = s.value;
            effect = s.effect;
            has_value = among_left (place s.number Val) (operand_events taken class (taken k) 0 (suc k) ts) (own_events k class) s.has_value;
            has_effect = among_left (place s.number Eff) (operand_events taken class (taken k) 0 (suc k) ts) (own_events k class) s.has_effect;
            led = led_below k s.number class ts l s.led;
          })
    ]

    stuck_among : (class : Class) (choice : Option ℕ) (ts : Trees) (i m : ℕ) → operand_is_open taken done class choice i m ts ≡ true
        → Stuck m (sizes ts) (operand_events taken class choice i m ts) (between taken class choice i m ts)
    stuck_among class choice none i m h = absurd (true≢false (sym h))
    stuck_among class choice (more t ts) i m h = elim (or_cases (goes class choice i && update_is_open taken done m t) _ h) [
      | inl a ↦
          (let s = stuck_in t m (and_right (goes class choice i) _ a) in
          let g = s.high in
          let here = if goes class choice i then events taken m t else [] in
          let rest = operand_events taken class choice (suc i) (m + size t) ts in
          record {
            number = s.number;
            low = s.low;
            high = omega (arith, g);
            value = s.value;
            effect = s.effect;
            has_value = among_left (place s.number Val) here rest
                (among_if (place s.number Val) (goes class choice i) (events taken m t) (and_left _ _ a) s.has_value);
            has_effect = among_left (place s.number Eff) here rest
                (among_if (place s.number Eff) (goes class choice i) (events taken m t) (and_left _ _ a) s.has_effect);
            led = led_first class choice i m s.number t ts g s.led;
          })
      | inr a ↦
          (let s = stuck_among class choice ts (suc i) (m + size t) a in
          let l = s.low in
          let g = s.high in
          let here = if goes class choice i then events taken m t else [] in
          let rest = operand_events taken class choice (suc i) (m + size t) ts in
          record {
            number = s.number;
            low = omega (arith, l);
            high = omega (arith, g);
            value = s.value;
            effect = s.effect;
            has_value = among_right (place s.number Val) here rest s.has_value;
            has_effect = among_right (place s.number Eff) here rest s.has_effect;
            led = led_rest class choice i m s.number t ts l s.led;
          })
    ]

all_listed : (P : Place → Type 0) (test : Place → Bool) (us : List Place) → ((u : Place) → P u → test u ≡ true) → Each P us → list_all test us ≡ true
all_listed P test _ f no_more = refl
all_listed P test _ f (and_then u us p h) = and_both (test u) _ (f u p) (all_listed P test us f h)

none_undone : (done : Place → Bool) (us : List Place) → first_place (is_left done) us ≡ None → list_all done us ≡ true
none_undone done [] h = refl
none_undone done (u ∷ us) h = step (done u) (none_undone done us) h
  where
    step : (d : Bool) → (first_place (is_left done) us ≡ None → list_all done us ≡ true) → (if not d then Some u else first_place (is_left done) us) ≡ None →
        (d && list_all done us) ≡ true
    step true f e = f e
    step false f e = absurd (cc)

module _ (root : Tree) (taken : Taken) (done : Place → Bool) (closed : IsClosed root taken done) (over : canonical root taken done ≡ None) where
  not_open : update_is_open taken done 0 root ≡ true → ⊥
  not_open h =
      let s = stuck_in taken done root 0 h in
      let u = place s.number Eff in
      let v = place s.number Val in
      let dv = each_at (Due taken 0 root) v (events taken 0 root) (listed_due taken root 0) s.has_value in
      let ready : earlier_done root taken done u (events taken 0 root) ≡ true =
      all_listed (Due taken 0 root) (λ w. done w || not (is_before taken 0 root w u)) (events taken 0 root)
      (λ w d. before_done w d.due s.number s.value dv.due s.led) (listed_due taken root 0) in
      let free : is_free_beside root taken done u ≡ true = and_both (not (done u)) _ (ap not s.effect) ready in
      true≢false (sym free ∙ none_of (is_free_beside root taken done) u (events taken 0 root) (first_beside root taken done h ∙ over) s.has_effect)
    where
      before_done : (w : Place) → due_in taken 0 root w ≡ true → (n : ℕ) → done (place n Val) ≡ true → due_in taken 0 root (place n Val) ≡ true
          → ((x : Place) → is_before taken 0 root x (place n Eff) ≡ true → (x ≡ place n Val) ⊎ (is_before taken 0 root x (place n Val) ≡ true))
          → (done w || not (is_before taken 0 root w (place n Eff))) ≡ true
      before_done w d n vd dv led = step (is_before taken 0 root w (place n Eff)) refl
        where
          step : (c : Bool) → is_before taken 0 root w (place n Eff) ≡ c → (done w || not c) ≡ true
          step false e = or_right (done w) true refl
          step true e = or_left (done w) false (elim (led w e) [
            | inl a ↦ ap done a ∙ vd
            | inr a ↦ closed w (place n Val) d dv a vd
          ])

  pub all_done : list_all done (events taken 0 root) ≡ true
  all_done = step (first_place (is_left done) (events taken 0 root)) refl (update_is_open taken done 0 root) refl
    where
      step : (o : Option Place) → first_place (is_left done) (events taken 0 root) ≡ o → (b : Bool) → update_is_open taken done 0 root ≡ b →
          list_all done (events taken 0 root) ≡ true
      step None e b q = none_undone done (events taken 0 root) e
      step (Some u) e true q = absurd (not_open q)
      step (Some u) e false q = absurd (let a : Some u ≡ None = body_next root taken done 0 u (ap (walked 0) (sym e)) q ∙ over in cc)

-- A later choice puts nothing new before an event that was reached.
use Rattle.std.proofs.Common.{
  ◌≡◌,
  ℕ,
  suc,
  ◌+◌,
  ◌<◌,
  ◌≤◌,
  Bool,
  true,
  false,
  not,
  ◌&&◌,
  ◌||◌,
  ◌==◌,
  nat_lt,
  if◌then◌else◌,
  is_some,
  Option,
  Some,
  None,
  refl,
  sym,
  ap,
  subst,
  ◌∙◌,
  ◌⊎◌,
  inl,
  inr,
  true≢false,
  arith,
}
use Rattle.ub_base.specs.declared.clause.Kind.{Kind}
use Rattle.ub_base.specs.declared.clause.Kind.TheVariants.{Val, Eff, Body}
use Rattle.c_typed.specs.declared.tree.Place.{Place}
use Rattle.c_typed.specs.declared.class.Class.{Class}
use Rattle.c_typed.specs.declared.class.Class.TheVariants.{Object, Constant, Choice}
use Rattle.c_typed.specs.Tree.{Tree, node, Trees, none, more, size, sizes, is_quiet, is_quiet_class, kinds_of}
use Rattle.c_typed.specs.Order.{Taken, goes, place, is_due, is_choice, is_body, across, is_last, own_rule, is_val, Before}
use Rattle.c_typed.specs.Decide.{has_kind, due_in, due_among, lifts, crosses, is_before, rises, to_val, between}
use Rattle.c_model.proofs.Ranks.{lt_lt, ge_lt, if_true, if_false, or_cases, and_l, and_r, size_pos, eq_eq}
use Rattle.c_model.proofs.Decided.{and_b, or_a, or_b, ne_eq, has_due, among_range}
use Rattle.c_model.proofs.Closed.{before_due, before_found, found_before}

abbrev no_choice : Option ℕ
no_choice = None

record Same (class : Class) (c c' : Option ℕ) : Type 0 where
  goes_same : (i : ℕ) → goes class c' i ≡ goes class c i
  lifts_same : (i : ℕ) (last : Bool) (kind : Kind) → lifts class c' i last kind ≡ lifts class c i last kind
  across_same : (i j : ℕ) → across class c' i j ≡ across class c i j

same_itself : (class : Class) (c : Option ℕ) → Same class c c
same_itself class c = record { goes_same = λ i. refl; lifts_same = λ i last kind. refl; across_same = λ i j. refl }

goes_plain : (class : Class) (c c' : Option ℕ) (i : ℕ) → is_choice class ≡ false → goes class c' i ≡ goes class c i
goes_plain Choice c c' i h = absurd (true≢false h)
goes_plain _ c c' i h = refl

lifts_plain : (class : Class) (c c' : Option ℕ) (i : ℕ) (last : Bool) (kind : Kind) → is_choice class ≡ false →
    lifts class c' i last kind ≡ lifts class c i last kind
lifts_plain Choice c c' i last kind h = absurd (true≢false h)
lifts_plain _ c c' i last Val h = refl
lifts_plain _ c c' i last Eff h = refl
lifts_plain _ c c' i last Body h = refl

across_plain : (class : Class) (c c' : Option ℕ) (i j : ℕ) → is_choice class ≡ false → across class c' i j ≡ across class c i j
across_plain Choice c c' i j h = absurd (true≢false h)
across_plain _ c c' i j h = refl

same_plain : (class : Class) (c c' : Option ℕ) → is_choice class ≡ false → Same class c c'
same_plain class c c' h = record {
  goes_same = λ i. goes_plain class c c' i h;
  lifts_same = λ i last kind. lifts_plain class c c' i last kind h;
  across_same =
      λ i j. across_plain class c c' i j h;
}

crosses_same : (ts : Trees) (class : Class) (c c' : Option ℕ) (i j m b : ℕ) → Same class c c' → crosses class c' i j m ts b ≡ crosses class c i j m ts b
crosses_same none class c c' i j m b s = refl
crosses_same (more t ts) class c c' i j m b s =
    ap (λ z. if nat_lt b (m + size t) then z else crosses class c' i (suc j) (m + size t) ts b) (s.across_same i j)
    ∙ ap (λ z. if nat_lt b (m + size t) then across class c i j else z) (crosses_same ts class c c' i (suc j) (m + size t) b s)

choice_val : (class : Class) → is_choice class ≡ true → has_kind (kinds_of class) Val ≡ true
choice_val Choice h = refl
choice_val _ h = absurd (true≢false (sym h))

choice_kind : (class : Class) (kind : Kind) → is_choice class ≡ true → has_kind (kinds_of class) kind ≡ true → kind ≡ Val
choice_kind Choice Val h d = refl
choice_kind Choice Eff h d = absurd (true≢false (sym d))
choice_kind Choice Body h d = absurd (true≢false (sym d))
choice_kind _ kind h d = absurd (true≢false (sym h))

choice_goes : (class : Class) (i : ℕ) → is_choice class ≡ true → goes class None (suc i) ≡ true → ⊥
choice_goes Choice i h g = true≢false (sym g ∙ step (suc i == 0) (ne_eq (suc i) 0 (λ e. omega (arith, e))))
  where
    step : (b : Bool) → b ≡ false → (b || false) ≡ false
    step true e = e
    step false e = refl
choice_goes _ i h g = absurd (true≢false (sym h))

loud : (class : Class) → has_kind (kinds_of class) Val ≡ true → not (is_quiet_class class) ≡ true
loud Object h = absurd (true≢false (sym h))
loud Constant h = absurd (true≢false (sym h))
loud _ h = refl

module _ (taken later : Taken) (kept : (n j : ℕ) → taken n ≡ Some j → later n ≡ Some j) where
  -- a node, with an operand, that was due and chooses later
  record New (k s : ℕ) (due : Place → Bool) : Type 0 where
    number : ℕ
    low : k ≤ number
    high : suc number < k + s
    was_open : taken number ≡ None
    chosen : is_some (later number) ≡ true
    due_node : due (place number Val) ≡ true

  abbrev Opens : (k s : ℕ) (due first : Place → Bool) → Type 0
  Opens k s due first = (o : New k s due) × (due (place (suc o.number) Val) ≡ true → first (place (suc o.number) Val) ≡ true)

  abbrev Old : (a d : Bool) (k s : ℕ) (due first : Place → Bool) → Type 0
  Old a d k s due first = ((a ≡ true) × (d ≡ true)) ⊎ Opens k s due first

  abbrev Change : Class → ℕ → Type 0
  Change class k = Same class (taken k) (later k) ⊎ ((is_choice class ≡ true) × (taken k ≡ None) × (is_some (later k) ≡ true))

  change : (class : Class) (k : ℕ) → Change class k
  change class k = go (taken k) (later k) refl refl
    where
      by_class : (b : Bool) (j : ℕ) → is_choice class ≡ b → Same class None (Some j) ⊎
          ((is_choice class ≡ true) × (no_choice ≡ None) × (is_some (Some j) ≡ true))
      by_class true j h = inr (h, refl, refl)
      by_class false j h = inl (same_plain class None (Some j) h)

      go : (c c' : Option ℕ) → taken k ≡ c → later k ≡ c' → Same class c c' ⊎ ((is_choice class ≡ true) × (c ≡ None) × (is_some c' ≡ true))
      go (Some j) c' e f = inl (subst (λ z. Same class (Some j) z) (sym (kept k j e) ∙ f) (same_itself class (Some j)))
      go None None e f = inl (same_itself class None)
      go None (Some j) e f = by_class (is_choice class) j refl

  abbrev new_first : (class : Class) (c : Option ℕ) (i m : ℕ) (t : Tree) (ts : Trees) → goes class c i ≡ true → New m (size t) (due_in taken m t) →
      New m (sizes (more t ts)) (due_among taken class c i m (more t ts))
  new_first class c i m t ts g o = record {
    number = o.number;
    low = o.low;
    high = (let h = o.high in omega (arith, h));
    was_open = o.was_open;
    chosen = o.chosen;
    due_node = if_true _ _ _ (lt_lt o.number (m + size t) (let h = o.high in omega (arith, h))) ∙ and_b _ _ g o.due_node;
  }

  abbrev new_rest : (class : Class) (c : Option ℕ) (i m : ℕ) (t : Tree) (ts : Trees) →
      New (m + size t) (sizes ts) (due_among taken class c (suc i) (m + size t) ts) → New m (sizes (more t ts)) (due_among taken class c i m (more t ts))
  new_rest class c i m t ts o = record {
    number = o.number;
    low = (let h = o.low in omega (arith, h));
    high = (let h = o.high in omega (arith, h));
    was_open = o.was_open;
    chosen = o.chosen;
    due_node = if_false _ _ _ (ge_lt o.number (m + size t) o.low) ∙ o.due_node;
  }

  abbrev new_root : (class : Class) (k : ℕ) (ts : Trees) → New (suc k) (sizes ts) (due_among taken class (taken k) 0 (suc k) ts) →
      New k (size (node class ts)) (due_in taken k (node class ts))
  new_root class k ts o = record {
    number = o.number;
    low = (let h = o.low in omega (arith, h));
    high = (let h = o.high in omega (arith, h));
    was_open = o.was_open;
    chosen = o.chosen;
    due_node = if_false _ _ _ (ne_eq o.number k (λ e. let h = o.low in omega (arith, h, e))) ∙ o.due_node;
  }

  abbrev new_here : (class : Class) (k : ℕ) (ts : Trees) → 0 < sizes ts → is_choice class ≡ true → taken k ≡ None → is_some (later k) ≡ true →
      New k (size (node class ts)) (due_in taken k (node class ts))
  new_here class k ts p h e f = record {
    number = k;
    low = omega arith;
    high = omega (arith, p);
    was_open = e;
    chosen = f;
    due_node = if_true _ _ _ (eq_eq k k refl) ∙ choice_val class h;
  }

  down_first : (class : Class) (c : Option ℕ) (i m : ℕ) (t : Tree) (ts : Trees) (x : Place) → x.node < m + size t →
      due_among taken class c i m (more t ts) x ≡ true → due_in taken m t x ≡ true
  down_first class c i m t ts x l d = and_r (goes class c i) _ (sym (if_true _ _ _ (lt_lt x.node (m + size t) l)) ∙ d)

  newly_root : (b : Bool) (class : Class) (k : ℕ) (ts : Trees) (w : Place) → Change class k
      → (Same class (taken k) (later k) → due_among later class (later k) 0 (suc k) ts w ≡ true → (due_among taken class (taken k) 0 (suc k) ts w ≡ true) ⊎
      New (suc k) (sizes ts) (due_among taken class (taken k) 0 (suc k) ts))
      → (if b then has_kind (kinds_of class) w.kind else due_among later class (later k) 0 (suc k) ts w) ≡ true
      → ((if b then has_kind (kinds_of class) w.kind else due_among taken class (taken k) 0 (suc k) ts w) ≡ true) ⊎
      New k (size (node class ts)) (due_in taken k (node class ts))
  newly_root true class k ts w ch f h = inl h
  newly_root false class k ts w (inl s) f h = elim (f s h) [ inl d ↦ inl d | inr o ↦ inr (new_root class k ts o) ]
  newly_root false class k ts w (inr s) f h = let r = among_range later class (later k) ts 0 (suc k) w h in inr
      (new_here class k ts (omega (arith, r.0, r.1)) s.0 s.1 s.2)

  newly_step : (b : Bool) (class : Class) (c c' : Option ℕ) (i m : ℕ) (t : Tree) (ts : Trees) (w : Place) → Same class c c'
      → (due_in later m t w ≡ true → (due_in taken m t w ≡ true) ⊎ New m (size t) (due_in taken m t))
      → (due_among later class c' (suc i) (m + size t) ts w ≡ true → (due_among taken class c (suc i) (m + size t) ts w ≡ true) ⊎
      New (m + size t) (sizes ts) (due_among taken class c (suc i) (m + size t) ts))
      → (if b then goes class c' i && due_in later m t w else due_among later class c' (suc i) (m + size t) ts w) ≡ true
      → ((if b then goes class c i && due_in taken m t w else due_among taken class c (suc i) (m + size t) ts w) ≡ true) ⊎
      New m (sizes (more t ts)) (due_among taken class c i m (more t ts))
  newly_step true class c c' i m t ts w s f g h =
      let p = sym (s.goes_same i) ∙ and_l _ _ h in
      elim (f (and_r (goes class c' i) _ h)) [ inl d ↦ inl (and_b _ _ p d) | inr o ↦ inr (new_first class c i m t ts p o) ]
  newly_step false class c c' i m t ts w s f g h = elim (g h) [ inl d ↦ inl d | inr o ↦ inr (new_rest class c i m t ts o) ]

  mutual
    newly : (t : Tree) (k : ℕ) (w : Place) → due_in later k t w ≡ true → (due_in taken k t w ≡ true) ⊎ New k (size t) (due_in taken k t)
    newly (node class ts) k w h = newly_root (w.node == k) class k ts w (change class k) (λ s. newly_among ts class (taken k) (later k) 0 (suc k) w s) h

    newly_among : (ts : Trees) (class : Class) (c c' : Option ℕ) (i m : ℕ) (w : Place) → Same class c c' → due_among later class c' i m ts w ≡ true →
        (due_among taken class c i m ts w ≡ true) ⊎ New m (sizes ts) (due_among taken class c i m ts)
    newly_among none class c c' i m w s h = inl h
    newly_among (more t ts) class c c' i m w s h = newly_step (nat_lt w.node (m + size t)) class c c' i m t ts w s (newly t m w)
        (newly_among ts class c c' (suc i) (m + size t) w s) h

  abbrev Rise : Trees → Class → Option ℕ → ℕ → ℕ → Place → Kind → Type 0
  Rise ts class c i m w kind = Old (rises taken class c i m ts w kind) (due_among taken class c i m ts w) m (sizes ts) (due_among taken class c i m ts)
      (λ x. rises taken class c i m ts x kind)

  abbrev Value : Tree → ℕ → Place → Type 0
  Value t k w = Old (to_val taken k t w) (due_in taken k t w) k (size t) (due_in taken k t) (λ x. to_val taken k t x)

  abbrev First : Tree → ℕ → Place → Place → Type 0
  First t k w p = Old (is_before taken k t w p) (due_in taken k t w) k (size t) (due_in taken k t) (λ x. is_before taken k t x p)

  abbrev Among : Trees → Class → Option ℕ → ℕ → ℕ → Place → Place → Type 0
  Among ts class c i m w p = Old (between taken class c i m ts w p) (due_among taken class c i m ts w) m (sizes ts) (due_among taken class c i m ts)
      (λ x. between taken class c i m ts x p)

  rise_step : (b : Bool) (class : Class) (c c' : Option ℕ) (i m : ℕ) (t : Tree) (ts : Trees) (w : Place) (kind : Kind) → Same class c c'
      → (due_in later m t w ≡ true → to_val later m t w ≡ true → Value t m w)
      → (due_among later class c' (suc i) (m + size t) ts w ≡ true → rises later class c' (suc i) (m + size t) ts w kind ≡ true →
      Rise ts class c (suc i) (m + size t) w kind)
      → (if b then goes class c' i && due_in later m t w else due_among later class c' (suc i) (m + size t) ts w) ≡ true
      → (if b then lifts class c' i (is_last ts) kind || (not (is_body kind) && (not (is_quiet t) && to_val later m t w)) else rises later class c' (suc i)
      (m + size t) ts w kind) ≡ true
      → Old (if b then lifts class c i (is_last ts) kind || (not (is_body kind) && (not (is_quiet t) && to_val taken m t w)) else rises taken class c (suc i)
      (m + size t) ts w kind)
      (if b then goes class c i && due_in taken m t w else due_among taken class c (suc i) (m + size t) ts w)
      m (sizes (more t ts)) (due_among taken class c i m (more t ts)) (λ x. rises taken class c i m (more t ts) x kind)
  rise_step true class c c' i m t ts w kind s f g d h =
      let p = sym (s.goes_same i) ∙ and_l _ _ d in
      let d' = and_r (goes class c' i) _ d in
      elim (or_cases (lifts class c' i (is_last ts) kind) _ h) [
        | inl a ↦
            (let l = sym (s.lifts_same i (is_last ts) kind) ∙ a in
            elim (newly t m w d') [
              | inl e ↦ inl (or_a _ _ l, and_b _ _ p e)
              | inr o ↦ inr (new_first class c i m t ts p o, λ dx. if_true _ _ _ (lt_lt (suc o.number) (m + size t) o.high) ∙ or_a _ _ l)
            ])
        | inr a ↦
            (let nb = and_l (not (is_body kind)) _ a in
            let nq = and_l (not (is_quiet t)) _ (and_r (not (is_body kind)) _ a) in
            let tv = and_r (not (is_quiet t)) _ (and_r (not (is_body kind)) _ a) in
            elim (f d' tv) [
              | inl e ↦ inl (or_b (lifts class c i (is_last ts) kind) _ (and_b _ _ nb (and_b _ _ nq e.0)), and_b _ _ p e.1)
              | inr o ↦ inr (
                new_first class c i m t ts p o.0,
                λ dx. if_true _ _ _ (lt_lt (suc o.0.number) (m + size t) o.0.high)
                    ∙ or_b (lifts class c i (is_last ts) kind) _
                    (and_b _ _ nb (and_b _ _ nq (o.1 (down_first class c i m t ts (place (suc o.0.number) Val) o.0.high dx)))),
              )
            ])
      ]
  rise_step false class c c' i m t ts w kind s f g d h = elim (g d h) [
    | inl e ↦ inl e
    | inr o ↦
        (let low = o.0.low in
        let ge = ge_lt (suc o.0.number) (m + size t) (omega (arith, low)) in
        inr (new_rest class c i m t ts o.0, λ dx. if_false _ _ _ ge ∙ o.1 (sym (if_false _ _ _ ge) ∙ dx)))
  ]

  itself : (t : Tree) (m : ℕ) → to_val taken m t (place m Val) ≡ true
  itself (node class ts) m = if_true (m == m) _ _ (eq_eq m m refl)

  quiet_of : (t : Tree) (m : ℕ) → due_in taken m t (place m Val) ≡ true → not (is_quiet t) ≡ true
  quiet_of (node class ts) m d = loud class (sym (if_true (m == m) _ _ (eq_eq m m refl)) ∙ d)

  test_rises : (ts : Trees) (class : Class) (k : ℕ) → 0 < sizes ts → due_in taken k (node class ts) (place (suc k) Val) ≡ true →
      rises taken class (taken k) 0 (suc k) ts (place (suc k) Val) Val ≡ true
  test_rises none class k p d = absurd (omega (arith, p))
  test_rises (more t ts) class k p d =
      let z = size_pos t in
      let lt = lt_lt (suc k) (suc k + size t) (omega (arith, z)) in
      let d1 = sym (if_false (suc k == k) _ _ (ne_eq (suc k) k (λ e. omega (arith, e)))) ∙ d in
      let d2 = and_r (goes class (taken k) 0) _ (sym (if_true _ _ _ lt) ∙ d1) in
      if_true _ _ _ lt ∙ or_b (lifts class (taken k) 0 (is_last ts) Val) _ (and_b (not (is_quiet t)) _ (quiet_of t (suc k) d2) (itself t (suc k)))

  size_of : (class : Class) (c : Option ℕ) (ts : Trees) (m : ℕ) (w : Place) → due_among later class c 0 m ts w ≡ true → 0 < sizes ts
  size_of class c ts m w h = let r = among_range later class c ts 0 m w h in omega (arith, r.0, r.1)

  not_root : (k n : ℕ) → suc k ≤ n → (suc n == k) ≡ false
  not_root k n h = ne_eq (suc n) k (λ e. omega (arith, h, e))

  val_root : (b : Bool) (class : Class) (ts : Trees) (k : ℕ) (w : Place) → Change class k
      → (Same class (taken k) (later k) → due_among later class (later k) 0 (suc k) ts w ≡ true → rises later class (later k) 0 (suc k) ts w Val ≡ true →
      Rise ts class (taken k) 0 (suc k) w Val)
      → (if b then has_kind (kinds_of class) w.kind else due_among later class (later k) 0 (suc k) ts w) ≡ true
      → (if b then is_val w.kind || own_rule class w.kind Val else rises later class (later k) 0 (suc k) ts w Val) ≡ true
      → Old (if b then is_val w.kind || own_rule class w.kind Val else rises taken class (taken k) 0 (suc k) ts w Val)
      (if b then has_kind (kinds_of class) w.kind else due_among taken class (taken k) 0 (suc k) ts w)
      k (size (node class ts)) (due_in taken k (node class ts)) (λ x. to_val taken k (node class ts) x)
  val_root true class ts k w ch f d h = inl (h, d)
  val_root false class ts k w (inl s) f d h = elim (f s d h) [
    | inl e ↦ inl e
    | inr o ↦ inr (
      new_root class k ts o.0,
      λ dx. if_false _ _ _ (not_root k o.0.number o.0.low) ∙ o.1
          (sym (if_false _ _ _ (not_root k o.0.number o.0.low)) ∙ dx),
    )
  ]
  val_root false class ts k w (inr s) f d h =
      let p = size_of class (later k) ts (suc k) w d in
      inr (new_here class k ts p s.0 s.1 s.2, λ dx. if_false (suc k == k) _ _ (ne_eq (suc k) k (λ e. omega (arith, e))) ∙ test_rises ts class k p dx)

  between_step : (bw bp : Bool) (class : Class) (c c' : Option ℕ) (i m : ℕ) (t : Tree) (ts : Trees) (w p : Place) → nat_lt p.node (m + size t) ≡ bp →
      Same class c c'
      → (due_in taken m t p ≡ true → due_in later m t w ≡ true → is_before later m t w p ≡ true → First t m w p)
      → (due_among taken class c (suc i) (m + size t) ts p ≡ true → due_among later class c' (suc i) (m + size t) ts w ≡ true →
      between later class c' (suc i) (m + size t) ts w p ≡ true → Among ts class c (suc i) (m + size t) w p)
      → (if bp then goes class c i && due_in taken m t p else due_among taken class c (suc i) (m + size t) ts p) ≡ true
      → (if bw then goes class c' i && due_in later m t w else due_among later class c' (suc i) (m + size t) ts w) ≡ true
      → (if bw then (if bp then is_before later m t w p else crosses class c' i (suc i) (m + size t) ts p.node)
      else (if bp then false else between later class c' (suc i) (m + size t) ts w p)) ≡ true
      → Old (if bw then (if bp then is_before taken m t w p else crosses class c i (suc i) (m + size t) ts p.node)
      else (if bp then false else between taken class c (suc i) (m + size t) ts w p))
      (if bw then goes class c i && due_in taken m t w else due_among taken class c (suc i) (m + size t) ts w)
      m (sizes (more t ts)) (due_among taken class c i m (more t ts)) (λ x. between taken class c i m (more t ts) x p)
  between_step true true class c c' i m t ts w p ep s f g dp d h =
      let q = sym (s.goes_same i) ∙ and_l _ _ d in
      elim (f (and_r (goes class c i) _ dp) (and_r (goes class c' i) _ d) h) [
        | inl e ↦ inl (e.0, and_b _ _ q e.1)
        | inr o ↦ inr (
          new_first class c i m t ts q o.0,
          λ dx. if_true _ _ _ (lt_lt (suc o.0.number) (m + size t) o.0.high) ∙
              (if_true _ _ _ ep ∙ o.1 (down_first class c i m t ts (place (suc o.0.number) Val) o.0.high dx)),
        )
      ]
  between_step true false class c c' i m t ts w p ep s f g dp d h =
      let q = sym (s.goes_same i) ∙ and_l _ _ d in
      let x = sym (crosses_same ts class c c' i (suc i) (m + size t) p.node s) ∙ h in
      elim (newly t m w (and_r (goes class c' i) _ d)) [
        | inl e ↦ inl (x, and_b _ _ q e)
        | inr o ↦ inr (new_first class c i m t ts q o, λ dx. if_true _ _ _ (lt_lt (suc o.number) (m + size t) o.high) ∙ (if_false _ _ _ ep ∙ x))
      ]
  between_step false true class c c' i m t ts w p ep s f g dp d h = absurd (true≢false (sym h))
  between_step false false class c c' i m t ts w p ep s f g dp d h = elim (g dp d h) [
    | inl e ↦ inl e
    | inr o ↦
        (let low = o.0.low in
        let ge = ge_lt (suc o.0.number) (m + size t) (omega (arith, low)) in
        inr (new_rest class c i m t ts o.0, λ dx. if_false _ _ _ ge ∙ (if_false _ _ _ ep ∙ o.1 (sym (if_false _ _ _ ge) ∙ dx))))
  ]

  none_due : (ts : Trees) (class : Class) (i m : ℕ) (p : Place) → is_choice class ≡ true → due_among taken class None (suc i) m ts p ≡ true → ⊥
  none_due none class i m p h d = true≢false (sym d)
  none_due (more t ts) class i m p h d = step (nat_lt p.node (m + size t)) (none_due ts class (suc i) (m + size t) p h) d
    where
      step : (b : Bool) → (due_among taken class None (suc (suc i)) (m + size t) ts p ≡ true → ⊥) →
          (if b then goes class None (suc i) && due_in taken m t p else due_among taken class None (suc (suc i)) (m + size t) ts p) ≡ true → ⊥
      step true f d = choice_goes class i h (and_l _ _ d)
      step false f d = f d

  -- below a choice that is still open only its first operand is due
  open_step : (bw bp : Bool) (class : Class) (c c' : Option ℕ) (m : ℕ) (t : Tree) (ts : Trees) (w p : Place) → nat_lt p.node (m + size t) ≡ bp →
      is_choice class ≡ true → c ≡ None
      → (due_in taken m t p ≡ true → due_in later m t w ≡ true → is_before later m t w p ≡ true → First t m w p)
      → (if bp then goes class c 0 && due_in taken m t p else due_among taken class c 1 (m + size t) ts p) ≡ true
      → (if bw then goes class c' 0 && due_in later m t w else due_among later class c' 1 (m + size t) ts w) ≡ true
      → (if bw then (if bp then is_before later m t w p else crosses class c' 0 1 (m + size t) ts p.node)
      else (if bp then false else between later class c' 1 (m + size t) ts w p)) ≡ true
      → Old (if bw then (if bp then is_before taken m t w p else crosses class c 0 1 (m + size t) ts p.node)
      else (if bp then false else between taken class c 1 (m + size t) ts w p))
      (if bw then goes class c 0 && due_in taken m t w else due_among taken class c 1 (m + size t) ts w)
      m (sizes (more t ts)) (due_among taken class c 0 m (more t ts)) (λ x. between taken class c 0 m (more t ts) x p)
  open_step true true class c c' m t ts w p ep ic e f dp d h =
      let q = and_l (goes class c 0) _ dp in
      elim (f (and_r (goes class c 0) _ dp) (and_r (goes class c' 0) _ d) h) [
        | inl a ↦ inl (a.0, and_b _ _ q a.1)
        | inr o ↦ inr (
          new_first class c 0 m t ts q o.0,
          λ dx. if_true _ _ _ (lt_lt (suc o.0.number) (m + size t) o.0.high) ∙
              (if_true _ _ _ ep ∙ o.1 (down_first class c 0 m t ts (place (suc o.0.number) Val) o.0.high dx)),
        )
      ]
  open_step false true class c c' m t ts w p ep ic e f dp d h = absurd (true≢false (sym h))
  open_step bw false class c c' m t ts w p ep ic e f dp d h = absurd
      (none_due ts class 0 (m + size t) p ic (subst (λ z. due_among taken class z 1 (m + size t) ts p ≡ true) e dp))

  abbrev FirstOf : Trees → ℕ → Place → Place → Type 0
  FirstOf none m w p = Unit {0}
  FirstOf (more t ts) m w p = due_in taken m t p ≡ true → due_in later m t w ≡ true → is_before later m t w p ≡ true → First t m w p

  open_among : (ts : Trees) (class : Class) (c c' : Option ℕ) (m : ℕ) (w p : Place) → is_choice class ≡ true → c ≡ None → FirstOf ts m w p
      → due_among taken class c 0 m ts p ≡ true → due_among later class c' 0 m ts w ≡ true → between later class c' 0 m ts w p ≡ true →
      Among ts class c 0 m w p
  open_among none class c c' m w p ic e f dp d h = absurd (true≢false (sym h))
  open_among (more t ts) class c c' m w p ic e f dp d h = open_step (nat_lt w.node (m + size t)) (nat_lt p.node (m + size t)) class c c' m t ts w p refl ic e
      f dp d h

  under_root : (class : Class) (ts : Trees) (k : ℕ) (w p : Place) → (p.node == k) ≡ false → Among ts class (taken k) 0 (suc k) w p
      → Old (between taken class (taken k) 0 (suc k) ts w p) (due_among taken class (taken k) 0 (suc k) ts w) k (size (node class ts))
      (due_in taken k (node class ts)) (λ x. is_before taken k (node class ts) x p)
  under_root class ts k w p ep (inl e) = inl e
  under_root class ts k w p ep (inr o) = inr (
    new_root class k ts o.0,
    λ dx.
        if_false _ _ _ (not_root k o.0.number o.0.low) ∙ (if_false _ _ _ ep ∙ o.1 (sym (if_false _ _ _ (not_root k o.0.number o.0.low)) ∙ dx)),
  )

  root_step : (bw bp : Bool) (class : Class) (ts : Trees) (k : ℕ) (w p : Place) → (p.node == k) ≡ bp → Change class k
      → (Same class (taken k) (later k) → due_among later class (later k) 0 (suc k) ts w ≡ true → rises later class (later k) 0 (suc k) ts w p.kind ≡ true →
      Rise ts class (taken k) 0 (suc k) w p.kind)
      → (Same class (taken k) (later k) → due_among taken class (taken k) 0 (suc k) ts p ≡ true → due_among later class (later k) 0 (suc k) ts w ≡ true →
      between later class (later k) 0 (suc k) ts w p ≡ true → Among ts class (taken k) 0 (suc k) w p)
      → FirstOf ts (suc k) w p
      → (if bp then has_kind (kinds_of class) p.kind else due_among taken class (taken k) 0 (suc k) ts p) ≡ true
      → (if bw then has_kind (kinds_of class) w.kind else due_among later class (later k) 0 (suc k) ts w) ≡ true
      → (if bw then (p.node == k) && own_rule class w.kind p.kind else (if bp then rises later class (later k) 0 (suc k) ts w p.kind else between later class
      (later k) 0 (suc k) ts w p)) ≡ true
      → Old (if bw then (p.node == k) && own_rule class w.kind p.kind
      else (if bp then rises taken class (taken k) 0 (suc k) ts w p.kind else between taken class (taken k) 0 (suc k) ts w p))
      (if bw then has_kind (kinds_of class) w.kind else due_among taken class (taken k) 0 (suc k) ts w)
      k (size (node class ts)) (due_in taken k (node class ts)) (λ x. is_before taken k (node class ts) x p)
  root_step true bp class ts k w p ep ch f g fo dp d h = inl (h, d)
  root_step false true class ts k w p ep (inl s) f g fo dp d h = elim (f s d h) [
    | inl e ↦ inl e
    | inr o ↦ inr (
      new_root class k ts o.0,
      λ dx. if_false _ _ _ (not_root k o.0.number o.0.low) ∙
          (if_true _ _ _ ep ∙ o.1 (sym (if_false _ _ _ (not_root k o.0.number o.0.low)) ∙ dx)),
    )
  ]
  root_step false true class ts k w p ep (inr s) f g fo dp d h =
      let q = size_of class (later k) ts (suc k) w d in
      inr (
        new_here class k ts q s.0 s.1 s.2,
        λ dx. if_false (suc k == k) _ _ (ne_eq (suc k) k (λ e. omega (arith, e)))
            ∙ (if_true _ _ _ ep ∙ subst (λ z. rises taken class (taken k) 0 (suc k) ts (place (suc k) Val) z ≡ true) (sym (choice_kind class p.kind s.0 dp))
            (test_rises ts class k q dx)),
      )
  root_step false false class ts k w p ep (inl s) f g fo dp d h = under_root class ts k w p ep (g s dp d h)
  root_step false false class ts k w p ep (inr s) f g fo dp d h = under_root class ts k w p ep
      (open_among ts class (taken k) (later k) (suc k) w p s.0 s.1 fo dp d h)

  mutual
    later_before : (t : Tree) (k : ℕ) (w p : Place) → due_in taken k t p ≡ true → due_in later k t w ≡ true → is_before later k t w p ≡ true → First t k w p
    later_before (node class ts) k w p dp d h =
        root_step (w.node == k) (p.node == k) class ts k w p refl (change class k) (λ s. later_rises ts class (taken k) (later k) 0 (suc k) w p.kind s)
        (λ s. later_between ts class (taken k) (later k) 0 (suc k) w p s) (later_first ts (suc k) w p) dp d h

    later_val : (t : Tree) (k : ℕ) (w : Place) → due_in later k t w ≡ true → to_val later k t w ≡ true → Value t k w
    later_val (node class ts) k w d h = val_root (w.node == k) class ts k w (change class k) (λ s. later_rises ts class (taken k) (later k) 0 (suc k) w Val s)
        d h

    later_rises : (ts : Trees) (class : Class) (c c' : Option ℕ) (i m : ℕ) (w : Place) (kind : Kind) → Same class c c' →
        due_among later class c' i m ts w ≡ true → rises later class c' i m ts w kind ≡ true → Rise ts class c i m w kind
    later_rises none class c c' i m w kind s d h = absurd (true≢false (sym h))
    later_rises (more t ts) class c c' i m w kind s d h =
        rise_step (nat_lt w.node (m + size t)) class c c' i m t ts w kind s (later_val t m w) (later_rises ts class c c' (suc i) (m + size t) w kind s) d h

    later_between : (ts : Trees) (class : Class) (c c' : Option ℕ) (i m : ℕ) (w p : Place) → Same class c c' → due_among taken class c i m ts p ≡ true →
        due_among later class c' i m ts w ≡ true → between later class c' i m ts w p ≡ true → Among ts class c i m w p
    later_between none class c c' i m w p s dp d h = absurd (true≢false (sym h))
    later_between (more t ts) class c c' i m w p s dp d h =
        between_step (nat_lt w.node (m + size t)) (nat_lt p.node (m + size t)) class c c' i m t ts w p refl s (later_before t m w p)
        (later_between ts class c c' (suc i) (m + size t) w p s) dp d h

    later_first : (ts : Trees) (m : ℕ) (w p : Place) → FirstOf ts m w p
    later_first none m w p = tt
    later_first (more t ts) m w p = later_before t m w p

pub nothing_new : (root : Tree) (taken later : Taken) (kept : (n j : ℕ) → taken n ≡ Some j → later n ≡ Some j) (done : Place → Bool) (v : Place)
    → ((n : ℕ) → taken n ≡ None → is_some (later n) ≡ true → is_due root taken (place n Val) ≡ true → (is_due root taken (place (suc n) Val) ≡ true) ×
    (done (place (suc n) Val) ≡ false))
    → is_due root taken v ≡ true → ((u : Place) → Before root taken u v → done u ≡ true) → (u : Place) → Before root later u v → Before root taken u v
nothing_new root taken later kept done v fresh due earlier u h =
    let du = sym (has_due later root 0 u) ∙ (before_due root later u v h).0 in
    let dv = sym (has_due taken root 0 v) ∙ due in
    elim (later_before taken later kept root 0 u v dv du (before_found root later u v h)) [
      | inl a ↦ found_before root taken u v (has_due taken root 0 u ∙ a.1) due a.0
      | inr o ↦
          (let f = fresh o.0.number o.0.was_open o.0.chosen (has_due taken root 0 (place o.0.number Val) ∙ o.0.due_node) in
          let x = place (suc o.0.number) Val in
          let b = found_before root taken x v f.0 due (o.1 (sym (has_due taken root 0 x) ∙ f.0)) in
          absurd (true≢false (sym (earlier x b) ∙ f.1)))
    ]

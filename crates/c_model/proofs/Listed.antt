-- The listing climbs in post-order: it has each due event once, what comes before an event stands before it, and the
-- canonical order goes along it.
use Rattle.std.proofs.Common.{
  ◌≡◌,
  ℕ,
  suc,
  ◌+◌,
  ◌*◌,
  ◌<◌,
  ◌≤◌,
  Bool,
  true,
  false,
  not,
  ◌&&◌,
  ◌||◌,
  ◌==◌,
  if◌then◌else◌,
  List,
  [],
  ◌∷◌,
  ◌++◌,
  map,
  Option,
  Some,
  None,
  refl,
  sym,
  ap,
  subst,
  ◌∙◌,
  ◌⊎◌,
  inl,
  inr,
  true≢false,
  arith,
}
use Rattle.std.specs.List.{list_all}
use Rattle.ub_base.specs.declared.clause.Kind.{Kind}
use Rattle.ub_base.specs.declared.clause.Kind.TheVariants.{Val, Eff, Body}
use Rattle.ub_base.specs.Names.{same_kind}
use Rattle.c_typed.specs.declared.tree.Place.{Place}
use Rattle.c_typed.specs.declared.class.Class.{Class}
use Rattle.c_typed.specs.declared.class.Class.TheVariants.{Object, Constant, Plain, Store, Update, Choice, Comma, Call, Isolated}
use Rattle.c_typed.specs.Tree.{Tree, node, Trees, none, more, size, sizes, kinds_of}
use Rattle.c_typed.specs.Order.{
  Taken,
  goes,
  place,
  same_place,
  own_events,
  events,
  operand_events,
  has,
  is_body,
  own_rule,
  update_is_open,
  operand_is_open,
  Before,
}
use Rattle.c_typed.specs.Decide.{due_in, is_before, is_ready, is_permitted, first_place, canonical}
use Rattle.c_model.proofs.Ranks.{
  eq_of,
  eq_eq,
  or_cases,
  and_l,
  and_r,
  In,
  rank_in,
  kind_rank,
  post_in,
  post_among,
  before_rank,
  post_first,
  post_rest,
  post_root,
  post_below,
}
use Rattle.c_model.proofs.Decided.{and_b, or_a, or_b, not_true, has_or, has_due}
use Rattle.c_model.proofs.Closed.{found_before}

-- the ranks of the listed events climb from one bound to the other
abbrev Climbs : (Place → ℕ) → ℕ → ℕ → List Place → Type 0
Climbs r low high [] = low ≤ high
Climbs r low high (u ∷ us) = (low ≤ r u) × Climbs r (suc (r u)) high us

climb_down : (us : List Place) (r : Place → ℕ) (a b c : ℕ) → a ≤ b → Climbs r b c us → Climbs r a c us
climb_down [] r a b c p h = omega (arith, p, h)
climb_down (u ∷ us) r a b c p h = (omega (arith, p, h.0), h.1)

climb_append : (us vs : List Place) (r : Place → ℕ) (a b c : ℕ) → Climbs r a b us → Climbs r b c vs → Climbs r a c (us ++ vs)
climb_append [] vs r a b c h g = climb_down vs r a b c h g
climb_append (u ∷ us) vs r a b c h g = (h.0, climb_append us vs r (suc (r u)) b c h.1 g)

climb_own : (class : Class) (n k : ℕ) (r : Place → ℕ) → ((kind : Kind) → r (place k kind) ≡ 3 * n + kind_rank kind) →
    Climbs r (3 * n) (3 * n + 3) (map (place k) (kinds_of class))
climb_own Object n k r f = omega arith
climb_own Constant n k r f = omega arith
climb_own Plain n k r f = let a = f Val in (omega (arith, a), omega (arith, a))
climb_own Choice n k r f = let a = f Val in (omega (arith, a), omega (arith, a))
climb_own Comma n k r f = let a = f Val in (omega (arith, a), omega (arith, a))
climb_own Store n k r f = let a = f Val in let b = f Eff in (omega (arith, a), (omega (arith, a, b), omega (arith, b)))
climb_own Update n k r f = let a = f Val in let b = f Eff in (omega (arith, a), (omega (arith, a, b), omega (arith, b)))
climb_own Call n k r f = let a = f Body in let b = f Val in (omega (arith, a), (omega (arith, a, b), omega (arith, b)))
climb_own Isolated n k r f = let a = f Body in let b = f Val in (omega (arith, a), (omega (arith, a, b), omega (arith, b)))

abbrev Agrees : (Place → ℕ) → ℕ → ℕ → (ℕ → ℕ) → Type 0
Agrees r m count post = (u : Place) → In m count u.node → r u ≡ 3 * post u.node + kind_rank u.kind

mutual
  climb_tree : (taken : Taken) (t : Tree) (k b : ℕ) (r : Place → ℕ) → Agrees r k (size t) (post_in k b t) →
      Climbs r (3 * b) (3 * (b + size t)) (events taken k t)
  climb_tree taken (node class ts) k b r f =
      let low = climb_among taken ts class (taken k) 0 (suc k) b r
      (λ u h. f u (omega (arith, h.0), omega (arith, h.1)) ∙ ap (λ z. 3 * z + kind_rank u.kind) (post_below k b class ts u.node (omega (arith, h.0)))) in
      let own = climb_own class (b + sizes ts) k r
      (λ kind. f (place k kind) (omega arith, omega arith) ∙ ap (λ z. 3 * z + kind_rank kind) (post_root k b class ts k refl)) in
      climb_append (operand_events taken class (taken k) 0 (suc k) ts) (own_events k class) r _ _ _ low (raise _ _ (omega arith) own)
    where
      raise : (x y : ℕ) → x ≡ y → Climbs r (3 * (b + sizes ts)) x (own_events k class) → Climbs r (3 * (b + sizes ts)) y (own_events k class)
      raise x y e h = subst (λ z. Climbs r (3 * (b + sizes ts)) z (own_events k class)) e h

  climb_among : (taken : Taken) (ts : Trees) (class : Class) (choice : Option ℕ) (i m b : ℕ) (r : Place → ℕ) → Agrees r m (sizes ts) (post_among m b ts) →
      Climbs r (3 * b) (3 * (b + sizes ts)) (operand_events taken class choice i m ts)
  climb_among taken none class choice i m b r f = omega arith
  climb_among taken (more t ts) class choice i m b r f =
      let first = climb_tree taken t m b r (λ u h. f u (h.0, omega (arith, h.1)) ∙ ap (λ z. 3 * z + kind_rank u.kind) (post_first m b t ts u.node h.1)) in
      let rest = climb_among taken ts class choice (suc i) (m + size t) (b + size t) r
      (λ u h. f u (omega (arith, h.0), omega (arith, h.1)) ∙ ap (λ z. 3 * z + kind_rank u.kind) (post_rest m b t ts u.node h.0)) in
      climb_append (if goes class choice i then events taken m t else []) (operand_events taken class choice (suc i) (m + size t) ts) r _ _ _
      (skip (goes class choice i) (events taken m t) r _ _ (omega arith) first)
      (subst (λ z. Climbs r (3 * (b + size t)) (3 * z) (operand_events taken class choice (suc i) (m + size t) ts)) (omega arith) rest)
    where
      skip : (c : Bool) (us : List Place) (r : Place → ℕ) (x y : ℕ) → x ≤ y → Climbs r x y us → Climbs r x y (if c then us else [])
      skip true us r x y p h = h
      skip false us r x y p h = p

same_kind_eq : (a b : Kind) → same_kind a b ≡ true → a ≡ b
same_kind_eq Val Val h = refl
same_kind_eq Eff Eff h = refl
same_kind_eq Body Body h = refl
same_kind_eq _ _ h = absurd (cc)

same_kind_itself : (a : Kind) → same_kind a a ≡ true
same_kind_itself Val = refl
same_kind_itself Eff = refl
same_kind_itself Body = refl

pub same_place_eq : (u v : Place) → same_place u v ≡ true → u ≡ v
same_place_eq u v h =
    let en : u.node ≡ v.node = eq_of u.node v.node (and_l _ _ h) in
    let ek : u.kind ≡ v.kind = same_kind_eq u.kind v.kind (and_r (u.node == v.node) _ h) in
    λ i. record { node = en i; kind = ek i }

pub same_place_itself : (u : Place) → same_place u u ≡ true
same_place_itself u = and_b _ _ (eq_eq u.node u.node refl) (same_kind_itself u.kind)

climb_has : (us : List Place) (r : Place → ℕ) (a b : ℕ) (u : Place) → Climbs r a b us → has us u ≡ true → a ≤ r u
climb_has [] r a b u h g = absurd (true≢false (sym g))
climb_has (v ∷ us) r a b u h g = elim (or_cases (same_place u v) _ g) [
  | inl e ↦ (let q = ap r (same_place_eq u v e) in omega (arith, h.0, q))
  | inr e ↦ (let q = climb_has us r (suc (r v)) b u h.1 e in omega (arith, h.0, q))
]

climb_low : (us vs : List Place) (r : Place → ℕ) (a b : ℕ) (v : Place) → Climbs r a b (us ++ v ∷ vs) → a ≤ r v
climb_low [] vs r a b v h = h.0
climb_low (u ∷ us) vs r a b v h = let q = climb_low us vs r (suc (r u)) b v h.1 in omega (arith, h.0, q)

climb_before : (us vs : List Place) (r : Place → ℕ) (a b : ℕ) (v u : Place) → Climbs r a b (us ++ v ∷ vs) → has us u ≡ true → r u < r v
climb_before [] vs r a b v u h g = absurd (true≢false (sym g))
climb_before (w ∷ us) vs r a b v u h g = elim (or_cases (same_place u w) _ g) [
  | inl e ↦ (let q = ap r (same_place_eq u w e) in let p = climb_low us vs r (suc (r w)) b v h.1 in omega (arith, p, q))
  | inr e ↦ climb_before us vs r (suc (r w)) b v u h.1 e
]

climb_after : (us vs : List Place) (r : Place → ℕ) (a b : ℕ) (v u : Place) → Climbs r a b (us ++ v ∷ vs) → has vs u ≡ true → r v < r u
climb_after [] vs r a b v u h g = let q = climb_has vs r (suc (r v)) b u h.1 g in omega (arith, q)
climb_after (w ∷ us) vs r a b v u h g = climb_after us vs r (suc (r w)) b v u h.1 g

module _ (root : Tree) (taken : Taken) (us vs : List Place) (v : Place) (listed : events taken 0 root ≡ us ++ v ∷ vs) where
  abbrev r : Place → ℕ
  r u = rank_in 0 0 root u

  climbs : Climbs r (3 * 0) (3 * (0 + size root)) (us ++ v ∷ vs)
  climbs = subst (λ z. Climbs r (3 * 0) (3 * (0 + size root)) z) listed (climb_tree taken root 0 0 r (λ u h. refl))

  pub listed_once : has us v ≡ false
  listed_once = not_true _ (λ h. let q = climb_before us vs r _ _ v v climbs h in omega (arith, q))

  -- a due event stands before v, is v, or stands after it
  place_of : (u : Place) → has (events taken 0 root) u ≡ true → (has us u ≡ true) ⊎ ((u ≡ v) ⊎ (r v < r u))
  place_of u h = elim (or_cases (has us u) _ (sym (has_or us (v ∷ vs) u) ∙ subst (λ z. has z u ≡ true) listed h)) [
    | inl a ↦ inl a
    | inr a ↦ (elim (or_cases (same_place u v) _ a) [
      | inl e ↦ inr (inl (same_place_eq u v e))
      | inr e ↦ inr (inr (climb_after us vs r _ _ v u climbs e))
    ])
  ]

  pub respected : (u : Place) → has (events taken 0 root) u ≡ true → Before root taken u v → has us u ≡ true
  respected u d h =
      let l = before_rank root taken u v h in
      elim (place_of u d) [
        | inl a ↦ a
        | inr a ↦ (elim a [
          | inl e ↦ absurd (let q = ap r e in omega (arith, q, l))
          | inr e ↦ absurd (omega (arith, e, l))
        ])
      ]

  v_due : has (events taken 0 root) v ≡ true
  v_due = subst (λ z. has z v ≡ true) (sym listed) (has_or us (v ∷ vs) v ∙ or_b (has us v) _ (or_a _ _ (same_place_itself v)))

  all_of : (p : Place → Bool) (ws : List Place) → ((w : Place) → has ws w ≡ true → p w ≡ true) → list_all p ws ≡ true
  all_of p [] f = refl
  all_of p (w ∷ ws) f = and_b _ _ (f w (or_a _ _ (same_place_itself w))) (all_of p ws (λ x h. f x (or_b (same_place x w) _ h)))

  done_or : (w : Place) → has (events taken 0 root) w ≡ true → (has us w || not (is_before taken 0 root w v)) ≡ true
  done_or w d = step (is_before taken 0 root w v) refl
    where
      step : (b : Bool) → is_before taken 0 root w v ≡ b → (has us w || not b) ≡ true
      step true e = or_a _ _ (respected w d (found_before root taken w v d v_due e))
      step false e = or_b (has us w) _ refl

  ready : is_ready root taken (has us) v ≡ true
  ready =
      and_b _ _ (sym (has_due taken root 0 v) ∙ v_due)
      (and_b _ _ (ap not listed_once) (all_of (λ w. has us w || not (is_before taken 0 root w v)) (events taken 0 root) done_or))

record Open (done : Place → Bool) (us : List Place) : Type 0 where
  number : ℕ
  value : has us (place number Val) ≡ true
  effect : has us (place number Eff) ≡ true
  done_value : done (place number Val) ≡ true
  left_effect : done (place number Eff) ≡ false

open_left : (done : Place → Bool) (us vs : List Place) → Open done us → Open done (us ++ vs)
open_left done us vs o = record {
  number = o.number;
  done_value = o.done_value;
  left_effect = o.left_effect;
  value =
      has_or us vs (place o.number Val) ∙ or_a _ _ o.value;
  effect = has_or us vs (place o.number Eff) ∙ or_a _ _ o.effect;
}

open_right : (done : Place → Bool) (us vs : List Place) → Open done vs → Open done (us ++ vs)
open_right done us vs o = record {
  number = o.number;
  done_value = o.done_value;
  left_effect = o.left_effect;
  value =
      has_or us vs (place o.number Val) ∙ or_b (has us (place o.number Val)) _ o.value;
  effect =
      has_or us vs (place o.number Eff) ∙ or_b (has us (place o.number Eff)) _ o.effect;
}

not_of : (b : Bool) → not b ≡ true → b ≡ false
not_of true h = absurd (true≢false (sym h))
not_of false h = refl

open_own : (class : Class) (done : Place → Bool) (k : ℕ) → (own_rule class Val Eff && (done (place k Val) && not (done (place k Eff)))) ≡ true →
    Open done (own_events k class)
open_own Update done k h = record {
  number = k;
  value = or_a _ _ (same_place_itself (place k Val));
  effect = or_b (same_place (place k Eff) (place k Val)) _ (or_a _ _ (same_place_itself (place k Eff)));
  done_value = and_l _ _ h;
  left_effect = not_of _ (and_r (done (place k Val)) _ h);
}
open_own _ done k h = absurd (true≢false (sym h))

open_if : (done : Place → Bool) (c : Bool) (us : List Place) → c ≡ true → Open done us → Open done (if c then us else [])
open_if done true us e o = o
open_if done false us e o = absurd (true≢false (sym e))

mutual
  open_in : (taken : Taken) (done : Place → Bool) (t : Tree) (k : ℕ) → update_is_open taken done k t ≡ true → Open done (events taken k t)
  open_in taken done (node class ts) k h = elim (or_cases (own_rule class Val Eff && (done (place k Val) && not (done (place k Eff)))) _ h) [
    | inl a ↦ open_right done (operand_events taken class (taken k) 0 (suc k) ts) (own_events k class) (open_own class done k a)
    | inr a ↦ open_left done (operand_events taken class (taken k) 0 (suc k) ts) (own_events k class) (open_among taken done ts class (taken k) 0 (suc k) a)
  ]

  open_among : (taken : Taken) (done : Place → Bool) (ts : Trees) (class : Class) (choice : Option ℕ) (i m : ℕ) →
      operand_is_open taken done class choice i m ts ≡ true → Open done (operand_events taken class choice i m ts)
  open_among taken done none class choice i m h = absurd (true≢false (sym h))
  open_among taken done (more t ts) class choice i m h = elim (or_cases (goes class choice i && update_is_open taken done m t) _ h) [
    | inl a ↦ open_left done (if goes class choice i then events taken m t else []) _
        (open_if done (goes class choice i) (events taken m t) (and_l _ _ a) (open_in taken done t m (and_r (goes class choice i) _ a)))
    | inr a ↦ open_right done (if goes class choice i then events taken m t else []) _ (open_among taken done ts class choice (suc i) (m + size t) a)
  ]

first_skip : (test : Place → Bool) (us vs : List Place) → ((w : Place) → has us w ≡ true → test w ≡ false) → first_place test (us ++ vs) ≡ first_place test vs
first_skip test [] vs f = refl
first_skip test (u ∷ us) vs f = skip (test u) (f u (or_a _ _ (same_place_itself u))) ∙ first_skip test us vs (λ w h. f w (or_b (same_place w u) _ h))
  where
    skip : (b : Bool) → b ≡ false → (if b then Some u else first_place test (us ++ vs)) ≡ first_place test (us ++ vs)
    skip true e = absurd (true≢false e)
    skip false e = refl

not_again : (root : Tree) (taken : Taken) (done : Place → Bool) (w : Place) → done w ≡ true → is_permitted root taken done w ≡ false
not_again root taken done w h = not_true _ (λ p.
    let a : is_ready root taken done w ≡ true = and_l (is_ready root taken done w) _ p in
    let b : not (done w) ≡ true = and_l (not (done w)) _ (and_r (due_in taken 0 root w) _ a) in
    true≢false (sym h ∙ not_of (done w) b))

body_kind : (kind : Kind) → is_body kind ≡ true → kind ≡ Body
body_kind Body h = refl
body_kind _ h = absurd (true≢false (sym h))

module _ (root : Tree) (taken : Taken) (us vs : List Place) (v : Place) (listed : events taken 0 root ≡ us ++ v ∷ vs) where
  no_split : not (is_body v.kind && update_is_open taken (has us) 0 root) ≡ true
  no_split = ap not (not_true _ (λ h.
      let o = open_in taken (has us) root 0 (and_r (is_body v.kind) _ h) in
      let n = place o.number Eff in
      let low = climb_before us vs (rank_in 0 0 root) _ _ v (place o.number Val) (climbs root taken us vs v listed) o.done_value in
      elim (place_of root taken us vs v listed n o.effect) [
        | inl a ↦ true≢false (sym a ∙ o.left_effect)
        | inr a ↦ (elim a [
          | inl e ↦ (let k : Eff ≡ Body = ap (λ (z : Place). z.kind) e ∙ body_kind v.kind (and_l _ _ h) in absurd (cc))
          | inr e ↦ omega (arith, e, low)
        ])
      ]))

  pub next_listed : canonical root taken (has us) ≡ Some v
  next_listed =
      ap (first_place (is_permitted root taken (has us))) listed
      ∙ (first_skip (is_permitted root taken (has us)) us (v ∷ vs) (λ w h. not_again root taken (has us) w h)
      ∙ take (is_permitted root taken (has us) v) (and_b _ _ (ready root taken us vs v listed) no_split))
    where
      take : (b : Bool) → b ≡ true → (if b then Some v else first_place (is_permitted root taken (has us)) vs) ≡ Some v
      take true e = refl
      take false e = absurd (true≢false (sym e))

append_none : (us : List Place) → us ++ [] ≡ us
append_none [] = refl
append_none (u ∷ us) = ap (λ z. u ∷ z) (append_none us)

pub none_left : (root : Tree) (taken : Taken) (done : Place → Bool) → ((w : Place) → has (events taken 0 root) w ≡ true → done w ≡ true) →
    canonical root taken done ≡ None
none_left root taken done f =
    ap (first_place (is_permitted root taken done)) (sym (append_none (events taken 0 root)))
    ∙ first_skip (is_permitted root taken done) (events taken 0 root) [] (λ w h. not_again root taken done w (f w h))

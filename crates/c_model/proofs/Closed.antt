-- What the descent finds is closed under the rules and under their composition.
use Rattle.std.proofs.Common.{
  ◌≡◌,
  ℕ,
  suc,
  ◌+◌,
  ◌<◌,
  Bool,
  true,
  false,
  not,
  ◌&&◌,
  ◌||◌,
  ◌==◌,
  nat_lt,
  if◌then◌else◌,
  is_some,
  Option,
  Some,
  None,
  refl,
  sym,
  subst,
  ◌∙◌,
  ◌⊎◌,
  inl,
  inr,
  true≢false,
  arith,
}
use Rattle.ub_base.specs.declared.clause.Kind.{Kind}
use Rattle.ub_base.specs.declared.clause.Kind.TheVariants.{Val, Eff, Body}
use Rattle.c_typed.specs.declared.tree.Place.{Place}
use Rattle.c_typed.specs.declared.class.Class.{Class}
use Rattle.c_typed.specs.declared.class.Class.TheVariants.{Update, Choice, Comma}
use Rattle.c_typed.specs.Tree.{Tree, node, Trees, none, more, size, sizes, is_quiet, kinds_of}
use Rattle.c_typed.specs.Order.{
  Taken,
  goes,
  events,
  has,
  is_due,
  is_val,
  is_body,
  is_number,
  across,
  upward,
  is_last,
  own_rule,
  in_later,
  comes,
  operand_rules,
  Before,
  rule,
  chain,
}
use Rattle.c_typed.specs.Decide.{has_kind, due_in, due_among, lifts, crosses, is_before, rises, to_val, between}
use Rattle.c_model.proofs.Ranks.{eq_of, lt_lt, ge_lt, if_true, if_false, or_cases, and_l, and_r, In, events_in, later_in, size_pos, eq_eq}
use Rattle.c_model.proofs.Decided.{and_b, or_a, or_b, or_map, and_map, ne_eq, has_due, sound}

if_step : (b x y x' y' : Bool) → (x ≡ true → x' ≡ true) → (y ≡ true → y' ≡ true) → (if b then x else y) ≡ true → (if b then x' else y') ≡ true
if_step true x y x' y' f g h = f h
if_step false x y x' y' f g h = g h

-- each rule is found

pub upward_lifts : (class : Class) (choice : Option ℕ) (i : ℕ) (last : Bool) (kind : Kind) → upward class choice i last kind ≡ true →
    lifts class choice i last kind ≡ true
upward_lifts class choice i last Val h = or_a _ _ h
upward_lifts class choice i last Eff h = h
upward_lifts class choice i last Body h = h

-- u stands in an operand and comes before v, an event of the node k or one in an operand
abbrev Up : Taken → Class → Option ℕ → ℕ → ℕ → ℕ → Trees → Place → Place → Type 0
Up taken class choice k i m ts u v =
    In m (sizes ts) u.node × (((v.node ≡ k) × (rises taken class choice i m ts u v.kind ≡ true)) ⊎
    (In m (sizes ts) v.node × (between taken class choice i m ts u v ≡ true)))

up_rest : (taken : Taken) (class : Class) (choice : Option ℕ) (k i m : ℕ) (t : Tree) (ts : Trees) (u v : Place) →
    Up taken class choice k (suc i) (m + size t) ts u v → Up taken class choice k i m (more t ts) u v
up_rest taken class choice k i m t ts u v (h, inl g) =
    ((omega (arith, h.0), omega (arith, h.1)), inl (g.0, if_false _ _ _ (ge_lt u.node (m + size t) h.0) ∙ g.1))
up_rest taken class choice k i m t ts u v (h, inr g) = (
  (omega (arith, h.0), omega (arith, h.1)),
  inr (
    (omega (arith, g.0.0), omega (arith, g.0.1)),
    if_false _ _ _ (ge_lt u.node (m + size t) h.0) ∙ (if_false _ _ _ (ge_lt v.node (m + size t) g.0.0) ∙ g.1),
  ),
)

-- an event of the first operand before one of the node
up_root : (taken : Taken) (class : Class) (choice : Option ℕ) (k i m : ℕ) (t : Tree) (ts : Trees) (u v : Place) → In m (size t) u.node → v.node ≡ k
    → (lifts class choice i (is_last ts) v.kind || (not (is_body v.kind) && (not (is_quiet t) && to_val taken m t u))) ≡ true →
    Up taken class choice k i m (more t ts) u v
up_root taken class choice k i m t ts u v h e g = ((h.0, omega (arith, h.1)), inl (e, if_true _ _ _ (lt_lt u.node (m + size t) h.1) ∙ g))

val_itself : (taken : Taken) (t : Tree) (m : ℕ) (u : Place) → u.node ≡ m → is_val u.kind ≡ true → to_val taken m t u ≡ true
val_itself taken (node class ts) m u e h = if_true (u.node == m) _ _ (eq_eq u.node m e) ∙ or_a _ _ h

later_crosses : (taken : Taken) (ts : Trees) (class : Class) (choice : Option ℕ) (i j m : ℕ) (v : Place) → in_later taken class choice i j m ts v ≡ true →
    crosses class choice i j m ts v.node ≡ true
later_crosses taken none class choice i j m v h = h
later_crosses taken (more t ts) class choice i j m v h = elim (or_cases (across class choice i j && has (events taken m t) v) _ h) [
  | inl a ↦ (let r = events_in taken t m v (and_r (across class choice i j) _ a) in if_true _ _ _ (lt_lt v.node (m + size t) r.1) ∙ and_l _ _ a)
  | inr a ↦ (let r = later_in taken class choice i ts (suc j) (m + size t) v a in if_false _ _ _ (ge_lt v.node (m + size t) r.0) ∙ later_crosses taken ts
      class choice i (suc j) (m + size t) v a)
]

up_here : (taken : Taken) (class : Class) (choice : Option ℕ) (k i m : ℕ) (t : Tree) (ts : Trees) (u v : Place)
    → (comes taken m t u v ≡ true → In m (size t) u.node × In m (size t) v.node × (is_before taken m t u v ≡ true))
    → (((u.node == m) && (is_val u.kind && (not (is_quiet t) && ((v.node == k) && not (is_body v.kind)))))
    || ((has (events taken m t) u && (((v.node == k) && upward class choice i (is_last ts) v.kind) || in_later taken class choice i (suc i) (m + size t) ts v))
    || comes taken m t u v)) ≡ true
    → Up taken class choice k i m (more t ts) u v
up_here taken class choice k i m t ts u v f h =
    elim (or_cases ((u.node == m) && (is_val u.kind && (not (is_quiet t) && ((v.node == k) && not (is_body v.kind))))) _ h) [
      | inl a ↦
          (let eu : u.node ≡ m = eq_of u.node m (and_l _ _ a) in
          let b = and_r (u.node == m) _ a in
          let c = and_r (is_val u.kind) _ b in
          let d = and_r (not (is_quiet t)) _ c in
          let z = size_pos t in
          up_root taken class choice k i m t ts u v (omega (arith, eu), omega (arith, eu, z)) (eq_of v.node k (and_l _ _ d))
          (or_b (lifts class choice i (is_last ts) v.kind) _
          (and_b _ _ (and_r (v.node == k) _ d) (and_b _ _ (and_l _ _ c) (val_itself taken t m u eu (and_l _ _ b))))))
      | inr a ↦ (elim (or_cases (has (events taken m t) u &&
          (((v.node == k) && upward class choice i (is_last ts) v.kind) || in_later taken class choice i (suc i) (m + size t) ts v)) _ a) [
            | inl c ↦
                (let r = events_in taken t m u (and_l _ _ c) in
                elim (or_cases ((v.node == k) && upward class choice i (is_last ts) v.kind) _ (and_r (has (events taken m t) u) _ c)) [
                  | inl d ↦ up_root taken class choice k i m t ts u v r (eq_of v.node k (and_l _ _ d))
                      (or_a _ _ (upward_lifts class choice i (is_last ts) v.kind (and_r (v.node == k) _ d)))
                  | inr d ↦
                      (let s = later_in taken class choice i ts (suc i) (m + size t) v d in (
                        (r.0, omega (arith, r.1)),
                        inr (
                          (omega (arith, s.0), omega (arith, s.1)),
                          if_true _ _ _ (lt_lt u.node (m + size t) r.1) ∙
                              (if_false _ _ _ (ge_lt v.node (m + size t) s.0) ∙ later_crosses taken ts class choice i (suc i) (m + size t) v d),
                        ),
                      ))
                ])
            | inr c ↦
                (let r = f c in (
                  (r.0.0, omega (arith, r.0.1)),
                  inr (
                    (r.1.0, omega (arith, r.1.1)),
                    if_true _ _ _ (lt_lt u.node (m + size t) r.0.1) ∙ (if_true _ _ _ (lt_lt v.node (m + size t) r.1.1) ∙ r.2),
                  ),
                ))
          ])
    ]

comes_root : (taken : Taken) (class : Class) (ts : Trees) (k : ℕ) (u v : Place) → Up taken class (taken k) k 0 (suc k) ts u v → In k (suc (sizes ts)) u.node ×
    In k (suc (sizes ts)) v.node × (is_before taken k (node class ts) u v ≡ true)
comes_root taken class ts k u v (h, inl g) = (
  (omega (arith, h.0), omega (arith, h.1)),
  (omega (arith, g.0), omega (arith, g.0)),
  if_false (u.node == k) _ _ (ne_eq u.node k (λ e. omega (arith, e, h.0))) ∙ (if_true (v.node == k) _ _ (eq_eq v.node k g.0) ∙ g.1),
)
comes_root taken class ts k u v (h, inr g) = (
  (omega (arith, h.0), omega (arith, h.1)),
  (omega (arith, g.0.0), omega (arith, g.0.1)),
  if_false (u.node == k) _ _ (ne_eq u.node k (λ e. omega (arith, e, h.0))) ∙
      (if_false (v.node == k) _ _ (ne_eq v.node k (λ e. omega (arith, e, g.0.0))) ∙ g.1),
)

comes_own : (taken : Taken) (class : Class) (ts : Trees) (k : ℕ) (u v : Place) → ((u.node == k) && ((v.node == k) && own_rule class u.kind v.kind)) ≡ true →
    In k (suc (sizes ts)) u.node × In k (suc (sizes ts)) v.node × (is_before taken k (node class ts) u v ≡ true)
comes_own taken class ts k u v h =
    let eu : u.node ≡ k = eq_of u.node k (and_l _ _ h) in
    let ev : v.node ≡ k = eq_of v.node k (and_l (v.node == k) _ (and_r (u.node == k) _ h)) in
    ((omega (arith, eu), omega (arith, eu)), (omega (arith, ev), omega (arith, ev)), if_true (u.node == k) _ _ (and_l _ _ h) ∙ and_r (u.node == k) _ h)

mutual
  comes_before : (taken : Taken) (t : Tree) (k : ℕ) (u v : Place) → comes taken k t u v ≡ true → In k (size t) u.node × In k (size t) v.node ×
      (is_before taken k t u v ≡ true)
  comes_before taken (node class ts) k u v h = elim (or_cases ((u.node == k) && ((v.node == k) && own_rule class u.kind v.kind)) _ h) [
    | inl a ↦ comes_own taken class ts k u v a
    | inr a ↦ comes_root taken class ts k u v (rules_up taken ts class (taken k) k 0 (suc k) u v a)
  ]

  rules_up : (taken : Taken) (ts : Trees) (class : Class) (choice : Option ℕ) (k i m : ℕ) (u v : Place) →
      operand_rules taken class choice k i m ts u v ≡ true → Up taken class choice k i m ts u v
  rules_up taken none class choice k i m u v h = absurd (true≢false (sym h))
  rules_up taken (more t ts) class choice k i m u v h = elim (or_cases (goes class choice i && _) _ h) [
    | inl a ↦ up_here taken class choice k i m t ts u v (comes_before taken t m u v) (and_r (goes class choice i) _ a)
    | inr a ↦ up_rest taken class choice k i m t ts u v (rules_up taken ts class choice k (suc i) (m + size t) u v a)
  ]

-- what is found composes

no_own : (class : Class) (b : Kind) → own_rule class Eff b ≡ true → ⊥
no_own Update b h = absurd (cc)
no_own _ b h = absurd (cc)

from_val : (class : Class) (b : Kind) → own_rule class Val b ≡ true → b ≡ Eff
from_val Update Val h = absurd (cc)
from_val Update Eff h = refl
from_val Update Body h = absurd (cc)
from_val _ Val h = absurd (cc)
from_val _ Eff h = absurd (cc)
from_val _ Body h = absurd (cc)

from_body : (class : Class) (b : Kind) → own_rule class Body b ≡ true → b ≡ Val
from_body Update Val h = refl
from_body Update Eff h = absurd (cc)
from_body Update Body h = absurd (cc)
from_body _ Val h = refl
from_body _ Eff h = absurd (cc)
from_body _ Body h = absurd (cc)

no_body : (class : Class) → has_kind (kinds_of class) Body ≡ true → own_rule class Val Eff ≡ true → ⊥
no_body Update d h = true≢false (sym d)
no_body _ d h = true≢false (sym h)

own_chain : (class : Class) (a b c : Kind) → has_kind (kinds_of class) a ≡ true → own_rule class a b ≡ true → own_rule class b c ≡ true →
    own_rule class a c ≡ true
own_chain class Eff b c d h g = absurd (no_own class b h)
own_chain class Val b c d h g = absurd (no_own class c (subst (λ z. own_rule class z c ≡ true) (from_val class b h) g))
own_chain class Body b c d h g =
    let g' = subst (λ z. own_rule class z c ≡ true) (from_body class b h) g in
    absurd (no_body class d (subst (λ z. own_rule class Val z ≡ true) (from_val class c g') g'))

across_chain : (class : Class) (choice : Option ℕ) (i j l : ℕ) → i < j → j < l → across class choice i j ≡ true → across class choice j l ≡ true →
    across class choice i l ≡ true
across_chain Comma choice i j l p q g h = lt_lt i l (omega (arith, p, q))
across_chain Choice choice i j l p q g h = absurd (let e = eq_of j 0 (and_l _ _ h) in omega (arith, p, e))
across_chain _ choice i j l p q g h = absurd (cc)

cross_more : (ts : Trees) (class : Class) (choice : Option ℕ) (i j l m b : ℕ) → i < j → j < l → across class choice i j ≡ true →
    crosses class choice j l m ts b ≡ true → crosses class choice i l m ts b ≡ true
cross_more none class choice i j l m b p q g h = h
cross_more (more t ts) class choice i j l m b p q g h =
    if_step (nat_lt b (m + size t)) _ _ _ _ (across_chain class choice i j l p q g)
    (cross_more ts class choice i j (suc l) (m + size t) b p (omega (arith, q)) g) h

cross_step : (b b2 : Bool) (a c e x y z : Bool) → (a ≡ true → e ≡ true → y ≡ true) → (c ≡ true → z ≡ true → y ≡ true)
    → (if b then a else c) ≡ true → (if b then (if b2 then x else e) else (if b2 then false else z)) ≡ true → (if b2 then a else y) ≡ true
cross_step true true a c e x y z f g h k = h
cross_step true false a c e x y z f g h k = f h k
cross_step false true a c e x y z f g h k = absurd (true≢false (sym k))
cross_step false false a c e x y z f g h k = g h k

cross_between : (taken : Taken) (ts : Trees) (class : Class) (choice : Option ℕ) (i j m : ℕ) (v w : Place) → i < j →
    crosses class choice i j m ts v.node ≡ true → between taken class choice j m ts v w ≡ true → crosses class choice i j m ts w.node ≡ true
cross_between taken none class choice i j m v w p h g = h
cross_between taken (more t ts) class choice i j m v w p h g =
    cross_step (nat_lt v.node (m + size t)) (nat_lt w.node (m + size t)) _ _ _ _ _ _
    (λ a e. cross_more ts class choice i j (suc j) (m + size t) w.node p (omega arith) a e)
    (λ c z. cross_between taken ts class choice i (suc j) (m + size t) v w (omega (arith, p)) c z) h g

-- all of an operand that comes before a later one comes before the event of this kind of the node
abbrev Lifted : Class → Option ℕ → Kind → Type 0
Lifted class choice kind = (i j : ℕ) → across class choice i j ≡ true → lifts class choice i false kind ≡ true

number_some : (choice : Option ℕ) (j : ℕ) → is_number choice j ≡ true → is_some choice ≡ true
number_some None j h = absurd (cc)
number_some (Some i) j h = refl

lifted_val : (class : Class) (choice : Option ℕ) → Lifted class choice Val
lifted_val Comma choice i j h = refl
lifted_val Choice choice i j h =
    or_a ((i == 0) && is_some choice) false (and_b (i == 0) (is_some choice) (and_l (i == 0) (is_number choice j) h)
    (number_some choice j (and_r (i == 0) (is_number choice j) h)))
lifted_val _ choice i j h = absurd (cc)

lifted : (class : Class) (choice : Option ℕ) (kind : Kind) → has_kind (kinds_of class) kind ≡ true → Lifted class choice kind
lifted class choice Val d = lifted_val class choice
lifted Comma choice Eff d = absurd (cc)
lifted Comma choice Body d = absurd (cc)
lifted Choice choice Eff d = absurd (cc)
lifted Choice choice Body d = absurd (cc)
lifted _ choice _ d = λ i j h. absurd (cc)

crosses_lift : (ts : Trees) (class : Class) (choice : Option ℕ) (kind : Kind) (i j m b : ℕ) → Lifted class choice kind →
    crosses class choice i j m ts b ≡ true → lifts class choice i false kind ≡ true
crosses_lift none class choice kind i j m b f h = absurd (true≢false (sym h))
crosses_lift (more t ts) class choice kind i j m b f h = step (nat_lt b (m + size t)) (f i j) (crosses_lift ts class choice kind i (suc j) (m + size t) b f) h
  where
    step : (c : Bool) {x y z : Bool} → (x ≡ true → z ≡ true) → (y ≡ true → z ≡ true) → (if c then x else y) ≡ true → z ≡ true
    step true p q h = p h
    step false p q h = q h

cross_lift : (ts : Trees) (class : Class) (choice : Option ℕ) (kind : Kind) (i j m b : ℕ) → Lifted class choice kind →
    crosses class choice i j m ts b ≡ true → lifts class choice i (is_last ts) kind ≡ true
cross_lift none class choice kind i j m b f h = absurd (true≢false (sym h))
cross_lift (more t ts) class choice kind i j m b f h = crosses_lift (more t ts) class choice kind i j m b f h

rise_chain : (bu bv l nb nq x y a c e z : Bool) → (a ≡ true → x ≡ true → y ≡ true) → (c ≡ true → l ≡ true) → (e ≡ true → z ≡ true → z ≡ true) → (w : Bool) →
    (e ≡ true → z ≡ true → w ≡ true)
    → (if bu then (if bv then a else c) else (if bv then false else e)) ≡ true
    → (if bv then l || (nb && (nq && x)) else z) ≡ true
    → (if bu then l || (nb && (nq && y)) else w) ≡ true
rise_chain true true l nb nq x y a c e z f g o w q h k = or_map l _ l _ (λ p. p) (λ p. and_map nb _ _ (λ r. and_map nq _ _ (f h) r) p) k
rise_chain true false l nb nq x y a c e z f g o w q h k = or_a _ _ (g h)
rise_chain false true l nb nq x y a c e z f g o w q h k = absurd (true≢false (sym h))
rise_chain false false l nb nq x y a c e z f g o w q h k = q h k

-- from an event of the node to a later one of it
body_lifts : (class : Class) (choice : Option ℕ) (i : ℕ) (last x : Bool) → (lifts class choice i last Body || (false && x)) ≡ true →
    (lifts class choice i last Val || x) ≡ true
body_lifts class choice i last x h = elim (or_cases (lifts class choice i last Body) _ h) [
  | inl a ↦ or_a _ _ (or_b (upward class choice i last Val) _ a)
  | inr a ↦ absurd (true≢false (sym a))
]

update_lifts : (choice : Option ℕ) (i : ℕ) (last x : Bool) → (lifts Update choice i last Val || x) ≡ true → (lifts Update choice i last Eff || x) ≡ true
update_lifts choice i last x h = h

rises_body : (taken : Taken) (ts : Trees) (class : Class) (choice : Option ℕ) (i m : ℕ) (u : Place) → rises taken class choice i m ts u Body ≡ true →
    rises taken class choice i m ts u Val ≡ true
rises_body taken none class choice i m u h = h
rises_body taken (more t ts) class choice i m u h =
    if_step (nat_lt u.node (m + size t)) _ _ _ _ (body_lifts class choice i (is_last ts) (not (is_quiet t) && to_val taken m t u))
    (rises_body taken ts class choice (suc i) (m + size t) u) h

rises_update : (taken : Taken) (ts : Trees) (choice : Option ℕ) (i m : ℕ) (u : Place) → rises taken Update choice i m ts u Val ≡ true →
    rises taken Update choice i m ts u Eff ≡ true
rises_update taken none choice i m u h = h
rises_update taken (more t ts) choice i m u h =
    if_step (nat_lt u.node (m + size t)) _ _ _ _ (update_lifts choice i (is_last ts) (not (is_quiet t) && to_val taken m t u))
    (rises_update taken ts choice (suc i) (m + size t) u) h

rises_own : (taken : Taken) (ts : Trees) (class : Class) (choice : Option ℕ) (m : ℕ) (u : Place) (b c : Kind) → own_rule class b c ≡ true →
    rises taken class choice 0 m ts u b ≡ true → rises taken class choice 0 m ts u c ≡ true
rises_own taken ts Update choice m u Val Eff g h = rises_update taken ts choice 0 m u h
rises_own taken ts class choice m u Body Val g h = rises_body taken ts class choice 0 m u h
rises_own taken ts _ choice m u _ _ g h = absurd (cc)

val_own : (class : Class) (a b : Kind) → own_rule class a b ≡ true → (is_val b || own_rule class b Val) ≡ true → (is_val a || own_rule class a Val) ≡ true
val_own class Val b h g = refl
val_own class Body b h g = body_val class
  where
    body_val : (class : Class) → own_rule class Body Val ≡ true
    body_val Update = refl
    body_val _ = refl
val_own Update Eff _ h g = absurd (cc)
val_own _ Eff _ h g = absurd (cc)

rises_val : (taken : Taken) (ts : Trees) (class : Class) (choice : Option ℕ) (m : ℕ) (u : Place) (b : Kind) → (is_val b || own_rule class b Val) ≡ true →
    rises taken class choice 0 m ts u b ≡ true → rises taken class choice 0 m ts u Val ≡ true
rises_val taken ts class choice m u Val g h = h
rises_val taken ts class choice m u Body g h = rises_body taken ts class choice 0 m u h
rises_val taken ts Update choice m u Eff g h = absurd (cc)
rises_val taken ts _ choice m u Eff g h = absurd (cc)

module _ (taken : Taken) where
  tree_chain : (bu bv bw : Bool) (class : Class) (ts : Trees) (k : ℕ) (u v w : Place) → (v.node == k) ≡ bv → (w.node == k) ≡ bw
      → (Lifted class (taken k) w.kind → between taken class (taken k) 0 (suc k) ts u v ≡ true → rises taken class (taken k) 0 (suc k) ts v w.kind ≡ true →
      rises taken class (taken k) 0 (suc k) ts u w.kind ≡ true)
      → (due_among taken class (taken k) 0 (suc k) ts u ≡ true → due_among taken class (taken k) 0 (suc k) ts w ≡ true →
      between taken class (taken k) 0 (suc k) ts u v ≡ true → between taken class (taken k) 0 (suc k) ts v w ≡ true →
      between taken class (taken k) 0 (suc k) ts u w ≡ true)
      → (if bu then has_kind (kinds_of class) u.kind else due_among taken class (taken k) 0 (suc k) ts u) ≡ true
      → (if bw then has_kind (kinds_of class) w.kind else due_among taken class (taken k) 0 (suc k) ts w) ≡ true
      → (if bu then (v.node == k) && own_rule class u.kind v.kind else (if bv then rises taken class (taken k) 0 (suc k) ts u v.kind else between taken class
      (taken k) 0 (suc k) ts u v)) ≡ true
      → (if bv then (w.node == k) && own_rule class v.kind w.kind else (if bw then rises taken class (taken k) 0 (suc k) ts v w.kind else between taken class
      (taken k) 0 (suc k) ts v w)) ≡ true
      → (if bu then (w.node == k) && own_rule class u.kind w.kind else (if bw then rises taken class (taken k) 0 (suc k) ts u w.kind else between taken class
      (taken k) 0 (suc k) ts u w)) ≡ true
  tree_chain true true bw class ts k u v w ev ew f g du dw h i =
      and_b _ _ (and_l _ _ i) (own_chain class u.kind v.kind w.kind du (and_r (v.node == k) _ h) (and_r (w.node == k) _ i))
  tree_chain true false bw class ts k u v w ev ew f g du dw h i = absurd (true≢false (sym (and_l _ _ h) ∙ ev))
  tree_chain false true true class ts k u v w ev ew f g du dw h i = rises_own taken ts class (taken k) (suc k) u v.kind w.kind (and_r (w.node == k) _ i) h
  tree_chain false true false class ts k u v w ev ew f g du dw h i = absurd (true≢false (sym (and_l _ _ i) ∙ ew))
  tree_chain false false true class ts k u v w ev ew f g du dw h i = f (lifted class (taken k) w.kind dw) h i
  tree_chain false false false class ts k u v w ev ew f g du dw h i = g du dw h i

  val_chain : (bu bv : Bool) (class : Class) (ts : Trees) (k : ℕ) (u v : Place) → (v.node == k) ≡ bv
      → (Lifted class (taken k) Val → between taken class (taken k) 0 (suc k) ts u v ≡ true → rises taken class (taken k) 0 (suc k) ts v Val ≡ true →
      rises taken class (taken k) 0 (suc k) ts u Val ≡ true)
      → (if bu then (v.node == k) && own_rule class u.kind v.kind else (if bv then rises taken class (taken k) 0 (suc k) ts u v.kind else between taken class
      (taken k) 0 (suc k) ts u v)) ≡ true
      → (if bv then is_val v.kind || own_rule class v.kind Val else rises taken class (taken k) 0 (suc k) ts v Val) ≡ true
      → (if bu then is_val u.kind || own_rule class u.kind Val else rises taken class (taken k) 0 (suc k) ts u Val) ≡ true
  val_chain true true class ts k u v ev f h i = val_own class u.kind v.kind (and_r (v.node == k) _ h) i
  val_chain true false class ts k u v ev f h i = absurd (true≢false (sym (and_l _ _ h) ∙ ev))
  val_chain false true class ts k u v ev f h i = rises_val taken ts class (taken k) (suc k) u v.kind i h
  val_chain false false class ts k u v ev f h i = f (lifted_val class (taken k)) h i

  due_first : (b g d r : Bool) → (if b then g && d else r) ≡ true → b ≡ true → d ≡ true
  due_first true g d r h e = and_r g d h
  due_first false g d r h e = absurd (true≢false (sym e))

  due_rest : (b g r : Bool) → (if b then g else r) ≡ true → b ≡ false → r ≡ true
  due_rest true g r h e = absurd (true≢false e)
  due_rest false g r h e = h

  -- a fact that is needed in one case alone
  between_due : (bu bv bw gu gw du dw ru rw a a' a'' c c' e e' e'' : Bool) → (du ≡ true → dw ≡ true → a ≡ true → a' ≡ true → a'' ≡ true) →
      (c ≡ true → e' ≡ true → c' ≡ true) → (ru ≡ true → rw ≡ true → e ≡ true → e' ≡ true → e'' ≡ true)
      → (if bu then gu && du else ru) ≡ true → (if bw then gw && dw else rw) ≡ true
      → (if bu then (if bv then a else c) else (if bv then false else e)) ≡ true
      → (if bv then (if bw then a' else c') else (if bw then false else e')) ≡ true
      → (if bu then (if bw then a'' else c') else (if bw then false else e'')) ≡ true
  between_due true true true gu gw du dw ru rw a a' a'' c c' e e' e'' f g o p q h k = f (and_r gu _ p) (and_r gw _ q) h k
  between_due true true false gu gw du dw ru rw a a' a'' c c' e e' e'' f g o p q h k = k
  between_due true false true gu gw du dw ru rw a a' a'' c c' e e' e'' f g o p q h k = absurd (true≢false (sym k))
  between_due true false false gu gw du dw ru rw a a' a'' c c' e e' e'' f g o p q h k = g h k
  between_due false true bw gu gw du dw ru rw a a' a'' c c' e e' e'' f g o p q h k = absurd (true≢false (sym h))
  between_due false false true gu gw du dw ru rw a a' a'' c c' e e' e'' f g o p q h k = absurd (true≢false (sym k))
  between_due false false false gu gw du dw ru rw a a' a'' c c' e e' e'' f g o p q h k = o p q h k

  mutual
    before_chain : (t : Tree) (k : ℕ) (u v w : Place) → due_in taken k t u ≡ true → due_in taken k t w ≡ true → is_before taken k t u v ≡ true →
        is_before taken k t v w ≡ true → is_before taken k t u w ≡ true
    before_chain (node class ts) k u v w du dw h i =
        tree_chain (u.node == k) (v.node == k) (w.node == k) class ts k u v w refl refl
        (λ f. rises_chain ts class (taken k) 0 (suc k) u v w.kind f) (between_all ts class (taken k) 0 (suc k) u v w) du dw h i

    to_val_chain : (t : Tree) (k : ℕ) (u v : Place) → is_before taken k t u v ≡ true → to_val taken k t v ≡ true → to_val taken k t u ≡ true
    to_val_chain (node class ts) k u v h i = val_chain (u.node == k) (v.node == k) class ts k u v refl
        (λ f. rises_chain ts class (taken k) 0 (suc k) u v Val f) h i

    rises_chain : (ts : Trees) (class : Class) (choice : Option ℕ) (i m : ℕ) (u v : Place) (kind : Kind) → Lifted class choice kind →
        between taken class choice i m ts u v ≡ true → rises taken class choice i m ts v kind ≡ true → rises taken class choice i m ts u kind ≡ true
    rises_chain none class choice i m u v kind f h g = g
    rises_chain (more t ts) class choice i m u v kind f h g =
        rise_chain (nat_lt u.node (m + size t)) (nat_lt v.node (m + size t)) _ _ _ _ _ _ _ _ _ (to_val_chain t m u v)
        (cross_lift ts class choice kind i (suc i) (m + size t) v.node f) (λ e z. z) _
        (rises_chain ts class choice (suc i) (m + size t) u v kind f) h g

    between_all : (ts : Trees) (class : Class) (choice : Option ℕ) (i m : ℕ) (u v w : Place) → due_among taken class choice i m ts u ≡ true →
        due_among taken class choice i m ts w ≡ true → between taken class choice i m ts u v ≡ true → between taken class choice i m ts v w ≡ true →
        between taken class choice i m ts u w ≡ true
    between_all none class choice i m u v w du dw h g = h
    between_all (more t ts) class choice i m u v w du dw h g =
        between_due (nat_lt u.node (m + size t)) (nat_lt v.node (m + size t)) (nat_lt w.node (m + size t)) _ _ _ _ _ _ _ _ _ _ _ _ _ _
        (before_chain t m u v w) (cross_between taken ts class choice i (suc i) (m + size t) v w (omega arith))
        (between_all ts class choice (suc i) (m + size t) u v w) du dw h g

pub before_due : (root : Tree) (taken : Taken) (u v : Place) → Before root taken u v → (is_due root taken u ≡ true) × (is_due root taken v ≡ true)
before_due root taken _ _ (rule u v du dv h) = (du, dv)
before_due root taken _ _ (chain u v w a b) = ((before_due root taken u v a).0, (before_due root taken v w b).1)

pub before_found : (root : Tree) (taken : Taken) (u v : Place) → Before root taken u v → is_before taken 0 root u v ≡ true
before_found root taken _ _ (rule u v du dv h) = (comes_before taken root 0 u v h).2
before_found root taken _ _ (chain u v w a b) =
    before_chain taken root 0 u v w (sym (has_due taken root 0 u) ∙ (before_due root taken u v a).0)
    (sym (has_due taken root 0 w) ∙ (before_due root taken v w b).1) (before_found root taken u v a) (before_found root taken v w b)

pub found_before : (root : Tree) (taken : Taken) (u v : Place) → is_due root taken u ≡ true → is_due root taken v ≡ true → is_before taken 0 root u v ≡ true →
    Before root taken u v
found_before root taken u v du dv h =
    sound taken (λ a b. Before root taken a b) (λ a b c p q. chain a b c p q) root 0 (λ a b da db p. rule a b da db p) u v (sym (has_due taken root 0 u) ∙ du)
    (sym (has_due taken root 0 v) ∙ dv) h

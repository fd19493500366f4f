-- Sequenced before goes up in post-order, so it has no circle.
use Rattle.std.proofs.Common.{
  ◌≡◌,
  ℕ,
  suc,
  ◌+◌,
  ◌*◌,
  ◌<◌,
  ◌≤◌,
  Bool,
  true,
  false,
  not,
  ◌&&◌,
  ◌||◌,
  ◌==◌,
  nat_lt,
  if◌then◌else◌,
  IsTrue,
  List,
  [],
  ◌∷◌,
  ◌++◌,
  map,
  Option,
  refl,
  sym,
  ap,
  ◌∙◌,
  ◌⊎◌,
  inl,
  inr,
  true≢false,
  arith,
}
use Rattle.std.proofs.lemmas.Bool.Decides.{nat_tests}
use Rattle.ub_base.specs.declared.clause.Kind.{Kind}
use Rattle.ub_base.specs.declared.clause.Kind.TheVariants.{Val, Eff, Body}
use Rattle.c_typed.specs.declared.tree.Place.{Place}
use Rattle.c_typed.specs.declared.class.Class.{Class}
use Rattle.c_typed.specs.declared.class.Class.TheVariants.{Update}
use Rattle.c_typed.specs.Tree.{Tree, node, Trees, none, more, size, sizes, is_quiet, kinds_of}
use Rattle.c_typed.specs.Order.{
  Taken,
  goes,
  place,
  same_place,
  events,
  operand_events,
  has,
  is_val,
  is_body,
  across,
  upward,
  is_last,
  own_rule,
  in_later,
  comes,
  operand_rules,
  Before,
  rule,
  chain,
}

pub eq_of : (a b : ℕ) → (a == b) ≡ true → a ≡ b
eq_of a b h = grind (arith, nat_tests, h)

pub lt_lt : (a b : ℕ) → a < b → nat_lt a b ≡ true
lt_lt a b h = grind (arith, nat_tests, h)

pub ge_lt : (a b : ℕ) → b ≤ a → nat_lt a b ≡ false
ge_lt a b h = grind (arith, nat_tests, h)

pub if_true : {A : Type 0} (b : Bool) (p q : A) → b ≡ true → (if b then p else q) ≡ p
if_true true p q h = refl
if_true false p q h = absurd (cc)

pub if_false : {A : Type 0} (b : Bool) (p q : A) → b ≡ false → (if b then p else q) ≡ q
if_false false p q h = refl
if_false true p q h = absurd (cc)

pub or_cases : (a b : Bool) → (a || b) ≡ true → (a ≡ true) ⊎ (b ≡ true)
or_cases true b h = inl refl
or_cases false b h = inr h

pub and_l : (a b : Bool) → (a && b) ≡ true → a ≡ true
and_l true b h = refl
and_l false b h = h

pub and_r : (a b : Bool) → (a && b) ≡ true → b ≡ true
and_r true b h = h
and_r false b h = absurd (cc)

true_of : (b : Bool) → IsTrue b → b ≡ true
true_of b h = h

abbrev mutual
  -- how many nodes of the whole come before this one in post-order, where b come before the tree
  pub post_in : (k b : ℕ) → Tree → ℕ → ℕ
  post_in k b (node class ts) n = if n == k then b + sizes ts else post_among (suc k) b ts n

  pub post_among : (m b : ℕ) → Trees → ℕ → ℕ
  post_among m b none n = b
  post_among m b (more t ts) n = if nat_lt n (m + size t) then post_in m b t n else post_among (m + size t) (b + size t) ts n

abbrev pub kind_rank : Kind → ℕ
kind_rank Body = 0
kind_rank Val = 1
kind_rank Eff = 2

kind_small : (kind : Kind) → kind_rank kind ≤ 2
kind_small Body = omega arith
kind_small Val = omega arith
kind_small Eff = omega arith

abbrev pub In : ℕ → ℕ → ℕ → Type 0
In m count n = (m ≤ n) × (n < m + count)

root_range : (c : Bool) (k b n : ℕ) (ts : Trees) → (n == k) ≡ c → In k (suc (sizes ts)) n
    → (In (suc k) (sizes ts) n → In b (sizes ts) (post_among (suc k) b ts n))
    → In b (suc (sizes ts)) (if c then b + sizes ts else post_among (suc k) b ts n)
root_range true k b n ts e h f = (omega arith, omega arith)
root_range false k b n ts e h f =
    let ne : n ≡ k → ⊥ = λ q. true≢false (sym (grind (arith, nat_tests, q)) ∙ e) in
    let r = f (grind (arith, ne, h), omega (arith, h.1)) in (r.0, omega (arith, r.1))

among_range : (c : Bool) (m b n : ℕ) (t : Tree) (ts : Trees) → nat_lt n (m + size t) ≡ c → In m (size t + sizes ts) n
    → (In m (size t) n → In b (size t) (post_in m b t n))
    → (In (m + size t) (sizes ts) n → In (b + size t) (sizes ts) (post_among (m + size t) (b + size t) ts n))
    → In b (size t + sizes ts) (if c then post_in m b t n else post_among (m + size t) (b + size t) ts n)
among_range true m b n t ts e h f g =
    let l : n < m + size t = grind (arith, nat_tests, e) in
    let r = f (h.0, l) in (r.0, omega (arith, r.1))
among_range false m b n t ts e h f g =
    let l : m + size t ≤ n = grind (arith, nat_tests, e) in
    let r = g (l, omega (arith, h.1)) in (omega (arith, r.0), omega (arith, r.1))

mutual
  post_range : (t : Tree) (k b n : ℕ) → In k (size t) n → In b (size t) (post_in k b t n)
  post_range (node class ts) k b n h = root_range (n == k) k b n ts refl h (post_among_range ts (suc k) b n)

  post_among_range : (ts : Trees) (m b n : ℕ) → In m (sizes ts) n → In b (sizes ts) (post_among m b ts n)
  post_among_range none m b n h = absurd (omega (arith, h.0, h.1))
  post_among_range (more t ts) m b n h = among_range (nat_lt n (m + size t)) m b n t ts refl h (post_range t m b n)
      (post_among_range ts (m + size t) (b + size t) n)

has_append : (xs ys : List Place) (u : Place) → has (xs ++ ys) u ≡ true → (has xs u ≡ true) ⊎ (has ys u ≡ true)
has_append [] ys u h = inr h
has_append (x ∷ xs) ys u h = elim (or_cases (same_place u x) _ h) [
  | inl a ↦ inl (ap (λ z. z || has xs u) a)
  | inr a ↦ (elim (has_append xs ys u a) [ inl b ↦ inl (or_b (same_place u x) _ b) | inr b ↦ inr b ])
]
  where
    or_b : (a b : Bool) → b ≡ true → (a || b) ≡ true
    or_b true b h = refl
    or_b false b h = h

own_node : (ks : List Kind) (k : ℕ) (u : Place) → has (map (place k) ks) u ≡ true → u.node ≡ k
own_node [] k u h = absurd (cc)
own_node (x ∷ xs) k u h = elim (or_cases (same_place u (place k x)) _ h) [
  | inl a ↦ eq_of u.node k (and_l _ _ a)
  | inr a ↦ own_node xs k u a
]

if_has : (c : Bool) (xs : List Place) (u : Place) → has (if c then xs else []) u ≡ true → has xs u ≡ true
if_has true xs u h = h
if_has false xs u h = absurd (cc)

mutual
  -- the events of a tree are of its nodes
  pub events_in : (taken : Taken) (t : Tree) (k : ℕ) (u : Place) → has (events taken k t) u ≡ true → In k (size t) u.node
  events_in taken (node class ts) k u h = elim (has_append (operand_events taken class (taken k) 0 (suc k) ts) _ u h) [
    | inl a ↦ (let r = operands_in taken class (taken k) ts 0 (suc k) u a in (omega (arith, r.0), omega (arith, r.1)))
    | inr a ↦ (let e = own_node (kinds_of class) k u a in (omega (arith, e), omega (arith, e)))
  ]

  pub operands_in : (taken : Taken) (class : Class) (choice : Option ℕ) (ts : Trees) (i m : ℕ) (u : Place) →
      has (operand_events taken class choice i m ts) u ≡ true → In m (sizes ts) u.node
  operands_in taken class choice none i m u h = absurd (cc)
  operands_in taken class choice (more t ts) i m u h = elim (has_append (if goes class choice i then events taken m t else []) _ u h) [
    | inl a ↦ (let r = events_in taken t m u (if_has (goes class choice i) _ u a) in (r.0, omega (arith, r.1)))
    | inr a ↦ (let r = operands_in taken class choice ts (suc i) (m + size t) u a in (omega (arith, r.0), omega (arith, r.1)))
  ]

pub later_in : (taken : Taken) (class : Class) (choice : Option ℕ) (i : ℕ) (ts : Trees) (j m : ℕ) (v : Place) →
    in_later taken class choice i j m ts v ≡ true → In m (sizes ts) v.node
later_in taken class choice i none j m v h = absurd (cc)
later_in taken class choice i (more t ts) j m v h = elim (or_cases (across class choice i j && has (events taken m t) v) _ h) [
  | inl a ↦ (let r = events_in taken t m v (and_r (across class choice i j) _ a) in (r.0, omega (arith, r.1)))
  | inr a ↦ (let r = later_in taken class choice i ts (suc j) (m + size t) v a in (omega (arith, r.0), omega (arith, r.1)))
]

abbrev pub rank_in : ℕ → ℕ → Tree → Place → ℕ
rank_in k b t u = 3 * post_in k b t u.node + kind_rank u.kind

abbrev rank_among : ℕ → ℕ → Trees → Place → ℕ
rank_among m b ts u = 3 * post_among m b ts u.node + kind_rank u.kind

-- u is an operand's event, and v one of the node k or an operand's event of a greater rank
abbrev Rises : (k m b : ℕ) → Trees → Place → Place → Type 0
Rises k m b ts u v =
    In m (sizes ts) u.node × (((v.node ≡ k) × (post_among m b ts u.node < b + sizes ts)) ⊎
    (In m (sizes ts) v.node × (rank_among m b ts u < rank_among m b ts v)))

own_rank : (class : Class) (u v : Kind) → own_rule class u v ≡ true → kind_rank u < kind_rank v
own_rank Update Val Eff h = omega arith
own_rank class Body Val h = omega arith
own_rank _ _ _ h = absurd (cc)

pub size_pos : (t : Tree) → 1 ≤ size t
size_pos (node class ts) = omega arith

pub eq_eq : (a b : ℕ) → a ≡ b → (a == b) ≡ true
eq_eq a b h = grind (arith, nat_tests, h)

ne_ne : (a b : ℕ) → b < a → (a == b) ≡ false
ne_ne a b h = grind (arith, nat_tests, h)

pub post_first : (m b : ℕ) (t : Tree) (ts : Trees) (n : ℕ) → n < m + size t → post_among m b (more t ts) n ≡ post_in m b t n
post_first m b t ts n h = if_true _ _ _ (lt_lt n (m + size t) h)

pub post_rest : (m b : ℕ) (t : Tree) (ts : Trees) (n : ℕ) → m + size t ≤ n → post_among m b (more t ts) n ≡ post_among (m + size t) (b + size t) ts n
post_rest m b t ts n h = if_false _ _ _ (ge_lt n (m + size t) h)

pub post_root : (k b : ℕ) (class : Class) (ts : Trees) (n : ℕ) → n ≡ k → post_in k b (node class ts) n ≡ b + sizes ts
post_root k b class ts n h = if_true _ _ _ (eq_eq n k h)

pub post_below : (k b : ℕ) (class : Class) (ts : Trees) (n : ℕ) → k < n → post_in k b (node class ts) n ≡ post_among (suc k) b ts n
post_below k b class ts n h = if_false _ _ _ (ne_ne n k h)

-- an event of the first operand before one of its node
up_from : (k m b : ℕ) (t : Tree) (ts : Trees) (u v : Place) → In m (size t) u.node → v.node ≡ k → Rises k m b (more t ts) u v
up_from k m b t ts u v h vk =
    let r = post_range t m b u.node h in
    let e = post_first m b t ts u.node h.1 in
    ((h.0, omega (arith, h.1)), inl (vk, omega (arith, r.1, e)))

-- an event of the first operand before one of a later operand
past_to : (k m b : ℕ) (t : Tree) (ts : Trees) (u v : Place) → In m (size t) u.node → In (m + size t) (sizes ts) v.node → Rises k m b (more t ts) u v
past_to k m b t ts u v h g =
    let r = post_range t m b u.node h in
    let s = post_among_range ts (m + size t) (b + size t) v.node g in
    let e = post_first m b t ts u.node h.1 in
    let f = post_rest m b t ts v.node g.0 in
    let a = kind_small u.kind in
    ((h.0, omega (arith, h.1)), inr ((omega (arith, g.0), omega (arith, g.1)), omega (arith, r.1, s.0, e, f, a)))

-- two events of the first operand
within_first : (k m b : ℕ) (t : Tree) (ts : Trees) (u v : Place) → In m (size t) u.node → In m (size t) v.node → rank_in m b t u < rank_in m b t v →
    Rises k m b (more t ts) u v
within_first k m b t ts u v h g l =
    let e = post_first m b t ts u.node h.1 in
    let f = post_first m b t ts v.node g.1 in
    ((h.0, omega (arith, h.1)), inr ((g.0, omega (arith, g.1)), omega (arith, l, e, f)))

among_rest : (k m b : ℕ) (t : Tree) (ts : Trees) (u v : Place) → Rises k (m + size t) (b + size t) ts u v → Rises k m b (more t ts) u v
among_rest k m b t ts u v (h, inl g) =
    let e = post_rest m b t ts u.node h.0 in
    ((omega (arith, h.0), omega (arith, h.1)), inl (g.0, omega (arith, g.1, e)))
among_rest k m b t ts u v (h, inr g) =
    let e = post_rest m b t ts u.node h.0 in
    let f = post_rest m b t ts v.node g.0.0 in
    ((omega (arith, h.0), omega (arith, h.1)), inr ((omega (arith, g.0.0), omega (arith, g.0.1)), omega (arith, g.1, e, f)))

abbrev Ranked : (k b : ℕ) → Tree → Place → Place → Type 0
Ranked k b t u v = In k (size t) u.node × In k (size t) v.node × (rank_in k b t u < rank_in k b t v)

own_case : (k b : ℕ) (class : Class) (ts : Trees) (u v : Place) → ((u.node == k) && ((v.node == k) && own_rule class u.kind v.kind)) ≡ true →
    Ranked k b (node class ts) u v
own_case k b class ts u v h =
    let eu : u.node ≡ k = eq_of u.node k (and_l _ _ h) in
    let ev : v.node ≡ k = eq_of v.node k (and_l (v.node == k) _ (and_r (u.node == k) _ h)) in
    let l = own_rank class u.kind v.kind (and_r (v.node == k) _ (and_r (u.node == k) _ h)) in
    let pu = post_root k b class ts u.node eu in
    let pv = post_root k b class ts v.node ev in
    ((omega (arith, eu), omega (arith, eu)), (omega (arith, ev), omega (arith, ev)), omega (arith, l, pu, pv))

up_case : (k b : ℕ) (class : Class) (ts : Trees) (u v : Place) → Rises k (suc k) b ts u v → Ranked k b (node class ts) u v
up_case k b class ts u v (h, inl g) =
    let pu = post_below k b class ts u.node (omega (arith, h.0)) in
    let pv = post_root k b class ts v.node g.0 in
    let a = kind_small u.kind in
    ((omega (arith, h.0), omega (arith, h.1)), (omega (arith, g.0), omega (arith, g.0)), omega (arith, g.1, pu, pv, a))
up_case k b class ts u v (h, inr g) =
    let pu = post_below k b class ts u.node (omega (arith, h.0)) in
    let pv = post_below k b class ts v.node (omega (arith, g.0.0)) in
    ((omega (arith, h.0), omega (arith, h.1)), (omega (arith, g.0.0), omega (arith, g.0.1)), omega (arith, g.1, pu, pv))

here_case : (taken : Taken) (class : Class) (choice : Option ℕ) (k i m b : ℕ) (t : Tree) (ts : Trees) (u v : Place)
    → (comes taken m t u v ≡ true → Ranked m b t u v)
    → (((u.node == m) && (is_val u.kind && (not (is_quiet t) && ((v.node == k) && not (is_body v.kind)))))
    || ((has (events taken m t) u && (((v.node == k) && upward class choice i (is_last ts) v.kind) || in_later taken class choice i (suc i) (m + size t) ts v))
    || comes taken m t u v)) ≡ true
    → Rises k m b (more t ts) u v
here_case taken class choice k i m b t ts u v f h =
    elim (or_cases ((u.node == m) && (is_val u.kind && (not (is_quiet t) && ((v.node == k) && not (is_body v.kind))))) _ h) [
      | inl a ↦
          (let eu : u.node ≡ m = eq_of u.node m (and_l _ _ a) in
          let vk : v.node ≡ k = eq_of v.node k (and_l (v.node == k) _ (and_r (not (is_quiet t)) _ (and_r (is_val u.kind) _ (and_r (u.node == m) _ a)))) in
          let z = size_pos t in
          up_from k m b t ts u v (omega (arith, eu), omega (arith, eu, z)) vk)
      | inr a ↦ (elim (or_cases (has (events taken m t) u &&
          (((v.node == k) && upward class choice i (is_last ts) v.kind) || in_later taken class choice i (suc i) (m + size t) ts v)) _ a) [
            | inl c ↦
                (let r = events_in taken t m u (and_l _ _ c) in
                elim (or_cases ((v.node == k) && upward class choice i (is_last ts) v.kind) _ (and_r (has (events taken m t) u) _ c)) [
                  | inl d ↦ up_from k m b t ts u v r (eq_of v.node k (and_l _ _ d))
                  | inr d ↦ past_to k m b t ts u v r (later_in taken class choice i ts (suc i) (m + size t) v d)
                ])
            | inr c ↦ (let r = f c in within_first k m b t ts u v r.0 r.1 r.2)
          ])
    ]

mutual
  comes_rank : (taken : Taken) (t : Tree) (k b : ℕ) (u v : Place) → comes taken k t u v ≡ true → Ranked k b t u v
  comes_rank taken (node class ts) k b u v h = elim (or_cases ((u.node == k) && ((v.node == k) && own_rule class u.kind v.kind)) _ h) [
    | inl a ↦ own_case k b class ts u v a
    | inr a ↦ up_case k b class ts u v (operand_rank taken class (taken k) k ts 0 (suc k) b u v a)
  ]

  operand_rank : (taken : Taken) (class : Class) (choice : Option ℕ) (k : ℕ) (ts : Trees) (i m b : ℕ) (u v : Place) →
      operand_rules taken class choice k i m ts u v ≡ true → Rises k m b ts u v
  operand_rank taken class choice k none i m b u v h = absurd (true≢false (sym h))
  operand_rank taken class choice k (more t ts) i m b u v h = elim (or_cases (goes class choice i && _) _ h) [
    | inl a ↦ here_case taken class choice k i m b t ts u v (comes_rank taken t m b u v) (and_r (goes class choice i) _ a)
    | inr a ↦ among_rest k m b t ts u v (operand_rank taken class choice k ts (suc i) (m + size t) (b + size t) u v a)
  ]

-- sequenced before goes up
pub before_rank : (root : Tree) (taken : Taken) (u v : Place) → Before root taken u v → rank_in 0 0 root u < rank_in 0 0 root v
before_rank root taken _ _ (rule u v a b h) = (comes_rank taken root 0 0 u v (true_of _ h)).2
before_rank root taken _ _ (chain u v w a b) =
    let p = before_rank root taken u v a in
    let q = before_rank root taken v w b in
    omega (arith, p, q)

pub before-irreflexive : (root : Tree) (taken : Taken) (u : Place) → Before root taken u u → ⊥
before-irreflexive root taken u h = let p = before_rank root taken u u h in omega (arith, p)

pub before-asymmetric : (root : Tree) (taken : Taken) (u v : Place) → Before root taken u v → Before root taken v u → ⊥
before-asymmetric root taken u v a b = before-irreflexive root taken u (chain u v u a b)

-- Where the events of a tree and of its operands are numbered.
use Rattle.std.proofs.Common.{
  ◌≡◌,
  ℕ,
  suc,
  ◌+◌,
  ◌<◌,
  ◌≤◌,
  Bool,
  true,
  false,
  not,
  ◌&&◌,
  ◌||◌,
  ◌==◌,
  if◌then◌else◌,
  List,
  [],
  ◌∷◌,
  ◌++◌,
  map,
  Option,
  refl,
  sym,
  ap,
  ◌∙◌,
  ◌⊎◌,
  inl,
  inr,
  true≢false,
  arith,
}
use Rattle.std.proofs.lemmas.Bool.Decides.{nat_tests}
use Rattle.ub_base.specs.declared.clause.Kind.{Kind}
use Rattle.ub_base.specs.declared.clause.Kind.TheVariants.{Val, Eff, Body}
use Rattle.ub_base.specs.Names.{same_kind}
use Rattle.c_typed.specs.declared.tree.Place.{Place}
use Rattle.c_typed.specs.declared.class.Class.{Class}
use Rattle.c_typed.specs.Tree.{Tree, node, Trees, none, more, size, sizes, is_quiet, kinds_of}
use Rattle.c_typed.specs.Order.{
  Taken,
  goes,
  place,
  same_place,
  own_events,
  events,
  operand_events,
  has,
  is_val,
  is_body,
  across,
  upward,
  is_last,
  own_rule,
  in_later,
  comes,
  operand_rules,
}
use Rattle.elaborate.proofs.Listed.{and_l, and_r}

pub or_cases : (a b : Bool) → (a || b) ≡ true → (a ≡ true) ⊎ (b ≡ true)
or_cases true b h = inl refl
or_cases false b h = inr h

pub or_a : (a b : Bool) → a ≡ true → (a || b) ≡ true
or_a true b h = refl
or_a false b h = absurd (true≢false (sym h))

pub or_b : (a b : Bool) → b ≡ true → (a || b) ≡ true
or_b true b h = refl
or_b false b h = h

pub and_b : (a b : Bool) → a ≡ true → b ≡ true → (a && b) ≡ true
and_b true b h g = g
and_b false b h g = h

pub eq_of : (a b : ℕ) → (a == b) ≡ true → a ≡ b
eq_of a b h = grind (arith, nat_tests, h)

pub eq_eq : (a : ℕ) → (a == a) ≡ true
eq_eq a = grind (arith, nat_tests)

or_assoc : (a b c : Bool) → (a || (b || c)) ≡ ((a || b) || c)
or_assoc true b c = refl
or_assoc false b c = refl

pub has_or : (xs ys : List Place) (u : Place) → has (xs ++ ys) u ≡ (has xs u || has ys u)
has_or [] ys u = refl
has_or (x ∷ xs) ys u = ap (λ z. same_place u x || z) (has_or xs ys u) ∙ or_assoc (same_place u x) (has xs u) (has ys u)

pub has_left : (xs ys : List Place) (u : Place) → has xs u ≡ true → has (xs ++ ys) u ≡ true
has_left xs ys u h = has_or xs ys u ∙ or_a _ _ h

pub has_right : (xs ys : List Place) (u : Place) → has ys u ≡ true → has (xs ++ ys) u ≡ true
has_right xs ys u h = has_or xs ys u ∙ or_b (has xs u) _ h

pub has_cases : (xs ys : List Place) (u : Place) → has (xs ++ ys) u ≡ true → (has xs u ≡ true) ⊎ (has ys u ≡ true)
has_cases xs ys u h = or_cases (has xs u) (has ys u) (sym (has_or xs ys u) ∙ h)

kind_itself : (a : Kind) → same_kind a a ≡ true
kind_itself Val = refl
kind_itself Eff = refl
kind_itself Body = refl

pub same_itself : (u : Place) → same_place u u ≡ true
same_itself u = and_b _ _ (eq_eq u.node) (kind_itself u.kind)

pub has_itself : (u : Place) (us : List Place) → has (u ∷ us) u ≡ true
has_itself u us = or_a _ _ (same_itself u)

pub same_kind_eq : (a b : Kind) → same_kind a b ≡ true → a ≡ b
same_kind_eq Val Val h = refl
same_kind_eq Eff Eff h = refl
same_kind_eq Body Body h = refl
same_kind_eq _ _ h = absurd (true≢false (sym h))

-- the node n is one of so many from k on
abbrev pub In : ℕ → ℕ → ℕ → Type 0
In k count n = (k ≤ n) × (n < k + count)

pub own_node : (ks : List Kind) (k : ℕ) (u : Place) → has (map (place k) ks) u ≡ true → u.node ≡ k
own_node [] k u h = absurd (true≢false (sym h))
own_node (x ∷ xs) k u h = elim (or_cases (same_place u (place k x)) _ h) [
  | inl a ↦ eq_of u.node k (and_l _ _ a)
  | inr a ↦ own_node xs k u a
]

pub if_has : (c : Bool) (xs : List Place) (u : Place) → has (if c then xs else []) u ≡ true → has xs u ≡ true
if_has true xs u h = h
if_has false xs u h = absurd (true≢false (sym h))

mutual
  pub events_in : (taken : Taken) (t : Tree) (k : ℕ) (u : Place) → has (events taken k t) u ≡ true → In k (size t) u.node
  events_in taken (node class ts) k u h = elim (has_cases (operand_events taken class (taken k) 0 (suc k) ts) (own_events k class) u h) [
    | inl a ↦ (let r = operands_in taken class (taken k) ts 0 (suc k) u a in (omega (arith, r.0), omega (arith, r.1)))
    | inr a ↦ (let e = own_node (kinds_of class) k u a in (omega (arith, e), omega (arith, e)))
  ]

  pub operands_in : (taken : Taken) (class : Class) (choice : Option ℕ) (ts : Trees) (i m : ℕ) (u : Place) →
      has (operand_events taken class choice i m ts) u ≡ true → In m (sizes ts) u.node
  operands_in taken class choice none i m u h = absurd (true≢false (sym h))
  operands_in taken class choice (more t ts) i m u h = elim (has_cases (if goes class choice i then events taken m t else []) _ u h) [
    | inl a ↦ (let r = events_in taken t m u (if_has (goes class choice i) _ u a) in (r.0, omega (arith, r.1)))
    | inr a ↦ (let r = operands_in taken class choice ts (suc i) (m + size t) u a in (omega (arith, r.0), omega (arith, r.1)))
  ]

pub later_in : (taken : Taken) (class : Class) (choice : Option ℕ) (i : ℕ) (ts : Trees) (j m : ℕ) (v : Place) →
    in_later taken class choice i j m ts v ≡ true → In m (sizes ts) v.node
later_in taken class choice i none j m v h = absurd (true≢false (sym h))
later_in taken class choice i (more t ts) j m v h = elim (or_cases (across class choice i j && has (events taken m t) v) _ h) [
  | inl a ↦ (let r = events_in taken t m v (and_r (across class choice i j) _ a) in (r.0, omega (arith, r.1)))
  | inr a ↦ (let r = later_in taken class choice i ts (suc j) (m + size t) v a in (omega (arith, r.0), omega (arith, r.1)))
]

pub size_pos : (t : Tree) → 1 ≤ size t
size_pos (node class ts) = omega arith

-- the rules of one operand: of its value, of all of it, and those within it
abbrev pub FirstRules : Taken → Class → Option ℕ → ℕ → ℕ → ℕ → Tree → Trees → Place → Place → Type 0
FirstRules taken class choice k i m t ts u v =
    ((u.node ≡ m) × (is_val u.kind ≡ true) × (v.node ≡ k) × (not (is_body v.kind) ≡ true))
    ⊎ (((has (events taken m t) u ≡ true) × (v.node ≡ k) × (upward class choice i (is_last ts) v.kind ≡ true))
    ⊎ (((has (events taken m t) u ≡ true) × (in_later taken class choice i (suc i) (m + size t) ts v ≡ true)) ⊎ (comes taken m t u v ≡ true)))

pub rules_cases : (taken : Taken) (class : Class) (choice : Option ℕ) (k i m : ℕ) (t : Tree) (ts : Trees) (u v : Place) →
    operand_rules taken class choice k i m (more t ts) u v ≡ true
    → ((goes class choice i ≡ true) × FirstRules taken class choice k i m t ts u v) ⊎ (operand_rules taken class choice k (suc i) (m + size t) ts u v ≡ true)
rules_cases taken class choice k i m t ts u v h = elim (or_cases (goes class choice i && _) _ h) [
  | inr a ↦ inr a
  | inl a ↦ inl (and_l (goes class choice i) _ a, here (and_r (goes class choice i) _ a))
]
  where
    here : (((u.node == m) && (is_val u.kind && (not (is_quiet t) && ((v.node == k) && not (is_body v.kind)))))
        || ((has (events taken m t) u && (((v.node == k) && upward class choice i (is_last ts) v.kind) ||
        in_later taken class choice i (suc i) (m + size t) ts v))
        || comes taken m t u v)) ≡ true → FirstRules taken class choice k i m t ts u v
    here h = elim (or_cases ((u.node == m) && (is_val u.kind && (not (is_quiet t) && ((v.node == k) && not (is_body v.kind))))) _ h) [
      | inl a ↦
          (let b = and_r (u.node == m) _ a in
          let d = and_r (not (is_quiet t)) _ (and_r (is_val u.kind) _ b) in
          inl (eq_of u.node m (and_l _ _ a), and_l _ _ b, eq_of v.node k (and_l _ _ d), and_r (v.node == k) _ d))
      | inr a ↦ (elim (or_cases (has (events taken m t) u &&
          (((v.node == k) && upward class choice i (is_last ts) v.kind) || in_later taken class choice i (suc i) (m + size t) ts v)) _ a) [
            | inr c ↦ inr (inr (inr c))
            | inl c ↦ (elim (or_cases ((v.node == k) && upward class choice i (is_last ts) v.kind) _ (and_r (has (events taken m t) u) _ c)) [
              | inl d ↦ inr (inl (and_l _ _ c, eq_of v.node k (and_l _ _ d), and_r (v.node == k) _ d))
              | inr d ↦ inr (inr (inl (and_l _ _ c, d)))
            ])
          ])
    ]

-- u is an operand's event, and v one of the node k or an operand's
abbrev pub Below : ℕ → ℕ → ℕ → Place → Place → Type 0
Below k m count u v = In m count u.node × ((v.node ≡ k) ⊎ In m count v.node)

below_rest : (k m a b : ℕ) (u v : Place) → Below k (m + a) b u v → Below k m (a + b) u v
below_rest k m a b u v (h, inl e) = ((omega (arith, h.0), omega (arith, h.1)), inl e)
below_rest k m a b u v (h, inr g) = ((omega (arith, h.0), omega (arith, h.1)), inr (omega (arith, g.0), omega (arith, g.1)))

below_first : (k m a b : ℕ) (u v : Place) → Below k m a u v → Below k m (a + b) u v
below_first k m a b u v (h, inl e) = ((h.0, omega (arith, h.1)), inl e)
below_first k m a b u v (h, inr g) = ((h.0, omega (arith, h.1)), inr (g.0, omega (arith, g.1)))

at_root : (k b : ℕ) (u v : Place) → Below k (suc k) b u v → In k (suc b) u.node × In k (suc b) v.node
at_root k b u v (h, inl e) = ((omega (arith, h.0), omega (arith, h.1)), (omega (arith, e), omega (arith, e)))
at_root k b u v (h, inr g) = ((omega (arith, h.0), omega (arith, h.1)), (omega (arith, g.0), omega (arith, g.1)))

mutual
  pub comes_in : (taken : Taken) (t : Tree) (k : ℕ) (u v : Place) → comes taken k t u v ≡ true → In k (size t) u.node × In k (size t) v.node
  comes_in taken (node class ts) k u v h = elim (or_cases ((u.node == k) && ((v.node == k) && own_rule class u.kind v.kind)) _ h) [
    | inl a ↦
        (let eu = eq_of u.node k (and_l _ _ a) in
        let ev = eq_of v.node k (and_l (v.node == k) _ (and_r (u.node == k) _ a)) in
        ((omega (arith, eu), omega (arith, eu)), (omega (arith, ev), omega (arith, ev))))
    | inr a ↦ at_root k (sizes ts) u v (rules_in taken ts class (taken k) k 0 (suc k) u v a)
  ]

  pub rules_in : (taken : Taken) (ts : Trees) (class : Class) (choice : Option ℕ) (k i m : ℕ) (u v : Place) →
      operand_rules taken class choice k i m ts u v ≡ true → Below k m (sizes ts) u v
  rules_in taken none class choice k i m u v h = absurd (true≢false (sym h))
  rules_in taken (more t ts) class choice k i m u v h = elim (rules_cases taken class choice k i m t ts u v h) [
    | inr a ↦ below_rest k m (size t) (sizes ts) u v (rules_in taken ts class choice k (suc i) (m + size t) u v a)
    | inl a ↦ (elim a.1 [
      | inl b ↦ (let z = size_pos t in ((omega (arith, b.0), omega (arith, b.0, z)), inl b.2))
      | inr b ↦ (elim b [
        | inl c ↦ below_first k m (size t) (sizes ts) u v (events_in taken t m u c.0, inl c.1)
        | inr c ↦ (elim c [
          | inl d ↦
              (let r = events_in taken t m u d.0 in
              let s = later_in taken class choice i ts (suc i) (m + size t) v d.1 in
              ((r.0, omega (arith, r.1)), inr (omega (arith, s.0), omega (arith, s.1))))
          | inr d ↦ (let r = comes_in taken t m u v d in below_first k m (size t) (sizes ts) u v (r.0, inr r.1))
        ])
      ])
    ])
  ]

-- which part of a list of events an event stands in, by its node

pub first_of : (taken : Taken) (class : Class) (choice : Option ℕ) (i m : ℕ) (t : Tree) (ts : Trees) (u : Place) →
    has (operand_events taken class choice i m (more t ts)) u ≡ true → u.node < m + size t → has (events taken m t) u ≡ true
first_of taken class choice i m t ts u h l = elim (has_cases (if goes class choice i then events taken m t else []) _ u h) [
  | inl a ↦ if_has (goes class choice i) _ u a
  | inr a ↦ (let r = operands_in taken class choice ts (suc i) (m + size t) u a in absurd (omega (arith, l, r.0)))
]

pub rest_of : (taken : Taken) (class : Class) (choice : Option ℕ) (i m : ℕ) (t : Tree) (ts : Trees) (u : Place) →
    has (operand_events taken class choice i m (more t ts)) u ≡ true → m + size t ≤ u.node →
    has (operand_events taken class choice (suc i) (m + size t) ts) u ≡ true
rest_of taken class choice i m t ts u h l = elim (has_cases (if goes class choice i then events taken m t else []) _ u h) [
  | inl a ↦ (let r = events_in taken t m u (if_has (goes class choice i) _ u a) in absurd (omega (arith, l, r.1)))
  | inr a ↦ a
]

pub own_of : (taken : Taken) (class : Class) (choice : Option ℕ) (k i m : ℕ) (ts : Trees) (own : List Place) (u : Place) → k < m →
    has (operand_events taken class choice i m ts ++ own) u ≡ true → u.node ≡ k → has own u ≡ true
own_of taken class choice k i m ts own u l h e = elim (has_cases (operand_events taken class choice i m ts) own u h) [
  | inl a ↦ (let r = operands_in taken class choice ts i m u a in absurd (omega (arith, l, e, r.0)))
  | inr a ↦ a
]

pub operands_of : (taken : Taken) (class : Class) (k : ℕ) (ts : Trees) (u : Place) → has (events taken k (node class ts)) u ≡ true → k < u.node →
    has (operand_events taken class (taken k) 0 (suc k) ts) u ≡ true
operands_of taken class k ts u h l = elim (has_cases (operand_events taken class (taken k) 0 (suc k) ts) (own_events k class) u h) [
  | inl a ↦ a
  | inr a ↦ (let e = own_node (kinds_of class) k u a in absurd (omega (arith, e, l)))
]

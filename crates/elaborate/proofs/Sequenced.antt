-- What one rule of sequenced before orders, one construct of the tree's term orders too.
use Rattle.std.proofs.Common.{
  ◌≡◌,
  ℕ,
  suc,
  ◌+◌,
  ◌<◌,
  Bool,
  true,
  false,
  not,
  ◌&&◌,
  ◌||◌,
  ◌==◌,
  if◌then◌else◌,
  List,
  [],
  ◌∷◌,
  ◌++◌,
  map,
  Option,
  Some,
  None,
  is_some,
  refl,
  sym,
  ap,
  subst,
  ◌∙◌,
  ◌⊎◌,
  inl,
  inr,
  true≢false,
  arith,
}
use Rattle.ub_base.specs.declared.clause.Kind.{Kind}
use Rattle.ub_base.specs.declared.clause.Kind.TheVariants.{Val, Eff, Body}
use Rattle.c_typed.specs.declared.tree.Place.{Place}
use Rattle.c_typed.specs.declared.class.Class.{Class}
use Rattle.c_typed.specs.declared.class.Class.TheVariants.{Object, Constant, Plain, Store, Update, Choice, Comma, Call, Isolated}
use Rattle.c_typed.specs.Tree.{Tree, node, Trees, none, more, size, sizes, kinds_of}
use Rattle.c_typed.specs.Order.{
  Taken,
  goes,
  is_choice,
  place,
  same_place,
  own_events,
  events,
  operand_events,
  has,
  is_val,
  is_body,
  is_number,
  across,
  upward,
  is_last,
  own_rule,
  in_later,
  comes,
  operand_rules,
}
use Rattle.core_ir.specs.Term.{Term, terms_from, listing, listings, is_effect, orders, orders_among}
use Rattle.elaborate.specs.Terms.{term_for, terms_for, node_term, comma_of, head_of, rest_of}
use Rattle.elaborate.specs.Formed.{is_formed, are_formed, takes, after}
use Rattle.elaborate.proofs.Listed.{and_l, and_r, listed, listed_all, listed_comma, listed_choice, listed_next, silent_all}
use Rattle.elaborate.proofs.Ranges.{
  or_cases,
  or_a,
  or_b,
  and_b,
  eq_of,
  has_left,
  has_right,
  has_cases,
  has_itself,
  same_kind_eq,
  own_node,
  In,
  size_pos,
  rules_cases,
  comes_in,
  rules_in,
  first_of,
  rest_of as later_of,
  own_of,
  operands_of,
}

val_acts : (kind : Kind) → is_val kind ≡ true → not (is_effect kind) ≡ true
val_acts Val h = refl
val_acts Eff h = absurd (true≢false (sym h))
val_acts Body h = refl

place_eq : (u : Place) (k : ℕ) → u.node ≡ k → u ≡ place k u.kind
place_eq u k e = λ i. record { node = e i; kind = u.kind }

-- two events of one node

one_kind : (k : ℕ) → has (place k Val ∷ []) (place k Body) ≡ true → ⊥
one_kind k h = elim (or_cases ((k == k) && false) false h) [
  | inl a ↦ true≢false (sym (and_r (k == k) false a))
  | inr a ↦ true≢false (sym a)
]

two_kinds : (k : ℕ) → has (place k Val ∷ place k Eff ∷ []) (place k Body) ≡ true → ⊥
two_kinds k h = elim (or_cases ((k == k) && false) _ h) [
  | inl a ↦ true≢false (sym (and_r (k == k) false a))
  | inr a ↦ (elim (or_cases ((k == k) && false) false a) [
    | inl b ↦ true≢false (sym (and_r (k == k) false b))
    | inr b ↦ true≢false (sym b)
  ])
]

own_orders : (taken : Taken) (class : Class) (ps : List Term) (k : ℕ) (a b : Kind) → own_rule class a b ≡ true → has (own_events k class) (place k a) ≡ true →
    orders taken (node_term k class ps) (place k a) (place k b) ≡ true
own_orders taken Update ps k Val Eff h d =
    or_b (has (listings taken (terms_from ps)) (place k Val) && has (place k Val ∷ place k Eff ∷ []) (place k Eff)) _
    (or_b (orders_among taken (terms_from ps) (place k Val) (place k Eff)) _
    (or_a _ _ (and_b _ _ (has_itself (place k Val) []) (has_itself (place k Eff) []))))
own_orders taken Call ps k Body Val h d =
    or_a _ _ (and_b _ _ (has_right (listings taken (terms_from ps)) (place k Body ∷ []) (place k Body) (has_itself (place k Body) []))
    (has_itself (place k Val) []))
own_orders taken Isolated ps k Body Val h d = or_a _ _ (and_b _ _ (has_itself (place k Body) []) (has_itself (place k Val) []))
own_orders taken Object ps k Body Val h d = absurd (true≢false (sym d))
own_orders taken Constant ps k Body Val h d = absurd (true≢false (sym d))
own_orders taken Plain ps k Body Val h d = absurd (one_kind k d)
own_orders taken Choice ps k Body Val h d = absurd (one_kind k d)
own_orders taken Comma ps k Body Val h d = absurd (one_kind k d)
own_orders taken Store ps k Body Val h d = absurd (two_kinds k d)
own_orders taken Update ps k Body Val h d = absurd (two_kinds k d)
own_orders taken _ ps k _ _ h d = absurd (true≢false (sym h))

-- nodes whose operands are in no order

abbrev is_plain : Class → Bool
is_plain Plain = true
is_plain Store = true
is_plain Update = true
is_plain Call = true
is_plain _ = false

plain_across : (class : Class) (choice : Option ℕ) (i j : ℕ) → is_plain class ≡ true → across class choice i j ≡ true → ⊥
plain_across Comma choice i j p h = true≢false (sym p)
plain_across Choice choice i j p h = true≢false (sym p)
plain_across _ choice i j p h = true≢false (sym h)

plain_later : (taken : Taken) (ts : Trees) (class : Class) (choice : Option ℕ) (i j m : ℕ) (v : Place) → is_plain class ≡ true →
    in_later taken class choice i j m ts v ≡ true → ⊥
plain_later taken none class choice i j m v p h = true≢false (sym h)
plain_later taken (more t ts) class choice i j m v p h = elim (or_cases (across class choice i j && has (events taken m t) v) _ h) [
  | inl a ↦ plain_across class choice i j p (and_l _ _ a)
  | inr a ↦ plain_later taken ts class choice i (suc j) (m + size t) v p a
]

-- all of an operand comes before an event of such a node
abbrev lifts_all : Class → Kind → Bool
lifts_all Call Body = true
lifts_all _ _ = false

plain_up : (class : Class) (choice : Option ℕ) (i : ℕ) (last : Bool) (kind : Kind) → is_plain class ≡ true → upward class choice i last kind ≡ true →
    lifts_all class kind ≡ true
plain_up Comma choice i last kind p h = absurd (true≢false (sym p))
plain_up Choice choice i last kind p h = absurd (true≢false (sym p))
plain_up Call choice i last Body p h = refl
plain_up _ choice i last _ p h = absurd (true≢false (sym h))

-- before an event of the node: from a value, or from all of an operand
abbrev ToNode : Class → ℕ → Place → Place → Type 0
ToNode class k u v = (v.node ≡ k) × (((is_val u.kind ≡ true) × (not (is_body v.kind) ≡ true)) ⊎ (lifts_all class v.kind ≡ true))

comma_last : (choice : Option ℕ) (i : ℕ) (kind : Kind) → upward Comma choice i true kind ≡ true → ⊥
comma_last choice i Val h = true≢false (sym h)
comma_last choice i Eff h = true≢false (sym h)
comma_last choice i Body h = true≢false (sym h)

comma_later : (taken : Taken) (ts : Trees) (choice : Option ℕ) (i j m : ℕ) (v : Place) → in_later taken Comma choice i j m ts v ≡ true →
    has (operand_events taken Comma choice j m ts) v ≡ true
comma_later taken none choice i j m v h = absurd (true≢false (sym h))
comma_later taken (more t ts) choice i j m v h = elim (or_cases (across Comma choice i j && has (events taken m t) v) _ h) [
  | inl a ↦ has_left (events taken m t) (operand_events taken Comma choice (suc j) (m + size t) ts) v (and_r (across Comma choice i j) _ a)
  | inr a ↦ has_right (events taken m t) (operand_events taken Comma choice (suc j) (m + size t) ts) v (comma_later taken ts choice i (suc j) (m + size t) v a)
]

-- of a choice only the first operand comes before others or the node as a whole

choice_up : (choice : Option ℕ) (i : ℕ) (last : Bool) (kind : Kind) → upward Choice choice (suc i) last kind ≡ true → ⊥
choice_up choice i last Val h = let e = eq_of (suc i) 0 (and_l _ _ h) in omega (arith, e)
choice_up choice i last Eff h = true≢false (sym h)
choice_up choice i last Body h = true≢false (sym h)

choice_later : (taken : Taken) (ts : Trees) (choice : Option ℕ) (i j m : ℕ) (v : Place) → in_later taken Choice choice (suc i) j m ts v ≡ true → ⊥
choice_later taken none choice i j m v h = true≢false (sym h)
choice_later taken (more t ts) choice i j m v h = elim (or_cases (across Choice choice (suc i) j && has (events taken m t) v) _ h) [
  | inl a ↦ (let e = eq_of (suc i) 0 (and_l _ _ (and_l _ _ a)) in omega (arith, e))
  | inr a ↦ choice_later taken ts choice i (suc j) (m + size t) v a
]

number_some : (choice : Option ℕ) (j : ℕ) → is_number choice j ≡ true → is_some choice ≡ true
number_some None j h = absurd (true≢false (sym h))
number_some (Some i) j h = refl

if_from : (b : Bool) (xs : List Place) (v : Place) → b ≡ true → has xs v ≡ true → has (if b then xs else []) v ≡ true
if_from true xs v h g = g
if_from false xs v h g = absurd (true≢false (sym h))

first_later : (taken : Taken) (ts : Trees) (choice : Option ℕ) (j m : ℕ) (v : Place) → in_later taken Choice choice 0 j m ts v ≡ true →
    (is_some choice ≡ true) × (has (operand_events taken Choice choice j m ts) v ≡ true)
first_later taken none choice j m v h = absurd (true≢false (sym h))
first_later taken (more t ts) choice j m v h = elim (or_cases (across Choice choice 0 j && has (events taken m t) v) _ h) [
  | inl a ↦
      (let n = and_l (is_number choice j) _ a in (
        number_some choice j n,
        has_left (if goes Choice choice j then events taken m t else []) (operand_events taken Choice choice (suc j) (m + size t) ts) v
            (if_from (goes Choice choice j) (events taken m t) v (or_b (j == 0) _ n) (and_r (is_number choice j) _ a)),
      ))
  | inr a ↦
      (let r = first_later taken ts choice (suc j) (m + size t) v a in
      (r.0, has_right (if goes Choice choice j then events taken m t else []) (operand_events taken Choice choice (suc j) (m + size t) ts) v r.1))
]

first_up : (choice : Option ℕ) (last : Bool) (kind : Kind) → upward Choice choice 0 last kind ≡ true → (is_some choice ≡ true) × (kind ≡ Val)
first_up choice last Val h = (h, refl)
first_up choice last Eff h = absurd (true≢false (sym h))
first_up choice last Body h = absurd (true≢false (sym h))

quiet_none : (xs : List Place) (u : Place) → xs ≡ [] → has xs u ≡ true → ⊥
quiet_none xs u e h = true≢false (sym (ap (λ z. has z u) (sym e) ∙ h))

front_of : (xs : List Place) (ks : List Kind) (k : ℕ) (v : Place) → has (xs ++ map (place k) ks) v ≡ true → k < v.node → has xs v ≡ true
front_of xs ks k v h l = elim (has_cases xs (map (place k) ks) v h) [ inl a ↦ a | inr a ↦ (let e = own_node ks k v a in absurd (omega (arith, e, l))) ]

call_value : (k : ℕ) (v : Place) → has (place k Body ∷ place k Val ∷ []) v ≡ true → not (is_body v.kind) ≡ true → has (place k Val ∷ []) v ≡ true
call_value k v h b = elim (or_cases (same_place v (place k Body)) _ h) [
  | inl a ↦ absurd (true≢false (sym (ap (λ z. not (is_body z)) (sym (same_kind_eq v.kind Body (and_r (v.node == k) _ a))) ∙ b)))
  | inr a ↦ a
]

call_body : (k : ℕ) (v : Place) → v.node ≡ k → lifts_all Call v.kind ≡ true → has (place k Body ∷ []) v ≡ true
call_body k v e h = subst (λ z. has (place k Body ∷ []) z ≡ true) (sym (place_eq v k e ∙ ap (place k) (body v.kind h))) (has_itself (place k Body) [])
  where
    body : (kind : Kind) → lifts_all Call kind ≡ true → kind ≡ Body
    body Val h = absurd (true≢false (sym h))
    body Eff h = absurd (true≢false (sym h))
    body Body h = refl

own_step : (taken : Taken) (class : Class) (ps : List Term) (k : ℕ) (u v : Place) → u.node ≡ k → v.node ≡ k → own_rule class u.kind v.kind ≡ true →
    has (own_events k class) u ≡ true → orders taken (node_term k class ps) u v ≡ true
own_step taken class ps k u v eu ev r d =
    subst (λ z. orders taken (node_term k class ps) z v ≡ true) (sym (place_eq u k eu))
    (subst (λ z. orders taken (node_term k class ps) (place k u.kind) z ≡ true) (sym (place_eq v k ev))
    (own_orders taken class ps k u.kind v.kind r (subst (λ z. has (own_events k class) z ≡ true) (place_eq u k eu) d)))

-- an event of an operand and one of the node or of an operand
abbrev AtOr : ℕ → List Place → Place → Type 0
AtOr k us v = (v.node ≡ k) ⊎ (has us v ≡ true)

plain_has : (taken : Taken) (class : Class) (ts : Trees) (k : ℕ) (u : Place) → is_plain class ≡ true → are_formed ts ≡ true →
    has (operand_events taken class (taken k) 0 (suc k) ts) u ≡ true → has (listings taken (terms_from (terms_for (suc k) ts))) u ≡ true
plain_has taken class ts k u p f h = ap (λ z. has z u) (listed_all taken ts class (taken k) 0 (suc k) (no_choice class p) f) ∙ h
  where
    no_choice : (class : Class) → is_plain class ≡ true → is_choice class ≡ false
    no_choice Choice p = absurd (true≢false (sym p))
    no_choice _ p = refl

later_at : (taken : Taken) (class : Class) (choice : Option ℕ) (k i m : ℕ) (t : Tree) (ts : Trees) (v : Place) →
    AtOr k (operand_events taken class choice i m (more t ts)) v
    → (v.node ≡ k) ⊎ In (m + size t) (sizes ts) v.node → AtOr k (operand_events taken class choice (suc i) (m + size t) ts) v
later_at taken class choice k i m t ts v (inl e) r = inl e
later_at taken class choice k i m t ts v (inr g) (inl e) = inl e
later_at taken class choice k i m t ts v (inr g) (inr x) = inr (later_of taken class choice i m t ts v g x.0)

comma_at : (taken : Taken) (choice : Option ℕ) (k i m : ℕ) (ts : Trees) (v : Place) →
    has (operand_events taken Comma choice i m ts ++ place k Val ∷ []) v ≡ true → AtOr k (operand_events taken Comma choice i m ts) v
comma_at taken choice k i m ts v h = elim (has_cases (operand_events taken Comma choice i m ts) (place k Val ∷ []) v h)
    [ inl a ↦ inr a | inr a ↦ inl (own_node (Val ∷ []) k v a) ]

comma_value : (taken : Taken) (ts : Trees) (choice : Option ℕ) (k i q : ℕ) (v : Place) → are_formed ts ≡ true → has (place k Val ∷ []) v ≡ true →
    has (listing taken (comma_of k (terms_for q ts))) v ≡ true
comma_value taken ts choice k i q v f h = ap (λ x. has x v) (listed_comma taken ts choice k (suc i) q f) ∙ has_right
    (operand_events taken Comma choice (suc i) q ts) (place k Val ∷ []) v h

comma_rest : (taken : Taken) (choice : Option ℕ) (k i m : ℕ) (t : Tree) (ts : Trees) (v : Place) → k < m →
    AtOr k (operand_events taken Comma choice i m (more t ts)) v → has (operand_events taken Comma choice i m (more t ts) ++ place k Val ∷ []) v ≡ true
    → (v.node ≡ k) ⊎ In (m + size t) (sizes ts) v.node → has (operand_events taken Comma choice (suc i) (m + size t) ts ++ place k Val ∷ []) v ≡ true
comma_rest taken choice k i m t ts v l a dv r = elim (later_at taken Comma choice k i m t ts v a r) [
  | inl e ↦ has_right (operand_events taken Comma choice (suc i) (m + size t) ts) (place k Val ∷ []) v
      (own_of taken Comma choice k i m (more t ts) (place k Val ∷ []) v l dv e)
  | inr g ↦ has_left (operand_events taken Comma choice (suc i) (m + size t) ts) (place k Val ∷ []) v g
]

choice_at : (taken : Taken) (k : ℕ) (ts : Trees) (v : Place) → has (operand_events taken Choice (taken k) 0 (suc k) ts ++ place k Val ∷ []) v ≡ true →
    AtOr k (operand_events taken Choice (taken k) 0 (suc k) ts) v
choice_at taken k ts v h = elim (has_cases (operand_events taken Choice (taken k) 0 (suc k) ts) (place k Val ∷ []) v h)
    [ inl a ↦ inr a | inr a ↦ inl (own_node (Val ∷ []) k v a) ]

-- two events of the first operand
within : (taken : Taken) (class : Class) (choice : Option ℕ) (k i m : ℕ) (t : Tree) (ts : Trees) (u v : Place) → k < m →
    has (operand_events taken class choice i m (more t ts)) u ≡ true
    → AtOr k (operand_events taken class choice i m (more t ts)) v → comes taken m t u v ≡ true
    → (has (events taken m t) u ≡ true → has (events taken m t) v ≡ true → comes taken m t u v ≡ true → orders taken (term_for m t) u v ≡ true)
    → orders taken (term_for m t) u v ≡ true
within taken class choice k i m t ts u v l du dv h f =
    let r = comes_in taken t m u v h in
    f (first_of taken class choice i m t ts u du r.0.1)
    (elim dv [ inl e ↦ absurd (omega (arith, e, l, r.1.0)) | inr g ↦ first_of taken class choice i m t ts v g r.1.1 ]) h

-- from what the rules of the operands give to an event of the node
abbrev Plainly : Taken → Class → Trees → ℕ → Place → Place → Type 0
Plainly taken class ts k u v = (orders_among taken (terms_from (terms_for (suc k) ts)) u v ≡ true) ⊎ ToNode class k u v

abbrev PlainSteps : Taken → Class → Trees → ℕ → Place → Place → Type 0
PlainSteps taken class ts k u v =
    is_plain class ≡ true → are_formed ts ≡ true → has (operand_events taken class (taken k) 0 (suc k) ts) u ≡ true →
    AtOr k (operand_events taken class (taken k) 0 (suc k) ts) v
    → operand_rules taken class (taken k) k 0 (suc k) ts u v ≡ true → Plainly taken class ts k u v

abbrev CommaSteps : Taken → Trees → ℕ → Place → Place → Type 0
CommaSteps taken ts k u v =
    are_formed ts ≡ true → has (operand_events taken Comma (taken k) 0 (suc k) ts) u ≡ true →
    has (operand_events taken Comma (taken k) 0 (suc k) ts ++ place k Val ∷ []) v ≡ true
    → operand_rules taken Comma (taken k) k 0 (suc k) ts u v ≡ true → orders taken (comma_of k (terms_for (suc k) ts)) u v ≡ true

abbrev ChoiceSteps : Taken → Trees → ℕ → Place → Place → Type 0
ChoiceSteps taken ts k u v =
    is_last (after (after (after ts))) ≡ true → are_formed ts ≡ true → has (operand_events taken Choice (taken k) 0 (suc k) ts) u ≡ true
    → has (operand_events taken Choice (taken k) 0 (suc k) ts ++ place k Val ∷ []) v ≡ true → operand_rules taken Choice (taken k) k 0 (suc k) ts u v ≡ true
    → orders taken (node_term k Choice (terms_for (suc k) ts)) u v ≡ true

at_root : (taken : Taken) (class : Class) (ts : Trees) (k : ℕ) (v : Place) → has (events taken k (node class ts)) v ≡ true →
    AtOr k (operand_events taken class (taken k) 0 (suc k) ts) v
at_root taken class ts k v h = elim (has_cases (operand_events taken class (taken k) 0 (suc k) ts) (own_events k class) v h)
    [ inl a ↦ inr a | inr a ↦ inl (own_node (kinds_of class) k v a) ]

own_at : (taken : Taken) (class : Class) (ts : Trees) (k : ℕ) (v : Place) → has (events taken k (node class ts)) v ≡ true → v.node ≡ k →
    has (own_events k class) v ≡ true
own_at taken class ts k v h e = own_of taken class (taken k) k 0 (suc k) ts (own_events k class) v (omega arith) h e

node_steps : (taken : Taken) (class : Class) (ts : Trees) (k : ℕ) (u v : Place) → takes class ts ≡ true → are_formed ts ≡ true →
    has (operand_events taken class (taken k) 0 (suc k) ts) u ≡ true → has (events taken k (node class ts)) v ≡ true
    → operand_rules taken class (taken k) k 0 (suc k) ts u v ≡ true → PlainSteps taken class ts k u v → CommaSteps taken ts k u v →
    ChoiceSteps taken ts k u v → orders taken (node_term k class (terms_for (suc k) ts)) u v ≡ true
node_steps taken Object ts k u v s f du dv h plain comma choice = absurd
    (quiet_none (operand_events taken Object (taken k) 0 (suc k) ts) u (silent_all taken ts Object (taken k) 0 (suc k) f s) du)
node_steps taken Constant ts k u v s f du dv h plain comma choice = absurd
    (quiet_none (operand_events taken Constant (taken k) 0 (suc k) ts) u (silent_all taken ts Constant (taken k) 0 (suc k) f s) du)
node_steps taken Plain ts k u v s f du dv h plain comma choice = elim (plain refl f du (at_root taken Plain ts k v dv) h) [
  | inl q ↦ or_b _ _ (or_a _ _ q)
  | inr q ↦ (elim q.1 [
    | inl x ↦ or_a _ _ (and_b _ _ (plain_has taken Plain ts k u refl f du)
        (and_b _ _ (val_acts u.kind x.0) (own_at taken Plain ts k v dv q.0)))
    | inr x ↦ absurd (true≢false (sym x))
  ])
]
node_steps taken Store ts k u v s f du dv h plain comma choice = elim (plain refl f du (at_root taken Store ts k v dv) h) [
  | inl q ↦ or_b _ _ (or_a _ _ q)
  | inr q ↦ (elim q.1 [
    | inl x ↦ or_a _ _ (and_b _ _ (plain_has taken Store ts k u refl f du)
        (and_b _ _ (val_acts u.kind x.0) (own_at taken Store ts k v dv q.0)))
    | inr x ↦ absurd (true≢false (sym x))
  ])
]
node_steps taken Update ts k u v s f du dv h plain comma choice = elim (plain refl f du (at_root taken Update ts k v dv) h) [
  | inl q ↦ or_b _ _ (or_a _ _ q)
  | inr q ↦ (elim q.1 [
    | inl x ↦ or_a _ _ (and_b _ _ (plain_has taken Update ts k u refl f du)
        (and_b _ _ (val_acts u.kind x.0) (own_at taken Update ts k v dv q.0)))
    | inr x ↦ absurd (true≢false (sym x))
  ])
]
node_steps taken Call ts k u v s f du dv h plain comma choice =
    let hu = plain_has taken Call ts k u refl f du in
    elim (plain refl f du (at_root taken Call ts k v dv) h) [
      | inl q ↦ or_b _ _ (or_a _ _ (or_b _ _ (or_a _ _ q)))
      | inr q ↦ (elim q.1 [
        | inl x ↦
            or_a _ _ (and_b _ _ (has_left (listings taken (terms_from (terms_for (suc k) ts))) (place k Body ∷ []) u hu)
            (and_b _ _ (val_acts u.kind x.0) (call_value k v (own_at taken Call ts k v dv q.0) x.1)))
        | inr x ↦ or_b _ _ (or_a _ _ (or_a _ _ (and_b _ _ hu (call_body k v q.0 x))))
      ])
    ]
node_steps taken Comma ts k u v s f du dv h plain comma choice = comma f du dv h
node_steps taken Choice ts k u v s f du dv h plain comma choice = choice s f du dv h
node_steps taken Isolated none k u v s f du dv h plain comma choice = absurd (true≢false (sym h))
node_steps taken Isolated (more t ts) k u v s f du dv h plain comma choice = absurd (true≢false (sym s))

step_of : (taken : Taken) (class : Class) (ts : Trees) (k : ℕ) (u v : Place) → is_formed (node class ts) ≡ true →
    has (events taken k (node class ts)) u ≡ true → has (events taken k (node class ts)) v ≡ true → comes taken k (node class ts) u v ≡ true
    → PlainSteps taken class ts k u v → CommaSteps taken ts k u v → ChoiceSteps taken ts k u v → orders taken (term_for k (node class ts)) u v ≡ true
step_of taken class ts k u v f du dv h plain comma choice = elim (or_cases ((u.node == k) && ((v.node == k) && own_rule class u.kind v.kind)) _ h) [
  | inl a ↦
      (let eu = eq_of u.node k (and_l _ _ a) in
      own_step taken class (terms_for (suc k) ts) k u v eu (eq_of v.node k (and_l (v.node == k) _ (and_r (u.node == k) _ a)))
      (and_r (v.node == k) _ (and_r (u.node == k) _ a)) (own_at taken class ts k u du eu))
  | inr a ↦
      (let r = rules_in taken ts class (taken k) k 0 (suc k) u v a in
      node_steps taken class ts k u v (and_l (takes class ts) _ f) (and_r (takes class ts) _ f) (operands_of taken class k ts u du (omega (arith, r.0.0))) dv
      a plain comma choice)
]

mutual
  pub steps : (taken : Taken) (t : Tree) (k : ℕ) (u v : Place) → is_formed t ≡ true → has (events taken k t) u ≡ true → has (events taken k t) v ≡ true →
      comes taken k t u v ≡ true → orders taken (term_for k t) u v ≡ true
  steps taken (node class ts) k u v f du dv h =
      step_of taken class ts k u v f du dv h (λ p x y z w. plain_steps taken ts class (taken k) k 0 (suc k) u v p (omega arith) x y z w)
      (λ x y z w. comma_steps taken ts (taken k) k 0 (suc k) u v (omega arith) x y z w)
      (λ s x y z w. choice_steps taken ts k u v s x y z w)

  plain_steps : (taken : Taken) (ts : Trees) (class : Class) (choice : Option ℕ) (k i m : ℕ) (u v : Place) → is_plain class ≡ true → k < m →
      are_formed ts ≡ true → has (operand_events taken class choice i m ts) u ≡ true
      → AtOr k (operand_events taken class choice i m ts) v → operand_rules taken class choice k i m ts u v ≡ true →
      (orders_among taken (terms_from (terms_for m ts)) u v ≡ true) ⊎ ToNode class k u v
  plain_steps taken none class choice k i m u v p l f du dv h = absurd (true≢false (sym h))
  plain_steps taken (more t ts) class choice k i m u v p l f du dv h = elim (rules_cases taken class choice k i m t ts u v h) [
    | inl a ↦ (elim a.1 [
      | inl b ↦ inr (b.2, inl (b.1, b.3))
      | inr b ↦ (elim b [
        | inl c ↦ inr (c.1, inr (plain_up class choice i (is_last ts) v.kind p c.2))
        | inr c ↦ (elim c [
          | inl d ↦ absurd (plain_later taken ts class choice i (suc i) (m + size t) v p d.1)
          | inr d ↦ inl (or_a _ _ (within taken class choice k i m t ts u v l du dv d (steps taken t m u v (and_l (is_formed t) _ f))))
        ])
      ])
    ])
    | inr a ↦
        (let r = rules_in taken ts class choice k (suc i) (m + size t) u v a in
        elim (plain_steps taken ts class choice k (suc i) (m + size t) u v p (omega (arith, l)) (and_r (is_formed t) _ f)
        (later_of taken class choice i m t ts u du r.0.0) (later_at taken class choice k i m t ts v dv r.1) a) [
          | inl q ↦ inl (or_b (orders taken (term_for m t) u v) _ q)
          | inr q ↦ inr q
        ])
  ]

  comma_steps : (taken : Taken) (ts : Trees) (choice : Option ℕ) (k i m : ℕ) (u v : Place) → k < m → are_formed ts ≡ true →
      has (operand_events taken Comma choice i m ts) u ≡ true
      → has (operand_events taken Comma choice i m ts ++ place k Val ∷ []) v ≡ true → operand_rules taken Comma choice k i m ts u v ≡ true →
      orders taken (comma_of k (terms_for m ts)) u v ≡ true
  comma_steps taken none choice k i m u v l f du dv h = absurd (true≢false (sym h))
  comma_steps taken (more t none) choice k i m u v l f du dv h =
      let ft = and_l (is_formed t) _ f in
      elim (rules_cases taken Comma choice k i m t none u v h) [
        | inr a ↦ absurd (true≢false (sym a))
        | inl a ↦ (elim a.1 [
          | inl b ↦
              (let z = size_pos t in
              or_a _ _ (and_b _ _ (ap (λ x. has x u) (listed taken t m ft) ∙ first_of taken Comma choice i m t none u du (omega (arith, b.0, z)))
              (and_b _ _ (val_acts u.kind b.1) (own_of taken Comma choice k i m (more t none) (place k Val ∷ []) v l dv b.2))))
          | inr b ↦ (elim b [
            | inl c ↦ absurd (comma_last choice i v.kind c.2)
            | inr c ↦ (elim c [
              | inl d ↦ absurd (true≢false (sym d.1))
              | inr d ↦ or_b _ _ (or_a _ _ (within taken Comma choice k i m t none u v l du (comma_at taken choice k i m (more t none) v dv) d
                  (steps taken t m u v ft)))
            ])
          ])
        ])
      ]
  comma_steps taken (more t (more t2 us)) choice k i m u v l f du dv h =
      let ft = and_l (is_formed t) _ f in
      let fs = and_r (is_formed t) _ f in
      let q = m + size t in
      elim (rules_cases taken Comma choice k i m t (more t2 us) u v h) [
        | inl a ↦ (elim a.1 [
          | inl b ↦
              (let z = size_pos t in
              or_a _ _ (and_b _ _ (ap (λ x. has x u) (listed taken t m ft) ∙ first_of taken Comma choice i m t (more t2 us) u du (omega (arith, b.0, z)))
              (comma_value taken (more t2 us) choice k i q v fs (own_of taken Comma choice k i m (more t (more t2 us)) (place k Val ∷ []) v l dv b.2))))
          | inr b ↦ (elim b [
            | inl c ↦ or_a _ _ (and_b _ _ (ap (λ x. has x u) (listed taken t m ft) ∙ c.0)
                (comma_value taken (more t2 us) choice k i q v fs (own_of taken Comma choice k i m (more t (more t2 us)) (place k Val ∷ []) v l dv c.1)))
            | inr c ↦ (elim c [
              | inl d ↦
                  or_a _ _ (and_b _ _ (ap (λ x. has x u) (listed taken t m ft) ∙ d.0)
                  (ap (λ x. has x v) (listed_comma taken (more t2 us) choice k (suc i) q fs) ∙ has_left
                  (operand_events taken Comma choice (suc i) q (more t2 us)) (place k Val ∷ []) v (comma_later taken (more t2 us) choice i (suc i) q v d.1)))
              | inr d ↦ or_b _ _ (or_a _ _ (within taken Comma choice k i m t (more t2 us) u v l du (comma_at taken choice k i m (more t (more t2 us)) v dv) d
                  (steps taken t m u v ft)))
            ])
          ])
        ])
        | inr a ↦
            (let r = rules_in taken (more t2 us) Comma choice k (suc i) q u v a in
            or_b _ _ (or_b (orders taken (term_for m t) u v) _
            (comma_steps taken (more t2 us) choice k (suc i) q u v (omega (arith, l)) fs (later_of taken Comma choice i m t (more t2 us) u du r.0.0)
            (comma_rest taken choice k i m t (more t2 us) v l (comma_at taken choice k i m (more t (more t2 us)) v dv) dv r.1) a)))
      ]

  choice_steps : (taken : Taken) (ts : Trees) (k : ℕ) (u v : Place) → is_last (after (after (after ts))) ≡ true → are_formed ts ≡ true →
      has (operand_events taken Choice (taken k) 0 (suc k) ts) u ≡ true
      → has (operand_events taken Choice (taken k) 0 (suc k) ts ++ place k Val ∷ []) v ≡ true →
      operand_rules taken Choice (taken k) k 0 (suc k) ts u v ≡ true → orders taken (node_term k Choice (terms_for (suc k) ts)) u v ≡ true
  choice_steps taken none k u v s f du dv h = absurd (true≢false (sym h))
  choice_steps taken (more a ts) k u v s f du dv h =
      let fa = and_l (is_formed a) _ f in
      let fs = and_r (is_formed a) _ f in
      let q = suc k + size a in
      let hu = ap (λ x. has x u) (listed_choice taken (more a ts) k (suc k) s f) ∙ du in
      let own = own_of taken Choice (taken k) k 0 (suc k) (more a ts) (place k Val ∷ []) v (omega arith) dv in
      elim (rules_cases taken Choice (taken k) k 0 (suc k) a ts u v h) [
        | inl b ↦ (elim b.1 [
          | inl c ↦ or_a _ _ (and_b _ _ hu (and_b _ _ (val_acts u.kind c.1) (own c.2)))
          | inr c ↦ (elim c [
            | inl d ↦
                or_b _ _ (or_a _ _ (or_a _ _ (and_b _ _ (ap (λ x. has x u) (listed taken a (suc k) fa) ∙ d.0)
                (and_b _ _ (first_up (taken k) (is_last ts) v.kind d.2).0 (or_a _ _ (lone v (own d.1)))))))
            | inr d ↦ (elim d [
              | inl e ↦
                  (let g = first_later taken ts (taken k) 1 q v e.1 in
                  or_b _ _ (or_a _ _ (or_a _ _ (and_b _ _ (ap (λ x. has x u) (listed taken a (suc k) fa) ∙ e.0)
                  (and_b _ _ g.0 (or_b (same_place v (place k Val)) _ (ap (λ x. has x v) (listed_next taken ts k q s fs) ∙ g.1)))))))
              | inr e ↦ or_b _ _ (or_a _ _ (or_b _ _ (or_a _ _
                  (within taken Choice (taken k) k 0 (suc k) a ts u v (omega arith) du (choice_at taken k (more a ts) v dv) e
                  (steps taken a (suc k) u v fa)))))
            ])
          ])
        ])
        | inr b ↦
            (let r = rules_in taken ts Choice (taken k) k 1 q u v b in
            elim (next_steps taken ts k q u v (omega arith) s fs (later_of taken Choice (taken k) 0 (suc k) a ts u du r.0.0)
            (later_at taken Choice (taken k) k 0 (suc k) a ts v (choice_at taken k (more a ts) v dv) r.1) b) [
              | inl c ↦ or_a _ _ (and_b _ _ hu (and_b _ _ (val_acts u.kind c.0) (own c.1)))
              | inr c ↦ or_b _ _ (or_a _ _ (or_b _ _ (or_b (orders taken (term_for (suc k) a) u v) _ c)))
            ])
      ]
    where
      lone : (v : Place) → has (place k Val ∷ []) v ≡ true → same_place v (place k Val) ≡ true
      lone v h = elim (or_cases (same_place v (place k Val)) false h) [ inl a ↦ a | inr a ↦ absurd (true≢false (sym a)) ]

  -- from an event of the operands after a choice's first
  next_steps : (taken : Taken) (ts : Trees) (k m : ℕ) (u v : Place) → k < m → is_last (after (after ts)) ≡ true → are_formed ts ≡ true →
      has (operand_events taken Choice (taken k) 1 m ts) u ≡ true
      → AtOr k (operand_events taken Choice (taken k) 1 m ts) v → operand_rules taken Choice (taken k) k 1 m ts u v ≡ true
      → ((is_val u.kind ≡ true) × (v.node ≡ k))
      ⊎ (((is_number (taken k) 1 && orders taken (head_of k (terms_for m ts)) u v) ||
      (is_number (taken k) 2 && orders taken (head_of k (rest_of (terms_for m ts))) u v)) ≡ true)
  next_steps taken none k m u v l s f du dv h = absurd (true≢false (sym h))
  next_steps taken (more b ts) k m u v l s f du dv h = elim (rules_cases taken Choice (taken k) k 1 m b ts u v h) [
    | inl a ↦ (elim a.1 [
      | inl c ↦ inl (c.1, c.2)
      | inr c ↦ (elim c [
        | inl d ↦ absurd (choice_up (taken k) 0 (is_last ts) v.kind d.2)
        | inr d ↦ (elim d [
          | inl e ↦ absurd (choice_later taken ts (taken k) 0 2 (m + size b) v e.1)
          | inr e ↦ inr (or_a _ _ (and_b _ _ a.0 (within taken Choice (taken k) k 1 m b ts u v l du dv e (steps taken b m u v (and_l (is_formed b) _ f)))))
        ])
      ])
    ])
    | inr a ↦
        (let r = rules_in taken ts Choice (taken k) k 2 (m + size b) u v a in
        elim (last_steps taken ts k (m + size b) u v (omega (arith, l)) s (and_r (is_formed b) _ f) (later_of taken Choice (taken k) 1 m b ts u du r.0.0)
        (later_at taken Choice (taken k) k 1 m b ts v dv r.1) a) [
          | inl c ↦ inl c
          | inr c ↦ inr (or_b (is_number (taken k) 1 && orders taken (term_for m b) u v) _ c)
        ])
  ]

  last_steps : (taken : Taken) (ts : Trees) (k m : ℕ) (u v : Place) → k < m → is_last (after ts) ≡ true → are_formed ts ≡ true →
      has (operand_events taken Choice (taken k) 2 m ts) u ≡ true
      → AtOr k (operand_events taken Choice (taken k) 2 m ts) v → operand_rules taken Choice (taken k) k 2 m ts u v ≡ true
      → ((is_val u.kind ≡ true) × (v.node ≡ k)) ⊎ ((is_number (taken k) 2 && orders taken (head_of k (terms_for m ts)) u v) ≡ true)
  last_steps taken none k m u v l s f du dv h = absurd (true≢false (sym h))
  last_steps taken (more d (more e es)) k m u v l s f du dv h = absurd (true≢false (sym s))
  last_steps taken (more d none) k m u v l s f du dv h = elim (rules_cases taken Choice (taken k) k 2 m d none u v h) [
    | inl a ↦ (elim a.1 [
      | inl c ↦ inl (c.1, c.2)
      | inr c ↦ (elim c [
        | inl x ↦ absurd (choice_up (taken k) 1 true v.kind x.2)
        | inr x ↦ (elim x [
          | inl e ↦ absurd (true≢false (sym e.1))
          | inr e ↦ inr (and_b _ _ a.0 (within taken Choice (taken k) k 2 m d none u v l du dv e (steps taken d m u v (and_l (is_formed d) _ f))))
        ])
      ])
    ])
    | inr a ↦ absurd (true≢false (sym a))
  ]

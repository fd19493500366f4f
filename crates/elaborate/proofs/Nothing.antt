-- A tree's term orders nothing but what is sequenced before.
use Rattle.std.proofs.Common.{
  ◌≡◌,
  ℕ,
  suc,
  ◌+◌,
  ◌<◌,
  ◌≤◌,
  Bool,
  true,
  false,
  not,
  ◌&&◌,
  ◌||◌,
  ◌==◌,
  nat_lt,
  if◌then◌else◌,
  List,
  [],
  ◌∷◌,
  ◌++◌,
  Option,
  is_some,
  refl,
  sym,
  ap,
  subst,
  ◌∙◌,
  ◌⊎◌,
  inl,
  inr,
  true≢false,
  arith,
}
use Rattle.std.proofs.lemmas.Bool.Decides.{nat_tests}
use Rattle.ub_base.specs.declared.clause.Kind.{Kind}
use Rattle.ub_base.specs.declared.clause.Kind.TheVariants.{Val, Eff, Body}
use Rattle.c_typed.specs.declared.tree.Place.{Place}
use Rattle.c_typed.specs.declared.class.Class.{Class}
use Rattle.c_typed.specs.declared.class.Class.TheVariants.{Object, Constant, Plain, Store, Update, Choice, Comma, Call, Isolated}
use Rattle.c_typed.specs.Tree.{Tree, node, Trees, none, more, size, is_quiet, kinds_of}
use Rattle.c_typed.specs.Order.{
  Taken,
  goes,
  is_choice,
  place,
  same_place,
  own_events,
  events,
  operand_events,
  has,
  is_val,
  is_body,
  is_number,
  upward,
  is_last,
  own_rule,
  in_later,
  comes,
  operand_rules,
}
use Rattle.core_ir.specs.Term.{unseq, strong, terms_from, listing, listings, is_effect, after_test, orders, orders_among}
use Rattle.elaborate.specs.Terms.{term_for, terms_for, node_term, choice_of, comma_of, head_of, rest_of, body}
use Rattle.elaborate.specs.Formed.{is_formed, are_formed, takes, after}
use Rattle.elaborate.proofs.Listed.{and_l, and_r, all_go, listed, listed_all, listed_comma, listed_choice, listed_next, silent}
use Rattle.elaborate.proofs.Ranges.{or_cases, or_a, or_b, and_b, eq_of, eq_eq, has_left, has_right, has_cases, has_itself, same_kind_eq, own_node, if_has}

lt_of : (a b : ℕ) → a < b → nat_lt a b ≡ true
lt_of a b h = grind (arith, nat_tests, h)

same_eq : (u v : Place) → same_place u v ≡ true → u ≡ v
same_eq u v h =
    let en : u.node ≡ v.node = eq_of u.node v.node (and_l _ _ h) in
    let ek : u.kind ≡ v.kind = same_kind_eq u.kind v.kind (and_r (u.node == v.node) _ h) in
    λ i. record { node = en i; kind = ek i }

lone : (u v : Place) → has (v ∷ []) u ≡ true → u ≡ v
lone u v h = elim (or_cases (same_place u v) false h) [ inl a ↦ same_eq u v a | inr a ↦ absurd (true≢false (sym a)) ]

if_in : (b : Bool) (xs : List Place) (u : Place) → b ≡ true → has xs u ≡ true → has (if b then xs else []) u ≡ true
if_in true xs u h g = g
if_in false xs u h g = absurd (true≢false (sym h))

if_test : (b : Bool) (xs : List Place) (u : Place) → has (if b then xs else []) u ≡ true → b ≡ true
if_test true xs u h = refl
if_test false xs u h = absurd (true≢false (sym h))

body_val : (class : Class) → own_rule class Body Val ≡ true
body_val Update = refl
body_val _ = refl

not_eff : (kind : Kind) → not (is_effect kind) ≡ true → (kind ≡ Val) ⊎ (kind ≡ Body)
not_eff Val h = inl refl
not_eff Body h = inr refl
not_eff Eff h = absurd (true≢false (sym h))

is_true : (b : Bool) → (b ≡ false → ⊥) → b ≡ true
is_true true f = refl
is_true false f = absurd (f refl)

loud : (taken : Taken) (t : Tree) (k : ℕ) (u : Place) → is_formed t ≡ true → has (events taken k t) u ≡ true → not (is_quiet t) ≡ true
loud taken t k u f h = step (is_quiet t) refl
  where
    step : (b : Bool) → is_quiet t ≡ b → not b ≡ true
    step true e = absurd (true≢false (sym (ap (λ z. has z u) (sym (silent taken t k f e)) ∙ h)))
    step false e = refl

comma_in : (taken : Taken) (ts : Trees) (choice : Option ℕ) (i j m : ℕ) (v : Place) → i < j → has (operand_events taken Comma choice j m ts) v ≡ true →
    in_later taken Comma choice i j m ts v ≡ true
comma_in taken none choice i j m v l h = h
comma_in taken (more t ts) choice i j m v l h = elim (has_cases (events taken m t) (operand_events taken Comma choice (suc j) (m + size t) ts) v h) [
  | inl a ↦ or_a _ _ (and_b _ _ (lt_of i j l) a)
  | inr a ↦ or_b (nat_lt i j && has (events taken m t) v) _ (comma_in taken ts choice i (suc j) (m + size t) v (omega (arith, l)) a)
]

not_zero : (j : ℕ) → 1 ≤ j → (j == 0) ≡ true → ⊥
not_zero j l h = let e = eq_of j 0 h in omega (arith, e, l)

choice_in : (taken : Taken) (ts : Trees) (choice : Option ℕ) (j m : ℕ) (v : Place) → 1 ≤ j → has (operand_events taken Choice choice j m ts) v ≡ true →
    in_later taken Choice choice 0 j m ts v ≡ true
choice_in taken none choice j m v l h = h
choice_in taken (more t ts) choice j m v l h =
    elim (has_cases (if goes Choice choice j then events taken m t else []) (operand_events taken Choice choice (suc j) (m + size t) ts) v h) [
      | inl a ↦
          or_a _ _ (and_b (is_number choice j) _ (elim (or_cases (j == 0) (is_number choice j) (if_test (goes Choice choice j) (events taken m t) v a))
          [ inl x ↦ absurd (not_zero j l x) | inr x ↦ x ])
          (if_has (goes Choice choice j) (events taken m t) v a))
      | inr a ↦ or_b (is_number choice j && has (events taken m t) v) _ (choice_in taken ts choice (suc j) (m + size t) v (omega (arith, l)) a)
    ]

neither : (a b : Bool) → ((a && false) || (b && false)) ≡ true → ⊥
neither true true h = true≢false (sym h)
neither true false h = true≢false (sym h)
neither false true h = true≢false (sym h)
neither false false h = true≢false (sym h)

no_continuation : (choice : Option ℕ) → ((is_number choice 1 && false) || (is_number choice 2 && false)) ≡ true → ⊥
no_continuation choice h = neither (is_number choice 1) (is_number choice 2) h

module _ (taken : Taken) (R : Place → Place → Type 0) (trans : (u v w : Place) → R u v → R v w → R u w) where
  abbrev Rule : ℕ → Tree → Type 0
  Rule k t = (u v : Place) → has (events taken k t) u ≡ true → has (events taken k t) v ≡ true → comes taken k t u v ≡ true → R u v

  abbrev AtNode : Class → Option ℕ → ℕ → ℕ → ℕ → Trees → Place → Type 0
  AtNode class choice k i m ts v = (has (own_events k class) v ≡ true) ⊎ (has (operand_events taken class choice i m ts) v ≡ true)

  abbrev Rules : Class → Option ℕ → ℕ → ℕ → ℕ → Trees → Type 0
  Rules class choice k i m ts = (u v : Place) → has (operand_events taken class choice i m ts) u ≡ true → AtNode class choice k i m ts v →
      operand_rules taken class choice k i m ts u v ≡ true → R u v

  rules_of : (class : Class) (ts : Trees) (k : ℕ) → Rule k (node class ts) → Rules class (taken k) k 0 (suc k) ts
  rules_of class ts k f u v du dv h =
      f u v (has_left os (own_events k class) u du) (elim dv [ inl a ↦ has_right os (own_events k class) v a | inr a ↦ has_left os (own_events k class) v a ])
      (or_b ((u.node == k) && ((v.node == k) && own_rule class u.kind v.kind)) _ h)
    where
      os : List Place
      os = operand_events taken class (taken k) 0 (suc k) ts

  first : (class : Class) (choice : Option ℕ) (i m : ℕ) (t : Tree) (ts : Trees) (u : Place) → goes class choice i ≡ true → has (events taken m t) u ≡ true →
      has (operand_events taken class choice i m (more t ts)) u ≡ true
  first class choice i m t ts u g h = has_left (if goes class choice i then events taken m t else [])
      (operand_events taken class choice (suc i) (m + size t) ts) u (if_in (goes class choice i) (events taken m t) u g h)

  later : (class : Class) (choice : Option ℕ) (i m : ℕ) (t : Tree) (ts : Trees) (u : Place) →
      has (operand_events taken class choice (suc i) (m + size t) ts) u ≡ true → has (operand_events taken class choice i m (more t ts)) u ≡ true
  later class choice i m t ts u h = has_right (if goes class choice i then events taken m t else [])
      (operand_events taken class choice (suc i) (m + size t) ts) u h

  rules_rest : (class : Class) (choice : Option ℕ) (k i m : ℕ) (t : Tree) (ts : Trees) → Rules class choice k i m (more t ts) →
      Rules class choice k (suc i) (m + size t) ts
  rules_rest class choice k i m t ts f u v du dv h =
      f u v (later class choice i m t ts u du) (elim dv [ inl a ↦ inl a | inr a ↦ inr (later class choice i m t ts v a) ])
      (or_b (goes class choice i && _) _ h)

  rule_first : (class : Class) (choice : Option ℕ) (k i m : ℕ) (t : Tree) (ts : Trees) → goes class choice i ≡ true → Rules class choice k i m (more t ts) →
      Rule m t
  rule_first class choice k i m t ts g f u v du dv h =
      f u v (first class choice i m t ts u g du) (inr (first class choice i m t ts v g dv))
      (or_a _ _ (and_b (goes class choice i) _ g (or_b ((u.node == m) && (is_val u.kind && (not (is_quiet t) && ((v.node == k) && not (is_body v.kind))))) _
      (or_b (has (events taken m t) u && _) _ h))))

  -- all of an operand before an event of its node
  up_rule : (class : Class) (choice : Option ℕ) (k i m : ℕ) (t : Tree) (ts : Trees) (u : Place) (kind : Kind) → Rules class choice k i m (more t ts) →
      goes class choice i ≡ true → has (events taken m t) u ≡ true → has (own_events k class) (place k kind) ≡ true
      → upward class choice i (is_last ts) kind ≡ true → R u (place k kind)
  up_rule class choice k i m t ts u kind f g du dk h =
      f u (place k kind) (first class choice i m t ts u g du) (inl dk)
      (or_a _ _ (and_b (goes class choice i) _ g (or_b ((u.node == m) && (is_val u.kind && (not (is_quiet t) && ((k == k) && not (is_body kind))))) _
      (or_a _ _ (and_b (has (events taken m t) u) _ du (or_a _ _ (and_b (k == k) _ (eq_eq k) h)))))))

  -- the value of an operand
  val_rule : (class : Class) (choice : Option ℕ) (k i m : ℕ) (t : Tree) (ts : Trees) (kind : Kind) → Rules class choice k i m (more t ts) →
      goes class choice i ≡ true → not (is_quiet t) ≡ true → has (events taken m t) (place m Val) ≡ true
      → has (own_events k class) (place k kind) ≡ true → not (is_body kind) ≡ true → R (place m Val) (place k kind)
  val_rule class choice k i m t ts kind f g q dm dk nb =
      f (place m Val) (place k kind) (first class choice i m t ts (place m Val) g dm) (inl dk)
      (or_a _ _ (and_b (goes class choice i) _ g (or_a _ _ (and_b (m == m) _ (eq_eq m) (and_b (not (is_quiet t)) _ q (and_b (k == k) _ (eq_eq k) nb))))))

  later_rule : (class : Class) (choice : Option ℕ) (k i m : ℕ) (t : Tree) (ts : Trees) (u v : Place) → Rules class choice k i m (more t ts) →
      goes class choice i ≡ true → has (events taken m t) u ≡ true
      → has (operand_events taken class choice (suc i) (m + size t) ts) v ≡ true → in_later taken class choice i (suc i) (m + size t) ts v ≡ true → R u v
  later_rule class choice k i m t ts u v f g du dv h =
      f u v (first class choice i m t ts u g du) (inr (later class choice i m t ts v dv))
      (or_a _ _ (and_b (goes class choice i) _ g (or_b ((u.node == m) && (is_val u.kind && (not (is_quiet t) && ((v.node == k) && not (is_body v.kind))))) _
      (or_a _ _ (and_b (has (events taken m t) u) _ du (or_b ((v.node == k) && upward class choice i (is_last ts) v.kind) _ h))))))

  own_rules : (class : Class) (ts : Trees) (k : ℕ) (a b : Kind) → Rule k (node class ts) → has (own_events k class) (place k a) ≡ true →
      has (own_events k class) (place k b) ≡ true → own_rule class a b ≡ true → R (place k a) (place k b)
  own_rules class ts k a b f da db h =
      f (place k a) (place k b) (has_right (operand_events taken class (taken k) 0 (suc k) ts) (own_events k class) (place k a) da)
      (has_right (operand_events taken class (taken k) 0 (suc k) ts) (own_events k class) (place k b) db)
      (or_a _ _ (and_b (k == k) _ (eq_eq k) (and_b (k == k) _ (eq_eq k) h)))

  val_own : (class : Class) (k : ℕ) → not (is_quiet (node class none)) ≡ true → has (own_events k class) (place k Val) ≡ true
  val_own Object k h = absurd (true≢false (sym h))
  val_own Constant k h = absurd (true≢false (sym h))
  val_own Call k h = or_b _ _ (has_itself (place k Val) [])
  val_own Isolated k h = or_b _ _ (has_itself (place k Val) [])
  val_own Plain k h = has_itself (place k Val) []
  val_own Choice k h = has_itself (place k Val) []
  val_own Comma k h = has_itself (place k Val) []
  val_own Store k h = has_itself (place k Val) (place k Eff ∷ [])
  val_own Update k h = has_itself (place k Val) (place k Eff ∷ [])

  own_val : (class : Class) (ts : Trees) (k : ℕ) (u : Place) → Rule k (node class ts) → has (own_events k class) u ≡ true →
      has (own_events k class) (place k Val) ≡ true → not (is_effect u.kind) ≡ true → (u ≡ place k Val) ⊎ R u (place k Val)
  own_val class ts k u f du dv n =
      let e : u ≡ place k u.kind = (λ i. record { node = own_node (kinds_of class) k u du i; kind = u.kind }) in
      elim (not_eff u.kind n) [
        | inl x ↦ inl (e ∙ ap (place k) x)
        | inr x ↦ inr (subst (λ z. R z (place k Val)) (sym (e ∙ ap (place k) x))
            (own_rules class ts k Body Val f (subst (λ z. has (own_events k class) z ≡ true) (e ∙ ap (place k) x) du) dv (body_val class)))
      ]

  mutual
    -- every value and body of a tree comes before its value
    to_value : (t : Tree) (k : ℕ) (u : Place) → is_formed t ≡ true → Rule k t → has (events taken k t) u ≡ true → not (is_effect u.kind) ≡ true →
        (has (events taken k t) (place k Val) ≡ true) × ((u ≡ place k Val) ⊎ R u (place k Val))
    to_value (node class ts) k u f r h n =
        let q = val_own class k (loud taken (node class ts) k u f h) in (
          has_right (operand_events taken class (taken k) 0 (suc k) ts) (own_events k class) (place k Val) q,
          elim (has_cases (operand_events taken class (taken k) 0 (suc k) ts) (own_events k class) u h) [
            | inl a ↦ inr (to_event ts class (taken k) k 0 (suc k) u Val (and_r (takes class ts) _ f) (rules_of class ts k r) a n q refl)
            | inr a ↦ own_val class ts k u r a q n
          ],
        )

    -- and those of an operand before the value and the effect of the node
    to_event : (ts : Trees) (class : Class) (choice : Option ℕ) (k i m : ℕ) (u : Place) (kind : Kind) → are_formed ts ≡ true → Rules class choice k i m ts →
        has (operand_events taken class choice i m ts) u ≡ true → not (is_effect u.kind) ≡ true
        → has (own_events k class) (place k kind) ≡ true → not (is_body kind) ≡ true → R u (place k kind)
    to_event none class choice k i m u kind f r h n dk nb = absurd (true≢false (sym h))
    to_event (more t ts) class choice k i m u kind f r h n dk nb = elim
        (has_cases (if goes class choice i then events taken m t else []) (operand_events taken class choice (suc i) (m + size t) ts) u h) [
          | inl a ↦
              (let g = if_test (goes class choice i) (events taken m t) u a in
              let b = if_has (goes class choice i) (events taken m t) u a in
              let ft = and_l (is_formed t) _ f in
              let w = to_value t m u ft (rule_first class choice k i m t ts g r) b n in
              let s = val_rule class choice k i m t ts kind r g (loud taken t m u ft b) w.0 dk nb in
              elim w.1 [ inl e ↦ subst (λ z. R z (place k kind)) (sym e) s | inr x ↦ trans u (place m Val) (place k kind) x s ])
          | inr a ↦ to_event ts class choice k (suc i) (m + size t) u kind (and_r (is_formed t) _ f) (rules_rest class choice k i m t ts r) a n dk nb
        ]

  abbrev Sound : ℕ → Tree → Place → Place → Type 0
  Sound k t u v = (has (events taken k t) u ≡ true) × (has (events taken k t) v ≡ true) × R u v

  abbrev SoundAmong : Class → Option ℕ → ℕ → ℕ → Trees → Place → Place → Type 0
  SoundAmong class choice i m ts u v = (has (operand_events taken class choice i m ts) u ≡ true) × (has (operand_events taken class choice i m ts) v ≡ true) ×
      R u v

  abbrev SoundComma : Option ℕ → ℕ → ℕ → ℕ → Trees → Place → Place → Type 0
  SoundComma choice k i m ts u v = (has (operand_events taken Comma choice i m ts) u ≡ true) ×
      (has (operand_events taken Comma choice i m ts ++ place k Val ∷ []) v ≡ true) × R u v

  from_first : (class : Class) (choice : Option ℕ) (i m : ℕ) (t : Tree) (ts : Trees) (u v : Place) → goes class choice i ≡ true → Sound m t u v →
      SoundAmong class choice i m (more t ts) u v
  from_first class choice i m t ts u v g s = (first class choice i m t ts u g s.0, first class choice i m t ts v g s.1, s.2)

  from_later : (class : Class) (choice : Option ℕ) (i m : ℕ) (t : Tree) (ts : Trees) (u v : Place) → SoundAmong class choice (suc i) (m + size t) ts u v →
      SoundAmong class choice i m (more t ts) u v
  from_later class choice i m t ts u v s = (later class choice i m t ts u s.0, later class choice i m t ts v s.1, s.2)

  from_operands : (class : Class) (ts : Trees) (k : ℕ) (u v : Place) → SoundAmong class (taken k) 0 (suc k) ts u v → Sound k (node class ts) u v
  from_operands class ts k u v s = (
    has_left (operand_events taken class (taken k) 0 (suc k) ts) (own_events k class) u s.0,
    has_left (operand_events taken class (taken k) 0 (suc k) ts) (own_events k class) v s.1,
    s.2,
  )

  from_event : (class : Class) (ts : Trees) (k : ℕ) (u v : Place) → has (operand_events taken class (taken k) 0 (suc k) ts) u ≡ true →
      has (own_events k class) v ≡ true → R u v → Sound k (node class ts) u v
  from_event class ts k u v du dv s = (
    has_left (operand_events taken class (taken k) 0 (suc k) ts) (own_events k class) u du,
    has_right (operand_events taken class (taken k) 0 (suc k) ts) (own_events k class) v dv,
    s,
  )

  from_own : (class : Class) (ts : Trees) (k : ℕ) (u v : Place) → has (own_events k class) u ≡ true → has (own_events k class) v ≡ true → R u v →
      Sound k (node class ts) u v
  from_own class ts k u v du dv s = (
    has_right (operand_events taken class (taken k) 0 (suc k) ts) (own_events k class) u du,
    has_right (operand_events taken class (taken k) 0 (suc k) ts) (own_events k class) v dv,
    s,
  )

  at_kind : (u v : Place) (k : ℕ) (kind : Kind) → v ≡ place k kind → R u (place k kind) → R u v
  at_kind u v k kind e s = subst (λ z. R u z) (sym e) s

  two_not_body : (k : ℕ) (v : Place) → has (place k Val ∷ place k Eff ∷ []) v ≡ true → not (is_body v.kind) ≡ true
  two_not_body k v h = elim (or_cases (same_place v (place k Val)) _ h) [
    | inl a ↦ ap (λ z. not (is_body z)) (same_kind_eq v.kind Val (and_r (v.node == k) _ a))
    | inr a ↦ ap (λ (z : Place). not (is_body z.kind)) (lone v (place k Eff) a)
  ]

  -- a value or a body of an operand, and an event of the node that is no body
  to_own : (class : Class) (ts : Trees) (k : ℕ) (u v : Place) → are_formed ts ≡ true → Rule k (node class ts) →
      has (operand_events taken class (taken k) 0 (suc k) ts) u ≡ true → not (is_effect u.kind) ≡ true → has (own_events k class) v ≡ true
      → not (is_body v.kind) ≡ true → Sound k (node class ts) u v
  to_own class ts k u v f r du n dv nb =
      let e : v ≡ place k v.kind = (λ i. record { node = own_node (kinds_of class) k v dv i; kind = v.kind }) in
      from_event class ts k u v du dv (at_kind u v k v.kind e
      (to_event ts class (taken k) k 0 (suc k) u v.kind f (rules_of class ts k r) du n (subst (λ z. has (own_events k class) z ≡ true) e dv) nb))

  all_to_body : (ts : Trees) (choice : Option ℕ) (k i m : ℕ) (u : Place) → Rules Call choice k i m ts →
      has (operand_events taken Call choice i m ts) u ≡ true → R u (place k Body)
  all_to_body none choice k i m u r h = absurd (true≢false (sym h))
  all_to_body (more t ts) choice k i m u r h = elim (has_cases (events taken m t) (operand_events taken Call choice (suc i) (m + size t) ts) u h) [
    | inl a ↦ up_rule Call choice k i m t ts u Body r refl a (has_itself (place k Body) (place k Val ∷ [])) refl
    | inr a ↦ all_to_body ts choice k (suc i) (m + size t) u (rules_rest Call choice k i m t ts r) a
  ]

  abbrev AmongSound : Class → Trees → ℕ → Place → Place → Type 0
  AmongSound class ts k u v = is_choice class ≡ false → are_formed ts ≡ true → Rules class (taken k) k 0 (suc k) ts →
      orders_among taken (terms_from (terms_for (suc k) ts)) u v ≡ true → SoundAmong class (taken k) 0 (suc k) ts u v

  abbrev CommaSound : Trees → ℕ → Place → Place → Type 0
  CommaSound ts k u v = are_formed ts ≡ true → Rules Comma (taken k) k 0 (suc k) ts → orders taken (comma_of k (terms_for (suc k) ts)) u v ≡ true →
      SoundComma (taken k) k 0 (suc k) ts u v

  abbrev ChoiceSound : Trees → ℕ → Place → Place → Type 0
  ChoiceSound ts k u v =
      is_last (after (after (after ts))) ≡ true → are_formed ts ≡ true → Rule k (node Choice ts) →
      orders taken (choice_of k (terms_for (suc k) ts)) u v ≡ true → Sound k (node Choice ts) u v

  plain_listed : (class : Class) (ts : Trees) (k : ℕ) (u : Place) → is_choice class ≡ false → are_formed ts ≡ true →
      has (listings taken (terms_from (terms_for (suc k) ts))) u ≡ true → has (operand_events taken class (taken k) 0 (suc k) ts) u ≡ true
  plain_listed class ts k u c f h = ap (λ z. has z u) (sym (listed_all taken ts class (taken k) 0 (suc k) c f)) ∙ h

  call_own : (class : Class) (ts : Trees) (k : ℕ) (u v : Place) → own_events k class ≡ place k Body ∷ place k Val ∷ [] → Rule k (node class ts) →
      u ≡ place k Body → v ≡ place k Val → Sound k (node class ts) u v
  call_own class ts k u v e r eu ev =
      let d = ap (λ z. has z (place k Body)) e ∙ has_itself (place k Body) (place k Val ∷ []) in
      let g = ap (λ z. has z (place k Val)) e ∙ or_b (same_place (place k Val) (place k Body)) _ (has_itself (place k Val) []) in
      from_own class ts k u v (subst (λ z. has (own_events k class) z ≡ true) (sym eu) d) (subst (λ z. has (own_events k class) z ≡ true) (sym ev) g)
      (subst (λ z. R z v) (sym eu) (subst (λ z. R (place k Body) z) (sym ev) (own_rules class ts k Body Val r d g (body_val class))))

  comma_first : (choice : Option ℕ) (k i m : ℕ) (t : Tree) (ts : Trees) (u v : Place) → Sound m t u v → SoundComma choice k i m (more t ts) u v
  comma_first choice k i m t ts u v s = (
    first Comma choice i m t ts u refl s.0,
    has_left (operand_events taken Comma choice i m (more t ts)) (place k Val ∷ []) v (first Comma choice i m t ts v refl s.1),
    s.2,
  )

  comma_later : (choice : Option ℕ) (k i m : ℕ) (t : Tree) (ts : Trees) (u v : Place) → SoundComma choice k (suc i) (m + size t) ts u v →
      SoundComma choice k i m (more t ts) u v
  comma_later choice k i m t ts u v s = (
    later Comma choice i m t ts u s.0,
    elim (has_cases (operand_events taken Comma choice (suc i) (m + size t) ts) (place k Val ∷ []) v s.1) [
      | inl x ↦ has_left (operand_events taken Comma choice i m (more t ts)) (place k Val ∷ []) v (later Comma choice i m t ts v x)
      | inr x ↦ has_right (operand_events taken Comma choice i m (more t ts)) (place k Val ∷ []) v x
    ],
    s.2,
  )

  node_sound : (class : Class) (ts : Trees) (k : ℕ) (u v : Place) → takes class ts ≡ true → are_formed ts ≡ true → Rule k (node class ts) →
      orders taken (node_term k class (terms_for (suc k) ts)) u v ≡ true
      → AmongSound class ts k u v → CommaSound ts k u v → ChoiceSound ts k u v → Sound k (node class ts) u v
  node_sound Object ts k u v s f r h among comma choice = absurd (true≢false (sym h))
  node_sound Constant ts k u v s f r h among comma choice = absurd (true≢false (sym h))
  node_sound Plain ts k u v s f r h among comma choice =
      elim (or_cases (has (listings taken (terms_from (terms_for (suc k) ts))) u && (not (is_effect u.kind) && has (place k Val ∷ []) v)) _ h) [
        | inl a ↦
            (let b = and_r (has (listings taken (terms_from (terms_for (suc k) ts))) u) _ a in
            let dv = and_r (not (is_effect u.kind)) _ b in
            to_own Plain ts k u v f r (plain_listed Plain ts k u refl f (and_l _ _ a)) (and_l _ _ b) dv
            (ap (λ (z : Place). not (is_body z.kind)) (lone v (place k Val) dv)))
        | inr a ↦ (elim (or_cases (orders_among taken (terms_from (terms_for (suc k) ts)) u v) false a) [
          | inl b ↦ from_operands Plain ts k u v (among refl f (rules_of Plain ts k r) b)
          | inr b ↦ absurd (true≢false (sym b))
        ])
      ]
  node_sound Store ts k u v s f r h among comma choice =
      elim (or_cases (has (listings taken (terms_from (terms_for (suc k) ts))) u && (not (is_effect u.kind) && has (place k Val ∷ place k Eff ∷ []) v)) _ h) [
        | inl a ↦
            (let b = and_r (has (listings taken (terms_from (terms_for (suc k) ts))) u) _ a in
            let dv = and_r (not (is_effect u.kind)) _ b in
            to_own Store ts k u v f r (plain_listed Store ts k u refl f (and_l _ _ a)) (and_l _ _ b) dv (two_not_body k v dv))
        | inr a ↦ (elim (or_cases (orders_among taken (terms_from (terms_for (suc k) ts)) u v) false a) [
          | inl b ↦ from_operands Store ts k u v (among refl f (rules_of Store ts k r) b)
          | inr b ↦ absurd (true≢false (sym b))
        ])
      ]
  node_sound Update ts k u v s f r h among comma choice =
      elim (or_cases (has (listings taken (terms_from (terms_for (suc k) ts))) u && (not (is_effect u.kind) && has (place k Val ∷ place k Eff ∷ []) v)) _ h) [
        | inl a ↦
            (let b = and_r (has (listings taken (terms_from (terms_for (suc k) ts))) u) _ a in
            let dv = and_r (not (is_effect u.kind)) _ b in
            to_own Update ts k u v f r (plain_listed Update ts k u refl f (and_l _ _ a)) (and_l _ _ b) dv (two_not_body k v dv))
        | inr a ↦ (elim (or_cases (orders_among taken (terms_from (terms_for (suc k) ts)) u v) _ a) [
          | inl b ↦ from_operands Update ts k u v (among refl f (rules_of Update ts k r) b)
          | inr b ↦ (elim (or_cases (has (place k Val ∷ []) u && (not (is_effect u.kind) && has (place k Eff ∷ []) v)) false b) [
            | inl x ↦
                (let eu = lone u (place k Val) (and_l _ _ x) in
                let ev = lone v (place k Eff) (and_r (not (is_effect u.kind)) _ (and_r (has (place k Val ∷ []) u) _ x)) in
                let d = has_itself (place k Val) (place k Eff ∷ []) in
                let g = or_b (same_place (place k Eff) (place k Val)) _ (has_itself (place k Eff) []) in
                from_own Update ts k u v (subst (λ z. has (own_events k Update) z ≡ true) (sym eu) d)
                (subst (λ z. has (own_events k Update) z ≡ true) (sym ev) g)
                (subst (λ z. R z v) (sym eu) (subst (λ z. R (place k Val) z) (sym ev) (own_rules Update ts k Val Eff r d g refl))))
            | inr x ↦ absurd (true≢false (sym x))
          ])
        ])
      ]
  node_sound Call ts k u v s f r h among comma choice =
      elim (or_cases (has (listings taken (terms_from (terms_for (suc k) ts)) ++ place k Body ∷ []) u && (not (is_effect u.kind) && has (place k Val ∷ []) v))
      _
      h) [
        | inl a ↦
            (let b = and_r (has (listings taken (terms_from (terms_for (suc k) ts)) ++ place k Body ∷ []) u) _ a in
            let dv = and_r (not (is_effect u.kind)) _ b in
            let ev = lone v (place k Val) dv in
            elim (has_cases (listings taken (terms_from (terms_for (suc k) ts))) (place k Body ∷ []) u (and_l _ _ a)) [
              | inl x ↦ to_own Call ts k u v f r (plain_listed Call ts k u refl f x) (and_l _ _ b) (or_b (same_place v (place k Body)) _ dv)
                  (ap (λ (z : Place). not (is_body z.kind)) ev)
              | inr x ↦ call_own Call ts k u v refl r (lone u (place k Body) x) ev
            ])
        | inr a ↦ (elim (or_cases (orders taken (strong (unseq (terms_from (terms_for (suc k) ts))) (body k)) u v) false a) [
          | inl b ↦ (elim (or_cases (has (listings taken (terms_from (terms_for (suc k) ts))) u && has (place k Body ∷ []) v) _ b) [
            | inl x ↦
                (let du = plain_listed Call ts k u refl f (and_l _ _ x) in
                let ev = lone v (place k Body) (and_r (has (listings taken (terms_from (terms_for (suc k) ts))) u) _ x) in
                from_event Call ts k u v du (subst (λ z. has (own_events k Call) z ≡ true) (sym ev) (has_itself (place k Body) (place k Val ∷ [])))
                (at_kind u v k Body ev (all_to_body ts (taken k) k 0 (suc k) u (rules_of Call ts k r) du)))
            | inr x ↦ (elim (or_cases (orders_among taken (terms_from (terms_for (suc k) ts)) u v) false x) [
              | inl y ↦ from_operands Call ts k u v (among refl f (rules_of Call ts k r) y)
              | inr y ↦ absurd (true≢false (sym y))
            ])
          ])
          | inr b ↦ absurd (true≢false (sym b))
        ])
      ]
  node_sound Comma ts k u v s f r h among comma choice =
      let x = comma f (rules_of Comma ts k r) h in (has_left (operand_events taken Comma (taken k) 0 (suc k) ts) (own_events k Comma) u x.0, x.1, x.2)
  node_sound Choice ts k u v s f r h among comma choice =
      elim (or_cases (has (listing taken (choice_of k (terms_for (suc k) ts))) u && (not (is_effect u.kind) && has (place k Val ∷ []) v)) _ h) [
        | inl a ↦
            (let b = and_r (has (listing taken (choice_of k (terms_for (suc k) ts))) u) _ a in
            let dv = and_r (not (is_effect u.kind)) _ b in
            to_own Choice ts k u v f r (ap (λ z. has z u) (sym (listed_choice taken ts k (suc k) s f)) ∙ and_l _ _ a) (and_l _ _ b) dv
            (ap (λ (z : Place). not (is_body z.kind)) (lone v (place k Val) dv)))
        | inr a ↦ (elim (or_cases (orders taken (choice_of k (terms_for (suc k) ts)) u v) false a)
            [ inl b ↦ choice s f r b | inr b ↦ absurd (true≢false (sym b)) ])
      ]
  node_sound Isolated ts k u v s f r h among comma choice =
      elim (or_cases (has (place k Body ∷ []) u && (not (is_effect u.kind) && has (place k Val ∷ []) v)) _ h) [
        | inl a ↦ call_own Isolated ts k u v refl r (lone u (place k Body) (and_l _ _ a))
            (lone v (place k Val) (and_r (not (is_effect u.kind)) _ (and_r (has (place k Body ∷ []) u) _ a)))
        | inr a ↦ absurd (true≢false (sym a))
      ]

  mutual
    pub sound : (t : Tree) (k : ℕ) (u v : Place) → is_formed t ≡ true → Rule k t → orders taken (term_for k t) u v ≡ true → Sound k t u v
    sound (node class ts) k u v f r h =
        node_sound class ts k u v (and_l (takes class ts) _ f) (and_r (takes class ts) _ f) r h
        (λ c x y z. sound_among ts class (taken k) k 0 (suc k) u v c x y z) (λ x y z. sound_comma ts (taken k) k 0 (suc k) u v x y z)
        (λ s x y z. sound_choice ts k u v s x y z)

    sound_among : (ts : Trees) (class : Class) (choice : Option ℕ) (k i m : ℕ) (u v : Place) → is_choice class ≡ false → are_formed ts ≡ true →
        Rules class choice k i m ts → orders_among taken (terms_from (terms_for m ts)) u v ≡ true → SoundAmong class choice i m ts u v
    sound_among none class choice k i m u v c f r h = absurd (true≢false (sym h))
    sound_among (more t ts) class choice k i m u v c f r h = elim (or_cases (orders taken (term_for m t) u v) _ h) [
      | inl a ↦ (let g = all_go class choice i c in from_first class choice i m t ts u v g
          (sound t m u v (and_l (is_formed t) _ f) (rule_first class choice k i m t ts g r) a))
      | inr a ↦ from_later class choice i m t ts u v
          (sound_among ts class choice k (suc i) (m + size t) u v c (and_r (is_formed t) _ f) (rules_rest class choice k i m t ts r) a)
    ]

    sound_comma : (ts : Trees) (choice : Option ℕ) (k i m : ℕ) (u v : Place) → are_formed ts ≡ true → Rules Comma choice k i m ts →
        orders taken (comma_of k (terms_for m ts)) u v ≡ true → SoundComma choice k i m ts u v
    sound_comma none choice k i m u v f r h = absurd (true≢false (sym h))
    sound_comma (more t none) choice k i m u v f r h =
        let ft = and_l (is_formed t) _ f in
        elim (or_cases (has (listing taken (term_for m t)) u && (not (is_effect u.kind) && has (place k Val ∷ []) v)) _ h) [
          | inl a ↦
              (let b = and_r (has (listing taken (term_for m t)) u) _ a in
              let dv = and_r (not (is_effect u.kind)) _ b in
              let du = first Comma choice i m t none u refl (ap (λ z. has z u) (sym (listed taken t m ft)) ∙ and_l _ _ a) in (
                du,
                has_right (operand_events taken Comma choice i m (more t none)) (place k Val ∷ []) v dv,
                at_kind u v k Val (lone v (place k Val) dv)
                    (to_event (more t none) Comma choice k i m u Val f r du (and_l _ _ b) (has_itself (place k Val) []) refl),
              ))
          | inr a ↦ (elim (or_cases (orders taken (term_for m t) u v) false a) [
            | inl b ↦ comma_first choice k i m t none u v (sound t m u v ft (rule_first Comma choice k i m t none refl r) b)
            | inr b ↦ absurd (true≢false (sym b))
          ])
        ]
    sound_comma (more t (more t2 us)) choice k i m u v f r h =
        let ft = and_l (is_formed t) _ f in
        let fs = and_r (is_formed t) _ f in
        let q = m + size t in
        elim (or_cases (has (listing taken (term_for m t)) u && has (listing taken (comma_of k (terms_for q (more t2 us)))) v) _ h) [
          | inl a ↦
              (let hu = ap (λ z. has z u) (sym (listed taken t m ft)) ∙ and_l _ _ a in
              let du = first Comma choice i m t (more t2 us) u refl hu in
              let hv = ap (λ z. has z v) (sym (listed_comma taken (more t2 us) choice k (suc i) q fs)) ∙ and_r (has (listing taken (term_for m t)) u) _ a in
              elim (has_cases (operand_events taken Comma choice (suc i) q (more t2 us)) (place k Val ∷ []) v hv) [
                | inl x ↦ (
                  du,
                  has_left (operand_events taken Comma choice i m (more t (more t2 us))) (place k Val ∷ []) v (later Comma choice i m t (more t2 us) v x),
                  later_rule Comma choice k i m t (more t2 us) u v r refl hu x (comma_in taken (more t2 us) choice i (suc i) q v (omega arith) x),
                )
                | inr x ↦ (
                  du,
                  has_right (operand_events taken Comma choice i m (more t (more t2 us))) (place k Val ∷ []) v x,
                  at_kind u v k Val (lone v (place k Val) x) (up_rule Comma choice k i m t (more t2 us) u Val r refl hu (has_itself (place k Val) []) refl),
                )
              ])
          | inr a ↦ (elim (or_cases (orders taken (term_for m t) u v) _ a) [
            | inl b ↦ comma_first choice k i m t (more t2 us) u v (sound t m u v ft (rule_first Comma choice k i m t (more t2 us) refl r) b)
            | inr b ↦ comma_later choice k i m t (more t2 us) u v
                (sound_comma (more t2 us) choice k (suc i) q u v fs (rules_rest Comma choice k i m t (more t2 us) r) b)
          ])
        ]

    sound_choice : (ts : Trees) (k : ℕ) (u v : Place) → is_last (after (after (after ts))) ≡ true → are_formed ts ≡ true → Rule k (node Choice ts) →
        orders taken (choice_of k (terms_for (suc k) ts)) u v ≡ true → Sound k (node Choice ts) u v
    sound_choice none k u v s f r h = absurd (no_continuation (taken k) h)
    sound_choice (more a ts) k u v s f r h =
        let fa = and_l (is_formed a) _ f in
        let fs = and_r (is_formed a) _ f in
        let q = suc k + size a in
        let rs = rules_of Choice (more a ts) k r in
        elim (or_cases (has (listing taken (term_for (suc k) a)) u &&
        after_test k (taken k) (listing taken (head_of k (terms_for q ts))) (listing taken (head_of k (rest_of (terms_for q ts)))) v) _ h) [
          | inl x ↦
              (let hu = ap (λ z. has z u) (sym (listed taken a (suc k) fa)) ∙ and_l _ _ x in
              let t = and_r (has (listing taken (term_for (suc k) a)) u) _ x in
              let du = first Choice (taken k) 0 (suc k) a ts u refl hu in
              elim (or_cases (same_place v (place k Val)) _ (and_r (is_some (taken k)) _ t)) [
                | inl y ↦
                    (let ev = same_eq v (place k Val) y in
                    from_event Choice (more a ts) k u v du (subst (λ z. has (place k Val ∷ []) z ≡ true) (sym ev) (has_itself (place k Val) []))
                    (at_kind u v k Val ev (up_rule Choice (taken k) k 0 (suc k) a ts u Val rs refl hu (has_itself (place k Val) []) (and_l _ _ t))))
                | inr y ↦
                    (let hv = ap (λ z. has z v) (sym (listed_next taken ts k q s fs)) ∙ y in
                    from_operands Choice (more a ts) k u v (
                      du,
                      later Choice (taken k) 0 (suc k) a ts v hv,
                      later_rule Choice (taken k) k 0 (suc k) a ts u v rs refl hu hv (choice_in taken ts (taken k) 1 q v (omega arith) hv),
                    ))
              ])
          | inr x ↦ (elim (or_cases (orders taken (term_for (suc k) a) u v) _ x) [
            | inl y ↦ from_operands Choice (more a ts) k u v
                (from_first Choice (taken k) 0 (suc k) a ts u v refl (sound a (suc k) u v fa (rule_first Choice (taken k) k 0 (suc k) a ts refl rs) y))
            | inr y ↦ from_operands Choice (more a ts) k u v
                (from_later Choice (taken k) 0 (suc k) a ts u v (sound_next ts k q u v fs (rules_rest Choice (taken k) k 0 (suc k) a ts rs) y))
          ])
        ]

    sound_next : (ts : Trees) (k m : ℕ) (u v : Place) → are_formed ts ≡ true → Rules Choice (taken k) k 1 m ts
        → ((is_number (taken k) 1 && orders taken (head_of k (terms_for m ts)) u v) ||
        (is_number (taken k) 2 && orders taken (head_of k (rest_of (terms_for m ts))) u v)) ≡ true → SoundAmong Choice (taken k) 1 m ts u v
    sound_next none k m u v f r h = absurd (neither (is_number (taken k) 1) (is_number (taken k) 2) h)
    sound_next (more b ts) k m u v f r h = elim (or_cases (is_number (taken k) 1 && orders taken (term_for m b) u v) _ h) [
      | inl a ↦
          (let g = and_l (is_number (taken k) 1) _ a in
          from_first Choice (taken k) 1 m b ts u v g
          (sound b m u v (and_l (is_formed b) _ f) (rule_first Choice (taken k) k 1 m b ts g r) (and_r (is_number (taken k) 1) _ a)))
      | inr a ↦ from_later Choice (taken k) 1 m b ts u v
          (sound_last ts k (m + size b) u v (and_r (is_formed b) _ f) (rules_rest Choice (taken k) k 1 m b ts r) a)
    ]

    sound_last : (ts : Trees) (k m : ℕ) (u v : Place) → are_formed ts ≡ true → Rules Choice (taken k) k 2 m ts →
        (is_number (taken k) 2 && orders taken (head_of k (terms_for m ts)) u v) ≡ true → SoundAmong Choice (taken k) 2 m ts u v
    sound_last none k m u v f r h = absurd (true≢false (sym (and_r (is_number (taken k) 2) false h)))
    sound_last (more d ts) k m u v f r h =
        let g = and_l (is_number (taken k) 2) _ h in
        from_first Choice (taken k) 2 m d ts u v g
        (sound d m u v (and_l (is_formed d) _ f) (rule_first Choice (taken k) k 2 m d ts g r) (and_r (is_number (taken k) 2) _ h))

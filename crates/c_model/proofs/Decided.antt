-- Going down to the operand that holds an event decides the closure of the rules.
use Rattle.std.proofs.Common.{
  ◌≡◌,
  ℕ,
  suc,
  ◌+◌,
  ◌<◌,
  ◌≤◌,
  Bool,
  true,
  false,
  not,
  ◌&&◌,
  ◌||◌,
  ◌==◌,
  nat_lt,
  if◌then◌else◌,
  List,
  [],
  ◌∷◌,
  ◌++◌,
  map,
  Option,
  refl,
  sym,
  ap,
  subst,
  ◌∙◌,
  ◌⊎◌,
  inl,
  inr,
  true≢false,
  arith,
}
use Rattle.std.proofs.lemmas.Bool.Decides.{nat_tests}
use Rattle.ub_base.specs.declared.clause.Kind.{Kind}
use Rattle.ub_base.specs.declared.clause.Kind.TheVariants.{Val, Eff, Body}
use Rattle.ub_base.specs.Names.{same_kind}
use Rattle.c_typed.specs.declared.tree.Place.{Place}
use Rattle.c_typed.specs.declared.class.Class.{Class}
use Rattle.c_typed.specs.declared.class.Class.TheVariants.{Object, Constant, Update, Call}
use Rattle.c_typed.specs.Tree.{Tree, node, Trees, none, more, size, sizes, is_quiet, is_quiet_class, kinds_of}
use Rattle.c_typed.specs.Order.{
  Taken,
  goes,
  place,
  same_place,
  own_events,
  events,
  operand_events,
  has,
  is_val,
  is_body,
  across,
  upward,
  is_last,
  own_rule,
  in_later,
  comes,
  operand_rules,
}
use Rattle.c_typed.specs.Decide.{has_kind, due_in, due_among, lifts, crosses, is_before, rises, to_val, between}
use Rattle.c_model.proofs.Ranks.{eq_of, if_true, or_cases, and_l, and_r, In, events_in, operands_in, eq_eq}

pub and_b : (a b : Bool) → a ≡ true → b ≡ true → (a && b) ≡ true
and_b true b h k = k
and_b false b h k = h

pub or_a : (a b : Bool) → a ≡ true → (a || b) ≡ true
or_a true b h = refl
or_a false b h = absurd (cc)

pub or_b : (a b : Bool) → b ≡ true → (a || b) ≡ true
or_b true b h = refl
or_b false b h = h

pub or_map : (a b c d : Bool) → (a ≡ true → c ≡ true) → (b ≡ true → d ≡ true) → (a || b) ≡ true → (c || d) ≡ true
or_map true b c d f g h = or_a c d (f refl)
or_map false b c d f g h = or_b c d (g h)

pub and_map : (a b d : Bool) → (b ≡ true → d ≡ true) → (a && b) ≡ true → (a && d) ≡ true
and_map true b d f h = f h
and_map false b d f h = h

or_false : (a : Bool) → (a || false) ≡ a
or_false true = refl
or_false false = refl

and_false : (a : Bool) → (a && false) ≡ false
and_false true = refl
and_false false = refl

or_assoc : (a b c : Bool) → (a || (b || c)) ≡ ((a || b) || c)
or_assoc true b c = refl
or_assoc false b c = refl

pub not_true : (b : Bool) → (b ≡ true → ⊥) → b ≡ false
not_true true f = absurd (f refl)
not_true false f = refl

pub lt_of : (a b : ℕ) → nat_lt a b ≡ true → a < b
lt_of a b h = grind (arith, nat_tests, h)

pub ge_of : (a b : ℕ) → nat_lt a b ≡ false → b ≤ a
ge_of a b h = grind (arith, nat_tests, h)

pub ne_eq : (a b : ℕ) → (a ≡ b → ⊥) → (a == b) ≡ false
ne_eq a b h = grind (arith, nat_tests, h)

pub ne_of : (a b : ℕ) → (a == b) ≡ false → a ≡ b → ⊥
ne_of a b h e = true≢false (sym (eq_eq a b e) ∙ h)

pub val_kind : (kind : Kind) → is_val kind ≡ true → kind ≡ Val
val_kind Val h = refl
val_kind _ h = absurd (cc)

pub place_eq : (u : Place) (k : ℕ) (kind : Kind) → u.node ≡ k → u.kind ≡ kind → u ≡ place k kind
place_eq u k kind en ek = λ i. record { node = en i; kind = ek i }

-- the listing has what is due

own_has : (ks : List Kind) (k : ℕ) (u : Place) → has (map (place k) ks) u ≡ ((u.node == k) && has_kind ks u.kind)
own_has [] k u = sym (and_false (u.node == k))
own_has (x ∷ xs) k u = ap (λ z. same_place u (place k x) || z) (own_has xs k u) ∙ split (u.node == k) (same_kind u.kind x) (has_kind xs u.kind)
  where
    split : (a b c : Bool) → ((a && b) || (a && c)) ≡ (a && (b || c))
    split true b c = refl
    split false b c = refl

pub has_or : (xs ys : List Place) (u : Place) → has (xs ++ ys) u ≡ (has xs u || has ys u)
has_or [] ys u = refl
has_or (x ∷ xs) ys u = ap (λ z. same_place u x || z) (has_or xs ys u) ∙ or_assoc (same_place u x) (has xs u) (has ys u)

if_has : (c : Bool) (xs : List Place) (u : Place) → has (if c then xs else []) u ≡ (c && has xs u)
if_has true xs u = refl
if_has false xs u = refl

root_due : (b o d h w : Bool) → w ≡ (b && h) → (b ≡ true → o ≡ false) → o ≡ d → (o || w) ≡ (if b then h else d)
root_due true o d h w e f g = ap (λ z. z || w) (f refl) ∙ e
root_due false o d h w e f g = ap (λ z. o || z) e ∙ (or_false o ∙ g)

among_due : (b g x e d r dr : Bool) → x ≡ (g && e) → e ≡ d → r ≡ dr → (b ≡ true → r ≡ false) → (b ≡ false → e ≡ false) → (x || r) ≡ (if b then g && d else dr)
among_due true g x e d r dr q p s f h = ap (λ z. x || z) (f refl) ∙ (or_false x ∙ (q ∙ ap (λ z. g && z) p))
among_due false g x e d r dr q p s f h = ap (λ z. z || r) (q ∙ (ap (λ z. g && z) (h refl) ∙ and_false g)) ∙ s

mutual
  pub has_due : (taken : Taken) (t : Tree) (k : ℕ) (u : Place) → has (events taken k t) u ≡ due_in taken k t u
  has_due taken (node class ts) k u =
      has_or (operand_events taken class (taken k) 0 (suc k) ts) (own_events k class) u
      ∙ root_due (u.node == k) _ _ _ _ (own_has (kinds_of class) k u)
      (λ e. not_true _ (λ h. let r = operands_in taken class (taken k) ts 0 (suc k) u h in let q = eq_of u.node k e in absurd (omega (arith, r.0, q))))
      (has_among taken class (taken k) ts 0 (suc k) u)

  pub has_among : (taken : Taken) (class : Class) (choice : Option ℕ) (ts : Trees) (i m : ℕ) (u : Place) →
      has (operand_events taken class choice i m ts) u ≡ due_among taken class choice i m ts u
  has_among taken class choice none i m u = refl
  has_among taken class choice (more t ts) i m u =
      has_or (if goes class choice i then events taken m t else []) (operand_events taken class choice (suc i) (m + size t) ts) u
      ∙ among_due (nat_lt u.node (m + size t)) (goes class choice i) _ _ _ _ _ (if_has (goes class choice i) (events taken m t) u)
      (has_due taken t m u) (has_among taken class choice ts (suc i) (m + size t) u)
      (λ e. not_true _ (λ h. let r = operands_in taken class choice ts (suc i) (m + size t) u h in let q = lt_of u.node (m + size t) e in absurd
      (omega (arith, r.0, q))))
      (λ e. not_true _ (λ h. let r = events_in taken t m u h in let q = ge_of u.node (m + size t) e in absurd (omega (arith, r.1, q))))

pub due_has : (taken : Taken) (t : Tree) (k : ℕ) (u : Place) → due_in taken k t u ≡ true → has (events taken k t) u ≡ true
due_has taken t k u h = has_due taken t k u ∙ h

pub among_range : (taken : Taken) (class : Class) (choice : Option ℕ) (ts : Trees) (i m : ℕ) (u : Place) → due_among taken class choice i m ts u ≡ true →
    In m (sizes ts) u.node
among_range taken class choice ts i m u h = operands_in taken class choice ts i m u (has_among taken class choice ts i m u ∙ h)

pub loud_val : (class : Class) → not (is_quiet_class class) ≡ true → has_kind (kinds_of class) Val ≡ true
loud_val Object h = absurd (cc)
loud_val Constant h = absurd (cc)
loud_val _ h = refl

pub val_due : (taken : Taken) (t : Tree) (k : ℕ) → not (is_quiet t) ≡ true → due_in taken k t (place k Val) ≡ true
val_due taken (node class ts) k h = if_true (k == k) _ _ (eq_eq k k refl) ∙ loud_val class h

-- what the descent finds, follows from the rules

module _ (taken : Taken) (R : Place → Place → Type 0) (trans : (u v w : Place) → R u v → R v w → R u w) where
  abbrev Rule : ℕ → Tree → Type 0
  Rule k t = (u v : Place) → has (events taken k t) u ≡ true → has (events taken k t) v ≡ true → comes taken k t u v ≡ true → R u v

  abbrev Rules : Class → Option ℕ → ℕ → ℕ → ℕ → Trees → Type 0
  Rules class choice k i m ts = (u v : Place) → has (operand_events taken class choice i m ts) u ≡ true
      → (((v.node ≡ k) × (has_kind (kinds_of class) v.kind ≡ true)) ⊎ (has (operand_events taken class choice i m ts) v ≡ true))
      → operand_rules taken class choice k i m ts u v ≡ true → R u v

  rules_of : (class : Class) (ts : Trees) (k : ℕ) → Rule k (node class ts) → Rules class (taken k) k 0 (suc k) ts
  rules_of class ts k f u v du dv h =
      f u v (has_or os own u ∙ or_a _ _ du) (has_or os own v ∙ at dv) (or_b ((u.node == k) && ((v.node == k) && own_rule class u.kind v.kind)) _ h)
    where
      os : List Place
      os = operand_events taken class (taken k) 0 (suc k) ts

      own : List Place
      own = own_events k class

      at : (((v.node ≡ k) × (has_kind (kinds_of class) v.kind ≡ true)) ⊎ (has os v ≡ true)) → (has os v || has own v) ≡ true
      at (inl (e, h)) = or_b (has os v) _ (own_has (kinds_of class) k v ∙ and_b _ _ (eq_eq v.node k e) h)
      at (inr h) = or_a _ _ h

  rules_rest : (class : Class) (choice : Option ℕ) (k i m : ℕ) (t : Tree) (ts : Trees) → Rules class choice k i m (more t ts) →
      Rules class choice k (suc i) (m + size t) ts
  rules_rest class choice k i m t ts f u v du dv h = f u v (has_or first rest u ∙ or_b (has first u) _ du) (at dv) (or_b (goes class choice i && _) _ h)
    where
      first : List Place
      first = if goes class choice i then events taken m t else []

      rest : List Place
      rest = operand_events taken class choice (suc i) (m + size t) ts

      at : (((v.node ≡ k) × (has_kind (kinds_of class) v.kind ≡ true)) ⊎ (has rest v ≡ true)) → ((v.node ≡ k) × (has_kind (kinds_of class) v.kind ≡ true)) ⊎
          (has (first ++ rest) v ≡ true)
      at (inl x) = inl x
      at (inr h) = inr (has_or first rest v ∙ or_b (has first v) _ h)

  first_has : (class : Class) (choice : Option ℕ) (i m : ℕ) (t : Tree) (ts : Trees) (u : Place) → goes class choice i ≡ true →
      has (events taken m t) u ≡ true → has (operand_events taken class choice i m (more t ts)) u ≡ true
  first_has class choice i m t ts u g h =
      has_or (if goes class choice i then events taken m t else []) _ u ∙ or_a _ _ (if_has (goes class choice i) (events taken m t) u ∙ and_b _ _ g h)

  rule_first : (class : Class) (choice : Option ℕ) (k i m : ℕ) (t : Tree) (ts : Trees) → goes class choice i ≡ true → Rules class choice k i m (more t ts) →
      Rule m t
  rule_first class choice k i m t ts g f u v du dv h =
      f u v (first_has class choice i m t ts u g du) (inr (first_has class choice i m t ts v g dv))
      (or_a _ _ (and_b (goes class choice i) _ g (or_b ((u.node == m) && (is_val u.kind && (not (is_quiet t) && ((v.node == k) && not (is_body v.kind))))) _
      (or_b (has (events taken m t) u && _) _ h))))

  -- the rule of all of an operand before an event of its node
  up_rule : (class : Class) (choice : Option ℕ) (k i m : ℕ) (t : Tree) (ts : Trees) (u : Place) (kind : Kind) → Rules class choice k i m (more t ts) →
      goes class choice i ≡ true → has (events taken m t) u ≡ true → has_kind (kinds_of class) kind ≡ true → upward class choice i (is_last ts) kind ≡ true →
      R u (place k kind)
  up_rule class choice k i m t ts u kind f g du dk h =
      f u (place k kind) (first_has class choice i m t ts u g du) (inl (refl, dk))
      (or_a _ _ (and_b (goes class choice i) _ g (or_b ((u.node == m) && (is_val u.kind && (not (is_quiet t) && ((k == k) && not (is_body kind))))) _
      (or_a _ _ (and_b (has (events taken m t) u) _ du (or_a _ _ (and_b (k == k) _ (eq_eq k k refl) h)))))))

  -- the rule of the value of an operand
  val_rule : (class : Class) (choice : Option ℕ) (k i m : ℕ) (t : Tree) (ts : Trees) (kind : Kind) → Rules class choice k i m (more t ts) →
      goes class choice i ≡ true → not (is_quiet t) ≡ true → has_kind (kinds_of class) kind ≡ true → not (is_body kind) ≡ true → R (place m Val) (place k kind)
  val_rule class choice k i m t ts kind f g q dk nb =
      f (place m Val) (place k kind) (first_has class choice i m t ts (place m Val) g (due_has taken t m (place m Val) (val_due taken t m q))) (inl (refl, dk))
      (or_a _ _ (and_b (goes class choice i) _ g
      (or_a _ _ (and_b (m == m) _ (eq_eq m m refl) (and_b (not (is_quiet t)) _ q (and_b (k == k) _ (eq_eq k k refl) nb))))))

  later_rule : (class : Class) (choice : Option ℕ) (k i m : ℕ) (t : Tree) (ts : Trees) (u v : Place) → Rules class choice k i m (more t ts) →
      goes class choice i ≡ true → has (events taken m t) u ≡ true → has (operand_events taken class choice (suc i) (m + size t) ts) v ≡ true →
      in_later taken class choice i (suc i) (m + size t) ts v ≡ true → R u v
  later_rule class choice k i m t ts u v f g du dv h =
      f u v (first_has class choice i m t ts u g du)
      (inr (has_or (if goes class choice i then events taken m t else []) _ v ∙ or_b (has (if goes class choice i then events taken m t else []) v) _ dv))
      (or_a _ _ (and_b (goes class choice i) _ g (or_b ((u.node == m) && (is_val u.kind && (not (is_quiet t) && ((v.node == k) && not (is_body v.kind))))) _
      (or_a _ _ (and_b (has (events taken m t) u) _ du (or_b ((v.node == k) && upward class choice i (is_last ts) v.kind) _ h))))))

  crosses_later : (ts : Trees) (class : Class) (choice : Option ℕ) (i j m : ℕ) (v : Place) → due_among taken class choice j m ts v ≡ true →
      crosses class choice i j m ts v.node ≡ true → in_later taken class choice i j m ts v ≡ true
  crosses_later none class choice i j m v d h = h
  crosses_later (more t ts) class choice i j m v d h = step (nat_lt v.node (m + size t)) (crosses_later ts class choice i (suc j) (m + size t) v) d h
    where
      step : (b : Bool) → (due_among taken class choice (suc j) (m + size t) ts v ≡ true → crosses class choice i (suc j) (m + size t) ts v.node ≡ true →
          in_later taken class choice i (suc j) (m + size t) ts v ≡ true)
          → (if b then goes class choice j && due_in taken m t v else due_among taken class choice (suc j) (m + size t) ts v) ≡ true
          → (if b then across class choice i j else crosses class choice i (suc j) (m + size t) ts v.node) ≡ true
          → ((across class choice i j && has (events taken m t) v) || in_later taken class choice i (suc j) (m + size t) ts v) ≡ true
      step true f d h = or_a _ _ (and_b _ _ h (due_has taken t m v (and_r (goes class choice j) _ d)))
      step false f d h = or_b (across class choice i j && has (events taken m t) v) _ (f d h)

  upward_call : (class : Class) (choice : Option ℕ) (i : ℕ) (last : Bool) → upward class choice i last Body ≡ true → has_kind (kinds_of class) Body ≡ true
  upward_call Call choice i last h = refl
  upward_call _ choice i last h = absurd (cc)

  -- all of an operand before an event of its node, also by way of the body
  lift_sound : (class : Class) (choice : Option ℕ) (k i m : ℕ) (t : Tree) (ts : Trees) (u : Place) (kind : Kind) → Rules class choice k i m (more t ts)
      → (has_kind (kinds_of class) Body ≡ true → has_kind (kinds_of class) Val ≡ true → R (place k Body) (place k Val))
      → goes class choice i ≡ true → has (events taken m t) u ≡ true → has_kind (kinds_of class) kind ≡ true → lifts class choice i (is_last ts) kind ≡ true →
      R u (place k kind)
  lift_sound class choice k i m t ts u Eff f own g du dk h = up_rule class choice k i m t ts u Eff f g du dk h
  lift_sound class choice k i m t ts u Body f own g du dk h = up_rule class choice k i m t ts u Body f g du dk h
  lift_sound class choice k i m t ts u Val f own g du dk h = elim (or_cases (upward class choice i (is_last ts) Val) _ h) [
    | inl a ↦ up_rule class choice k i m t ts u Val f g du dk a
    | inr a ↦ (let b = upward_call class choice i (is_last ts) a in trans u (place k Body) (place k Val) (up_rule class choice k i m t ts u Body f g du b a)
        (own b dk))
  ]

  abbrev Own : Class → ℕ → Type 0
  Own class k = has_kind (kinds_of class) Body ≡ true → has_kind (kinds_of class) Val ≡ true → R (place k Body) (place k Val)

  rise_step : (b : Bool) (class : Class) (choice : Option ℕ) (k i m : ℕ) (t : Tree) (ts : Trees) (u : Place) (kind : Kind) →
      Rules class choice k i m (more t ts) → Own class k → has_kind (kinds_of class) kind ≡ true
      → (Rule m t → due_in taken m t u ≡ true → not (is_quiet t) ≡ true → to_val taken m t u ≡ true → (u ≡ place m Val) ⊎ R u (place m Val))
      → (Rules class choice k (suc i) (m + size t) ts → due_among taken class choice (suc i) (m + size t) ts u ≡ true →
      rises taken class choice (suc i) (m + size t) ts u kind ≡ true → R u (place k kind))
      → (if b then goes class choice i && due_in taken m t u else due_among taken class choice (suc i) (m + size t) ts u) ≡ true
      → (if b then lifts class choice i (is_last ts) kind || (not (is_body kind) && (not (is_quiet t) && to_val taken m t u)) else rises taken class choice
      (suc i) (m + size t) ts u kind) ≡ true
      → R u (place k kind)
  rise_step true class choice k i m t ts u kind f own dk x y d h =
      let g = and_l (goes class choice i) _ d in
      let du = and_r (goes class choice i) _ d in
      elim (or_cases (lifts class choice i (is_last ts) kind) _ h) [
        | inl a ↦ lift_sound class choice k i m t ts u kind f own g (due_has taken t m u du) dk a
        | inr a ↦
            (let nb = and_l (not (is_body kind)) _ a in
            let nq = and_l (not (is_quiet t)) _ (and_r (not (is_body kind)) _ a) in
            let tv = and_r (not (is_quiet t)) _ (and_r (not (is_body kind)) _ a) in
            let r = val_rule class choice k i m t ts kind f g nq dk nb in
            elim (x (rule_first class choice k i m t ts g f) du nq tv) [
              | inl e ↦ subst (λ z. R z (place k kind)) (sym e) r
              | inr s ↦ trans u (place m Val) (place k kind) s r
            ])
      ]
  rise_step false class choice k i m t ts u kind f own dk x y d h = y (rules_rest class choice k i m t ts f) d h

  own_of : (class : Class) (ts : Trees) (k : ℕ) → Rule k (node class ts) → Own class k
  own_of class ts k f db dv =
      f (place k Body) (place k Val) (own_due (place k Body) refl db) (own_due (place k Val) refl dv)
      (or_a _ _ (and_b (k == k) _ (eq_eq k k refl) (and_b (k == k) _ (eq_eq k k refl) (body_val class))))
    where
      own_due : (u : Place) → u.node ≡ k → has_kind (kinds_of class) u.kind ≡ true → has (events taken k (node class ts)) u ≡ true
      own_due u e h = due_has taken (node class ts) k u (if_true (u.node == k) _ _ (eq_eq u.node k e) ∙ h)

      body_val : (class : Class) → own_rule class Body Val ≡ true
      body_val Update = refl
      body_val _ = refl

  own_sound : (class : Class) (ts : Trees) (k : ℕ) (u v : Place) → Rule k (node class ts) → due_in taken k (node class ts) u ≡ true →
      due_in taken k (node class ts) v ≡ true → u.node ≡ k → v.node ≡ k → own_rule class u.kind v.kind ≡ true → R u v
  own_sound class ts k u v f du dv eu ev h =
      f u v (due_has taken (node class ts) k u du) (due_has taken (node class ts) k v dv)
      (or_a _ _ (and_b (u.node == k) _ (eq_eq u.node k eu) (and_b (v.node == k) _ (eq_eq v.node k ev) h)))

  root_step : (b b2 : Bool) (class : Class) (ts : Trees) (k : ℕ) (u v : Place) → (u.node == k) ≡ b → (v.node == k) ≡ b2 → Rule k (node class ts)
      → due_in taken k (node class ts) u ≡ true → due_in taken k (node class ts) v ≡ true
      → (Rules class (taken k) k 0 (suc k) ts → Own class k → (kind : Kind) → has_kind (kinds_of class) kind ≡ true →
      due_among taken class (taken k) 0 (suc k) ts u ≡ true → rises taken class (taken k) 0 (suc k) ts u kind ≡ true → R u (place k kind))
      → (Rules class (taken k) k 0 (suc k) ts → due_among taken class (taken k) 0 (suc k) ts u ≡ true →
      due_among taken class (taken k) 0 (suc k) ts v ≡ true → between taken class (taken k) 0 (suc k) ts u v ≡ true → R u v)
      → (if b then has_kind (kinds_of class) u.kind else due_among taken class (taken k) 0 (suc k) ts u) ≡ true
      → (if b2 then has_kind (kinds_of class) v.kind else due_among taken class (taken k) 0 (suc k) ts v) ≡ true
      → (if b then (v.node == k) && own_rule class u.kind v.kind else (if b2 then rises taken class (taken k) 0 (suc k) ts u v.kind else between taken class
      (taken k) 0 (suc k) ts u v)) ≡ true
      → R u v
  root_step true b2 class ts k u v eu ev f du dv x y cu cv h =
      own_sound class ts k u v f du dv (eq_of u.node k eu) (eq_of v.node k (and_l (v.node == k) _ h)) (and_r (v.node == k) _ h)
  root_step false true class ts k u v eu ev f du dv x y cu cv h =
      let r = x (rules_of class ts k f) (own_of class ts k f) v.kind cv cu h in
      subst (λ z. R u z) (sym (place_eq v k v.kind (eq_of v.node k ev) refl)) r
  root_step false false class ts k u v eu ev f du dv x y cu cv h = y (rules_of class ts k f) cu cv h

  val_step : (b : Bool) (class : Class) (ts : Trees) (k : ℕ) (u : Place) → (u.node == k) ≡ b → Rule k (node class ts) →
      due_in taken k (node class ts) u ≡ true → not (is_quiet_class class) ≡ true
      → (Rules class (taken k) k 0 (suc k) ts → Own class k → has_kind (kinds_of class) Val ≡ true → due_among taken class (taken k) 0 (suc k) ts u ≡ true →
      rises taken class (taken k) 0 (suc k) ts u Val ≡ true → R u (place k Val))
      → (if b then has_kind (kinds_of class) u.kind else due_among taken class (taken k) 0 (suc k) ts u) ≡ true
      → (if b then is_val u.kind || own_rule class u.kind Val else rises taken class (taken k) 0 (suc k) ts u Val) ≡ true
      → (u ≡ place k Val) ⊎ R u (place k Val)
  val_step true class ts k u eu f du q x cu h = elim (or_cases (is_val u.kind) _ h) [
    | inl a ↦ inl (place_eq u k Val (eq_of u.node k eu) (val_kind u.kind a))
    | inr a ↦ inr (own_sound class ts k u (place k Val) f du (val_due taken (node class ts) k q) (eq_of u.node k eu) refl a)
  ]
  val_step false class ts k u eu f du q x cu h = inr (x (rules_of class ts k f) (own_of class ts k f) (loud_val class q) cu h)

  between_step : (b b2 : Bool) (class : Class) (choice : Option ℕ) (k i m : ℕ) (t : Tree) (ts : Trees) (u v : Place) → Rules class choice k i m (more t ts)
      → (Rule m t → due_in taken m t u ≡ true → due_in taken m t v ≡ true → is_before taken m t u v ≡ true → R u v)
      → (Rules class choice k (suc i) (m + size t) ts → due_among taken class choice (suc i) (m + size t) ts u ≡ true →
      due_among taken class choice (suc i) (m + size t) ts v ≡ true → between taken class choice (suc i) (m + size t) ts u v ≡ true → R u v)
      → (if b then goes class choice i && due_in taken m t u else due_among taken class choice (suc i) (m + size t) ts u) ≡ true
      → (if b2 then goes class choice i && due_in taken m t v else due_among taken class choice (suc i) (m + size t) ts v) ≡ true
      → (if b then (if b2 then is_before taken m t u v else crosses class choice i (suc i) (m + size t) ts v.node)
      else (if b2 then false else between taken class choice (suc i) (m + size t) ts u v)) ≡ true
      → R u v
  between_step true true class choice k i m t ts u v f x y du dv h =
      x (rule_first class choice k i m t ts (and_l _ _ du) f) (and_r (goes class choice i) _ du) (and_r (goes class choice i) _ dv) h
  between_step true false class choice k i m t ts u v f x y du dv h =
      later_rule class choice k i m t ts u v f (and_l _ _ du) (due_has taken t m u (and_r (goes class choice i) _ du))
      (has_among taken class choice ts (suc i) (m + size t) v ∙ dv) (crosses_later ts class choice i (suc i) (m + size t) v dv h)
  between_step false true class choice k i m t ts u v f x y du dv h = absurd (true≢false (sym h))
  between_step false false class choice k i m t ts u v f x y du dv h = y (rules_rest class choice k i m t ts f) du dv h

  mutual
    pub sound : (t : Tree) (k : ℕ) → Rule k t → (u v : Place) → due_in taken k t u ≡ true → due_in taken k t v ≡ true → is_before taken k t u v ≡ true → R u v
    sound (node class ts) k f u v du dv h =
        root_step (u.node == k) (v.node == k) class ts k u v refl refl f du dv
        (λ g own kind dk d r. sound_rises ts class (taken k) k 0 (suc k) u kind g own dk d r)
        (λ g d e r. sound_between ts class (taken k) k 0 (suc k) u v g d e r) du dv h

    sound_val : (t : Tree) (k : ℕ) → Rule k t → (u : Place) → due_in taken k t u ≡ true → not (is_quiet t) ≡ true → to_val taken k t u ≡ true →
        (u ≡ place k Val) ⊎ R u (place k Val)
    sound_val (node class ts) k f u du q h = val_step (u.node == k) class ts k u refl f du q
        (λ g own dk d r. sound_rises ts class (taken k) k 0 (suc k) u Val g own dk d r) du h

    sound_rises : (ts : Trees) (class : Class) (choice : Option ℕ) (k i m : ℕ) (u : Place) (kind : Kind) → Rules class choice k i m ts → Own class k →
        has_kind (kinds_of class) kind ≡ true → due_among taken class choice i m ts u ≡ true → rises taken class choice i m ts u kind ≡ true →
        R u (place k kind)
    sound_rises none class choice k i m u kind f own dk d h = absurd (true≢false (sym h))
    sound_rises (more t ts) class choice k i m u kind f own dk d h =
        rise_step (nat_lt u.node (m + size t)) class choice k i m t ts u kind f own dk (λ g e q r. sound_val t m g u e q r)
        (λ g e r. sound_rises ts class choice k (suc i) (m + size t) u kind g own dk e r) d h

    sound_between : (ts : Trees) (class : Class) (choice : Option ℕ) (k i m : ℕ) (u v : Place) → Rules class choice k i m ts →
        due_among taken class choice i m ts u ≡ true → due_among taken class choice i m ts v ≡ true → between taken class choice i m ts u v ≡ true → R u v
    sound_between none class choice k i m u v f du dv h = absurd (true≢false (sym h))
    sound_between (more t ts) class choice k i m u v f du dv h =
        between_step (nat_lt u.node (m + size t)) (nat_lt v.node (m + size t)) class choice k i m t ts u v f (λ g d e r. sound t m g u v d e r)
        (λ g d e r. sound_between ts class choice k (suc i) (m + size t) u v g d e r) du dv h

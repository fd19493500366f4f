-- A choice that is made at the value of a first operand changes nothing of what is listed up to that value.
use Rattle.std.proofs.Common.{◌≡◌, ℕ, suc, ◌+◌, ◌<◌, ◌≤◌, Bool, true, false, not, ◌&&◌, ◌||◌, ◌==◌, nat_lt, if◌then◌else◌, List, [], ◌∷◌, ◌++◌, append_assoc}
use Rattle.std.proofs.Common.{Option, refl, sym, ap, ap₂, subst, ◌∙◌, ◌⊎◌, inl, inr, true≢false, arith}
use Rattle.ub_base.specs.declared.clause.Kind.TheVariants.{Val, Eff, Body}
use Rattle.c_typed.specs.declared.tree.Place.{Place}
use Rattle.c_typed.specs.declared.class.Class.{Class}
use Rattle.c_typed.specs.declared.class.Class.TheVariants.{Object, Constant, Plain, Store, Update, Choice, Comma, Call, Isolated}
use Rattle.c_typed.specs.Tree.{Tree, node, Trees, none, more, size, sizes, kinds_of}
use Rattle.c_typed.specs.Order.{Taken, goes, place, same_place, own_events, events, operand_events, is_choice, has}
use Rattle.c_typed.specs.Decide.{has_kind, due_in, due_among}
use Rattle.c_model.proofs.Ranks.{lt_lt, if_true, if_false, and_l, and_r, size_pos, eq_eq}
use Rattle.c_model.proofs.Decided.{or_a, or_b, ne_eq, lt_of, ge_of, has_or, has_due}
use Rattle.c_model.proofs.Listed.{listed_once, same_place_itself}

-- where an event that isn't in what comes before it stands twice, it is the same place
pub cut : (us vs ws xs : List Place) (v : Place) → us ++ v ∷ vs ≡ ws ++ v ∷ xs → has us v ≡ false → has ws v ≡ false → (us ≡ ws) × (vs ≡ xs)
cut [] vs [] xs v e f g = (refl, let h : vs ≡ xs = cc in h)
cut [] vs (w ∷ ws) xs v e f g = absurd (let h : v ≡ w = cc in true≢false (sym (or_a _ _ (subst (λ z. same_place v z ≡ true) h (same_place_itself v))) ∙ g))
cut (u ∷ us) vs [] xs v e f g = absurd (let h : v ≡ u = cc in true≢false (sym (or_a _ _ (subst (λ z. same_place v z ≡ true) h (same_place_itself v))) ∙ f))
cut (u ∷ us) vs (w ∷ ws) xs v e f g =
    let h : us ++ v ∷ vs ≡ ws ++ v ∷ xs = cc in
    let k : u ≡ w = cc in
    let r = cut us vs ws xs v h (or_right (same_place v u) _ f) (or_right (same_place v w) _ g) in
    (ap₂ (λ x y. x ∷ y) k r.0, r.1)
  where
    or_right : (a b : Bool) → (a || b) ≡ false → b ≡ false
    or_right true b h = absurd (true≢false h)
    or_right false b h = h

module _ (taken later : Taken) (n : ℕ) (agree : (k : ℕ) → (k ≡ n → ⊥) → later k ≡ taken k) where
  abbrev x : Place
  x = place (suc n) Val

  -- nodes before this one, and behind it
  mutual
    same : (t : Tree) (k : ℕ) → (n < k) ⊎ (k + size t ≤ suc n) → events later k t ≡ events taken k t
    same (node class none) k far = refl
    same (node class (more t ts)) k far =
        let z = size_pos t in
        let apart : later k ≡ taken k = agree k (λ q. elim far [ inl h ↦ omega (arith, h, q) | inr h ↦ omega (arith, h, q, z) ]) in
        let below : (n < suc k) ⊎ (suc k + sizes (more t ts) ≤ suc n) =
        elim far [ inl h ↦ inl (omega (arith, h)) | inr h ↦ inr (omega (arith, h)) ] in
        ap (λ us. us ++ own_events k class)
        (ap (λ c. operand_events later class c 0 (suc k) (more t ts)) apart ∙ same_among (more t ts) class (taken k) 0 (suc k) below)

    same_among : (ts : Trees) (class : Class) (c : Option ℕ) (i m : ℕ) → (n < m) ⊎ (m + sizes ts ≤ suc n) →
        operand_events later class c i m ts ≡ operand_events taken class c i m ts
    same_among none class c i m far = refl
    same_among (more t ts) class c i m far =
        let first : (n < m) ⊎ (m + size t ≤ suc n) = elim far [ inl h ↦ inl h | inr h ↦ inr (omega (arith, h)) ] in
        let rest : (n < m + size t) ⊎ (m + size t + sizes ts ≤ suc n) =
        elim far [ inl h ↦ inl (omega (arith, h)) | inr h ↦ inr (omega (arith, h)) ] in
        ap₂ (λ us vs. (if goes class c i then us else []) ++ vs) (same t m first) (same_among ts class c (suc i) (m + size t) rest)

  -- the two list the same up to x
  abbrev Shares : (old new : List Place) → Type 0
  Shares old new = (us : List Place) × (vs : List Place) × (ws : List Place) × (old ≡ us ++ x ∷ vs) × (new ≡ us ++ x ∷ ws)

  shares_behind : (old new ps qs : List Place) → Shares old new → Shares (old ++ ps) (new ++ qs)
  shares_behind old new ps qs s = (
    s.0,
    s.1 ++ ps,
    s.2 ++ qs,
    ap (λ z. z ++ ps) s.3 ∙ append_assoc s.0 (x ∷ s.1) ps,
    ap (λ z. z ++ qs) s.4 ∙ append_assoc s.0 (x ∷ s.2) qs,
  )

  shares_before : (ps old new : List Place) → Shares old new → Shares (ps ++ old) (ps ++ new)
  shares_before ps old new s = (
    ps ++ s.0,
    s.1,
    s.2,
    ap (λ z. ps ++ z) s.3 ∙ sym (append_assoc ps s.0 (x ∷ s.1)),
    ap (λ z. ps ++ z) s.4 ∙ sym (append_assoc ps s.0 (x ∷ s.2)),
  )

  shares_if : (a b : Bool) (old new : List Place) → a ≡ true → b ≡ true → Shares old new → Shares (if a then old else []) (if b then new else [])
  shares_if true true old new p q s = s
  shares_if true false old new p q s = absurd (true≢false (sym q))
  shares_if false b old new p q s = absurd (true≢false (sym p))

  own_x : (class : Class) → has_kind (kinds_of class) Val ≡ true → (us : List Place) × (vs : List Place) × (own_events (suc n) class ≡ us ++ x ∷ vs)
  own_x Object h = absurd (true≢false (sym h))
  own_x Constant h = absurd (true≢false (sym h))
  own_x Plain h = ([], [], refl)
  own_x Store h = ([], place (suc n) Eff ∷ [], refl)
  own_x Update h = ([], place (suc n) Eff ∷ [], refl)
  own_x Choice h = ([], [], refl)
  own_x Comma h = ([], [], refl)
  own_x Call h = (place (suc n) Body ∷ [], [], refl)
  own_x Isolated h = (place (suc n) Body ∷ [], [], refl)

  -- the first operand of the node that chooses
  operand_shares : (t : Tree) → due_in taken (suc n) t x ≡ true → Shares (events taken (suc n) t) (events later (suc n) t)
  operand_shares (node class ts) due =
      let o = own_x class (sym (if_true (suc n == suc n) _ _ (eq_eq (suc n) (suc n) refl)) ∙ due) in
      let e : events later (suc n) (node class ts) ≡ events taken (suc n) (node class ts) = same (node class ts) (suc n) (inl (omega arith)) in
      let s = shares_before (operand_events taken class (taken (suc n)) 0 (suc (suc n)) ts) (own_events (suc n) class) (own_events (suc n) class)
      (o.0, o.1, o.1, o.2, o.2) in
      subst (λ z. Shares (events taken (suc n) (node class ts)) z) (sym e) s

  goes_first : (class : Class) (c : Option ℕ) → goes class c 0 ≡ true
  goes_first class c = or_b (not (is_choice class)) _ refl

  node_shares : (class : Class) (ts : Trees) → due_in taken n (node class ts) x ≡ true →
      Shares (events taken n (node class ts)) (events later n (node class ts))
  node_shares class none due = absurd (true≢false (sym (sym (if_false (suc n == n) _ _ (ne_eq (suc n) n (λ e. omega (arith, e)))) ∙ due)))
  node_shares class (more t ts) due =
      let z = size_pos t in
      let among : due_among taken class (taken n) 0 (suc n) (more t ts) x ≡ true =
      sym (if_false (suc n == n) _ _ (ne_eq (suc n) n (λ e. omega (arith, e)))) ∙ due in
      let first = sym (if_true _ _ _ (lt_lt (suc n) (suc n + size t) (omega (arith, z)))) ∙ among in
      shares_behind _ _ (own_events n class) (own_events n class)
      (shares_behind _ _ (operand_events taken class (taken n) 1 (suc n + size t) ts) (operand_events later class (later n) 1 (suc n + size t) ts)
      (shares_if (goes class (taken n) 0) (goes class (later n) 0) _ _ (goes_first class (taken n)) (goes_first class (later n))
      (operand_shares t (and_r (goes class (taken n) 0) _ first))))

  abbrev Extends : (old new : List Place) → Type 0
  Extends old new = (new ≡ old) ⊎ Shares old new

  below_or_above : (k : ℕ) → (n < k) ⊎ ((n ≡ k) ⊎ (k < n))
  below_or_above k = grind arith

  extends_step : (b : Bool) (t : Tree) (ts : Trees) (class : Class) (c : Option ℕ) (i m : ℕ) → nat_lt (suc n) (m + size t) ≡ b
      → (due_in taken m t x ≡ true → Extends (events taken m t) (events later m t))
      → (due_among taken class c (suc i) (m + size t) ts x ≡ true →
      Extends (operand_events taken class c (suc i) (m + size t) ts) (operand_events later class c (suc i) (m + size t) ts))
      → (if b then goes class c i && due_in taken m t x else due_among taken class c (suc i) (m + size t) ts x) ≡ true
      → Extends (operand_events taken class c i m (more t ts)) (operand_events later class c i m (more t ts))
  extends_step true t ts class c i m e first rest d =
      let l = lt_of (suc n) (m + size t) e in
      let g = and_l (goes class c i) _ d in
      elim (first (and_r (goes class c i) _ d)) [
        | inl s ↦ inl (ap₂ (λ us vs. (if goes class c i then us else []) ++ vs) s (same_among ts class c (suc i) (m + size t) (inl (omega (arith, l)))))
        | inr s ↦ inr (shares_behind _ _ (operand_events taken class c (suc i) (m + size t) ts) (operand_events later class c (suc i) (m + size t) ts)
            (shares_if (goes class c i) (goes class c i) _ _ g g s))
      ]
  extends_step false t ts class c i m e first rest d =
      let l = ge_of (suc n) (m + size t) e in
      let f : events later m t ≡ events taken m t = same t m (inr l) in
      elim (rest d) [
        | inl s ↦ inl (ap₂ (λ us vs. (if goes class c i then us else []) ++ vs) f s)
        | inr s ↦ inr (subst (λ us. Shares (operand_events taken class c i m (more t ts))
            ((if goes class c i then us else []) ++ operand_events later class c (suc i) (m + size t) ts)) (sym f)
            (shares_before (if goes class c i then events taken m t else []) _ _ s))
      ]

  extends_root : (class : Class) (ts : Trees) (k : ℕ)
      → (due_among taken class (taken k) 0 (suc k) ts x ≡ true →
      Extends (operand_events taken class (taken k) 0 (suc k) ts) (operand_events later class (taken k) 0 (suc k) ts))
      → due_in taken k (node class ts) x ≡ true → Extends (events taken k (node class ts)) (events later k (node class ts))
  extends_root class ts k among due = elim (below_or_above k) [
    | inl h ↦ inl (same (node class ts) k (inl h))
    | inr g ↦ (elim g [
      | inl q ↦ inr (subst (λ z. due_in taken z (node class ts) x ≡ true → Shares (events taken z (node class ts)) (events later z (node class ts))) q
          (node_shares class ts) due)
      | inr h ↦
          (let e : later k ≡ taken k = agree k (λ q. omega (arith, q, h)) in
          let d = sym (if_false (suc n == k) _ _ (ne_eq (suc n) k (λ q. omega (arith, q, h)))) ∙ due in
          elim (among d) [
            | inl s ↦ inl (ap (λ z. z ++ own_events k class) (ap (λ c. operand_events later class c 0 (suc k) ts) e ∙ s))
            | inr s ↦ inr (subst (λ c. Shares (events taken k (node class ts)) (operand_events later class c 0 (suc k) ts ++ own_events k class)) (sym e)
                (shares_behind _ _ (own_events k class) (own_events k class) s))
          ])
    ])
  ]

  mutual
    extends : (t : Tree) (k : ℕ) → due_in taken k t x ≡ true → Extends (events taken k t) (events later k t)
    extends (node class ts) k due = extends_root class ts k (extends_among ts class (taken k) 0 (suc k)) due

    extends_among : (ts : Trees) (class : Class) (c : Option ℕ) (i m : ℕ) → due_among taken class c i m ts x ≡ true →
        Extends (operand_events taken class c i m ts) (operand_events later class c i m ts)
    extends_among none class c i m due = absurd (true≢false (sym due))
    extends_among (more t ts) class c i m due =
        extends_step (nat_lt (suc n) (m + size t)) t ts class c i m refl (extends t m) (extends_among ts class c (suc i) (m + size t)) due

  has_at : (us vs : List Place) (v : Place) → has (us ++ v ∷ vs) v ≡ true
  has_at us vs v = has_or us (v ∷ vs) v ∙ or_b (has us v) _ (or_a _ _ (same_place_itself v))

  pub listed_further : (root : Tree) (us vs : List Place) → events taken 0 root ≡ us ++ x ∷ vs → (ws : List Place) × (events later 0 root ≡ us ++ x ∷ ws)
  listed_further root us vs listed =
      let due = sym (has_due taken root 0 x) ∙ ap (λ z. has z x) listed ∙ has_at us vs x in
      elim (extends root 0 due) [
        | inl s ↦ (vs, s ∙ listed)
        | inr s ↦
            (let r = cut s.0 s.1 us vs x (sym s.3 ∙ listed) (listed_once root taken s.0 s.1 x s.3) (listed_once root taken us vs x listed) in
            (s.2, subst (λ z. events later 0 root ≡ z ++ x ∷ s.2) r.0 s.4))
      ]

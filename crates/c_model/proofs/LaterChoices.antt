-- What a choice keeps in the tree of a full expression: which events are due, and which come before which.
use Rattle.std.proofs.Common.{
  ◌≡◌,
  ◌≢◌,
  ℕ,
  suc,
  ◌+◌,
  Bool,
  true,
  false,
  not,
  ◌&&◌,
  ◌||◌,
  ◌==◌,
  nat_lt,
  ◌<◌,
  ◌≤◌,
  if◌then◌else◌,
  true≢false,
  Option,
  Some,
  None,
  cond,
  refl,
  sym,
  ◌∙◌,
  subst,
  ◌⊎◌,
  inl,
  inr,
  arith,
}
use Rattle.std.proofs.lemmas.Bool.Decides.{nat_tests}
use Rattle.ub_base.specs.declared.clause.Kind.{Kind}
use Rattle.ub_base.specs.declared.clause.Kind.TheVariants.{Val, Eff, Body}
use Rattle.c_typed.specs.declared.tree.Place.{Place}
use Rattle.c_typed.specs.declared.class.Class.{Class}
use Rattle.c_typed.specs.declared.class.Class.TheVariants.{Object, Constant, Choice}
use Rattle.c_typed.specs.Tree.{Tree, node, Trees, none, more, size, sizes, is_quiet, kinds_of}
use Rattle.c_typed.specs.Order.{Taken, goes, own_rule, is_val, is_body, is_last, is_choice, is_number}
use Rattle.c_typed.specs.Decide.{due_in, due_among, has_kind, is_before, rises, to_val, between, crosses, lifts}

module _ (taken taken' : Taken) (kept : (k j : ℕ) → taken k ≡ Some j → taken' k ≡ Some j) where
  pub and_left : (a b : Bool) → (a && b) ≡ true → a ≡ true
  and_left true b h = refl
  and_left false b h = h

  pub and_right : (a b : Bool) → (a && b) ≡ true → b ≡ true
  and_right true b h = h
  and_right false b h = absurd (cc)

  pub and_both : (a b : Bool) → a ≡ true → b ≡ true → (a && b) ≡ true
  and_both a b ha hb = grind (arith, ha, hb)

  -- a choice that is made is kept
  goes_kept : (n : Class) (k i : ℕ) → goes n (taken k) i ≡ true → goes n (taken' k) i ≡ true
  goes_kept n k i h = go (taken k) (taken' k) (kept k) h
    where
      go : (c c' : Option ℕ) → ((j : ℕ) → c ≡ Some j → c' ≡ Some j) → goes n c i ≡ true → goes n c' i ≡ true
      go None c' f h = or_in (not (is_choice n)) (i == 0) (is_number c' i) h
        where
          or_in : (a b c : Bool) → (a || (b || false)) ≡ true → (a || (b || c)) ≡ true
          or_in true b c h = refl
          or_in false true c h = refl
          or_in false false c h = absurd (cc)
      go (Some j) c' f h = subst (λ x. goes n x i ≡ true) (sym (f j refl)) h

  pub if_kept : (b x y x' y' : Bool) → (x ≡ true → x' ≡ true) → (y ≡ true → y' ≡ true) → (cond b x y) ≡ true → (cond b x' y') ≡ true
  if_kept true x y x' y' f g h = f h
  if_kept false x y x' y' f g h = g h

  -- what is due stays due
  mutual
    pub due_kept : (t : Tree) (k : ℕ) (u : Place) → due_in taken k t u ≡ true → due_in taken' k t u ≡ true
    due_kept (node n ts) k u h = if_kept (u.node == k) _ _ _ _ (λ z. z) (due_among_kept ts n k 0 (suc k) u) h

    due_among_kept : (ts : Trees) (n : Class) (k i m : ℕ) (u : Place) → due_among taken n (taken k) i m ts u ≡ true →
        due_among taken' n (taken' k) i m ts u ≡ true
    due_among_kept none n k i m u h = h
    due_among_kept (more t ts) n k i m u h =
        if_kept (nat_lt u.node (m + size t)) _ _ _ _
        (λ z. and_both _ _ (goes_kept n k i (and_left _ _ z)) (due_kept t m u (and_right _ _ z)))
        (due_among_kept ts n k (suc i) (m + size t) u) h

-- one choice is made, that of the node n0, by the value of its first operand
module _ (taken taken' : Taken) (n0 : ℕ) (agree : (k : ℕ) → k ≢ n0 → taken' k ≡ taken k) (fresh : taken n0 ≡ None) where
  abbrev pub x : Place
  x = record { node = suc n0; kind = Val }

  abbrev mutual
    -- the node n0 is in the tree at k, is a choice and has an operand
    pub chooses : ℕ → Tree → Bool
    chooses k (node n ts) = if n0 == k then is_choice n && not (is_last ts) else chooses_among (suc k) ts

    pub chooses_among : ℕ → Trees → Bool
    chooses_among m none = false
    chooses_among m (more t ts) = if nat_lt n0 (m + size t) then chooses m t else chooses_among (m + size t) ts

  -- the first operand of n0 is due in the tree
  pub record Held (k : ℕ) (t : Tree) : Type 0 where
    pub due : k ≤ n0 → n0 < k + size t → due_in taken k t x ≡ true
    pub choice : k ≤ n0 → n0 < k + size t → chooses k t ≡ true

  pub record Helds (n : Class) (c : Option ℕ) (i m : ℕ) (ts : Trees) : Type 0 where
    pub due : m ≤ n0 → n0 < m + sizes ts → due_among taken n c i m ts x ≡ true
    pub choice : m ≤ n0 → n0 < m + sizes ts → chooses_among m ts ≡ true

  size_pos : (t : Tree) → 1 ≤ size t
  size_pos (node n ts) = omega arith

  pub if_false : {A : Type 0} (b : Bool) (p q : A) → b ≡ false → (if b then p else q) ≡ q
  if_false false p q h = refl
  if_false true p q h = absurd (cc)

  pub if_true : {A : Type 0} (b : Bool) (p q : A) → b ≡ true → (if b then p else q) ≡ p
  if_true true p q h = refl
  if_true false p q h = absurd (cc)

  pub not_eq : (a b : ℕ) → a ≢ b → (a == b) ≡ false
  not_eq a b h = grind (arith, nat_tests, h)

  pub eq_eq : (a b : ℕ) → a ≡ b → (a == b) ≡ true
  eq_eq a b h = grind (arith, nat_tests, h)

  pub lt_lt : (a b : ℕ) → a < b → nat_lt a b ≡ true
  lt_lt a b h = grind (arith, nat_tests, h)

  pub ge_lt : (a b : ℕ) → b ≤ a → nat_lt a b ≡ false
  ge_lt a b h = grind (arith, nat_tests, h)

  pub eq_of : (a b : ℕ) → (a == b) ≡ true → a ≡ b
  eq_of a b h = grind (arith, nat_tests, h)

  pub lt_of : (a b : ℕ) → nat_lt a b ≡ true → a < b
  lt_of a b h = grind (arith, nat_tests, h)

  pub ge_of : (a b : ℕ) → nat_lt a b ≡ false → b ≤ a
  ge_of a b h = grind (arith, nat_tests, h)

  pub ne_of : (a b : ℕ) → (a == b) ≡ false → a ≢ b
  ne_of a b h = grind (arith, nat_tests, h)

  -- what n0 needs in the tree of which it isn't the root, it needs among the operands
  helds_of : (n : Class) (ts : Trees) (k : ℕ) → k ≢ n0 → Held k (node n ts) → Helds n (taken k) 0 (suc k) ts
  helds_of n ts k ne h = record {
    due = λ l r. sym (if_false _ _ _ (not_eq (suc n0) k (omega arith))) ∙ h.due (omega arith) (omega arith);
    choice = λ l r. sym (if_false _ _ _ (not_eq n0 k (λ e. ne (sym e)))) ∙ h.choice (omega arith) (omega arith);
  }

  inside_case : (n : Class) (ts : Trees) (k : ℕ) (b : Bool) → (n0 == k) ≡ b → (chooses_among (suc k) ts ≡ true → suc n0 < suc k + sizes ts) →
      (if b then is_choice n && not (is_last ts) else chooses_among (suc k) ts) ≡ true → suc n0 < k + suc (sizes ts)
  inside_case n none k true e ih h = absurd (true≢false (sym h ∙ and_false (is_choice n)))
    where
      and_false : (a : Bool) → a && false ≡ false
      and_false true = refl
      and_false false = refl
  inside_case n (more t ts) k true e ih h = let q = eq_of n0 k e in let z = size_pos t in omega (arith, q, z)
  inside_case n ts k false e ih h = let z = ih h in omega (arith, z)

  among_case : (b : Bool) (m : ℕ) (t : Tree) (ts : Trees) → nat_lt n0 (m + size t) ≡ b → (chooses m t ≡ true → suc n0 < m + size t) →
      (chooses_among (m + size t) ts ≡ true → suc n0 < m + size t + sizes ts) → (if b then chooses m t else chooses_among (m + size t) ts) ≡ true →
      suc n0 < m + (size t + sizes ts)
  among_case true m t ts e f g h = let z = f h in omega (arith, z)
  among_case false m t ts e f g h = let z = g h in omega (arith, z)

  mutual
    -- a choice has its first operand within the tree
    chooses_inside : (t : Tree) (k : ℕ) → chooses k t ≡ true → suc n0 < k + size t
    chooses_inside (node n ts) k h = inside_case n ts k (n0 == k) refl (chooses_among_inside ts (suc k)) h

    chooses_among_inside : (ts : Trees) (m : ℕ) → chooses_among m ts ≡ true → suc n0 < m + sizes ts
    chooses_among_inside none m h = absurd (true≢false (sym h))
    chooses_among_inside (more t ts) m h = among_case (nat_lt n0 (m + size t)) m t ts refl (chooses_inside t m) (chooses_among_inside ts (m + size t)) h

  -- down to the operand at hand, and to the later ones
  held_first : (n : Class) (c : Option ℕ) (i m : ℕ) (t : Tree) (ts : Trees) → Helds n c i m (more t ts) → Held m t
  held_first n c i m t ts h = record {
    due = λ l r.
        let ch = sym (if_true _ _ _ (lt_lt n0 (m + size t) r)) ∙ h.choice l (omega arith) in
        let ins = chooses_inside t m ch in
        and_right' (goes n c i) _ (sym (if_true _ _ _ (lt_lt (suc n0) (m + size t) ins)) ∙ h.due l (omega arith));
    choice = λ l r. sym (if_true _ _ _ (lt_lt n0 (m + size t) r)) ∙ h.choice l (omega arith);
  }
    where
      and_right' : (a b : Bool) → (a && b) ≡ true → b ≡ true
      and_right' true b h = h
      and_right' false b h = absurd (cc)

  helds_rest : (n : Class) (c : Option ℕ) (i m : ℕ) (t : Tree) (ts : Trees) → Helds n c i m (more t ts) → Helds n c (suc i) (m + size t) ts
  helds_rest n c i m t ts h = record {
    due = λ l r. sym (if_false _ _ _ (ge_lt (suc n0) (m + size t) (omega arith))) ∙ h.due (omega arith) (omega arith);
    choice = λ l r. sym (if_false _ _ _ (ge_lt n0 (m + size t) l)) ∙ h.choice (omega arith) (omega arith);
  }

  and_l : (a b : Bool) → (a && b) ≡ true → a ≡ true
  and_l true b h = refl
  and_l false b h = h

  and_r : (a b : Bool) → (a && b) ≡ true → b ≡ true
  and_r true b h = h
  and_r false b h = absurd (cc)

  and_b : (a b : Bool) → a ≡ true → b ≡ true → (a && b) ≡ true
  and_b true b h k = k
  and_b false b h k = h

  abbrev pub In : ℕ → ℕ → Type 0
  In m size' = (m ≤ n0) × (n0 < m + size')

  -- an event that is newly due stands in the tree of the choice
  newly_case : (b b0 : Bool) (k : ℕ) (n : Class) (ts : Trees) (w : Place) → (n0 == k) ≡ b0
      → (due_among taken' n (taken k) 0 (suc k) ts w ≡ true → (due_among taken n (taken k) 0 (suc k) ts w ≡ true) ⊎ In (suc k) (sizes ts))
      → (if b then has_kind (kinds_of n) w.kind else due_among taken' n (taken' k) 0 (suc k) ts w) ≡ true
      → ((if b then has_kind (kinds_of n) w.kind else due_among taken n (taken k) 0 (suc k) ts w) ≡ true) ⊎ In k (suc (sizes ts))
  newly_case true b0 k n ts w e ih h = inl h
  newly_case false true k n ts w e ih h = inr (let q = eq_of n0 k e in (omega arith, omega (arith, q)))
  newly_case false false k n ts w e ih h =
      let c = agree k (λ q. ne_of n0 k e (sym q)) in
      elim (ih (subst (λ z. due_among taken' n z 0 (suc k) ts w ≡ true) c h)) [
        | inl d ↦ inl d
        | inr d ↦ inr (omega (arith, d.0), omega (arith, d.1))
      ]

  newly_among_case : (b : Bool) (n : Class) (c : Option ℕ) (i m : ℕ) (t : Tree) (ts : Trees) (w : Place)
      → (due_in taken' m t w ≡ true → (due_in taken m t w ≡ true) ⊎ In m (size t))
      → (due_among taken' n c (suc i) (m + size t) ts w ≡ true → (due_among taken n c (suc i) (m + size t) ts w ≡ true) ⊎ In (m + size t) (sizes ts))
      → (if b then goes n c i && due_in taken' m t w else due_among taken' n c (suc i) (m + size t) ts w) ≡ true
      → ((if b then goes n c i && due_in taken m t w else due_among taken n c (suc i) (m + size t) ts w) ≡ true) ⊎ In m (size t + sizes ts)
  newly_among_case true n c i m t ts w f g h =
      elim (f (and_r _ _ h)) [ inl d ↦ inl (and_b _ _ (and_l _ _ h) d) | inr d ↦ inr (d.0, omega (arith, d.1)) ]
  newly_among_case false n c i m t ts w f g h =
      elim (g h) [ inl d ↦ inl d | inr d ↦ inr (omega (arith, d.0), omega (arith, d.1)) ]

  mutual
    newly : (t : Tree) (k : ℕ) (w : Place) → due_in taken' k t w ≡ true → (due_in taken k t w ≡ true) ⊎ In k (size t)
    newly (node n ts) k w h = newly_case (w.node == k) (n0 == k) k n ts w refl (newly_among ts n (taken k) 0 (suc k) w) h

    newly_among : (ts : Trees) (n : Class) (c : Option ℕ) (i m : ℕ) (w : Place) → due_among taken' n c i m ts w ≡ true →
        (due_among taken n c i m ts w ≡ true) ⊎ In m (sizes ts)
    newly_among none n c i m w h = inl h
    newly_among (more t ts) n c i m w h = newly_among_case (nat_lt w.node (m + size t)) n c i m t ts w (newly t m w)
        (newly_among ts n c (suc i) (m + size t) w) h

  -- u comes before in the old order too and was due, or the choice's first operand comes before
  abbrev pub Old : Bool → Bool → ℕ → ℕ → Bool → Type 0
  Old a d m size' xs = ((a ≡ true) × (d ≡ true)) ⊎ (In m size' × (xs ≡ true))

  x_here : (m : ℕ) (t : Tree) → Held m t → In m (size t) → nat_lt (suc n0) (m + size t) ≡ true
  x_here m t h d = lt_lt _ _ (chooses_inside t m (h.choice d.0 d.1))

  rise_case : (b l ve nq : Bool) (n : Class) (c : Option ℕ) (i m : ℕ) (t : Tree) (ts : Trees) (w : Place) (kind : Kind) → Held m t
      → (to_val taken' m t w ≡ true → due_in taken' m t w ≡ true → Old (to_val taken m t w) (due_in taken m t w) m (size t) (to_val taken m t x))
      → (rises taken' n c (suc i) (m + size t) ts w kind ≡ true → due_among taken' n c (suc i) (m + size t) ts w ≡ true
      → Old (rises taken n c (suc i) (m + size t) ts w kind) (due_among taken n c (suc i) (m + size t) ts w) (m + size t) (sizes ts)
      (rises taken n c (suc i) (m + size t) ts x kind))
      → (if b then l || (ve && (nq && to_val taken' m t w)) else rises taken' n c (suc i) (m + size t) ts w kind) ≡ true
      → (if b then goes n c i && due_in taken' m t w else due_among taken' n c (suc i) (m + size t) ts w) ≡ true
      → Old (if b then l || (ve && (nq && to_val taken m t w)) else rises taken n c (suc i) (m + size t) ts w kind)
      (if b then goes n c i && due_in taken m t w else due_among taken n c (suc i) (m + size t) ts w)
      m (size t + sizes ts)
      (if nat_lt (suc n0) (m + size t) then l || (ve && (nq && to_val taken m t x)) else rises taken n c (suc i) (m + size t) ts x kind)
  rise_case true true ve nq n c i m t ts w kind hd f g h d =
      elim (newly t m w (and_r _ _ d)) [
        | inl e ↦ inl (refl, and_b _ _ (and_l _ _ d) e)
        | inr e ↦ inr ((e.0, omega (arith, e.1)), if_true _ _ _ (x_here m t hd e))
      ]
  rise_case true false ve nq n c i m t ts w kind hd f g h d =
      elim (f (and_r _ _ (and_r _ _ h)) (and_r _ _ d)) [
        | inl e ↦ inl (and_b _ _ (and_l _ _ h) (and_b _ _ (and_l _ _ (and_r _ _ h)) e.0), and_b _ _ (and_l _ _ d) e.1)
        | inr e ↦ inr ((e.0.0, omega (arith, e.0.1)), if_true _ _ _ (x_here m t hd e.0) ∙ and_b _ _ (and_l _ _ h) (and_b _ _ (and_l _ _ (and_r _ _ h)) e.1))
      ]
  rise_case false l ve nq n c i m t ts w kind hd f g h d =
      elim (g h d) [
        | inl e ↦ inl e
        | inr e ↦ inr ((omega (arith, e.0.0), omega (arith, e.0.1)), if_false _ _ _ (ge_lt (suc n0) (m + size t) (omega (arith, e.0.0))) ∙ e.1)
      ]

  between_case : (b b2 : Bool) (n : Class) (c : Option ℕ) (i m : ℕ) (t : Tree) (ts : Trees) (w p : Place) → Held m t
      → (is_before taken' m t w p ≡ true → due_in taken' m t w ≡ true → due_in taken m t p ≡ true →
      Old (is_before taken m t w p) (due_in taken m t w) m (size t) (is_before taken m t x p))
      → (between taken' n c (suc i) (m + size t) ts w p ≡ true → due_among taken' n c (suc i) (m + size t) ts w ≡ true →
      due_among taken n c (suc i) (m + size t) ts p ≡ true
      → Old (between taken n c (suc i) (m + size t) ts w p) (due_among taken n c (suc i) (m + size t) ts w) (m + size t) (sizes ts)
      (between taken n c (suc i) (m + size t) ts x p))
      → (if b then (if b2 then is_before taken' m t w p else crosses n c i (suc i) (m + size t) ts p.node)
      else (if b2 then false else between taken' n c (suc i) (m + size t) ts w p)) ≡ true
      → (if b then goes n c i && due_in taken' m t w else due_among taken' n c (suc i) (m + size t) ts w) ≡ true
      → (if b2 then goes n c i && due_in taken m t p else due_among taken n c (suc i) (m + size t) ts p) ≡ true
      → Old (if b then (if b2 then is_before taken m t w p else crosses n c i (suc i) (m + size t) ts p.node)
      else (if b2 then false else between taken n c (suc i) (m + size t) ts w p))
      (if b then goes n c i && due_in taken m t w else due_among taken n c (suc i) (m + size t) ts w)
      m (size t + sizes ts)
      (if nat_lt (suc n0) (m + size t) then (if b2 then is_before taken m t x p else crosses n c i (suc i) (m + size t) ts p.node)
      else (if b2 then false else between taken n c (suc i) (m + size t) ts x p))
  between_case true true n c i m t ts w p hd f g h d dp =
      elim (f h (and_r _ _ d) (and_r _ _ dp)) [
        | inl e ↦ inl (e.0, and_b _ _ (and_l _ _ d) e.1)
        | inr e ↦ inr ((e.0.0, omega (arith, e.0.1)), if_true _ _ _ (x_here m t hd e.0) ∙ e.1)
      ]
  between_case true false n c i m t ts w p hd f g h d dp =
      elim (newly t m w (and_r _ _ d)) [
        | inl e ↦ inl (h, and_b _ _ (and_l _ _ d) e)
        | inr e ↦ inr ((e.0, omega (arith, e.1)), if_true _ _ _ (x_here m t hd e) ∙ h)
      ]
  between_case false true n c i m t ts w p hd f g h d dp = absurd (true≢false (sym h))
  between_case false false n c i m t ts w p hd f g h d dp =
      elim (g h d dp) [
        | inl e ↦ inl e
        | inr e ↦ inr ((omega (arith, e.0.0), omega (arith, e.0.1)), if_false _ _ _ (ge_lt (suc n0) (m + size t) (omega (arith, e.0.0))) ∙ e.1)
      ]

  choice_kind : (n : Class) (kind : Kind) → is_choice n ≡ true → has_kind (kinds_of n) kind ≡ true → kind ≡ Val
  choice_kind Choice Val c h = refl
  choice_kind Choice Eff c h = absurd (cc)
  choice_kind Choice Body c h = absurd (cc)
  choice_kind _ kind c h = absurd (cc)

  -- without a choice only the first operand goes
  not_goes : (n : Class) (i : ℕ) → is_choice n ≡ true → goes n None (suc i) ≡ false
  not_goes n i c = go (is_choice n) (suc i == 0) c (not_eq (suc i) 0 (omega arith))
    where
      go : (a b : Bool) → a ≡ true → b ≡ false → (not a || (b || false)) ≡ false
      go true false h k = refl
      go true true h k = absurd (cc)
      go false b h k = absurd (cc)

  none_case : (b : Bool) (n : Class) (i m : ℕ) (t : Tree) (ts : Trees) (p : Place) → goes n None (suc i) ≡ false
      → (due_among taken n None (suc (suc i)) (m + size t) ts p ≡ true → ⊥)
      → (if b then goes n None (suc i) && due_in taken m t p else due_among taken n None (suc (suc i)) (m + size t) ts p) ≡ true → ⊥
  none_case true n i m t ts p e f h = true≢false (sym (and_l _ _ h) ∙ e)
  none_case false n i m t ts p e f h = f h

  none_due : (ts : Trees) (n : Class) (i m : ℕ) (p : Place) → is_choice n ≡ true → due_among taken n None (suc i) m ts p ≡ true → ⊥
  none_due none n i m p c h = true≢false (sym h)
  none_due (more t ts) n i m p c h = none_case (nat_lt p.node (m + size t)) n i m t ts p (not_goes n i c) (none_due ts n (suc i) (m + size t) p c) h

  -- at the choice itself: its first operand's value comes before its own
  x_to_val : (t : Tree) → to_val taken (suc n0) t x ≡ true
  x_to_val (node n ts) = if_true (suc n0 == suc n0) _ _ (eq_eq _ _ refl)

  quiet_none : (n : Class) (ts : Trees) → has_kind (kinds_of n) Val ≡ true → not (is_quiet (node n ts)) ≡ true
  quiet_none Object ts h = h
  quiet_none Constant ts h = h
  quiet_none _ ts h = refl

  x_not_quiet : (t : Tree) → due_in taken (suc n0) t x ≡ true → not (is_quiet t) ≡ true
  x_not_quiet (node n ts) h = quiet_none n ts (sym (if_true (suc n0 == suc n0) _ _ (eq_eq _ _ refl)) ∙ h)

  x_rises : (n : Class) (ts : Trees) (kind : Kind) → Held n0 (node n ts) → not (is_body kind) ≡ true → rises taken n (taken n0) 0 (suc n0) ts x kind ≡ true
  x_rises n none kind hd ve =
      let ch = sym (if_true (n0 == n0) _ _ (eq_eq _ _ refl)) ∙ hd.choice (omega arith) (omega arith) in
      absurd (true≢false (sym (and_r (is_choice n) false ch)))
  x_rises n (more t ts) kind hd ve =
      let z = size_pos t in
      let lt : nat_lt (suc n0) (suc n0 + size t) ≡ true = lt_lt _ _ (omega (arith, z)) in
      let d1 = sym (if_false (suc n0 == n0) _ _ (not_eq _ _ (omega arith))) ∙ hd.due (omega arith) (omega arith) in
      let d2 = and_r (goes n (taken n0) 0) _ (sym (if_true _ _ _ lt) ∙ d1) in
      if_true _ _ _ lt ∙ or_r (lifts n (taken n0) 0 (is_last ts) kind) _ (and_b _ _ ve (and_b _ _ (x_not_quiet t d2) (x_to_val t)))
    where
      or_r : (a b : Bool) → b ≡ true → (a || b) ≡ true
      or_r true b h = refl
      or_r false b h = h

  is_chosen : (n : Class) (ts : Trees) → Held n0 (node n ts) → is_choice n ≡ true
  is_chosen n ts hd = and_l _ _ (sym (if_true (n0 == n0) _ _ (eq_eq _ _ refl)) ∙ hd.choice (omega arith) (omega arith))

  -- events below n0 aren't touched by its choice
  held_below : (t : Tree) → Held (suc n0) t
  held_below t = record { due = λ l r. absurd (omega arith); choice = λ l r. absurd (omega arith) }

  to_val_case : (b b0 : Bool) (n : Class) (ts : Trees) (k : ℕ) (w : Place) → (n0 == k) ≡ b0 → Held k (node n ts)
      → (Helds n (taken k) 0 (suc k) ts → rises taken' n (taken k) 0 (suc k) ts w Val ≡ true → due_among taken' n (taken k) 0 (suc k) ts w ≡ true
      → Old (rises taken n (taken k) 0 (suc k) ts w Val) (due_among taken n (taken k) 0 (suc k) ts w) (suc k) (sizes ts)
      (rises taken n (taken k) 0 (suc k) ts x Val))
      → (if b then is_val w.kind || own_rule n w.kind Val else rises taken' n (taken' k) 0 (suc k) ts w Val) ≡ true
      → (if b then has_kind (kinds_of n) w.kind else due_among taken' n (taken' k) 0 (suc k) ts w) ≡ true
      → Old (if b then is_val w.kind || own_rule n w.kind Val else rises taken n (taken k) 0 (suc k) ts w Val)
      (if b then has_kind (kinds_of n) w.kind else due_among taken n (taken k) 0 (suc k) ts w)
      k (suc (sizes ts)) (to_val taken k (node n ts) x)
  to_val_case true b0 n ts k w e hd f h d = inl (h, d)
  to_val_case false true n ts k w e hd f h d =
      let q = eq_of n0 k e in
      let hd' = subst (λ z. Held z (node n ts)) (sym q) hd in
      let r = x_rises n ts Val hd' refl in
      let r' = subst (λ z. rises taken n (taken z) 0 (suc z) ts x Val ≡ true) q r in
      inr ((omega (arith, q), omega (arith, q)), if_false (suc n0 == k) _ _ (not_eq _ _ (omega (arith, q))) ∙ r')
  to_val_case false false n ts k w e hd f h d =
      let ne = ne_of n0 k e in
      let c = agree k (λ q. ne (sym q)) in
      elim (f (helds_of n ts k (λ q. ne (sym q)) hd) (subst (λ z. rises taken' n z 0 (suc k) ts w Val ≡ true) c h)
      (subst (λ z. due_among taken' n z 0 (suc k) ts w ≡ true) c d)) [
        | inl a ↦ inl a
        | inr a ↦ inr ((omega (arith, a.0.0), omega (arith, a.0.1)), if_false (suc n0 == k) _ _ (not_eq _ _ (omega (arith, a.0.0))) ∙ a.1)
      ]

  -- both below n0 itself: only its first operand was due
  root_case : (b b2 : Bool) (n : Class) (c' : Option ℕ) (t : Tree) (ts : Trees) (w p : Place) → is_choice n ≡ true
      → (is_before taken' (suc n0) t w p ≡ true → due_in taken' (suc n0) t w ≡ true → due_in taken (suc n0) t p ≡ true →
      Old (is_before taken (suc n0) t w p) (due_in taken (suc n0) t w) (suc n0) (size t) (is_before taken (suc n0) t x p))
      → (if b then (if b2 then is_before taken' (suc n0) t w p else crosses n c' 0 1 (suc n0 + size t) ts p.node)
      else (if b2 then false else between taken' n c' 1 (suc n0 + size t) ts w p)) ≡ true
      → (if b then goes n c' 0 && due_in taken' (suc n0) t w else due_among taken' n c' 1 (suc n0 + size t) ts w) ≡ true
      → (if b2 then goes n None 0 && due_in taken (suc n0) t p else due_among taken n None 1 (suc n0 + size t) ts p) ≡ true
      → ((if b then (if b2 then is_before taken (suc n0) t w p else crosses n None 0 1 (suc n0 + size t) ts p.node)
      else (if b2 then false else between taken n None 1 (suc n0 + size t) ts w p)) ≡ true)
      × ((if b then goes n None 0 && due_in taken (suc n0) t w else due_among taken n None 1 (suc n0 + size t) ts w) ≡ true)
  root_case true true n c' t ts w p ch f h d dp =
      elim (f h (and_r _ _ d) (and_r _ _ dp)) [
        | inl a ↦ (a.0, and_b _ _ (and_l _ _ dp) a.1)
        | inr a ↦ absurd (let z = a.0.0 in omega (arith, z))
      ]
  root_case true false n c' t ts w p ch f h d dp = absurd (none_due ts n 0 (suc n0 + size t) p ch dp)
  root_case false true n c' t ts w p ch f h d dp = absurd (true≢false (sym h))
  root_case false false n c' t ts w p ch f h d dp = absurd (none_due ts n 0 (suc n0 + size t) p ch dp)

  abbrev FirstOld : Trees → Place → Place → Type 0
  FirstOld none w p = Unit {0}
  FirstOld (more t ts) w p = is_before taken' (suc n0) t w p ≡ true → due_in taken' (suc n0) t w ≡ true → due_in taken (suc n0) t p ≡ true →
      Old (is_before taken (suc n0) t w p) (due_in taken (suc n0) t w) (suc n0) (size t) (is_before taken (suc n0) t x p)

  root_both : (n : Class) (ts : Trees) (w p : Place) → is_choice n ≡ true → FirstOld ts w p
      → between taken' n (taken' n0) 0 (suc n0) ts w p ≡ true → due_among taken' n (taken' n0) 0 (suc n0) ts w ≡ true →
      due_among taken n (taken n0) 0 (suc n0) ts p ≡ true
      → (between taken n (taken n0) 0 (suc n0) ts w p ≡ true) × (due_among taken n (taken n0) 0 (suc n0) ts w ≡ true)
  root_both n none w p ch f h d dp = absurd (true≢false (sym h))
  root_both n (more t ts) w p ch f h d dp =
      let dp' = subst (λ z. due_among taken n z 0 (suc n0) (more t ts) p ≡ true) fresh dp in
      let r = root_case (nat_lt w.node (suc n0 + size t)) (nat_lt p.node (suc n0 + size t)) n (taken' n0) t ts w p ch f h d dp' in (
        subst (λ z. between taken n z 0 (suc n0) (more t ts) w p ≡ true) (sym fresh) r.0,
        subst (λ z. due_among taken n z 0 (suc n0) (more t ts) w ≡ true) (sym fresh) r.1,
      )

  before_case : (b b2 b0 : Bool) (n : Class) (ts : Trees) (k : ℕ) (w p : Place) → (p.node == k) ≡ b2 → (n0 == k) ≡ b0 → Held k (node n ts)
      → (Helds n (taken k) 0 (suc k) ts → rises taken' n (taken k) 0 (suc k) ts w p.kind ≡ true → due_among taken' n (taken k) 0 (suc k) ts w ≡ true
      → Old (rises taken n (taken k) 0 (suc k) ts w p.kind) (due_among taken n (taken k) 0 (suc k) ts w) (suc k) (sizes ts)
      (rises taken n (taken k) 0 (suc k) ts x p.kind))
      → (Helds n (taken k) 0 (suc k) ts → between taken' n (taken k) 0 (suc k) ts w p ≡ true → due_among taken' n (taken k) 0 (suc k) ts w ≡ true →
      due_among taken n (taken k) 0 (suc k) ts p ≡ true
      → Old (between taken n (taken k) 0 (suc k) ts w p) (due_among taken n (taken k) 0 (suc k) ts w) (suc k) (sizes ts)
      (between taken n (taken k) 0 (suc k) ts x p))
      → FirstOld ts w p
      → (if b then p.node == k && own_rule n w.kind p.kind else (if b2 then rises taken' n (taken' k) 0 (suc k) ts w p.kind else between taken' n (taken' k) 0
      (suc k) ts w p)) ≡ true
      → (if b then has_kind (kinds_of n) w.kind else due_among taken' n (taken' k) 0 (suc k) ts w) ≡ true
      → (if b2 then has_kind (kinds_of n) p.kind else due_among taken n (taken k) 0 (suc k) ts p) ≡ true
      → Old (if b then p.node == k && own_rule n w.kind p.kind else (if b2 then rises taken n (taken k) 0 (suc k) ts w p.kind else between taken n (taken k) 0
      (suc k) ts w p))
      (if b then has_kind (kinds_of n) w.kind else due_among taken n (taken k) 0 (suc k) ts w)
      k (suc (sizes ts)) (if b2 then rises taken n (taken k) 0 (suc k) ts x p.kind else between taken n (taken k) 0 (suc k) ts x p)
  before_case true b2 b0 n ts k w p e2 e hd f g fo h d dp = inl (h, d)
  before_case false true true n ts k w p e2 e hd f g fo h d dp =
      let q = eq_of n0 k e in
      let hd' = subst (λ z. Held z (node n ts)) (sym q) hd in
      let kv = choice_kind n p.kind (is_chosen n ts hd') dp in
      let r = x_rises n ts p.kind hd' (subst (λ z. not (is_body z) ≡ true) (sym kv) refl) in
      inr ((omega (arith, q), omega (arith, q)), subst (λ z. rises taken n (taken z) 0 (suc z) ts x p.kind ≡ true) q r)
  before_case false true false n ts k w p e2 e hd f g fo h d dp =
      let ne = ne_of n0 k e in
      let c = agree k (λ q. ne (sym q)) in
      elim (f (helds_of n ts k (λ q. ne (sym q)) hd) (subst (λ z. rises taken' n z 0 (suc k) ts w p.kind ≡ true) c h)
      (subst (λ z. due_among taken' n z 0 (suc k) ts w ≡ true) c d)) [
        | inl a ↦ inl a
        | inr a ↦ inr ((omega (arith, a.0.0), omega (arith, a.0.1)), a.1)
      ]
  before_case false false true n ts k w p e2 e hd f g fo h d dp =
      let q = eq_of n0 k e in
      let hd' = subst (λ z. Held z (node n ts)) (sym q) hd in
      let h' = subst (λ z. between taken' n (taken' z) 0 (suc z) ts w p ≡ true) (sym q) h in
      let d' = subst (λ z. due_among taken' n (taken' z) 0 (suc z) ts w ≡ true) (sym q) d in
      let dp' = subst (λ z. due_among taken n (taken z) 0 (suc z) ts p ≡ true) (sym q) dp in
      let r = root_both n ts w p (is_chosen n ts hd') fo h' d' dp' in
      inl (subst (λ z. between taken n (taken z) 0 (suc z) ts w p ≡ true) q r.0, subst (λ z. due_among taken n (taken z) 0 (suc z) ts w ≡ true) q r.1)
  before_case false false false n ts k w p e2 e hd f g fo h d dp =
      let ne = ne_of n0 k e in
      let c = agree k (λ q. ne (sym q)) in
      elim (g (helds_of n ts k (λ q. ne (sym q)) hd) (subst (λ z. between taken' n z 0 (suc k) ts w p ≡ true) c h)
      (subst (λ z. due_among taken' n z 0 (suc k) ts w ≡ true) c d) dp) [
        | inl a ↦ inl a
        | inr a ↦ inr ((omega (arith, a.0.0), omega (arith, a.0.1)), a.1)
      ]

  -- in In k size, x isn't the root, so what comes before p is among the operands
  x_before : (n : Class) (ts : Trees) (k : ℕ) (p : Place) (m : ℕ) → k ≤ n0 →
      (if p.node == k then rises taken n (taken k) 0 (suc k) ts x p.kind else between taken n (taken k) 0 (suc k) ts x p) ≡ true →
      is_before taken k (node n ts) x p ≡ true
  x_before n ts k p m le h = if_false (suc n0 == k) _ _ (not_eq _ _ (omega arith)) ∙ h

  old_root : (n : Class) (ts : Trees) (k : ℕ) (w p : Place) → Old (is_before taken k (node n ts) w p) (due_in taken k (node n ts) w) k (suc (sizes ts))
      (if p.node == k then rises taken n (taken k) 0 (suc k) ts x p.kind else between taken n (taken k) 0 (suc k) ts x p)
      → Old (is_before taken k (node n ts) w p) (due_in taken k (node n ts) w) k (suc (sizes ts)) (is_before taken k (node n ts) x p)
  old_root n ts k w p (inl a) = inl a
  old_root n ts k w p (inr a) = inr (a.0, x_before n ts k p 0 a.0.0 a.1)

  mutual
    -- what comes before a due event after the choice came before it already, or the choice's first operand did
    pub old_before : (t : Tree) (k : ℕ) (w p : Place) → Held k t → is_before taken' k t w p ≡ true → due_in taken' k t w ≡ true → due_in taken k t p ≡ true →
        Old (is_before taken k t w p) (due_in taken k t w) k (size t) (is_before taken k t x p)
    old_before (node n ts) k w p hd h d dp =
        old_root n ts k w p (before_case (w.node == k) (p.node == k) (n0 == k) n ts k w p refl refl hd
        (λ hs. old_rises ts n (taken k) 0 (suc k) w p.kind hs) (λ hs. old_between ts n (taken k) 0 (suc k) w p hs) (old_first ts w p) h d dp)

    pub old_to_val : (t : Tree) (k : ℕ) (w : Place) → Held k t → to_val taken' k t w ≡ true → due_in taken' k t w ≡ true →
        Old (to_val taken k t w) (due_in taken k t w) k (size t) (to_val taken k t x)
    old_to_val (node n ts) k w hd h d = to_val_case (w.node == k) (n0 == k) n ts k w refl hd (λ hs. old_rises ts n (taken k) 0 (suc k) w Val hs) h d

    old_rises : (ts : Trees) (n : Class) (c : Option ℕ) (i m : ℕ) (w : Place) (kind : Kind) → Helds n c i m ts → rises taken' n c i m ts w kind ≡ true →
        due_among taken' n c i m ts w ≡ true
        → Old (rises taken n c i m ts w kind) (due_among taken n c i m ts w) m (sizes ts) (rises taken n c i m ts x kind)
    old_rises none n c i m w kind hs h d = absurd (true≢false (sym h))
    old_rises (more t ts) n c i m w kind hs h d =
        rise_case (nat_lt w.node (m + size t)) (lifts n c i (is_last ts) kind) (not (is_body kind)) (not (is_quiet t)) n c i m t ts w kind
        (held_first n c i m t ts hs)
        (old_to_val t m w (held_first n c i m t ts hs)) (old_rises ts n c (suc i) (m + size t) w kind (helds_rest n c i m t ts hs)) h d

    old_between : (ts : Trees) (n : Class) (c : Option ℕ) (i m : ℕ) (w p : Place) → Helds n c i m ts → between taken' n c i m ts w p ≡ true →
        due_among taken' n c i m ts w ≡ true → due_among taken n c i m ts p ≡ true
        → Old (between taken n c i m ts w p) (due_among taken n c i m ts w) m (sizes ts) (between taken n c i m ts x p)
    old_between none n c i m w p hs h d dp = absurd (true≢false (sym h))
    old_between (more t ts) n c i m w p hs h d dp =
        between_case (nat_lt w.node (m + size t)) (nat_lt p.node (m + size t)) n c i m t ts w p (held_first n c i m t ts hs)
        (old_before t m w p (held_first n c i m t ts hs)) (old_between ts n c (suc i) (m + size t) w p (helds_rest n c i m t ts hs)) h d dp

    old_first : (ts : Trees) (w p : Place) → FirstOld ts w p
    old_first none w p = tt
    old_first (more t ts) w p = old_before t (suc n0) w p (held_below t)

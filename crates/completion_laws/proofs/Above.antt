-- With the last event of a node all operands of the node above are complete exactly where an event of that one comes next.
use Rattle.std.proofs.Common.{
  ◌≡◌,
  ℕ,
  suc,
  ◌+◌,
  ◌<◌,
  ◌≤◌,
  true,
  ◌==◌,
  List,
  [],
  ◌∷◌,
  ◌++◌,
  append_assoc,
  Option,
  Some,
  None,
  ◌⊎◌,
  inl,
  inr,
  sym,
  ap,
  subst,
  ◌∙◌,
  true≢false,
  arith,
}
use Rattle.std.proofs.lemmas.Option.{same_Some}
use Rattle.c_typed.specs.declared.tree.Place.{Place}
use Rattle.c_typed.specs.declared.class.Class.{Class}
use Rattle.c_typed.specs.Tree.{Tree, node, Trees, none, more, size, sizes}
use Rattle.c_typed.specs.Order.{Taken, own_events, events, operand_events, has}
use Rattle.elaborate.specs.Formed.{is_formed, are_formed, takes}
use Rattle.elaborate.proofs.Listed.{and_l, and_r}
use Rattle.elaborate.proofs.Ranges.{In, has_cases, events_in, operands_in, eq_eq}
use Rattle.c_model.specs.Completions.{parent_in, parent_among}
use Rattle.c_model.specs.Moments.{least, least_in}
use Rattle.completion_laws.specs.Completed.{comes_next}
use Rattle.completion_laws.proofs.Lists.{
  left,
  right,
  split,
  no_split,
  has_at,
  has_behind,
  out_of,
  within,
  other,
  outside,
  AreOutside,
  all_outside,
  outside_more,
  not_outside,
}
use Rattle.completion_laws.proofs.Ahead.{
  same_or_other,
  if_true,
  if_false,
  least_first,
  least_rest,
  least_below,
  least_ends,
  among_first,
  among_rest,
  none_above,
  above_in,
  above_among,
  own_next,
  own_of,
  operand,
  operand_split,
  behind_operands,
  behind_out,
}

-- ---- the node above is this one: its own events come last
above_own : (k end : ℕ) (us own : List Place) → ((w : Place) → has us w ≡ true → (suc k ≤ w.node) × (w.node < end))
    → ((w : Place) → has own w ≡ true → w.node ≡ k) → comes_next k own ≡ true → outside (suc k) end (us ++ own) ≡ comes_next k (us ++ own)
above_own k end [] own f g next =
    all_outside (suc k) end own (λ w h. let e = g w h in out_of (suc k) end w.node (inl (omega (arith, e)))) ∙ sym next
above_own k end (v ∷ vs) own f g next =
    let r = f v (has_at [] vs v) in
    let low = r.0 in
    not_outside (suc k) end v (vs ++ own) (within (suc k) end v.node low r.1) ∙ sym (other v.node k (inr (omega (arith, low))))

-- ---- it stands in the operand
above_inside : (from to p : ℕ) (us vs : List Place) → AreOutside from to vs → outside from to us ≡ comes_next p us
    → outside from to (us ++ vs) ≡ comes_next p (us ++ vs)
above_inside from to p [] vs f h = absurd (true≢false h)
above_inside from to p (u ∷ us) vs f h = outside_more from to (u ∷ us) vs f ∙ h

mutual
  pub node_above : (taken : Taken) (t : Tree) (k : ℕ) (passed ahead : List Place) (u : Place) (p : ℕ) → is_formed t ≡ true
      → events taken k t ≡ passed ++ u ∷ ahead → parent_in k t u.node ≡ Some p → outside (suc p) (least k t p p).1 ahead ≡ comes_next p ahead
  node_above taken (node class ts) k passed ahead u p formed h above =
      elim (split (operand_events taken class (taken k) 0 (suc k) ts) (own_events k class) passed ahead u h) [
        | left rest a b ↦
            (let s = operands_above taken class (taken k) ts 0 (suc k) k passed rest u (own_events k class) (k, k + size (node class ts)) p (omega arith)
            (omega arith) (own_of k class) (own_next k class ts passed rest u taken formed a) (and_r (takes class ts) _ formed) a above in
            subst (λ z. outside (suc p) (least k (node class ts) p p).1 z ≡ comes_next p z) (sym b) s)
        | right before a b ↦ absurd (of_own before b (own_of k class u (ap (λ z. has z u) b ∙ has_at before ahead u)))
      ]
    where
      of_own : (before : List Place) → own_events k class ≡ before ++ u ∷ ahead → u.node ≡ k → ⊥
      of_own before b e = let z : None ≡ Some p = sym (none_above (node class ts) k u.node (omega (arith, e))) ∙ above in absurd (cc)

  pub operands_above : (taken : Taken) (class : Class) (choice : Option ℕ) (ts : Trees) (i m k : ℕ) (passed rest : List Place) (u : Place)
      (own : List Place) (here : ℕ × ℕ) (p : ℕ) → k < m → m + sizes ts ≤ here.1 → ((w : Place) → has own w ≡ true → w.node ≡ k)
      → comes_next k own ≡ true → are_formed ts ≡ true → operand_events taken class choice i m ts ≡ passed ++ u ∷ rest
      → parent_among k m ts u.node ≡ Some p → outside (suc p) (least_in m ts p p here).1 (rest ++ own) ≡ comes_next p (rest ++ own)
  operands_above taken class choice none i m k passed rest u own here p l e f next formed h above = absurd (no_split passed rest u h)
  operands_above taken class choice (more t ts) i m k passed rest u own here p l e f next formed h above =
      elim (split (operand taken class choice i m t) (operand_events taken class choice (suc i) (m + size t) ts) passed rest u h) [
        | left some a b ↦
            (let g = operand_split taken class choice i m t passed some u a in
            in_first some g b (node_above taken t m passed some u p (and_l (is_formed t) _ formed) g))
        | right before a b ↦ in_rest before b
            (operands_above taken class choice ts (suc i) (m + size t) k before rest u own here p (omega (arith, l)) (omega (arith, e)) f next
            (and_r (is_formed t) _ formed) b)
      ]
    where
      behind : List Place
      behind = operand_events taken class choice (suc i) (m + size t) ts

      Goal : Type 0
      Goal = outside (suc p) (least_in m (more t ts) p p here).1 (rest ++ own) ≡ comes_next p (rest ++ own)

      -- what is left of the operands is of nodes of these
      left_in : (some : List Place) → events taken m t ≡ passed ++ u ∷ some → (w : Place) → has (some ++ behind) w ≡ true
          → (suc k ≤ w.node) × (w.node < here.1)
      left_in some a w g = elim (has_cases some behind w g) [
        | inl s ↦
            (let r = events_in taken t m w (ap (λ z. has z w) a ∙ has_behind passed u some w s) in
            let low = r.0 in
            let high = r.1 in
            (omega (arith, l, low), omega (arith, e, high)))
        | inr s ↦
            (let r = operands_in taken class choice ts (suc i) (m + size t) w s in
            let low = r.0 in
            let high = r.1 in
            (omega (arith, l, low), omega (arith, e, high)))
      ]

      in_first : (some : List Place) → events taken m t ≡ passed ++ u ∷ some → rest ≡ some ++ behind
          → (parent_in m t u.node ≡ Some p → outside (suc p) (least m t p p).1 some ≡ comes_next p some) → Goal
      in_first some a b again =
          let r : In m (size t) u.node = events_in taken t m u (ap (λ z. has z u) a ∙ has_at passed some u) in
          let first = sym (among_first k m t ts u.node r.1) ∙ above in
          same_or_other u.node m
          (λ same. of_this (same_Some k p (sym (if_true _ _ _ (subst (λ z. (u.node == z) ≡ true) same (eq_eq u.node))) ∙ first)))
          (λ differs. inside (sym (if_false _ _ _ differs) ∙ first))
        where
          of_this : k ≡ p → Goal
          of_this is = subst (λ z. outside (suc z) (least_in m (more t ts) z z here).1 (rest ++ own) ≡ comes_next z (rest ++ own)) is
              (subst (λ z. outside (suc k) z.1 (rest ++ own) ≡ comes_next k (rest ++ own)) (sym (least_below m (more t ts) k here l))
              (subst (λ z. outside (suc k) here.1 (z ++ own) ≡ comes_next k (z ++ own)) (sym b)
              (above_own k here.1 (some ++ behind) own (left_in some a) f next)))

          inside : parent_in m t u.node ≡ Some p → Goal
          inside is =
              let r = above_in t m u.node p is in
              let low = r.0 in
              let ends = least_ends t m p r in
              let s = above_inside (suc p) (least m t p p).1 p some (behind ++ own)
              (behind_out k (m + size t) (suc p) (least m t p p).1 (behind ++ own) (omega (arith, l, low)) ends
              (behind_operands taken class choice (suc i) (m + size t) k ts own f)) (again is) in
              subst (λ z. outside (suc p) z.1 (rest ++ own) ≡ comes_next p (rest ++ own)) (sym (least_first m t ts p here r))
              (subst (λ z. outside (suc p) (least m t p p).1 z ≡ comes_next p z) (sym (ap (λ z. z ++ own) b ∙ append_assoc some behind own)) s)

      in_rest : (before : List Place) → behind ≡ before ++ u ∷ rest
          → (parent_among k (m + size t) ts u.node ≡ Some p → outside (suc p) (least_in (m + size t) ts p p here).1 (rest ++ own) ≡ comes_next p (rest ++ own))
          → Goal
      in_rest before b again =
          let low = (operands_in taken class choice ts (suc i) (m + size t) u (ap (λ z. has z u) b ∙ has_at before rest u)).0 in
          let is = sym (among_rest k m t ts u.node low) ∙ above in
          subst (λ z. outside (suc p) z.1 (rest ++ own) ≡ comes_next p (rest ++ own)) (sym (least_rest m t ts p here (where_it_is is))) (again is)
        where
          where_it_is : parent_among k (m + size t) ts u.node ≡ Some p → (p < m) ⊎ (m + size t ≤ p)
          where_it_is is = elim (above_among ts k (m + size t) u.node p is) [
            | inl same ↦ inl (omega (arith, same, l))
            | inr r ↦ inr r.0
          ]

-- An event is the last of its node where it is of the last kind of the node's class.
use Rattle.std.proofs.Common.{
  ◌≡◌,
  ℕ,
  suc,
  ◌+◌,
  ◌<◌,
  ◌≤◌,
  Bool,
  true,
  false,
  not,
  ◌==◌,
  nat_lt,
  if◌then◌else◌,
  List,
  [],
  ◌∷◌,
  ◌++◌,
  append_assoc,
  Option,
  Some,
  None,
  inr,
  refl,
  sym,
  ap,
  subst,
  ◌∙◌,
  arith,
}
use Rattle.std.proofs.lemmas.Option.{same_Some}
use Rattle.ub_base.specs.declared.clause.Kind.{Kind}
use Rattle.ub_base.specs.declared.clause.Kind.TheVariants.{Val, Eff, Body}
use Rattle.ub_base.specs.Names.{same_kind}
use Rattle.c_typed.specs.declared.tree.Place.{Place}
use Rattle.c_typed.specs.declared.class.Class.{Class}
use Rattle.c_typed.specs.declared.class.Class.TheVariants as class
use Rattle.c_typed.specs.Tree.{Tree, node, Trees, none, more, size, kinds_of}
use Rattle.c_typed.specs.Order.{Taken, place, own_events, events, operand_events, has}
use Rattle.elaborate.proofs.Ranges.{In, events_in, operands_in, eq_eq}
use Rattle.completion_laws.specs.Completed.{comes_next}
use Rattle.completion_laws.proofs.Lists.{left, right, split, no_split, has_at, other, none_next}
use Rattle.completion_laws.proofs.Ahead.{lt_of, ge_of, if_true, if_false, own_of, operand, operand_split, behind_operands, behind_other}

-- ---- the class of the node of a number
abbrev mutual
  pub class_in : ℕ → Tree → ℕ → Option Class
  class_in k (node class ts) n = if n == k then Some class else class_among (suc k) ts n

  pub class_among : ℕ → Trees → ℕ → Option Class
  class_among m none n = None
  class_among m (more t ts) n = if nat_lt n (m + size t) then class_in m t n else class_among (m + size t) ts n

pub class_root : (k : ℕ) (c : Class) (ts : Trees) (n : ℕ) → n ≡ k → class_in k (node c ts) n ≡ Some c
class_root k c ts n h = if_true _ _ _ (subst (λ z. (n == z) ≡ true) h (eq_eq n))

pub class_below : (k : ℕ) (c : Class) (ts : Trees) (n : ℕ) → k < n → class_in k (node c ts) n ≡ class_among (suc k) ts n
class_below k c ts n h = if_false _ _ _ (other n k (inr h))

pub class_first : (m : ℕ) (t : Tree) (ts : Trees) (n : ℕ) → n < m + size t → class_among m (more t ts) n ≡ class_in m t n
class_first m t ts n h = if_true _ _ _ (lt_of n (m + size t) h)

pub class_rest : (m : ℕ) (t : Tree) (ts : Trees) (n : ℕ) → m + size t ≤ n → class_among m (more t ts) n ≡ class_among (m + size t) ts n
class_rest m t ts n h = if_false _ _ _ (ge_of n (m + size t) h)

-- ---- the last of these kinds
abbrev pub ends_at : List Kind → Kind → Bool
ends_at [] kind = false
ends_at (l ∷ []) kind = same_kind l kind
ends_at (l ∷ (k ∷ ks)) kind = ends_at (k ∷ ks) kind

-- an event of the first kind of two, and of the second
one : (n : ℕ) (k : Kind) (before ahead : List Place) (u : Place) → place n k ∷ [] ≡ before ++ u ∷ ahead
    → comes_next u.node ahead ≡ not (same_kind k u.kind)
one n k [] ahead u h =
    let is : place n k ≡ u = cc in
    let none : [] ≡ ahead = cc in
    subst (λ z. comes_next u.node z ≡ not (same_kind k u.kind)) none (sym (ap not (subst (λ z. same_kind k z ≡ true) (ap (λ z. z.kind) is) (kind_itself k))))
  where
    kind_itself : (a : Kind) → same_kind a a ≡ true
    kind_itself Val = refl
    kind_itself Eff = refl
    kind_itself Body = refl
one n k (b ∷ []) ahead u h = absurd (let z : [] ≡ u ∷ ahead = cc in cc)
one n k (b ∷ (c ∷ bs)) ahead u h = absurd (let z : [] ≡ c ∷ (bs ++ u ∷ ahead) = cc in cc)

two : (n : ℕ) (j k : Kind) (before ahead : List Place) (u : Place) → same_kind k j ≡ false → place n j ∷ place n k ∷ [] ≡ before ++ u ∷ ahead
    → comes_next u.node ahead ≡ not (same_kind k u.kind)
two n j k [] ahead u other h =
    let is : place n j ≡ u = cc in
    let rest : place n k ∷ [] ≡ ahead = cc in
    subst (λ z. comes_next u.node z ≡ not (same_kind k u.kind)) rest
    (subst (λ z. (n == z) ≡ not (same_kind k u.kind)) (ap (λ z. z.node) is)
    (eq_eq n ∙ sym (ap not (subst (λ z. same_kind k z ≡ false) (ap (λ z. z.kind) is) other))))
two n j k (b ∷ bs) ahead u other h = one n k bs ahead u (let z : place n k ∷ [] ≡ bs ++ u ∷ ahead = cc in z)

own_last : (k : ℕ) (c : Class) (before ahead : List Place) (u : Place) → own_events k c ≡ before ++ u ∷ ahead
    → comes_next u.node ahead ≡ not (ends_at (kinds_of c) u.kind)
own_last k class.Object before ahead u h = absurd (no_split before ahead u h)
own_last k class.Constant before ahead u h = absurd (no_split before ahead u h)
own_last k class.Plain before ahead u h = one k Val before ahead u h
own_last k class.Store before ahead u h = two k Val Eff before ahead u refl h
own_last k class.Update before ahead u h = two k Val Eff before ahead u refl h
own_last k class.Choice before ahead u h = one k Val before ahead u h
own_last k class.Comma before ahead u h = one k Val before ahead u h
own_last k class.Call before ahead u h = two k Body Val before ahead u refl h
own_last k class.Isolated before ahead u h = two k Body Val before ahead u refl h

-- ---- in a tree
stays : (n : ℕ) (us vs : List Place) (last : Bool) → ((w : Place) → has vs w ≡ true → (w.node == n) ≡ false) → comes_next n us ≡ last
    → comes_next n (us ++ vs) ≡ last
stays n [] vs last f h = none_next n vs f ∙ h
stays n (u ∷ us) vs last f h = h

mutual
  pub node_last : (taken : Taken) (t : Tree) (k : ℕ) (passed ahead : List Place) (u : Place) (c : Class) → events taken k t ≡ passed ++ u ∷ ahead
      → class_in k t u.node ≡ Some c → comes_next u.node ahead ≡ not (ends_at (kinds_of c) u.kind)
  node_last taken (node d ts) k passed ahead u c h is =
      elim (split (operand_events taken d (taken k) 0 (suc k) ts) (own_events k d) passed ahead u h) [
        | left rest a b ↦
            (let low = (operands_in taken d (taken k) ts 0 (suc k) u (ap (λ z. has z u) a ∙ has_at passed rest u)).0 in
            let s = operands_last taken d (taken k) ts 0 (suc k) k passed rest u (own_events k d) c (omega arith) (own_of k d) a
            (sym (class_below k d ts u.node (omega (arith, low))) ∙ is) in
            subst (λ z. comes_next u.node z ≡ not (ends_at (kinds_of c) u.kind)) (sym b) s)
        | right before a b ↦
            (let e = own_of k d u (ap (λ z. has z u) b ∙ has_at before ahead u) in
            let same : d ≡ c = same_Some d c (sym (class_root k d ts u.node e) ∙ is) in
            subst (λ z. comes_next u.node ahead ≡ not (ends_at (kinds_of z) u.kind)) same (own_last k d before ahead u b))
      ]

  pub operands_last : (taken : Taken) (d : Class) (choice : Option ℕ) (ts : Trees) (i m k : ℕ) (passed rest : List Place) (u : Place)
      (own : List Place) (c : Class) → k < m → ((w : Place) → has own w ≡ true → w.node ≡ k)
      → operand_events taken d choice i m ts ≡ passed ++ u ∷ rest → class_among m ts u.node ≡ Some c
      → comes_next u.node (rest ++ own) ≡ not (ends_at (kinds_of c) u.kind)
  operands_last taken d choice none i m k passed rest u own c l f h is = absurd (no_split passed rest u h)
  operands_last taken d choice (more t ts) i m k passed rest u own c l f h is =
      elim (split (operand taken d choice i m t) (operand_events taken d choice (suc i) (m + size t) ts) passed rest u h) [
        | left some a b ↦
            (let e = operand_split taken d choice i m t passed some u a in
            in_first some e b (node_last taken t m passed some u c e))
        | right before a b ↦
            (let low = (operands_in taken d choice ts (suc i) (m + size t) u (ap (λ z. has z u) b ∙ has_at before rest u)).0 in
            operands_last taken d choice ts (suc i) (m + size t) k before rest u own c (omega (arith, l)) f b
            (sym (class_rest m t ts u.node low) ∙ is))
      ]
    where
      behind : List Place
      behind = operand_events taken d choice (suc i) (m + size t) ts

      in_first : (some : List Place) → events taken m t ≡ passed ++ u ∷ some → rest ≡ some ++ behind
          → (class_in m t u.node ≡ Some c → comes_next u.node some ≡ not (ends_at (kinds_of c) u.kind))
          → comes_next u.node (rest ++ own) ≡ not (ends_at (kinds_of c) u.kind)
      in_first some a b again =
          let r : In m (size t) u.node = events_in taken t m u (ap (λ z. has z u) a ∙ has_at passed some u) in
          let low = r.0 in
          let s = stays u.node some (behind ++ own) (not (ends_at (kinds_of c) u.kind))
          (behind_other k (m + size t) u.node (behind ++ own) (omega (arith, l, low)) r.1
          (behind_operands taken d choice (suc i) (m + size t) k ts own f)) (again (sym (class_first m t ts u.node r.1) ∙ is)) in
          subst (λ z. comes_next u.node z ≡ not (ends_at (kinds_of c) u.kind)) (sym (ap (λ z. z ++ own) b ∙ append_assoc some behind own)) s

-- Which nodes the events that are ahead in a listing are of.
use Rattle.std.proofs.Common.{
  ◌≡◌,
  ℕ,
  suc,
  ◌+◌,
  ◌<◌,
  ◌≤◌,
  Bool,
  true,
  false,
  not,
  ◌&&◌,
  ◌==◌,
  nat_lt,
  if◌then◌else◌,
  List,
  [],
  ◌∷◌,
  ◌++◌,
  append_assoc,
  Option,
  Some,
  None,
  ◌⊎◌,
  inl,
  inr,
  refl,
  sym,
  ap,
  subst,
  ◌∙◌,
  true≢false,
  arith,
}
use Rattle.std.proofs.lemmas.Bool.Decides.{nat_tests}
use Rattle.std.proofs.lemmas.Option.{same_Some}
use Rattle.c_typed.specs.declared.tree.Place.{Place}
use Rattle.c_typed.specs.declared.class.Class.{Class}
use Rattle.c_typed.specs.declared.class.Class.TheVariants.{Object, Constant, Plain, Store, Update, Choice, Comma, Call, Isolated}
use Rattle.c_typed.specs.Tree.{Tree, node, Trees, none, more, size, sizes, kinds_of}
use Rattle.c_typed.specs.Order.{Taken, goes, own_events, events, operand_events, has}
use Rattle.elaborate.specs.Formed.{is_formed, all_quiet}
use Rattle.elaborate.proofs.Listed.{and_l, and_r, silent_all}
use Rattle.elaborate.proofs.Ranges.{In, has_cases, has_right, own_node, events_in, operands_in, size_pos, eq_of, eq_eq}
use Rattle.c_model.specs.Completions.{parent_in, parent_among}
use Rattle.c_model.specs.Moments.{least, least_in}
use Rattle.completion_laws.specs.Completed.{comes_next}
use Rattle.completion_laws.proofs.Lists.{
  left,
  right,
  split,
  no_split,
  has_at,
  out_of,
  within,
  other,
  outside,
  AreOutside,
  all_outside,
  outside_more,
  not_outside,
  none_next,
}

-- ---- tests of numbers
pub lt_of : (a b : ℕ) → a < b → nat_lt a b ≡ true
lt_of a b h = grind (arith, nat_tests, h)

pub ge_of : (a b : ℕ) → b ≤ a → nat_lt a b ≡ false
ge_of a b h = grind (arith, nat_tests, h)

pub if_true : {A : Type 0} (b : Bool) (p q : A) → b ≡ true → (if b then p else q) ≡ p
if_true true p q h = refl
if_true false p q h = absurd (true≢false (sym h))

pub if_false : {A : Type 0} (b : Bool) (p q : A) → b ≡ false → (if b then p else q) ≡ q
if_false false p q h = refl
if_false true p q h = absurd (true≢false h)

pub by_test : {A : Type 0} (b : Bool) → (b ≡ true → A) → (b ≡ false → A) → A
by_test true f g = f refl
by_test false f g = g refl

pub same_or_other : {A : Type 0} (a b : ℕ) → (a ≡ b → A) → ((a == b) ≡ false → A) → A
same_or_other a b f g = by_test (a == b) (λ h. f (eq_of a b h)) g

low_or_high : {A : Type 0} (a b : ℕ) → (a < b → A) → (b ≤ a → A) → A
low_or_high a b f g = by_test (nat_lt a b) (λ h. f (grind (arith, nat_tests, h))) (λ h. g (grind (arith, nat_tests, h)))

-- ---- the tree of a node in another
both_true : (a b : Bool) → a ≡ true → b ≡ true → (a && b) ≡ true
both_true true true h g = refl
both_true false b h g = absurd (true≢false (sym h))
both_true true false h g = absurd (true≢false (sym g))

first_false : (a b : Bool) → a ≡ false → (a && b) ≡ false
first_false false b h = refl
first_false true b h = absurd (true≢false h)

pub least_first : (m : ℕ) (t : Tree) (ts : Trees) (n : ℕ) (here : ℕ × ℕ) → In m (size t) n → least_in m (more t ts) n n here ≡ least m t n n
least_first m t ts n here h =
    let s = within m (m + size t) n h.0 h.1 in if_true _ _ _ (both_true _ _ s s)

pub least_rest : (m : ℕ) (t : Tree) (ts : Trees) (n : ℕ) (here : ℕ × ℕ) → (n < m) ⊎ (m + size t ≤ n)
    → least_in m (more t ts) n n here ≡ least_in (m + size t) ts n n here
least_rest m t ts n here h = if_false _ _ _ (first_false _ _ (out_of m (m + size t) n h))

pub least_below : (m : ℕ) (ts : Trees) (n : ℕ) (here : ℕ × ℕ) → n < m → least_in m ts n n here ≡ here
least_below m none n here h = refl
least_below m (more t ts) n here h = least_rest m t ts n here (inl h) ∙ least_below (m + size t) ts n here (omega (arith, h))

-- it ends within that one
mutual
  pub least_ends : (t : Tree) (k n : ℕ) → In k (size t) n → (least k t n n).1 ≤ k + size t
  least_ends (node class ts) k n h = least_ends_in ts (suc k) n (k, k + size (node class ts)) (k + size (node class ts)) (omega arith) (omega arith)

  pub least_ends_in : (ts : Trees) (m n : ℕ) (here : ℕ × ℕ) (end : ℕ) → here.1 ≤ end → m + sizes ts ≤ end → (least_in m ts n n here).1 ≤ end
  least_ends_in none m n here end h g = h
  least_ends_in (more t ts) m n here end h g = low_or_high n m
      (λ l. subst (λ z. z.1 ≤ end) (sym (least_rest m t ts n here (inl l))) (least_ends_in ts (m + size t) n here end h (omega (arith, g))))
      (λ l. low_or_high n (m + size t)
      (λ s. let r = least_ends t m n (l, s) in subst (λ z. z.1 ≤ end) (sym (least_first m t ts n here (l, s))) (omega (arith, r, g)))
      (λ s. subst (λ z. z.1 ≤ end) (sym (least_rest m t ts n here (inr s))) (least_ends_in ts (m + size t) n here end h (omega (arith, g)))))

-- ---- the node above
abbrev above_first : ℕ → ℕ → Tree → ℕ → Option ℕ
above_first k m t n = if n == m then Some k else parent_in m t n

pub among_first : (k m : ℕ) (t : Tree) (ts : Trees) (n : ℕ) → n < m + size t → parent_among k m (more t ts) n ≡ above_first k m t n
among_first k m t ts n h = if_true _ _ _ (lt_of n (m + size t) h)

pub among_rest : (k m : ℕ) (t : Tree) (ts : Trees) (n : ℕ) → m + size t ≤ n → parent_among k m (more t ts) n ≡ parent_among k (m + size t) ts n
among_rest k m t ts n h = if_false _ _ _ (ge_of n (m + size t) h)

-- none of the node itself, nor of those before it
mutual
  pub none_above : (t : Tree) (k n : ℕ) → n ≤ k → parent_in k t n ≡ None
  none_above (node class ts) k n h = none_among ts k (suc k) n (omega (arith, h))

  pub none_among : (ts : Trees) (k m n : ℕ) → n < m → parent_among k m ts n ≡ None
  none_among none k m n h = refl
  none_among (more t ts) k m n h =
      let s = size_pos t in
      among_first k m t ts n (omega (arith, h, s)) ∙ (if_false _ _ _ (other n m (inl h)) ∙ none_above t m n (omega (arith, h)))

-- where there is one, it is the root or one of its operands' nodes
mutual
  pub above_in : (t : Tree) (k n p : ℕ) → parent_in k t n ≡ Some p → In k (size t) p
  above_in (node class ts) k n p h = elim (above_among ts k (suc k) n p h) [
    | inl e ↦ (omega (arith, e), omega (arith, e))
    | inr r ↦ (let a = r.0 in let b = r.1 in (omega (arith, a), omega (arith, b)))
  ]

  pub above_among : (ts : Trees) (k m n p : ℕ) → parent_among k m ts n ≡ Some p → (p ≡ k) ⊎ In m (sizes ts) p
  above_among none k m n p h = absurd (cc)
  above_among (more t ts) k m n p h = low_or_high n (m + size t)
      (λ l. same_or_other n m
      (λ e. inl (sym (same_Some _ _ (sym (among_first k m t ts n l ∙ if_true _ _ _ (eq_test e)) ∙ h))))
      (λ e. (let r = above_in t m n p (sym (among_first k m t ts n l ∙ if_false _ _ _ e) ∙ h) in let a = r.0 in let b = r.1 in
      inr (a, omega (arith, b)))))
      (λ l. elim (above_among ts k (m + size t) n p (sym (among_rest k m t ts n l) ∙ h)) [
        | inl e ↦ inl e
        | inr r ↦ (let a = r.0 in let b = r.1 in inr (omega (arith, a), omega (arith, b)))
      ])
    where
      eq_test : n ≡ m → (n == m) ≡ true
      eq_test e = subst (λ z. (n == z) ≡ true) e (eq_eq n)

-- ---- own events
-- a node with events has some
pub own_next : (k : ℕ) (class : Class) (ts : Trees) (passed ahead : List Place) (u : Place) (taken : Taken) → is_formed (node class ts) ≡ true
    → operand_events taken class (taken k) 0 (suc k) ts ≡ passed ++ u ∷ ahead → comes_next k (own_events k class) ≡ true
own_next k Object ts passed ahead u taken f h = absurd (no_split passed ahead u
    (sym (silent_all taken ts Object (taken k) 0 (suc k) (and_r (all_quiet ts) _ f) (and_l (all_quiet ts) _ f)) ∙ h))
own_next k Constant ts passed ahead u taken f h = absurd (no_split passed ahead u
    (sym (silent_all taken ts Constant (taken k) 0 (suc k) (and_r (all_quiet ts) _ f) (and_l (all_quiet ts) _ f)) ∙ h))
own_next k Plain ts passed ahead u taken f h = eq_eq k
own_next k Store ts passed ahead u taken f h = eq_eq k
own_next k Update ts passed ahead u taken f h = eq_eq k
own_next k Choice ts passed ahead u taken f h = eq_eq k
own_next k Comma ts passed ahead u taken f h = eq_eq k
own_next k Call ts passed ahead u taken f h = eq_eq k
own_next k Isolated ts passed ahead u taken f h = eq_eq k

pub own_of : (k : ℕ) (class : Class) (w : Place) → has (own_events k class) w ≡ true → w.node ≡ k
own_of k class w h = own_node (kinds_of class) k w h

-- the events of an operand that is evaluated
abbrev pub operand : Taken → Class → Option ℕ → ℕ → ℕ → Tree → List Place
operand taken class choice i m t = if goes class choice i then events taken m t else []

pub operand_split : (taken : Taken) (class : Class) (choice : Option ℕ) (i m : ℕ) (t : Tree) (passed ahead : List Place) (u : Place)
    → operand taken class choice i m t ≡ passed ++ u ∷ ahead → events taken m t ≡ passed ++ u ∷ ahead
operand_split taken class choice i m t passed ahead u h = by_test (goes class choice i)
    (λ e. sym (if_true _ _ _ e) ∙ h)
    (λ e. absurd (no_split passed ahead u (sym (if_false _ _ _ e) ∙ h)))

-- ---- an event is the last of its node where none of the node's comes next
stays : (from to n : ℕ) (us vs : List Place) → AreOutside from to vs → ((w : Place) → has vs w ≡ true → (w.node == n) ≡ false)
    → outside from to us ≡ not (comes_next n us) → outside from to (us ++ vs) ≡ not (comes_next n (us ++ vs))
stays from to n [] vs f g h = all_outside from to vs f ∙ sym (ap not (none_next n vs g))
stays from to n (u ∷ us) vs f g h = outside_more from to (u ∷ us) vs f ∙ h

-- what stands behind an operand: events of later operands, and of the node
abbrev pub Behind : ℕ → ℕ → List Place → Type 0
Behind k end vs = (w : Place) → has vs w ≡ true → (w.node ≡ k) ⊎ (end ≤ w.node)

pub behind_operands : (taken : Taken) (class : Class) (choice : Option ℕ) (i m k : ℕ) (ts : Trees) (own : List Place)
    → ((w : Place) → has own w ≡ true → w.node ≡ k) → Behind k m (operand_events taken class choice i m ts ++ own)
behind_operands taken class choice i m k ts own f w h = elim (has_cases (operand_events taken class choice i m ts) own w h) [
  | inl a ↦ inr (operands_in taken class choice ts i m w a).0
  | inr a ↦ inl (f w a)
]

pub behind_out : (k end from to : ℕ) (vs : List Place) → k < from → to ≤ end → Behind k end vs → AreOutside from to vs
behind_out k end from to vs l g f w h = elim (f w h) [
  | inl e ↦ out_of from to w.node (inl (omega (arith, e, l)))
  | inr e ↦ out_of from to w.node (inr (omega (arith, e, g)))
]

pub behind_other : (k end n : ℕ) (vs : List Place) → k < n → n < end → Behind k end vs → (w : Place) → has vs w ≡ true → (w.node == n) ≡ false
behind_other k end n vs l g f w h = elim (f w h) [
  | inl e ↦ other w.node n (inl (omega (arith, e, l)))
  | inr e ↦ other w.node n (inr (omega (arith, e, g)))
]

own_ahead : (k end : ℕ) (ahead : List Place) → k < end → ((w : Place) → has ahead w ≡ true → w.node ≡ k) → outside k end ahead ≡ not (comes_next k ahead)
own_ahead k end [] l f = refl
own_ahead k end (v ∷ vs) l f =
    let e : v.node ≡ k = f v (has_at [] vs v) in
    not_outside k end v vs (within k end v.node (omega (arith, e)) (omega (arith, e, l)))
    ∙ sym (ap not (ap (λ z. z == k) e ∙ eq_eq k))

mutual
  pub node_ahead : (taken : Taken) (t : Tree) (k : ℕ) (passed ahead : List Place) (u : Place) → events taken k t ≡ passed ++ u ∷ ahead
      → outside u.node (least k t u.node u.node).1 ahead ≡ not (comes_next u.node ahead)
  node_ahead taken (node class ts) k passed ahead u h =
      elim (split (operand_events taken class (taken k) 0 (suc k) ts) (own_events k class) passed ahead u h) [
        | left rest a b ↦
            (let s = operands_ahead taken class (taken k) ts 0 (suc k) k passed rest u (own_events k class) (k, k + size (node class ts)) (omega arith)
            (own_of k class) a in
            subst (λ z. outside u.node (least k (node class ts) u.node u.node).1 z ≡ not (comes_next u.node z)) (sym b) s)
        | right before a b ↦ of_own before b (own_of k class u (ap (λ z. has z u) b ∙ has_at before ahead u))
      ]
    where
      of_own : (before : List Place) → own_events k class ≡ before ++ u ∷ ahead → u.node ≡ k
          → outside u.node (least k (node class ts) u.node u.node).1 ahead ≡ not (comes_next u.node ahead)
      of_own before b e =
          subst (λ z. outside z (least k (node class ts) z z).1 ahead ≡ not (comes_next z ahead)) (sym e)
          (subst (λ z. outside k z.1 ahead ≡ not (comes_next k ahead)) (sym (least_below (suc k) ts k (k, k + size (node class ts)) (omega arith)))
          (own_ahead k (k + size (node class ts)) ahead (omega arith)
          (λ w g. own_of k class w (ap (λ z. has z w) b ∙ has_right before (u ∷ ahead) w (has_right (u ∷ []) ahead w g)))))

  pub operands_ahead : (taken : Taken) (class : Class) (choice : Option ℕ) (ts : Trees) (i m k : ℕ) (passed rest : List Place) (u : Place)
      (own : List Place) (here : ℕ × ℕ) → k < m → ((w : Place) → has own w ≡ true → w.node ≡ k)
      → operand_events taken class choice i m ts ≡ passed ++ u ∷ rest
      → outside u.node (least_in m ts u.node u.node here).1 (rest ++ own) ≡ not (comes_next u.node (rest ++ own))
  operands_ahead taken class choice none i m k passed rest u own here l f h = absurd (no_split passed rest u h)
  operands_ahead taken class choice (more t ts) i m k passed rest u own here l f h =
      elim (split (operand taken class choice i m t) (operand_events taken class choice (suc i) (m + size t) ts) passed rest u h) [
        | left some a b ↦
            (let e = operand_split taken class choice i m t passed some u a in
            in_first some e b (node_ahead taken t m passed some u e))
        | right before a b ↦ in_rest before b
            (operands_ahead taken class choice ts (suc i) (m + size t) k before rest u own here (omega (arith, l)) f b)
      ]
    where
      behind : List Place
      behind = operand_events taken class choice (suc i) (m + size t) ts

      in_first : (some : List Place) → events taken m t ≡ passed ++ u ∷ some → rest ≡ some ++ behind
          → outside u.node (least m t u.node u.node).1 some ≡ not (comes_next u.node some)
          → outside u.node (least_in m (more t ts) u.node u.node here).1 (rest ++ own) ≡ not (comes_next u.node (rest ++ own))
      in_first some a b again =
          let r : In m (size t) u.node = events_in taken t m u (ap (λ z. has z u) a ∙ has_at passed some u) in
          let low = r.0 in
          let high = r.1 in
          let ends = least_ends t m u.node r in
          let out : Behind k (m + size t) (behind ++ own) = behind_operands taken class choice (suc i) (m + size t) k ts own f in
          let s = stays u.node (least m t u.node u.node).1 u.node some (behind ++ own)
          (behind_out k (m + size t) u.node (least m t u.node u.node).1 (behind ++ own) (omega (arith, l, low)) ends out)
          (behind_other k (m + size t) u.node (behind ++ own) (omega (arith, l, low)) high out)
          again in
          subst (λ z. outside u.node z.1 (rest ++ own) ≡ not (comes_next u.node (rest ++ own))) (sym (least_first m t ts u.node here r))
          (subst (λ z. outside u.node (least m t u.node u.node).1 z ≡ not (comes_next u.node z))
          (sym (ap (λ z. z ++ own) b ∙ append_assoc some behind own)) s)

      in_rest : (before : List Place) → behind ≡ before ++ u ∷ rest
          → outside u.node (least_in (m + size t) ts u.node u.node here).1 (rest ++ own) ≡ not (comes_next u.node (rest ++ own))
          → outside u.node (least_in m (more t ts) u.node u.node here).1 (rest ++ own) ≡ not (comes_next u.node (rest ++ own))
      in_rest before b again =
          let low = (operands_in taken class choice ts (suc i) (m + size t) u (ap (λ z. has z u) b ∙ has_at before rest u)).0 in
          subst (λ z. outside u.node z.1 (rest ++ own) ≡ not (comes_next u.node (rest ++ own))) (sym (least_rest m t ts u.node here (inr low)))
          again

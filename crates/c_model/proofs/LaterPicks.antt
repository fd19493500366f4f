-- What two picks of one full expression owe each other.
use Rattle.std.proofs.Common.{
  ◌≡◌,
  ◌≢◌,
  ℕ,
  zero,
  suc,
  ◌+◌,
  Bool,
  true,
  false,
  not,
  ◌&&◌,
  ◌||◌,
  ◌==◌,
  nat_lt,
  if◌then◌else◌,
  true≢false,
  List,
  [],
  ◌∷◌,
  Option,
  Some,
  None,
  is_some,
  refl,
  sym,
  ap,
  ap₂,
  ◌∙◌,
  subst,
  ◌⊎◌,
  inl,
  inr,
  arith,
}
use Rattle.std.proofs.lemmas.Bool.Decides.{nat_tests}
use Rattle.ub_base.specs.declared.clause.Kind.{Kind}
use Rattle.ub_base.specs.declared.clause.Kind.TheVariants.{Val, Eff, Body}
use Rattle.ub_base.specs.Names.{same_kind}
use Rattle.c_types.specs.Types.{CType}
use Rattle.c_typed.specs.declared.tree.Place.{Place}
use Rattle.c_typed.specs.Tree.{Tree, Trees, class_of, operands, size, is_quiet}
use Rattle.c_typed.specs.Order.{Taken, place, same_place, is_choice, is_last}
use Rattle.c_typed.specs.Decide.{due_in, is_before}
use Rattle.c_model.specs.Program.{Head, And, Or, Cond, Expr, expr, Exprs, none, more, tree_of, trees_of, head_class}
use Rattle.c_model.specs.Values.{Value, or_nothing}
use Rattle.c_model.specs.World.{World}
use Rattle.c_model.specs.Steps.{Scene, Begun, with_given, taken_by, choice_in, choice_by, values_of, at_node, at_node_among, quiet_value}
use Rattle.c_model.specs.ChoiceLaws.{IsNext, IsReached}
use Rattle.c_model.proofs.LaterChoices.{due_kept, x, chooses, chooses_among, Held, old_before}

abbrev val_at : ℕ → Place
val_at n = place n Val

same_kind-eq : (a b : Kind) → same_kind a b ≡ true → a ≡ b
same_kind-eq Val Val h = refl
same_kind-eq Eff Eff h = refl
same_kind-eq Body Body h = refl
same_kind-eq _ _ h = absurd (cc)

eq_number : (a b : ℕ) → (a == b) ≡ true → a ≡ b
eq_number a b h = grind (arith, nat_tests, h)

same_number : (n : ℕ) → (n == n) ≡ true
same_number n = grind (arith, nat_tests)

pub same_place-eq : (u v : Place) → same_place u v ≡ true → u ≡ v
same_place-eq u v h =
    let en : u.node ≡ v.node = eq_number _ _ (and_left' (u.node == v.node) _ h) in
    let ek = same_kind-eq u.kind v.kind (and_right' (u.node == v.node) _ h) in
    λ i. record { node = en i; kind = ek i }
  where
    and_left' : (a b : Bool) → (a && b) ≡ true → a ≡ true
    and_left' true b h = refl
    and_left' false b h = h

    and_right' : (a b : Bool) → (a && b) ≡ true → b ≡ true
    and_right' true b h = h
    and_right' false b h = absurd (cc)

pub same_place-no : (u v : Place) → u ≢ v → same_place u v ≡ false
same_place-no u v ne = go (same_place u v) refl
  where
    go : (b : Bool) → same_place u v ≡ b → same_place u v ≡ false
    go false e = e
    go true e = absurd (ne (same_place-eq u v e))

pub if_no : {A : Type 0} (b : Bool) (p q : A) → b ≡ false → (if b then p else q) ≡ q
if_no false p q h = refl
if_no true p q h = absurd (cc)

-- a choice looks at the first value alone
choice_head : (h : Head) (v : Value) (vs ws : List Value) (b : Bool) → choice_by h (v ∷ vs) b ≡ choice_by h (v ∷ ws) b
choice_head And v vs ws true = refl
choice_head Or v vs ws true = refl
choice_head Cond v vs ws true = refl
choice_head And v vs ws false = refl
choice_head Or v vs ws false = refl
choice_head Cond v vs ws false = refl
choice_head _ v vs ws b = refl

no_choice : (h : Head) (ts : Trees) (vs : List Value) (b : Bool) → is_choice (head_class h ts) ≡ false → choice_by h vs b ≡ None
no_choice And ts vs b h = absurd (cc)
no_choice Or ts vs b h = absurd (cc)
no_choice Cond ts vs b h = absurd (cc)
no_choice _ ts vs b h = refl

not_known : (h : Head) (vs : List Value) → choice_by h vs false ≡ None
not_known And [] = refl
not_known And (v ∷ vs) = refl
not_known Or [] = refl
not_known Or (v ∷ vs) = refl
not_known Cond [] = refl
not_known Cond (v ∷ vs) = refl
not_known _ vs = refl

flip_eq : (a b : ℕ) → (a == b) ≡ (b == a)
flip_eq a b = go (a == b) (b == a) refl refl
  where
    go : (p q : Bool) → (a == b) ≡ p → (b == a) ≡ q → p ≡ q
    go true true g h = refl
    go false false g h = refl
    go true false g h = absurd (grind (arith, nat_tests, g, h))
    go false true g h = absurd (grind (arith, nat_tests, g, h))

among_case : (b : Bool) (p q : Option Expr) (c d : Bool) {r : Option Expr} → (p ≡ r → c ≡ true) → (q ≡ r → d ≡ true) → (if b then p else q) ≡ r →
    (if b then c else d) ≡ true
among_case true p q c d f g h = f h
among_case false p q c d f g h = g h

some_inj : {t v : Expr} → Some t ≡ Some v → t ≡ v
some_inj h = cc

-- the root of the tree is a choice with an operand
abbrev is_first : Tree → Bool
is_first t = is_choice (class_of t) && not (is_last (operands t))

and_true : (a : Bool) → a ≡ true → a && true ≡ true
and_true true h = refl
and_true false h = h

root_case : (b : Bool) (e0 : Expr) (o : Option Expr) (d : Bool) (h : Head) (ty : CType) (line : ℕ) (t1 : Expr) (ts1 : Exprs) →
    (o ≡ Some (expr h ty line (more t1 ts1)) → d ≡ true)
    → (if b then Some e0 else o) ≡ Some (expr h ty line (more t1 ts1)) → is_choice (head_class h (trees_of (more t1 ts1))) ≡ true →
    (if b then is_first (tree_of e0) else d) ≡ true
root_case true e0 o d h ty line t1 ts1 g q c = subst (λ z. is_first (tree_of z) ≡ true) (sym (some_inj q)) (and_true _ c)
root_case false e0 o d h ty line t1 ts1 g q c = g q

module _ (world : World) (f : Scene) (e : Begun) (u : Place) (w : Value) where
  abbrev e' : Begun
  e' = with_given e u w

  abbrev T : Taken
  T = taken_by world f e

  abbrev T' : Taken
  T' = taken_by world f e'

  pub given_other : (v : Place) → u ≢ v → e'.given v ≡ e.given v
  given_other v ne = if_no _ _ _ (same_place-no u v ne)

  first_value : (t : Expr) (k : ℕ) → u ≢ val_at k →
      (if is_quiet (tree_of t) then quiet_value world f t else or_nothing (e'.given (val_at k))) ≡
      (if is_quiet (tree_of t) then quiet_value world f t else or_nothing (e.given (val_at k)))
  first_value t k ne = ap (λ z. if is_quiet (tree_of t) then quiet_value world f t else or_nothing z) (given_other (val_at k) ne)

  -- a choice whose first operand's value isn't u's stays
  choice_same : (k : ℕ) (o : Option Expr) → u ≢ val_at (suc k) → choice_in world f e'.given k o ≡ choice_in world f e.given k o
  choice_same k None ne = refl
  choice_same k (Some (expr h ty line none)) ne = refl
  choice_same k (Some (expr h ty line (more t ts))) ne =
      let known = ap (λ z. is_quiet (tree_of t) || is_some z) (given_other (val_at (suc k)) ne) in
      choice_head h _ _ (values_of world f e.given (suc k + size (tree_of t)) ts) _
      ∙ ap₂ (λ z b. choice_by h (z ∷ values_of world f e.given (suc k + size (tree_of t)) ts) b) (first_value t (suc k) ne) known

  -- nor does one whose first operand is quiet, or a node that is no choice
  quiet_same : (k : ℕ) (h : Head) (ty : CType) (line : ℕ) (t : Expr) (ts : Exprs) → is_quiet (tree_of t) ≡ true →
      choice_in world f e'.given k (Some (expr h ty line (more t ts))) ≡ choice_in world f e.given k (Some (expr h ty line (more t ts)))
  quiet_same k h ty line t ts q =
      let known = ap (λ a. a || is_some (e'.given (val_at (suc k)))) q in
      let known' = ap (λ a. a || is_some (e.given (val_at (suc k)))) q in
      let v = if_yes (is_quiet (tree_of t)) (quiet_value world f t) (or_nothing (e'.given (val_at (suc k)))) q in
      let v' = if_yes (is_quiet (tree_of t)) (quiet_value world f t) (or_nothing (e.given (val_at (suc k)))) q in
      choice_head h _ _ (values_of world f e.given (suc k + size (tree_of t)) ts) _
      ∙ ap₂ (λ z b. choice_by h (z ∷ values_of world f e.given (suc k + size (tree_of t)) ts) b) (v ∙ sym v') (known ∙ sym known')
    where
      if_yes : {A : Type 0} (b : Bool) (p q : A) → b ≡ true → (if b then p else q) ≡ p
      if_yes true p q h = refl
      if_yes false p q h = absurd (cc)

  no_choice_same : (k : ℕ) (h : Head) (ty : CType) (line : ℕ) (ts : Exprs) → is_choice (head_class h (trees_of ts)) ≡ false →
      choice_in world f e'.given k (Some (expr h ty line ts)) ≡ choice_in world f e.given k (Some (expr h ty line ts))
  no_choice_same k h ty line ts q = no_choice h (trees_of ts) _ _ q ∙ sym (no_choice h (trees_of ts) _ _ q)

  -- the pick makes no choice, or that of one node
  data Change : Type 0 where
    none_made : T' ≡ T → Change
    made : (n0 : ℕ) (agree' : (k : ℕ) → k ≢ n0 → T' k ≡ T k) (fresh : T n0 ≡ None) → u ≡ val_at (suc n0) → Held T T' n0 agree' fresh 0 (tree_of e.root) →
        Change

  mutual
    -- a choice that is in the tree is found there
    found : (n0 : ℕ) (agree' : (k : ℕ) → k ≢ n0 → T' k ≡ T k) (fresh : T n0 ≡ None) (t : Expr) (k : ℕ) (h : Head) (ty : CType) (line : ℕ) (t1 : Expr)
        (ts1 : Exprs) → at_node k t n0 ≡ Some (expr h ty line (more t1 ts1))
        → is_choice (head_class h (trees_of (more t1 ts1))) ≡ true → chooses T T' n0 agree' fresh k (tree_of t) ≡ true
    found n0 agree' fresh (expr m my ml ts) k h ty line t1 ts1 q c =
        subst (λ b. (if b then is_first (tree_of (expr m my ml ts)) else chooses_among T T' n0 agree' fresh (suc k) (trees_of ts)) ≡ true) (flip_eq k n0)
        (root_case (k == n0) (expr m my ml ts) (at_node_among (suc k) ts n0) _ h ty line t1 ts1
        (λ z. found_among n0 agree' fresh ts (suc k) h ty line t1 ts1 z c) q c)

    found_among : (n0 : ℕ) (agree' : (k : ℕ) → k ≢ n0 → T' k ≡ T k) (fresh : T n0 ≡ None) (ts : Exprs) (k : ℕ) (h : Head) (ty : CType) (line : ℕ) (t1 : Expr)
        (ts1 : Exprs) → at_node_among k ts n0 ≡ Some (expr h ty line (more t1 ts1))
        → is_choice (head_class h (trees_of (more t1 ts1))) ≡ true → chooses_among T T' n0 agree' fresh k (trees_of ts) ≡ true
    found_among n0 agree' fresh none k h ty line t1 ts1 q c = absurd (cc)
    found_among n0 agree' fresh (more t ts) k h ty line t1 ts1 q c =
        among_case (nat_lt n0 (k + size (tree_of t))) _ _ _ _ (λ z. found n0 agree' fresh t k h ty line t1 ts1 z c)
        (λ z. found_among n0 agree' fresh ts (k + size (tree_of t)) h ty line t1 ts1 z c) q

  all_same : ((k : ℕ) → T' k ≡ T k) → T' ≡ T
  all_same h = λ i k. h k i

  other_node : (n0 k : ℕ) → u ≡ val_at (suc n0) → k ≢ n0 → u ≢ val_at (suc k)
  other_node n0 k eu ne e2 =
      let a : suc n0 ≡ suc k = ap (λ z. z.node) (sym eu ∙ e2) in
      ne (omega (arith, a))

  agree_at : (n0 : ℕ) → u ≡ val_at (suc n0) → (k : ℕ) → k ≢ n0 → T' k ≡ T k
  agree_at n0 eu k ne = choice_same k (at_node 0 e.root k) (other_node n0 k eu ne)

  same_number' : (a b : ℕ) → (a ≡ b) ⊎ (a ≢ b)
  same_number' a b = grind arith

  same_all : (n0 : ℕ) → u ≡ val_at (suc n0) → T' n0 ≡ T n0 → T' ≡ T
  same_all n0 eu at = all_same (λ k. elim (same_number' k n0) [ inl q ↦ subst (λ z. T' z ≡ T z) (sym q) at | inr ne ↦ agree_at n0 eu k ne ])

  -- what a pick changes of the choices
  change_at : (n0 : ℕ) → u ≡ val_at (suc n0) → due_in T 0 (tree_of e.root) u ≡ true → e.given u ≡ None → (o : Option Expr) → at_node 0 e.root n0 ≡ o → Change
  change_at n0 eu du gu None q = none_made (same_all n0 eu (ap (choice_in world f e'.given n0) q ∙ sym (ap (choice_in world f e.given n0) q)))
  change_at n0 eu du gu (Some (expr h ty line none)) q =
      none_made (same_all n0 eu (ap (choice_in world f e'.given n0) q ∙ sym (ap (choice_in world f e.given n0) q)))
  change_at n0 eu du gu (Some (expr h ty line (more t ts))) q = go (is_choice (head_class h (trees_of (more t ts)))) (is_quiet (tree_of t)) refl refl
    where
      go : (b c : Bool) → is_choice (head_class h (trees_of (more t ts))) ≡ b → is_quiet (tree_of t) ≡ c → Change
      go false c eb ec = none_made (same_all n0 eu
          (ap (choice_in world f e'.given n0) q ∙ no_choice_same n0 h ty line (more t ts) eb ∙ sym (ap (choice_in world f e.given n0) q)))
      go true true eb ec = none_made (same_all n0 eu
          (ap (choice_in world f e'.given n0) q ∙ quiet_same n0 h ty line t ts ec ∙ sym (ap (choice_in world f e.given n0) q)))
      go true false eb ec =
          let known : (is_quiet (tree_of t) || is_some (e.given (val_at (suc n0)))) ≡ false =
          ap (λ z. z || is_some (e.given (val_at (suc n0)))) ec ∙ ap is_some (subst (λ z. e.given z ≡ None) eu gu) in
          let fr : T n0 ≡ None = ap (choice_in world f e.given n0) q ∙ ap (choice_by h (values_of world f e.given (suc n0) (more t ts))) known ∙ not_known h _
          in
          let ag = agree_at n0 eu in
          made n0 ag fr eu (record {
            due = λ l r. subst (λ z. due_in T 0 (tree_of e.root) z ≡ true) eu du;
            choice = λ l r. found n0 ag fr e.root 0 h ty line t ts q eb;
          })

  no_value : (u ≢ val_at u.node) ⊎ (u.node ≡ 0) → Change
  no_value (inl ne) = none_made (all_same (λ k. choice_same k (at_node 0 e.root k) (λ q. ne (q ∙ ap val_at (sym (ap (λ z. z.node) q))))))
  no_value (inr z) = none_made (all_same (λ k. choice_same k (at_node 0 e.root k) (λ q. let a : 0 ≡ suc k = sym z ∙ ap (λ v. v.node) q in omega (arith, a))))

  change : due_in T 0 (tree_of e.root) u ≡ true → e.given u ≡ None → Change
  change du gu = by_kind u.kind u.node refl refl
    where
      by_kind : (c : Kind) (n : ℕ) → u.kind ≡ c → u.node ≡ n → Change
      by_kind Val zero ek en = no_value (inr en)
      by_kind Val (suc n0) ek en = let eu : u ≡ val_at (suc n0) = (λ i. record { node = en i; kind = ek i }) in change_at n0 eu du gu
          (at_node 0 e.root n0) refl
      by_kind Eff n ek en = no_value (inl (λ q. absurd (cc (ap (λ z. z.kind) q, ek))))
      by_kind Body n ek en = no_value (inl (λ q. absurd (cc (ap (λ z. z.kind) q, ek))))

  -- what came before p after the pick came before it already, or u does
  pub old_or_u : (v p : Place) → due_in T 0 (tree_of e.root) u ≡ true → e.given u ≡ None → is_before T' 0 (tree_of e.root) v p ≡ true →
      due_in T' 0 (tree_of e.root) v ≡ true → due_in T 0 (tree_of e.root) p ≡ true
      → ((is_before T 0 (tree_of e.root) v p ≡ true) × (due_in T 0 (tree_of e.root) v ≡ true)) ⊎ (is_before T 0 (tree_of e.root) u p ≡ true)
  old_or_u v p du gu b d dp = elim (change du gu) [
    | none_made q ↦ inl (subst (λ z. is_before z 0 (tree_of e.root) v p ≡ true) q b, subst (λ z. due_in z 0 (tree_of e.root) v ≡ true) q d)
    | made n0 ag fr eu hd ↦ elim (old_before T T' n0 ag fr (tree_of e.root) 0 v p hd b d dp) [
      | inl a ↦ inl a
      | inr a ↦ inr (subst (λ z. is_before T 0 (tree_of e.root) z p ≡ true) (sym eu) a.1)
    ]
  ]

  -- choices are kept
  pub choices_kept : due_in T 0 (tree_of e.root) u ≡ true → e.given u ≡ None → (k j : ℕ) → T k ≡ Some j → T' k ≡ Some j
  choices_kept du gu k j h = elim (change du gu) [
    | none_made q ↦ ap (λ z. z k) q ∙ h
    | made n0 ag fr eu hd ↦ elim (same_number' k n0) [
      | inl q ↦ absurd (cc (subst (λ z. T z ≡ Some j) q h, fr))
      | inr ne ↦ ag k ne ∙ h
    ]
  ]

pub none_some : {A : Type 0} (o : Option A) → o ≡ None → is_some o ≡ true → ⊥
none_some None e h = true≢false (sym h)
none_some (Some a) e h = absurd (cc)

module _ (world : World) (f : Scene) (e : Begun) where
  abbrev pub before : Place → Place → Bool
  before u v = is_before (taken_by world f e) 0 (tree_of e.root) u v

  -- of two ready picks neither comes before the other
  pub not_before : (u q : Place) → IsNext world f e u → IsNext world f e q → before u q ≡ false
  not_before u q ru rq = go (before u q) refl
    where
      go : (b : Bool) → before u q ≡ b → before u q ≡ false
      go false eq = eq
      go true eq = absurd (none_some (e.given u) ru.left (rq.earlier u ru.due eq))

  pub still_given : (u v : Place) (w : Value) → is_some (e.given v) ≡ true → is_some ((with_given e u w).given v) ≡ true
  still_given u v w h = go (same_place u v)
    where
      go : (b : Bool) → is_some (if b then Some w else e.given v) ≡ true
      go true = refl
      go false = h

  -- what is reached stays reached
  pub reached_next : (u p : Place) (w : Value) → IsNext world f e u → IsReached world f e p → IsReached world f (with_given e u w) p
  reached_next u p w ru rp = record {
    due = due_kept (taken_by world f e) (taken_by world f (with_given e u w)) (choices_kept world f e u w ru.due ru.left) (tree_of e.root) 0 p rp.due;
    earlier = λ v d b. elim (old_or_u world f e u w v p ru.due ru.left b d rp.due) [
      | inl a ↦ still_given u v w (rp.earlier v a.1 a.0)
      | inr a ↦ absurd (none_some (e.given u) ru.left (rp.earlier u ru.due a))
    ];
  }

  pub ready_reached : (u : Place) → IsNext world f e u → IsReached world f e u
  ready_reached u r = record { due = r.due; earlier = r.earlier }

  -- a pick that was made is reached
  pub reached_made : (u : Place) (w : Value) → IsNext world f e u → IsReached world f (with_given e u w) u
  reached_made u w ru = reached_next u u w ru (ready_reached u ru)

  -- a pick keeps another ready
  pub keeps_ready : (u q : Place) (w : Value) → IsNext world f e u → IsNext world f e q → u ≢ q → IsNext world f (with_given e u w) q
  keeps_ready u q w ru rq ne =
      let r = reached_next u q w ru (ready_reached q rq) in
      record { due = r.due; earlier = r.earlier; left = given_other world f e u w q ne ∙ rq.left }

  -- order among reached events stays as it is
  pub before_stays : (u p q : Place) (w : Value) → IsNext world f e u → IsReached world f e p → IsReached world f e q → before p q ≡ false →
      is_before (taken_by world f (with_given e u w)) 0 (tree_of e.root) p q ≡ false
  before_stays u p q w ru rp rq h = go (is_before (taken_by world f (with_given e u w)) 0 (tree_of e.root) p q) refl
    where
      go : (b : Bool) → is_before (taken_by world f (with_given e u w)) 0 (tree_of e.root) p q ≡ b →
          is_before (taken_by world f (with_given e u w)) 0 (tree_of e.root) p q ≡ false
      go false eq = eq
      go true eq =
          let d' = due_kept (taken_by world f e) (taken_by world f (with_given e u w)) (choices_kept world f e u w ru.due ru.left) (tree_of e.root) 0 p rp.due
          in
          elim (old_or_u world f e u w p q ru.due ru.left eq d' rq.due) [
            | inl a ↦ absurd (true≢false (sym a.0 ∙ h))
            | inr a ↦ absurd (none_some (e.given u) ru.left (rq.earlier u ru.due a))
          ]

-- the order of two picks doesn't show in what was given
pub given_swap : (e : Begun) (u q : Place) (v w : Value) → u ≢ q → with_given (with_given e u w) q v ≡ with_given (with_given e q v) u w
given_swap e u q v w ne = λ i. record e { given = λ z. pointwise z i }
  where
    both : (a b : Bool) (x y : Option Value) (o : Option Value) → (a && b ≡ false) →
        (if a then x else (if b then y else o)) ≡ (if b then y else (if a then x else o))
    both true true x y o h = absurd (true≢false h)
    both true false x y o h = refl
    both false b x y o h = refl

    apart : (z : Place) → (same_place q z && same_place u z) ≡ false
    apart z = go (same_place q z) (same_place u z) refl refl
      where
        go : (a b : Bool) → same_place q z ≡ a → same_place u z ≡ b → a && b ≡ false
        go true true ea eb = absurd (ne (same_place-eq u z eb ∙ sym (same_place-eq q z ea)))
        go true false ea eb = refl
        go false b ea eb = refl

    pointwise : (z : Place) → (if same_place q z then Some v else (if same_place u z then Some w else e.given z)) ≡
        (if same_place u z then Some w else (if same_place q z then Some v else e.given z))
    pointwise z = both (same_place q z) (same_place u z) (Some v) (Some w) (e.given z) (apart z)

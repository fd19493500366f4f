-- The choices that are made at the value of a node's test are those of the definitions.
use Rattle.std.proofs.Common.{arith, ◌≡◌, ◌≢◌, ◌<◌, ◌≤◌, ◌+◌, ◌==◌, ◌||◌, ◌&&◌, inl, inr, Bool, true, false, if◌then◌else◌, ℕ, zero, suc}
use Rattle.std.proofs.Common.{List, [], ◌∷◌, ◌++◌, Option, Some, None, slice_get, refl, sym, ap, subst, ◌∙◌, true≢false}
use Rattle.std.specs.Prelude.{nat_lt, is_some}
use Rattle.std.proofs.lemmas.Bool.Decides.{nat_tests}
use Rattle.std.proofs.lemmas.List.{append-nil}
use Rattle.ub_base.specs.declared.clause.Kind.TheVariants.{Val}
use Rattle.c_types.specs.Types.{CType}
use Rattle.c_typed.specs.declared.class.Class.{Class}
use Rattle.c_typed.specs.declared.class.Class.TheVariants.{Choice}
use Rattle.c_typed.specs.declared.tree.Place.{Place}
use Rattle.c_typed.specs.declared.tree.Typed.{Typed, out-Typed}
use Rattle.c_typed.specs.Tree as typed
use Rattle.c_typed.specs.Tree.{Tree, Trees, size, sizes, is_quiet}
use Rattle.c_typed.specs.Order.{Taken, place, same_place, goes, events, operand_events, own_events, has, is_due}
use Rattle.c_model.specs.Program.{Head, Expr, expr, Exprs, none, more, tree_of, trees_of, head_class}
use Rattle.c_model.specs.Values.{Value, truth, or_nothing}
use Rattle.c_model.specs.World.{World}
use Rattle.c_model.specs.Steps.{Scene, Begun, with_given, quiet_value, values_of, first_known, choice_by, choice_in}
use Rattle.c_model.specs.Steps.{at_node, at_node_among, taken_by}
use Rattle.elaborate.specs.Formed.{is_formed, are_formed, takes as takes_operands}
use Rattle.elaborate.proofs.Listed.{and_l, and_r, silent}
use Rattle.elaborate.proofs.Ranges.{has_or, has_itself, has_cases, has_left, has_right, own_node, if_has, events_in, operands_in}
use Rattle.elaborate.proofs.Ranges.{eq_of, eq_eq, same_kind_eq, size_pos}
use Rattle.run_layout.specs.Branches.{IsChoiceOf, is_choice}
use Rattle.run_layout.specs.Choosing.{chooses}
use Rattle.run_layout.specs.AtOnce.{takes, chosen_in}
use Rattle.run_layout.specs.Chosen.{with_chosen, Views, ViewAll, where_due, IsNodeOf, IsNodeBelow, IsKept, by_way, IsNoTest, ChosenAtTest, ChosenElsewhere}
use Rattle.run_layout.proofs.ChosenLemmas.{bool_cases, has_none, same_choice, not_known, by_truth, no_choice, takes_later, class_choice, none_go, made}
use Rattle.run_layout.proofs.ChosenLemmas.{view_size, operand_made, agree_all}
use Rattle.run_layout.proofs.AtOnce.{node_at}

-- ---- a node of a tree

mutual
  pub node_range : (k : ℕ) (t : Typed) (e : Expr) (p : ℕ) (x : Typed) (y : Expr) → IsNodeOf k t e p x y
      → (k ≤ p) × (p + size (tree_of y) ≤ k + size (tree_of e))
  node_range k t (expr h ty line es) p x y (inl q) =
      let same : size (tree_of (expr h ty line es)) ≡ size (tree_of y) = ap (λ z. size (tree_of z)) q.2 in
      (omega (arith, q.0), omega (arith, q.0, same))
  node_range k t (expr h ty line es) p x y (inr b) =
      let r = below_range (suc k) (out-Typed t).children es p x y b in (omega (arith, r.0), omega (arith, r.1))

  below_range : (m : ℕ) (ts : List Typed) (es : Exprs) (p : ℕ) (x : Typed) (y : Expr) → IsNodeBelow m ts es p x y
      → (m ≤ p) × (p + size (tree_of y) ≤ m + sizes (trees_of es))
  below_range m [] none p x y b = absurd b
  below_range m [] (more e es) p x y b = absurd b
  below_range m (t ∷ ts) none p x y b = absurd b
  below_range m (t ∷ ts) (more e es) p x y (inl a) = let r = node_range m t e p x y a in (r.0, omega (arith, r.1))
  below_range m (t ∷ ts) (more e es) p x y (inr b) =
      let r = below_range (m + size (tree_of e)) ts es p x y b in (omega (arith, r.0), omega (arith, r.1))

-- it is found by its number, and so are the nodes below it
mutual
  node_found : (k : ℕ) (t : Typed) (e : Expr) (p : ℕ) (x : Typed) (y : Expr) → IsNodeOf k t e p x y → (n : ℕ) → p ≤ n → n < p + size (tree_of y)
      → at_node k e n ≡ at_node p y n
  node_found k t (expr h ty line es) p x y (inl q) n l r = ap (λ z. at_node z (expr h ty line es) n) q.0 ∙ ap (λ z. at_node p z n) q.2
  node_found k t (expr h ty line es) p x y (inr b) n l r =
      let range = below_range (suc k) (out-Typed t).children es p x y b in
      let other : (k == n) ≡ false = has_none (k == n) (λ q. absurd (let same = eq_of k n q in omega (arith, same, l, range.0))) in
      ap (λ c. if c then Some (expr h ty line es) else at_node_among (suc k) es n) other
      ∙ below_found (suc k) (out-Typed t).children es p x y b n l r

  below_found : (m : ℕ) (ts : List Typed) (es : Exprs) (p : ℕ) (x : Typed) (y : Expr) → IsNodeBelow m ts es p x y → (n : ℕ) → p ≤ n
      → n < p + size (tree_of y) → at_node_among m es n ≡ at_node p y n
  below_found m [] none p x y b n l r = absurd b
  below_found m [] (more e es) p x y b n l r = absurd b
  below_found m (t ∷ ts) none p x y b n l r = absurd b
  below_found m (t ∷ ts) (more e es) p x y (inl a) n l r =
      let range = node_range m t e p x y a in
      let bound : n < m + size (tree_of e) = omega (arith, r, range.1) in
      let here : nat_lt n (m + size (tree_of e)) ≡ true = grind (arith, nat_tests, bound) in
      ap (λ c. if c then at_node m e n else at_node_among (m + size (tree_of e)) es n) here ∙ node_found m t e p x y a n l r
  below_found m (t ∷ ts) (more e es) p x y (inr b) n l r =
      let range = below_range (m + size (tree_of e)) ts es p x y b in
      let bound : m + size (tree_of e) ≤ n = omega (arith, l, range.0) in
      let later : nat_lt n (m + size (tree_of e)) ≡ false = grind (arith, nat_tests, bound) in
      ap (λ c. if c then at_node m e n else at_node_among (m + size (tree_of e)) es n) later
      ∙ below_found (m + size (tree_of e)) ts es p x y b n l r

mutual
  pub node_viewed : (world : World) (f : Scene) (firsts : List ℕ) (k : ℕ) (t : Typed) (e : Expr) (p : ℕ) (x : Typed) (y : Expr) → IsNodeOf k t e p x y
      → Views world f firsts k t e → is_formed (tree_of e) ≡ true → Views world f firsts p x y × (is_formed (tree_of y) ≡ true)
  node_viewed world f firsts k t (expr h ty line es) p x y (inl q) v form = (
    subst (Views world f firsts p x) q.2 (subst (λ z. Views world f firsts p z (expr h ty line es)) q.1
        (subst (λ z. Views world f firsts z t (expr h ty line es)) q.0 v)),
    ap (λ z. is_formed (tree_of z)) (sym q.2) ∙ form,
  )
  node_viewed world f firsts k t (expr h ty line es) p x y (inr b) v form =
      below_viewed world f firsts (suc k) (out-Typed t).children es p x y b v.3 (and_r (takes_operands (head_class h (trees_of es)) (trees_of es)) _ form)

  below_viewed : (world : World) (f : Scene) (firsts : List ℕ) (m : ℕ) (ts : List Typed) (es : Exprs) (p : ℕ) (x : Typed) (y : Expr)
      → IsNodeBelow m ts es p x y → ViewAll world f firsts m ts es → are_formed (trees_of es) ≡ true
      → Views world f firsts p x y × (is_formed (tree_of y) ≡ true)
  below_viewed world f firsts m [] none p x y b v form = absurd b
  below_viewed world f firsts m [] (more e es) p x y b v form = absurd b
  below_viewed world f firsts m (t ∷ ts) none p x y b v form = absurd b
  below_viewed world f firsts m (t ∷ ts) (more e es) p x y (inl a) v form =
      node_viewed world f firsts m t e p x y a v.0 (and_l (is_formed (tree_of e)) _ form)
  below_viewed world f firsts m (t ∷ ts) (more e es) p x y (inr b) v form =
      below_viewed world f firsts (m + size (tree_of e)) ts es p x y b v.1 (and_r (is_formed (tree_of e)) _ form)

-- ---- choices of which one changes

-- where the choices are the same, the events are
mutual
  same_events : (taken other : Taken) (k : ℕ) (t : Tree) → ((n : ℕ) → k ≤ n → n < k + size t → other n ≡ taken n) → events other k t ≡ events taken k t
  same_events taken other k (typed.node c ts) same =
      ap (λ z. z ++ own_events k c)
      (ap (λ o. operand_events other c o 0 (suc k) ts) (same k (omega arith) (omega arith))
      ∙ same_operands taken other c (taken k) 0 (suc k) ts (λ n l r. same n (omega (arith, l)) (omega (arith, r))))

  same_operands : (taken other : Taken) (c : Class) (choice : Option ℕ) (i m : ℕ) (ts : Trees)
      → ((n : ℕ) → m ≤ n → n < m + sizes ts → other n ≡ taken n) → operand_events other c choice i m ts ≡ operand_events taken c choice i m ts
  same_operands taken other c choice i m typed.none same = refl
  same_operands taken other c choice i m (typed.more t ts) same =
      ap (λ z. (if goes c choice i then z else []) ++ operand_events other c choice (suc i) (m + size t) ts)
      (same_events taken other m t (λ n l r. same n l (omega (arith, r))))
      ∙ ap (λ z. (if goes c choice i then events taken m t else []) ++ z)
      (same_operands taken other c choice (suc i) (m + size t) ts (λ n l r. same n (omega (arith, l)) (omega (arith, r))))

-- what a node chooses goes by the value of its first operand alone
choice_alike : (world : World) (f : Scene) (given other : Place → Option Value) (k : ℕ) (o : Option Expr)
    → other (place (suc k) Val) ≡ given (place (suc k) Val) → choice_in world f other k o ≡ choice_in world f given k o
choice_alike world f given other k None e = refl
choice_alike world f given other k (Some (expr h ty line none)) e = refl
choice_alike world f given other k (Some (expr h ty line (more z zs))) e =
    first_alone h _ (values_of world f other (suc k + size (tree_of z)) zs) (values_of world f given (suc k + size (tree_of z)) zs) _
    ∙ ap (λ v. choice_by h ((if is_quiet (tree_of z) then quiet_value world f z else or_nothing v)
    ∷ values_of world f given (suc k + size (tree_of z)) zs) (is_quiet (tree_of z) || is_some v)) e
  where
    first_alone : (h : Head) (v : Value) (vs us : List Value) (known : Bool) → choice_by h (v ∷ vs) known ≡ choice_by h (v ∷ us) known
    first_alone Rattle.c_model.specs.Program.And v vs us true = refl
    first_alone Rattle.c_model.specs.Program.And v vs us false = refl
    first_alone Rattle.c_model.specs.Program.Or v vs us true = refl
    first_alone Rattle.c_model.specs.Program.Or v vs us false = refl
    first_alone Rattle.c_model.specs.Program.Cond v vs us true = refl
    first_alone Rattle.c_model.specs.Program.Cond v vs us false = refl
    first_alone _ v vs us known = refl

-- ---- the events of a node that is evaluated

-- an event of its part of the tree is one of its own
mutual
  node_only : (taken : Taken) (k : ℕ) (t : Typed) (e : Expr) (p : ℕ) (x : Typed) (y : Expr) → IsNodeOf k t e p x y → (u : Place) → p ≤ u.node
      → u.node < p + size (tree_of y) → has (events taken k (tree_of e)) u ≡ true → has (events taken p (tree_of y)) u ≡ true
  node_only taken k t (expr h ty line es) p x y (inl q) u l r d =
      ap (λ z. has (events taken p (tree_of z)) u) (sym q.2) ∙ (ap (λ z. has (events taken z (tree_of (expr h ty line es))) u) (sym q.0) ∙ d)
  node_only taken k t (expr h ty line es) p x y (inr b) u l r d =
      let range = below_range (suc k) (out-Typed t).children es p x y b in
      let c = head_class h (trees_of es) in
      elim (has_cases (operand_events taken c (taken k) 0 (suc k) (trees_of es)) (own_events k c) u d) [
        | inl a ↦ below_only taken c (taken k) 0 (suc k) (out-Typed t).children es p x y b u l r a
        | inr a ↦ absurd (let at = own_node (typed.kinds_of c) k u a in omega (arith, at, l, range.0))
      ]

  below_only : (taken : Taken) (c : Class) (choice : Option ℕ) (i m : ℕ) (ts : List Typed) (es : Exprs) (p : ℕ) (x : Typed) (y : Expr)
      → IsNodeBelow m ts es p x y → (u : Place) → p ≤ u.node → u.node < p + size (tree_of y)
      → has (operand_events taken c choice i m (trees_of es)) u ≡ true → has (events taken p (tree_of y)) u ≡ true
  below_only taken c choice i m [] none p x y b u l r d = absurd b
  below_only taken c choice i m [] (more e es) p x y b u l r d = absurd b
  below_only taken c choice i m (t ∷ ts) none p x y b u l r d = absurd b
  below_only taken c choice i m (t ∷ ts) (more e es) p x y (inl n) u l r d =
      let range = node_range m t e p x y n in
      elim (has_cases (if goes c choice i then events taken m (tree_of e) else []) _ u d) [
        | inl a ↦ node_only taken m t e p x y n u l r (if_has (goes c choice i) _ u a)
        | inr a ↦ absurd (let at = operands_in taken c choice (trees_of es) (suc i) (m + size (tree_of e)) u a in omega (arith, at.0, r, range.1))
      ]
  below_only taken c choice i m (t ∷ ts) (more e es) p x y (inr n) u l r d =
      let range = below_range (m + size (tree_of e)) ts es p x y n in
      elim (has_cases (if goes c choice i then events taken m (tree_of e) else []) _ u d) [
        | inl a ↦ absurd (let at = events_in taken (tree_of e) m u (if_has (goes c choice i) _ u a) in omega (arith, at.1, l, range.0))
        | inr a ↦ below_only taken c choice (suc i) (m + size (tree_of e)) ts es p x y n u l r a
      ]

either : (a b g : Bool) → ((a || g) || b) ≡ ((a || b) || g)
either true b g = refl
either false true true = refl
either false true false = refl
either false false true = refl
either false false false = refl

later_either : (a b g : Bool) → (a || (b || g)) ≡ ((a || b) || g)
later_either true b g = refl
later_either false b g = refl

-- what its part gains as its choice changes the whole tree gains, where an event of it is due
goes_where : (b : Bool) (xs : List Place) (u : Place) → has (if b then xs else []) u ≡ true → b ≡ true
goes_where true xs u h = refl
goes_where false xs u h = absurd (true≢false (sym h))

module _ (taken other : Taken) (us : List Place) (p : ℕ) (x : Typed) (y : Expr) (w : Place) (same : (n : ℕ) → n ≢ p → other n ≡ taken n)
    (from : p ≤ w.node) (to : w.node < p + size (tree_of y))
    (base : (u : Place) → has (events other p (tree_of y)) u ≡ (has (events taken p (tree_of y)) u || has us u)) where
  mutual
    node_gains : (k : ℕ) (t : Typed) (e : Expr) → IsNodeOf k t e p x y → has (events taken k (tree_of e)) w ≡ true → (u : Place)
        → has (events other k (tree_of e)) u ≡ (has (events taken k (tree_of e)) u || has us u)
    node_gains k t (expr h ty line es) (inl q) d u =
        ap (λ z. has (events other k (tree_of z)) u) q.2
        ∙ (ap (λ z. has (events other z (tree_of y)) u) q.0
        ∙ (base u
        ∙ (ap (λ z. has (events taken z (tree_of y)) u || has us u) (sym q.0) ∙ ap (λ z. has (events taken k (tree_of z)) u || has us u) (sym q.2))))
    node_gains k t (expr h ty line es) (inr b) d u =
        let range = below_range (suc k) (out-Typed t).children es p x y b in
        let c = head_class h (trees_of es) in
        let before = operand_events taken c (taken k) 0 (suc k) (trees_of es) in
        let after = operand_events other c (taken k) 0 (suc k) (trees_of es) in
        let choice : other k ≡ taken k = same k (λ q. absurd (omega (arith, q, range.0))) in
        let inside : has before w ≡ true = elim (has_cases before (own_events k c) w d) [
          | inl a ↦ a
          | inr a ↦ absurd (let at = own_node (typed.kinds_of c) k w a in omega (arith, at, from, range.0))
        ] in
        ap (λ o. has (operand_events other c o 0 (suc k) (trees_of es) ++ own_events k c) u) choice
        ∙ (has_or after (own_events k c) u
        ∙ (ap (λ z. z || has (own_events k c) u) (below_gains c (taken k) 0 (suc k) (out-Typed t).children es b inside u)
        ∙ (either (has before u) (has (own_events k c) u) (has us u) ∙ ap (λ z. z || has us u) (sym (has_or before (own_events k c) u)))))

    below_gains : (c : Class) (choice : Option ℕ) (i m : ℕ) (ts : List Typed) (es : Exprs) → IsNodeBelow m ts es p x y
        → has (operand_events taken c choice i m (trees_of es)) w ≡ true → (u : Place)
        → has (operand_events other c choice i m (trees_of es)) u ≡ (has (operand_events taken c choice i m (trees_of es)) u || has us u)
    below_gains c choice i m [] none b d u = absurd b
    below_gains c choice i m [] (more e es) b d u = absurd b
    below_gains c choice i m (t ∷ ts) none b d u = absurd b
    below_gains c choice i m (t ∷ ts) (more e es) (inl n) d u =
        let range = node_range m t e p x y n in
        let first = events taken m (tree_of e) in
        let rest = operand_events taken c choice (suc i) (m + size (tree_of e)) (trees_of es) in
        let rest_same : operand_events other c choice (suc i) (m + size (tree_of e)) (trees_of es) ≡ rest =
        same_operands taken other c choice (suc i) (m + size (tree_of e)) (trees_of es)
        (λ q l r. same q (λ s. absurd (omega (arith, s, l, range.1, size_pos (tree_of y))))) in
        let inside : has (if goes c choice i then first else []) w ≡ true = elim (has_cases (if goes c choice i then first else []) rest w d) [
          | inl a ↦ a
          | inr a ↦ absurd (let at = operands_in taken c choice (trees_of es) (suc i) (m + size (tree_of e)) w a in omega (arith, at.0, to, range.1))
        ] in
        let g = goes_where (goes c choice i) first w inside in
        ap (λ z. has ((if goes c choice i then events other m (tree_of e) else []) ++ z) u) rest_same
        ∙ (ap (λ z. has ((if z then events other m (tree_of e) else []) ++ rest) u) g
        ∙ (has_or (events other m (tree_of e)) rest u
        ∙ (ap (λ z. z || has rest u) (node_gains m t e n (if_has (goes c choice i) first w inside) u)
        ∙ (either (has first u) (has rest u) (has us u)
        ∙ (ap (λ z. z || has us u) (sym (has_or first rest u))
        ∙ ap (λ z. has ((if z then first else []) ++ rest) u || has us u) (sym g))))))
    below_gains c choice i m (t ∷ ts) (more e es) (inr n) d u =
        let range = below_range (m + size (tree_of e)) ts es p x y n in
        let first = (if goes c choice i then events taken m (tree_of e) else []) in
        let rest = operand_events taken c choice (suc i) (m + size (tree_of e)) (trees_of es) in
        let first_same : events other m (tree_of e) ≡ events taken m (tree_of e) =
        same_events taken other m (tree_of e) (λ q l r. same q (λ s. absurd (omega (arith, s, r, range.0)))) in
        let inside : has rest w ≡ true = elim (has_cases first rest w d) [
          | inl a ↦ absurd (let at = events_in taken (tree_of e) m w (if_has (goes c choice i) _ w a) in omega (arith, at.1, from, range.0))
          | inr a ↦ a
        ] in
        ap (λ z. has ((if goes c choice i then z else []) ++ operand_events other c choice (suc i) (m + size (tree_of e)) (trees_of es)) u) first_same
        ∙ (has_or first (operand_events other c choice (suc i) (m + size (tree_of e)) (trees_of es)) u
        ∙ (ap (λ z. has first u || z) (below_gains c choice (suc i) (m + size (tree_of e)) ts es n inside u)
        ∙ (later_either (has first u) (has rest u) (has us u) ∙ ap (λ z. z || has us u) (sym (has_or first rest u)))))

module _ (taken : Taken) (p : ℕ) (x : Typed) (y : Expr) (w : Place) (from : p ≤ w.node) (to : w.node < p + size (tree_of y)) where
  -- where an event of its part is due, its own events are those of the whole tree
  mutual
    node_due : (k : ℕ) (t : Typed) (e : Expr) → IsNodeOf k t e p x y → has (events taken k (tree_of e)) w ≡ true → (u : Place)
        → has (events taken p (tree_of y)) u ≡ true → has (events taken k (tree_of e)) u ≡ true
    node_due k t (expr h ty line es) (inl q) d u own =
        ap (λ z. has (events taken k (tree_of z)) u) q.2 ∙ (ap (λ z. has (events taken z (tree_of y)) u) q.0 ∙ own)
    node_due k t (expr h ty line es) (inr b) d u own =
        let range = below_range (suc k) (out-Typed t).children es p x y b in
        let c = head_class h (trees_of es) in
        let before = operand_events taken c (taken k) 0 (suc k) (trees_of es) in
        let inside : has before w ≡ true = elim (has_cases before (own_events k c) w d) [
          | inl a ↦ a
          | inr a ↦ absurd (let at = own_node (typed.kinds_of c) k w a in omega (arith, at, from, range.0))
        ] in
        has_left before (own_events k c) u (below_due c (taken k) 0 (suc k) (out-Typed t).children es b inside u own)

    below_due : (c : Class) (choice : Option ℕ) (i m : ℕ) (ts : List Typed) (es : Exprs) → IsNodeBelow m ts es p x y
        → has (operand_events taken c choice i m (trees_of es)) w ≡ true → (u : Place) → has (events taken p (tree_of y)) u ≡ true
        → has (operand_events taken c choice i m (trees_of es)) u ≡ true
    below_due c choice i m [] none b d u own = absurd b
    below_due c choice i m [] (more e es) b d u own = absurd b
    below_due c choice i m (t ∷ ts) none b d u own = absurd b
    below_due c choice i m (t ∷ ts) (more e es) (inl n) d u own =
        let range = node_range m t e p x y n in
        let first = events taken m (tree_of e) in
        let rest = operand_events taken c choice (suc i) (m + size (tree_of e)) (trees_of es) in
        let inside : has (if goes c choice i then first else []) w ≡ true = elim (has_cases (if goes c choice i then first else []) rest w d) [
          | inl a ↦ a
          | inr a ↦ absurd (let at = operands_in taken c choice (trees_of es) (suc i) (m + size (tree_of e)) w a in omega (arith, at.0, to, range.1))
        ] in
        ap (λ z. has ((if z then first else []) ++ rest) u) (goes_where (goes c choice i) first w inside)
        ∙ has_left first rest u (node_due m t e n (if_has (goes c choice i) first w inside) u own)
    below_due c choice i m (t ∷ ts) (more e es) (inr n) d u own =
        let range = below_range (m + size (tree_of e)) ts es p x y n in
        let first = (if goes c choice i then events taken m (tree_of e) else []) in
        let rest = operand_events taken c choice (suc i) (m + size (tree_of e)) (trees_of es) in
        let inside : has rest w ≡ true = elim (has_cases first rest w d) [
          | inl a ↦ absurd (let at = events_in taken (tree_of e) m w (if_has (goes c choice i) _ w a) in omega (arith, at.1, from, range.0))
          | inr a ↦ a
        ] in
        has_right first rest u (below_due c choice (suc i) (m + size (tree_of e)) ts es n inside u own)

-- ---- a test that has its value

other_place : (n m : ℕ) → n ≢ m → same_place (place n Val) (place m Val) ≡ false
other_place n m ne = ap (λ z. z && true) (has_none (n == m) (λ q. ne (eq_of n m q)))

same_itself : (n : ℕ) → same_place (place n Val) (place n Val) ≡ true
same_itself n = ap (λ z. z && true) (eq_eq n)

-- the choices before a value and after it
abbrev after_test : (e : Begun) → ℕ → Value → Begun
after_test e p v = with_given e (place (suc p) Val) v

unchanged : (world : World) (f : Scene) (e : Begun) (p : ℕ) (v : Value) (n : ℕ) → n ≢ p → taken_by world f (after_test e p v) n ≡ taken_by world f e n
unchanged world f e p v n ne =
    choice_alike world f e.given (after_test e p v).given n (at_node 0 e.root n)
    (ap (λ b. if b then Some v else e.given (place (suc n) Val)) (other_place (suc p) (suc n) (λ q. ne (omega (arith, q)))))

-- the last step: what was kept, with the choice of the node and those of what it takes
now_chosen : (due gain at : Bool) (o before later kept above : Option ℕ) → kept ≡ (if due then before else None) → above ≡ (if at then o else kept)
    → (at ≡ true → due ≡ true) → (at ≡ true → later ≡ o) → (at ≡ false → later ≡ before)
    → (if gain then later else above) ≡ (if (due || gain) then later else None)
now_chosen true true at o before later kept above k a d s t = refl
now_chosen false true at o before later kept above k a d s t = refl
now_chosen true false true o before later kept above k a d s t = a ∙ sym (s refl)
now_chosen true false false o before later kept above k a d s t = a ∙ (k ∙ sym (t refl))
now_chosen false false true o before later kept above k a d s t = absurd (true≢false (sym (d refl)))
now_chosen false false false o before later kept above k a d s t = a ∙ k

two_lists : (xs us own : List Place) (u : Place) → has ((xs ++ us) ++ own) u ≡ (has ((xs ++ []) ++ own) u || has us u)
two_lists xs us own u =
    has_or (xs ++ us) own u
    ∙ (ap (λ z. z || has own u) (has_or xs us u)
    ∙ (either (has xs u) (has own u) (has us u)
    ∙ ap (λ z. z || has us u) (ap (λ z. z || has own u) (ap (λ z. has z u) (sym (append-nil xs))) ∙ sym (has_or (xs ++ []) own u))))

module _ (world : World) (f : Scene) (firsts : List ℕ) (t : Typed) (e : Begun) (kept : Taken) (p : ℕ) (v : Value) (keeps : IsKept world f e kept)
    (due : is_due (tree_of e.root) (taken_by world f e) (place (suc p) Val) ≡ true) (left : e.given (place (suc p) Val) ≡ None) where
  abbrev T : Taken
  T = taken_by world f e

  abbrev T' : Taken
  T' = taken_by world f (after_test e p v)

  abbrev given' : Place → Option Value
  given' = (after_test e p v).given

  -- the node, with its operands
  module _ (x : Typed) (h : Head) (ty : CType) (line : ℕ) (z : Expr) (zs : Exprs) (test : Typed) (ts : List Typed)
      (node : IsNodeOf 0 t e.root p x (expr h ty line (more z zs))) (c : IsChoiceOf (node_at x) h) (choice : is_choice h ≡ true)
      (views : ViewAll world f firsts (suc p) (test ∷ ts) (more z zs)) (form : is_formed (tree_of (expr h ty line (more z zs))) ≡ true) where
    abbrev y : Expr
    y = expr h ty line (more z zs)

    abbrev w : Place
    w = place (suc p) Val

    abbrev next : ℕ
    next = suc p + size (tree_of z)

    abbrev first : List Place
    first = events T (suc p) (tree_of z)

    abbrev gained : Option ℕ → List Place
    gained o = operand_events T' Choice o 1 next (trees_of zs)

    to : suc p < p + size (tree_of y)
    to = let l = size_pos (tree_of z) in omega (arith, l)

    here : at_node 0 e.root p ≡ Some y
    here = node_found 0 t e.root p x y node p (omega arith) (omega (arith, to))
        ∙ ap (λ b. if b then Some y else at_node_among (suc p) (more z zs) p) (eq_eq p)

    operands_formed : (is_formed (tree_of z) && are_formed (trees_of zs)) ≡ true
    operands_formed = and_r (takes_operands (head_class h (trees_of (more z zs))) (trees_of (more z zs))) _ form

    by_choice : (taken : Taken) → events taken p (tree_of y)
        ≡ (events taken (suc p) (tree_of z) ++ operand_events taken Choice (taken p) 1 next (trees_of zs)) ++ own_events p Choice
    by_choice taken =
        ap (λ k. operand_events taken k (taken p) 0 (suc p) (trees_of (more z zs)) ++ own_events p k) (class_choice h (trees_of (more z zs)) choice)

    test_due : has (events T p (tree_of y)) w ≡ true
    test_due = node_only T 0 t e.root p x y node w (omega arith) to due

    -- the test has an event
    loud : is_quiet (tree_of z) ≡ false
    loud = has_none (is_quiet (tree_of z)) (λ q.
        let silence : first ≡ [] = silent T (tree_of z) (suc p) (and_l (is_formed (tree_of z)) _ operands_formed) q in
        let rest = operand_events T Choice (T p) 1 next (trees_of zs) in
        elim (has_cases (first ++ rest) (own_events p Choice) w (ap (λ l. has l w) (sym (by_choice T)) ∙ test_due)) [
          | inl a ↦ elim (has_cases first rest w a) [
            | inl b ↦ absurd (true≢false (sym b ∙ ap (λ l. has l w) silence))
            | inr b ↦ absurd (let at = operands_in T Choice (T p) (trees_of zs) 1 next w b in let l = size_pos (tree_of z) in omega (arith, at.0, l))
          ]
          | inr a ↦ absurd (let at = own_node (Val ∷ []) p w a in omega (arith, at))
        ])

    none_before : T p ≡ None
    none_before =
        ap (choice_in world f e.given p) here
        ∙ (ap (choice_by h (values_of world f e.given (suc p) (more z zs))) (ap (λ b. b || is_some (e.given w)) loud ∙ ap is_some left)
        ∙ not_known h (values_of world f e.given (suc p) (more z zs)))

    taken_after : (o : Option ℕ) → o ≡ takes (node_at x) (truth v) → T' p ≡ o
    taken_after o by =
        let vs = values_of world f given' next zs in
        ap (choice_in world f given' p) here
        ∙ (ap (λ b. choice_by h ((if b then quiet_value world f z else or_nothing (given' w)) ∷ vs) (b || is_some (given' w))) loud
        ∙ (ap (λ g. choice_by h (or_nothing g ∷ vs) (is_some g)) (ap (λ b. if b then Some v else e.given w) (same_itself (suc p)))
        ∙ (by_truth (node_at x) h v vs c ∙ sym by)))

    before : events T p (tree_of y) ≡ (first ++ []) ++ own_events p Choice
    before =
        by_choice T
        ∙ ap (λ r. (first ++ r) ++ own_events p Choice)
        (ap (λ o. operand_events T Choice o 1 next (trees_of zs)) none_before ∙ none_go T 0 next (trees_of zs))

    behind : (o : Option ℕ) → T' p ≡ o → events T' p (tree_of y) ≡ (first ++ gained o) ++ own_events p Choice
    behind o at =
        by_choice T'
        ∙ (ap (λ q. (events T' (suc p) (tree_of z) ++ operand_events T' Choice q 1 next (trees_of zs)) ++ own_events p Choice) at
        ∙ ap (λ q. (q ++ gained o) ++ own_events p Choice)
        (same_events T T' (suc p) (tree_of z) (λ n l r. unchanged world f e p v n (λ q. absurd (omega (arith, q, l))))))

    gains : (o : Option ℕ) → T' p ≡ o → (u : Place) → has (events T' 0 (tree_of e.root)) u ≡ (has (events T 0 (tree_of e.root)) u || has (gained o) u)
    gains o at u =
        node_gains T T' (gained o) p x y w (unchanged world f e p v) (omega arith) to
        (λ u2. ap (λ l. has l u2) (behind o at)
        ∙ (two_lists first (gained o) (own_events p Choice) u2 ∙ ap (λ l. has l u2 || has (gained o) u2) (sym before))) 0 t e.root node due u

    due_itself : has (events T 0 (tree_of e.root)) (place p Val) ≡ true
    due_itself =
        node_due T p x y w (omega arith) to 0 t e.root node due (place p Val)
        (ap (λ l. has l (place p Val)) before ∙ has_right (first ++ []) (own_events p Choice) (place p Val) (has_itself (place p Val) []))

    undue : (n : ℕ) → next ≤ n → n < next + sizes (trees_of zs) → has (events T 0 (tree_of e.root)) (place n Val) ≡ false
    undue n l r = has_none (has (events T 0 (tree_of e.root)) (place n Val)) (λ d.
        let own = node_only T 0 t e.root p x y node (place n Val) (omega (arith, l)) (omega (arith, r)) d in
        elim (has_cases (first ++ []) (own_events p Choice) (place n Val) (ap (λ q. has q (place n Val)) (sym before) ∙ own)) [
          | inl a ↦ elim (has_cases first [] (place n Val) a) [
            | inl b ↦ absurd (let at = events_in T (tree_of z) (suc p) (place n Val) b in omega (arith, at.1, l))
            | inr b ↦ absurd (true≢false (sym b))
          ]
          | inr a ↦ absurd (let at = own_node (Val ∷ []) p (place n Val) a in omega (arith, at, l))
        ])

    now : (o : Option ℕ) → T' p ≡ o → (n : ℕ) → made T' (gained o) (λ m. if p == m then o else kept m) n ≡ where_due world f (after_test e p v) n
    now o at n =
        now_chosen (has (events T 0 (tree_of e.root)) (place n Val)) (has (gained o) (place n Val)) (p == n) o (T n) (T' n) (kept n)
        (if p == n then o else kept n) (keeps.chosen n) refl
        (λ q. ap (λ m. has (events T 0 (tree_of e.root)) (place m Val)) (sym (eq_of p n q)) ∙ due_itself)
        (λ q. ap T' (sym (eq_of p n q)) ∙ at)
        (λ q. unchanged world f e p v n (λ s. absurd (true≢false (sym (ap (λ m. p == m) s ∙ eq_eq p) ∙ q))))
        ∙ ap (λ b. if b then T' n else None) (sym (gains o at (place n Val)))

    below_kept : (j : ℕ) (m : ℕ) → next ≤ m → m < next + sizes (trees_of zs) → (if p == m then Some j else kept m) ≡ None
    below_kept j m l r =
        ap (λ b. if b then Some j else kept m) (has_none (p == m) (λ q. absurd (let same = eq_of p m q in omega (arith, same, l))))
        ∙ (keeps.chosen m ∙ ap (λ b. if b then T m else None) (undue m l r))

    among : (n : ℕ) → next ≤ n → n < next + sizes (trees_of zs) → at_node 0 e.root n ≡ at_node_among next zs n
    among n l r =
        let other : (p == n) ≡ false = has_none (p == n) (λ q. absurd (let same = eq_of p n q in omega (arith, same, l))) in
        let later : nat_lt n next ≡ false = grind (arith, nat_tests, l) in
        node_found 0 t e.root p x y node n (omega (arith, l)) (omega (arith, r))
        ∙ (ap (λ b. if b then Some y else at_node_among (suc p) (more z zs) n) other
        ∙ ap (λ b. if b then at_node (suc p) z n else at_node_among next zs n) later)

    same_kept : (n : ℕ) → kept n ≡ (if p == n then None else kept n)
    same_kept n = step (p == n) (λ q.
        keeps.chosen n ∙ (ap (λ b. if b then T n else None) (sym refl) ∙ nothing (has (events T 0 (tree_of e.root)) (place n Val))
        (ap T (sym (eq_of p n q)) ∙ none_before)))
      where
        step : (b : Bool) → (b ≡ true → kept n ≡ None) → kept n ≡ (if b then None else kept n)
        step true g = g refl
        step false g = refl

        nothing : (b : Bool) → T n ≡ None → (if b then T n else None) ≡ None
        nothing true q = q
        nothing false q = refl

    no_left : (a b : Bool) → (a || b) ≡ false → a ≡ false
    no_left true b q = absurd (true≢false q)
    no_left false b q = refl

    given_kept : (o : Option ℕ) → o ≡ takes (node_at x) (truth v) → (n : ℕ) → has (events T' 0 (tree_of e.root)) (place n Val) ≡ false
        → given' (place n Val) ≡ None
    given_kept o by n d =
        let undone : has (events T 0 (tree_of e.root)) (place n Val) ≡ false =
        no_left (has (events T 0 (tree_of e.root)) (place n Val)) (has (gained o) (place n Val)) (sym (gains o (taken_after o by) (place n Val)) ∙ d) in
        let other : suc p ≢ n = λ q. absurd (true≢false (sym due ∙ (ap (λ m. has (events T 0 (tree_of e.root)) (place m Val)) q ∙ undone))) in
        ap (λ b. if b then Some v else e.given (place n Val)) (other_place (suc p) n other) ∙ keeps.given n undone

    at_test : (o : Option ℕ) → o ≡ takes (node_at x) (truth v) → (n : ℕ)
        → with_chosen (by_way p o (λ i. chosen_in firsts (test ∷ ts) i (suc p))) kept n ≡ where_due world f (after_test e p v) n
    at_test None by n =
        same_kept n
        ∙ (ap (λ us. made T' us (λ m. if p == m then None else kept m) n) (sym (none_go T' 0 next (trees_of zs))) ∙ now None (taken_after None by) n)
    at_test (Some zero) by n = absurd (let later = takes_later (node_at x) (truth v) 0 (sym by) in omega (arith, later.1))
    at_test (Some (suc j)) by n =
        let above : Taken = λ m. if p == m then Some (suc j) else kept m in
        ap (λ s. with_chosen (chosen_in firsts ts j (suc p + s)) above n) (view_size world f firsts (suc p) test z views.0)
        ∙ (operand_made world f firsts given' T' (suc j) 1 j next ts zs (omega arith) (omega arith) views.1
        (and_r (is_formed (tree_of z)) _ operands_formed)
        (agree_all world f given' T' firsts next zs (λ m l r. ap (choice_in world f given' m) (among m l r))
        (λ m l r. ap (λ b. if b then Some v else e.given (place m Val))
        (other_place (suc p) m (λ q. absurd (let s = size_pos (tree_of z) in omega (arith, q, l, s)))) ∙ keeps.given m (undue m l r)))
        above (below_kept (suc j)) n ∙ now (Some (suc j)) (taken_after (Some (suc j)) by) n)

  by_operands : (x : Typed) (y : Expr) (test : Typed) (ts : List Typed) → IsNodeOf 0 t e.root p x y → chooses (node_at x) ≡ true
      → Views world f firsts p x y → is_formed (tree_of y) ≡ true → ts ≡ (out-Typed x).children → slice_get ts 0 ≡ Some test
      → (o : Option ℕ) → o ≡ takes (node_at x) (truth v)
      → IsKept world f (after_test e p v) (with_chosen (by_way p o (λ i. chosen_in firsts ts i (suc p))) kept)
  by_operands x y test [] node choice views form same at o by = absurd (cc)
  by_operands x (expr h ty line none) test (t1 ∷ ts) node choice views form same at o by =
      absurd (subst (λ us. ViewAll world f firsts (suc p) us none) (sym same) views.3)
  by_operands x (expr h ty line (more z zs)) test (t1 ∷ ts) node choice views form same at o by =
      let chooses_so = sym (same_choice (node_at x) h views.1) ∙ choice in
      let below = subst (λ us. ViewAll world f firsts (suc p) us (more z zs)) (sym same) views.3 in
      record {
        chosen = λ n. at_test x h ty line z zs t1 ts node views.1 chooses_so below form o by n;
        given = λ n d. given_kept x h ty line z zs t1 ts node views.1 chooses_so below form o by n d;
      }

pub chosen_at_test : ChosenAtTest
chosen_at_test world f firsts t e kept p x test y v views form keeps node choice first due left o by =
    let seen = node_viewed world f firsts 0 t e.root p x y node views form in
    by_operands world f firsts t e kept p v keeps due left x y test (out-Typed x).children node choice seen.0 seen.1 refl first o by

-- ---- any other event

-- a node that is found has its typed tree
option_expr : (y z : Expr) → Some y ≡ Some z → y ≡ z
option_expr y z q = cc

mutual
  found_node : (world : World) (f : Scene) (firsts : List ℕ) (k : ℕ) (t : Typed) (e : Expr) → Views world f firsts k t e → (n : ℕ) (y : Expr)
      → at_node k e n ≡ Some y → (x : Typed) × IsNodeOf k t e n x y
  found_node world f firsts k t (expr h ty line es) v n y at = elim (bool_cases (k == n)) [
    | inl q ↦ (
      t,
      inl (
        eq_of k n q,
        refl,
        option_expr (expr h ty line es) y
            (sym (ap (λ b. if b then Some (expr h ty line es) else at_node_among (suc k) es n) q) ∙ at),
      ),
    )
    | inr q ↦
        (let below = found_below world f firsts (suc k) (out-Typed t).children es v.3 n y
        (sym (ap (λ b. if b then Some (expr h ty line es) else at_node_among (suc k) es n) q) ∙ at) in
        (below.0, inr below.1))
  ]

  found_below : (world : World) (f : Scene) (firsts : List ℕ) (m : ℕ) (ts : List Typed) (es : Exprs) → ViewAll world f firsts m ts es → (n : ℕ) (y : Expr)
      → at_node_among m es n ≡ Some y → (x : Typed) × IsNodeBelow m ts es n x y
  found_below world f firsts m [] none v n y at = absurd (cc)
  found_below world f firsts m [] (more e es) v n y at = absurd v
  found_below world f firsts m (t ∷ ts) none v n y at = absurd v
  found_below world f firsts m (t ∷ ts) (more e es) v n y at = elim (bool_cases (nat_lt n (m + size (tree_of e)))) [
    | inl q ↦
        (let here = found_node world f firsts m t e v.0 n y
        (sym (ap (λ b. if b then at_node m e n else at_node_among (m + size (tree_of e)) es n) q) ∙ at) in
        (here.0, inl here.1))
    | inr q ↦
        (let later = found_below world f firsts (m + size (tree_of e)) ts es v.1 n y
        (sym (ap (λ b. if b then at_node m e n else at_node_among (m + size (tree_of e)) es n) q) ∙ at) in
        (later.0, inr later.1))
  ]

place_of_same : (u : Place) (n : ℕ) → same_place u (place n Val) ≡ true → u ≡ place n Val
place_of_same u n q =
    let number = eq_of u.node n (and_l (u.node == n) _ q) in
    let kind = same_kind_eq u.kind Val (and_r (u.node == n) _ q) in
    λ i. record { node = number i; kind = kind i }

module _ (world : World) (f : Scene) (firsts : List ℕ) (t : Typed) (e : Begun) (u : Place) (v : Value) (views : Views world f firsts 0 t e.root)
    (form : is_formed (tree_of e.root) ≡ true) (elsewhere : IsNoTest t e.root u) where
  -- a node whose first operand has this number, and no test
  no_test : (n : ℕ) (o : Option Expr) → at_node 0 e.root n ≡ o → u ≡ place (suc n) Val
      → choice_in world f (with_given e u v).given n o ≡ choice_in world f e.given n o
  no_test n None at q = refl
  no_test n (Some (expr h ty line none)) at q = refl
  no_test n (Some (expr h ty line (more z zs))) at q =
      let node = found_node world f firsts 0 t e.root views n (expr h ty line (more z zs)) at in
      by_children node.0 (out-Typed node.0).children refl node.1
    where
      by_children : (x : Typed) (ts : List Typed) → ts ≡ (out-Typed x).children → IsNodeOf 0 t e.root n x (expr h ty line (more z zs))
          → choice_by h (values_of world f (with_given e u v).given (suc n) (more z zs)) (first_known (with_given e u v).given (suc n) (more z zs))
          ≡ choice_by h (values_of world f e.given (suc n) (more z zs)) (first_known e.given (suc n) (more z zs))
      by_children x [] same node =
          absurd (subst (λ us. ViewAll world f firsts (suc n) us (more z zs)) (sym same)
          (node_viewed world f firsts 0 t e.root n x (expr h ty line (more z zs)) node views form).0.3)
      by_children x (test ∷ ts) same node =
          let seen = (node_viewed world f firsts 0 t e.root n x (expr h ty line (more z zs)) node views form).0 in
          elim (bool_cases (is_choice h)) [
            | inl chooses ↦
                absurd (elsewhere (ap (λ (w : Place). w.kind) q) n x test (expr h ty line (more z zs)) node
                (same_choice (node_at x) h seen.1 ∙ chooses) (ap (λ us. slice_get us 0) (sym same)) (ap (λ (w : Place). w.node) q))
            | inr other ↦
                no_choice h (values_of world f (with_given e u v).given (suc n) (more z zs)) (first_known (with_given e u v).given (suc n) (more z zs)) other
                ∙ sym (no_choice h (values_of world f e.given (suc n) (more z zs)) (first_known e.given (suc n) (more z zs)) other)
          ]

  same_choices : (n : ℕ) → taken_by world f (with_given e u v) n ≡ taken_by world f e n
  same_choices n = elim (bool_cases (same_place u (place (suc n) Val))) [
    | inl q ↦ no_test n (at_node 0 e.root n) refl (place_of_same u (suc n) q)
    | inr q ↦
        choice_alike world f e.given (with_given e u v).given n (at_node 0 e.root n) (ap (λ b. if b then Some v else e.given (place (suc n) Val)) q)
  ]

  pub no_others : (kept : Taken) → IsKept world f e kept → is_due (tree_of e.root) (taken_by world f e) u ≡ true → IsKept world f (with_given e u v) kept
  no_others kept keeps due =
      let alike : taken_by world f e ≡ taken_by world f (with_given e u v) = λ i n. sym (same_choices n) i in
      record {
        chosen = λ n. keeps.chosen n ∙ ap (λ (s : Taken). if has (events s 0 (tree_of e.root)) (place n Val) then s n else None) alike;
        given = λ n d.
            let undone : has (events (taken_by world f e) 0 (tree_of e.root)) (place n Val) ≡ false =
            ap (λ (s : Taken). has (events s 0 (tree_of e.root)) (place n Val)) alike ∙ d in
            let other : same_place u (place n Val) ≡ false = has_none (same_place u (place n Val)) (λ q.
            absurd (true≢false (sym due ∙ (ap (λ w. has (events (taken_by world f e) 0 (tree_of e.root)) w) (place_of_same u n q) ∙ undone)))) in
            ap (λ b. if b then Some v else e.given (place n Val)) other ∙ keeps.given n undone;
      }

pub chosen_elsewhere : ChosenElsewhere
chosen_elsewhere world f firsts t e kept u v views form keeps due elsewhere = no_others world f firsts t e u v views form elsewhere kept keeps due

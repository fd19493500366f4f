-- Nodes of an expression by their numbers: where their operands stand, and which events of theirs are due.
use Rattle.std.proofs.Common.{◌≡◌, ℕ, suc, ◌+◌, ◌<◌, ◌≤◌, Bool, true, false, not, ◌&&◌, ◌||◌, ◌==◌, nat_lt, if◌then◌else◌}
use Rattle.std.proofs.Common.{Option, Some, None, is_some, refl, sym, ap, ◌∙◌, subst, inl, inr, arith, true≢false}
use Rattle.std.proofs.lemmas.Bool.Decides.{nat_tests}
use Rattle.ub_base.specs.declared.clause.Kind.TheVariants.{Val}
use Rattle.c_types.specs.Types.{CType}
use Rattle.c_typed.specs.declared.tree.Place.{Place}
use Rattle.c_typed.specs.declared.class.Class.{Class}
use Rattle.c_typed.specs.declared.class.Class.TheVariants.{Choice}
use Rattle.c_typed.specs.Tree.{Tree, Trees, size, sizes, is_quiet, kinds_of}
use Rattle.c_typed.specs.Order.{Taken, place, goes, is_number, is_choice}
use Rattle.c_typed.specs.Decide.{has_kind, due_in, due_among}
use Rattle.c_model.specs.Program.{Head, Expr, expr, Exprs, none, more, tree_of, trees_of, head_class}
use Rattle.c_model.specs.Steps.{at_node, at_node_among}
use Rattle.c_model.proofs.Ranks.{size_pos, eq_of, eq_eq, if_true, if_false, lt_lt, ge_lt, and_l, and_r, or_cases}
use Rattle.c_model.proofs.Decided.{and_b, val_due}

-- the node stands in the range of the tree, with its own
abbrev pub FitsIn : ℕ → ℕ → ℕ → Expr → Type 0
FitsIn k count n g = (k ≤ n) × (n + size (tree_of g) ≤ k + count)

mutual
  pub fits : (e : Expr) (k n : ℕ) (g : Expr) → at_node k e n ≡ Some g → FitsIn k (size (tree_of e)) n g
  fits (expr h ty line es) k n g q = go (k == n) refl q (fits_among es (suc k) n g)
    where
      go : (b : Bool) → (k == n) ≡ b → (if b then Some (expr h ty line es) else at_node_among (suc k) es n) ≡ Some g
          → (at_node_among (suc k) es n ≡ Some g → FitsIn (suc k) (sizes (trees_of es)) n g) → FitsIn k (size (tree_of (expr h ty line es))) n g
      go true e q again =
          let r : expr h ty line es ≡ g = cc in
          let s : size (tree_of (expr h ty line es)) ≡ size (tree_of g) = ap (λ z. size (tree_of z)) r in
          let kn = eq_of k n e in
          (omega (arith, kn), omega (arith, kn, s))
      go false e q again = (let r = again q in let a = r.0 in let b = r.1 in (omega (arith, a), omega (arith, b)))

  pub fits_among : (es : Exprs) (k n : ℕ) (g : Expr) → at_node_among k es n ≡ Some g → FitsIn k (sizes (trees_of es)) n g
  fits_among none k n g q = absurd (cc)
  fits_among (more e es) k n g q = go (nat_lt n (k + size (tree_of e))) q (fits e k n g) (fits_among es (k + size (tree_of e)) n g)
    where
      go : (b : Bool) → (if b then at_node k e n else at_node_among (k + size (tree_of e)) es n) ≡ Some g
          → (at_node k e n ≡ Some g → FitsIn k (size (tree_of e)) n g)
          → (at_node_among (k + size (tree_of e)) es n ≡ Some g → FitsIn (k + size (tree_of e)) (sizes (trees_of es)) n g)
          → FitsIn k (sizes (trees_of (more e es))) n g
      go true q here there = (let r = here q in let a = r.0 in let b = r.1 in (a, omega (arith, b)))
      go false q here there = (let r = there q in let a = r.0 in let b = r.1 in (omega (arith, a), omega (arith, b)))

-- a node of an operand is one of the list, and so on
pub first_there : (e : Expr) (es : Exprs) (k n : ℕ) (g : Expr) → at_node k e n ≡ Some g → at_node_among k (more e es) n ≡ Some g
first_there e es k n g q =
    let r = (fits e k n g q).1 in
    let s = size_pos (tree_of g) in
    if_true (nat_lt n (k + size (tree_of e))) _ _ (lt_lt n (k + size (tree_of e)) (omega (arith, r, s))) ∙ q

pub later_there : (e : Expr) (es : Exprs) (k n : ℕ) (g : Expr) → at_node_among (k + size (tree_of e)) es n ≡ Some g → at_node_among k (more e es) n ≡ Some g
later_there e es k n g q =
    let r = (fits_among es (k + size (tree_of e)) n g q).0 in
    if_false (nat_lt n (k + size (tree_of e))) _ _ (ge_lt n (k + size (tree_of e)) r) ∙ q

pub operands_there : (h : Head) (ty : CType) (line : ℕ) (es : Exprs) (k n : ℕ) (g : Expr) → at_node_among (suc k) es n ≡ Some g
    → at_node k (expr h ty line es) n ≡ Some g
operands_there h ty line es k n g q =
    let r = (fits_among es (suc k) n g q).0 in
    if_false (k == n) _ _ (grind (arith, nat_tests, r)) ∙ q

pub itself_there : (e : Expr) (k : ℕ) → at_node k e k ≡ Some e
itself_there (expr h ty line es) k = if_true (k == k) _ _ (eq_eq k k refl)

-- an event that is due in the whole is due in the part where it stands
module _ (taken : Taken) (z : Place) where
  pub pass : (b x y : Bool) → b ≡ false → (if b then x else y) ≡ true → y ≡ true
  pass false x y e h = h
  pass true x y e h = absurd (cc)

  pub take_it : (b x y : Bool) → b ≡ true → (if b then x else y) ≡ true → x ≡ true
  take_it true x y e h = h
  take_it false x y e h = absurd (cc)

  mutual
    pub due_inside : (e : Expr) (k n : ℕ) (g : Expr) → at_node k e n ≡ Some g → n ≤ z.node → z.node < n + size (tree_of g)
        → due_in taken k (tree_of e) z ≡ true → due_in taken n (tree_of g) z ≡ true
    due_inside (expr h ty line es) k n g q l u d = go (k == n) refl q (inside_among es (head_class h (trees_of es)) (taken k) 0 (suc k) n g)
      where
        root : Expr
        root = expr h ty line es

        go : (b : Bool) → (k == n) ≡ b → (if b then Some root else at_node_among (suc k) es n) ≡ Some g
            → (at_node_among (suc k) es n ≡ Some g → n ≤ z.node → z.node < n + size (tree_of g)
            → due_among taken (head_class h (trees_of es)) (taken k) 0 (suc k) (trees_of es) z ≡ true → due_in taken n (tree_of g) z ≡ true)
            → due_in taken n (tree_of g) z ≡ true
        go true e q again =
            let r : root ≡ g = cc in
            subst (λ m. due_in taken m (tree_of g) z ≡ true) (eq_of k n e) (subst (λ x. due_in taken k (tree_of x) z ≡ true) r d)
        go false e q again =
            let r = (fits_among es (suc k) n g q).0 in
            again q l u (pass (z.node == k) _ _ (grind (arith, nat_tests, r, l)) d)

    pub inside_among : (es : Exprs) (class : Class) (choice : Option ℕ) (i k n : ℕ) (g : Expr) → at_node_among k es n ≡ Some g → n ≤ z.node
        → z.node < n + size (tree_of g) → due_among taken class choice i k (trees_of es) z ≡ true → due_in taken n (tree_of g) z ≡ true
    inside_among none class choice i k n g q l u d = absurd (cc)
    inside_among (more e es) class choice i k n g q l u d =
        go (nat_lt n (k + size (tree_of e))) refl q (due_inside e k n g) (inside_among es class choice (suc i) (k + size (tree_of e)) n g)
      where
        m : ℕ
        m = k + size (tree_of e)

        go : (b : Bool) → nat_lt n m ≡ b → (if b then at_node k e n else at_node_among m es n) ≡ Some g
            → (at_node k e n ≡ Some g → n ≤ z.node → z.node < n + size (tree_of g) → due_in taken k (tree_of e) z ≡ true → due_in taken n (tree_of g) z ≡ true)
            → (at_node_among m es n ≡ Some g → n ≤ z.node → z.node < n + size (tree_of g)
            → due_among taken class choice (suc i) m (trees_of es) z ≡ true → due_in taken n (tree_of g) z ≡ true)
            → due_in taken n (tree_of g) z ≡ true
        go true b q here there =
            let r = (fits e k n g q).1 in
            here q l u (and_r (goes class choice i) _ (take_it (nat_lt z.node m) _ _ (lt_lt z.node m (omega (arith, r, u))) d))
        go false b q here there =
            let r = (fits_among es m n g q).0 in
            there q l u (pass (nat_lt z.node m) _ _ (ge_lt z.node m (omega (arith, r, l))) d)

-- due events of an operand are those of the choice that evaluates it
choice_is : (o : Option ℕ) (i : ℕ) → is_number o i ≡ true → o ≡ Some i
choice_is None i h = absurd (true≢false (sym h))
choice_is (Some j) i h = ap Some (eq_of j i h)

pub goes_number : (o : Option ℕ) (i : ℕ) → goes Choice o (suc i) ≡ true → is_number o (suc i) ≡ true
goes_number o i h = elim (or_cases (suc i == 0) (is_number o (suc i)) h) [
  | inl k ↦ absurd (grind (arith, nat_tests, k))
  | inr k ↦ k
]

pub goes_is : (o : Option ℕ) (i : ℕ) → goes Choice o (suc i) ≡ true → o ≡ Some (suc i)
goes_is o i h = choice_is o (suc i) (goes_number o i h)

-- what is behind the first operand is due only by a choice
pub later_chosen : (taken : Taken) (ts : Trees) (choice : Option ℕ) (i m : ℕ) (z : Place) → due_among taken Choice choice (suc i) m ts z ≡ true
    → is_some choice ≡ true
later_chosen taken Rattle.c_typed.specs.Tree.none choice i m z d = absurd (true≢false (sym d))
later_chosen taken (Rattle.c_typed.specs.Tree.more t ts) choice i m z d =
    go (nat_lt z.node (m + size t)) d (later_chosen taken ts choice (suc i) (m + size t) z)
  where
    go : (b : Bool) → (if b then goes Choice choice (suc i) && due_in taken m t z else due_among taken Choice choice (suc (suc i)) (m + size t) ts z) ≡ true
        → (due_among taken Choice choice (suc (suc i)) (m + size t) ts z ≡ true → is_some choice ≡ true) → is_some choice ≡ true
    go true h again = ap is_some (goes_is choice i (and_l (goes Choice choice (suc i)) _ h))
    go false h again = again h

-- more choices leave due what was due
module _ (taken later : Taken) (kept : (n j : ℕ) → taken n ≡ Some j → later n ≡ Some j) (z : Place) where
  number_kept : (k i : ℕ) → is_number (taken k) i ≡ true → is_number (later k) i ≡ true
  number_kept k i h = subst (λ o. is_number o i ≡ true) (sym (kept k i (choice_is (taken k) i h))) (eq_eq i i refl)

  goes_kept : (class : Class) (k i : ℕ) → goes class (taken k) i ≡ true → goes class (later k) i ≡ true
  goes_kept class k i h = go (is_choice class) (i == 0) h
    where
      go : (a b : Bool) → (not a || (b || is_number (taken k) i)) ≡ true → (not a || (b || is_number (later k) i)) ≡ true
      go false b h = refl
      go true true h = refl
      go true false h = number_kept k i h

  mutual
    pub due_kept : (t : Tree) (k : ℕ) → due_in taken k t z ≡ true → due_in later k t z ≡ true
    due_kept (Rattle.c_typed.specs.Tree.node class ts) k d = go (z.node == k) d (due_kept_among ts class k 0 (suc k))
      where
        go : (b : Bool) → (if b then has_kind (kinds_of class) z.kind else due_among taken class (taken k) 0 (suc k) ts z) ≡ true
            → (due_among taken class (taken k) 0 (suc k) ts z ≡ true → due_among later class (later k) 0 (suc k) ts z ≡ true)
            → (if b then has_kind (kinds_of class) z.kind else due_among later class (later k) 0 (suc k) ts z) ≡ true
        go true h again = h
        go false h again = again h

    pub due_kept_among : (ts : Trees) (class : Class) (k i m : ℕ) → due_among taken class (taken k) i m ts z ≡ true
        → due_among later class (later k) i m ts z ≡ true
    due_kept_among Rattle.c_typed.specs.Tree.none class k i m d = d
    due_kept_among (Rattle.c_typed.specs.Tree.more t ts) class k i m d =
        go (nat_lt z.node (m + size t)) d (due_kept t m) (due_kept_among ts class k (suc i) (m + size t))
      where
        go : (b : Bool) → (if b then goes class (taken k) i && due_in taken m t z else due_among taken class (taken k) (suc i) (m + size t) ts z) ≡ true
            → (due_in taken m t z ≡ true → due_in later m t z ≡ true)
            → (due_among taken class (taken k) (suc i) (m + size t) ts z ≡ true → due_among later class (later k) (suc i) (m + size t) ts z ≡ true)
            → (if b then goes class (later k) i && due_in later m t z else due_among later class (later k) (suc i) (m + size t) ts z) ≡ true
        go true h here there = and_b _ _ (goes_kept class k i (and_l (goes class (taken k) i) _ h)) (here (and_r (goes class (taken k) i) _ h))
        go false h here there = there h

-- the value of a first operand that has events is due where that of its node is
module _ (taken : Taken) (h : Head) (ty : CType) (line : ℕ) (a : Expr) (as_rest : Exprs) (loud : is_quiet (tree_of a) ≡ false) where
  not_quiet : not (is_quiet (tree_of a)) ≡ true
  not_quiet = ap not loud

  zero_goes : (class : Class) (choice : Option ℕ) → goes class choice 0 ≡ true
  zero_goes class choice = go (is_choice class)
    where
      go : (b : Bool) → (not b || (true || is_number choice 0)) ≡ true
      go true = refl
      go false = refl

  mutual
    pub first_due : (e : Expr) (k n : ℕ) → at_node k e n ≡ Some (expr h ty line (more a as_rest)) → due_in taken k (tree_of e) (place n Val) ≡ true
        → due_in taken k (tree_of e) (place (suc n) Val) ≡ true
    first_due (expr g t l es) k n q d = go (k == n) refl q (first_due_among es (head_class g (trees_of es)) (taken k) 0 (suc k) n)
      where
        root : Expr
        root = expr g t l es

        here : (m : ℕ) → due_in taken m (tree_of (expr h ty line (more a as_rest))) (place (suc m) Val) ≡ true
        here m =
            let s = size_pos (tree_of a) in
            if_false (suc m == m) _ _ (grind (arith, nat_tests))
            ∙ (if_true (nat_lt (suc m) (suc m + size (tree_of a))) _ _ (lt_lt (suc m) (suc m + size (tree_of a)) (omega (arith, s)))
            ∙ and_b _ _ (zero_goes (head_class h (trees_of (more a as_rest))) (taken m)) (val_due taken (tree_of a) (suc m) not_quiet))

        go : (b : Bool) → (k == n) ≡ b → (if b then Some root else at_node_among (suc k) es n) ≡ Some (expr h ty line (more a as_rest))
            → (at_node_among (suc k) es n ≡ Some (expr h ty line (more a as_rest))
            → due_among taken (head_class g (trees_of es)) (taken k) 0 (suc k) (trees_of es) (place n Val) ≡ true
            → due_among taken (head_class g (trees_of es)) (taken k) 0 (suc k) (trees_of es) (place (suc n) Val) ≡ true)
            → due_in taken k (tree_of root) (place (suc n) Val) ≡ true
        go true e q again =
            let r : expr h ty line (more a as_rest) ≡ root = cc in
            let kn = eq_of k n e in
            subst (λ x. due_in taken k (tree_of x) (place (suc n) Val) ≡ true) r
            (subst (λ m. due_in taken k (tree_of (expr h ty line (more a as_rest))) (place (suc m) Val) ≡ true) kn (here k))
        go false e q again =
            let r = (fits_among es (suc k) n _ q).0 in
            if_false (suc n == k) _ _ (grind (arith, nat_tests, r))
            ∙ again q (pass taken (place n Val) (n == k) _ _ (grind (arith, nat_tests, r)) d)

    first_due_among : (es : Exprs) (class : Class) (choice : Option ℕ) (i k n : ℕ) → at_node_among k es n ≡ Some (expr h ty line (more a as_rest))
        → due_among taken class choice i k (trees_of es) (place n Val) ≡ true → due_among taken class choice i k (trees_of es) (place (suc n) Val) ≡ true
    first_due_among none class choice i k n q d = absurd (cc)
    first_due_among (more e es) class choice i k n q d =
        go (nat_lt n (k + size (tree_of e))) refl q (first_due e k n) (first_due_among es class choice (suc i) (k + size (tree_of e)) n)
      where
        m : ℕ
        m = k + size (tree_of e)

        go : (b : Bool) → nat_lt n m ≡ b → (if b then at_node k e n else at_node_among m es n) ≡ Some (expr h ty line (more a as_rest))
            → (at_node k e n ≡ Some (expr h ty line (more a as_rest)) → due_in taken k (tree_of e) (place n Val) ≡ true
            → due_in taken k (tree_of e) (place (suc n) Val) ≡ true)
            → (at_node_among m es n ≡ Some (expr h ty line (more a as_rest)) → due_among taken class choice (suc i) m (trees_of es) (place n Val) ≡ true
            → due_among taken class choice (suc i) m (trees_of es) (place (suc n) Val) ≡ true)
            → due_among taken class choice i k (trees_of (more e es)) (place (suc n) Val) ≡ true
        go true b q here there =
            let r = (fits e k n _ q).1 in
            let s = size_pos (tree_of a) in
            let w = take_it taken (place n Val) (nat_lt n m) _ _ b d in
            if_true (nat_lt (suc n) m) _ _ (lt_lt (suc n) m (omega (arith, r, s)))
            ∙ and_b _ _ (and_l (goes class choice i) _ w) (here q (and_r (goes class choice i) _ w))
        go false b q here there =
            let r = (fits_among es m n _ q).0 in
            if_false (nat_lt (suc n) m) _ _ (ge_lt (suc n) m (omega (arith, r))) ∙ there q (pass taken (place n Val) (nat_lt n m) _ _ b d)

-- An order under one choice of operands that holds under another, for two events that are due.
use Rattle.std.proofs.Common.{◌≡◌, ℕ, suc, ◌+◌, ◌<◌, ◌≤◌, Bool, true, false, not, ◌&&◌, ◌||◌, ◌==◌, nat_lt, if◌then◌else◌}
use Rattle.std.proofs.Common.{Option, Some, is_some, refl, sym, subst, ◌⊎◌, inl, inr, arith, true≢false}
use Rattle.std.proofs.lemmas.Bool.Decides.{nat_tests}
use Rattle.ub_base.specs.declared.clause.Kind.{Kind}
use Rattle.ub_base.specs.declared.clause.Kind.TheVariants.{Val, Eff, Body}
use Rattle.c_types.specs.Types.{CType}
use Rattle.c_typed.specs.declared.tree.Place.{Place}
use Rattle.c_typed.specs.declared.class.Class.{Class}
use Rattle.c_typed.specs.declared.class.Class.TheVariants.{Object, Constant, Plain, Store, Update, Choice, Comma, Call, Isolated}
use Rattle.c_typed.specs.Tree.{Tree, Trees, size, sizes, is_quiet, kinds_of}
use Rattle.c_typed.specs.Order.{Taken, goes, is_number, is_choice, across, own_rule, is_val, is_body, is_last}
use Rattle.c_typed.specs.Decide.{has_kind, due_in, due_among, lifts, crosses, is_before, rises, to_val, between}
use Rattle.c_model.specs.Program.{Head, Expr, expr, Exprs, none, more, tree_of, trees_of, head_class}
use Rattle.c_model.specs.Steps.{at_node, at_node_among}
use Rattle.c_model.proofs.Ranks.{size_pos, eq_of, ge_lt, and_l, and_r}
use Rattle.c_model.proofs.Decided.{and_b, or_map, and_map}
use Rattle.static_laws.proofs.Inside.{first_there, later_there, operands_there, itself_there, pass, goes_number, later_chosen}

module _ (S T : Taken) (x y : Place) where
  abbrev pub Later : ℕ → Expr → ℕ → Place → Type 0
  Later n a count z = (suc n + size (tree_of a) ≤ z.node) × (z.node < n + count)

  -- what the first choice chooses at a node, the second chooses too, or one of the two events stands behind the first operand
  abbrev pub FactAt : ℕ → Head → CType → ℕ → Expr → Exprs → Type 0
  FactAt n h ty line a es =
      is_choice (head_class h (trees_of (more a es))) ≡ true → is_some (S n) ≡ true
      → (is_some (T n) ≡ true) ⊎ (Later n a (size (tree_of (expr h ty line (more a es)))) x ⊎ Later n a (size (tree_of (expr h ty line (more a es)))) y)

  abbrev pub FactsIn : (ℕ → Option Expr) → Type 0
  FactsIn node = (n : ℕ) (h : Head) (ty : CType) (line : ℕ) (a : Expr) (es : Exprs) → node n ≡ Some (expr h ty line (more a es)) → FactAt n h ty line a es

  first_facts : (k : ℕ) (e : Expr) (es : Exprs) → FactsIn (at_node_among k (more e es)) → FactsIn (at_node k e)
  first_facts k e es f = λ n h ty line a as_rest q. f n h ty line a as_rest (first_there e es k n (expr h ty line (more a as_rest)) q)

  later_facts : (k : ℕ) (e : Expr) (es : Exprs) → FactsIn (at_node_among k (more e es)) → FactsIn (at_node_among (k + size (tree_of e)) es)
  later_facts k e es f = λ n h ty line a as_rest q. f n h ty line a as_rest (later_there e es k n (expr h ty line (more a as_rest)) q)

  operand_facts : (g : Head) (t : CType) (l : ℕ) (es : Exprs) (k : ℕ) → FactsIn (at_node k (expr g t l es)) → FactsIn (at_node_among (suc k) es)
  operand_facts g t l es k f = λ n h ty line a as_rest q. f n h ty line a as_rest (operands_there g t l es k n (expr h ty line (more a as_rest)) q)

  choice_class : (class : Class) → is_choice class ≡ true → class ≡ Choice
  choice_class Choice h = refl
  choice_class Object h = absurd (cc)
  choice_class Constant h = absurd (cc)
  choice_class Plain h = absurd (cc)
  choice_class Store h = absurd (cc)
  choice_class Update h = absurd (cc)
  choice_class Comma h = absurd (cc)
  choice_class Call h = absurd (cc)
  choice_class Isolated h = absurd (cc)

  -- an event behind the first operand of a node that chooses
  chosen : (h : Head) (ty : CType) (line : ℕ) (a : Expr) (es : Exprs) (k : ℕ) (z : Place) → is_choice (head_class h (trees_of (more a es))) ≡ true
      → due_in T k (tree_of (expr h ty line (more a es))) z ≡ true → suc k + size (tree_of a) ≤ z.node → is_some (T k) ≡ true
  chosen h ty line a es k z c d l =
      let among = pass T z (z.node == k) _ _ (grind (arith, nat_tests, l)) d in
      let rest = pass T z (nat_lt z.node (suc k + size (tree_of a))) _ _ (ge_lt z.node (suc k + size (tree_of a)) l) among in
      later_chosen T (trees_of es) (T k) 0 (suc k + size (tree_of a)) z
      (subst (λ g. due_among T g (T k) 1 (suc k + size (tree_of a)) (trees_of es) z ≡ true) (choice_class _ c) rest)

  lifts_kept : (class : Class) (k i : ℕ) (last : Bool) (kind : Kind) → (is_choice class ≡ true → is_some (S k) ≡ true → is_some (T k) ≡ true)
      → lifts class (S k) i last kind ≡ true → lifts class (T k) i last kind ≡ true
  lifts_kept Choice k i last Val f h =
      or_map ((i == 0) && is_some (S k)) false ((i == 0) && is_some (T k)) false (and_map (i == 0) (is_some (S k)) (is_some (T k)) (f refl)) (λ q. q) h
  lifts_kept Choice k i last Eff f h = h
  lifts_kept Choice k i last Body f h = h
  lifts_kept Object k i last Val f h = h
  lifts_kept Object k i last Eff f h = h
  lifts_kept Object k i last Body f h = h
  lifts_kept Constant k i last Val f h = h
  lifts_kept Constant k i last Eff f h = h
  lifts_kept Constant k i last Body f h = h
  lifts_kept Plain k i last Val f h = h
  lifts_kept Plain k i last Eff f h = h
  lifts_kept Plain k i last Body f h = h
  lifts_kept Store k i last Val f h = h
  lifts_kept Store k i last Eff f h = h
  lifts_kept Store k i last Body f h = h
  lifts_kept Update k i last Val f h = h
  lifts_kept Update k i last Eff f h = h
  lifts_kept Update k i last Body f h = h
  lifts_kept Comma k i last Val f h = h
  lifts_kept Comma k i last Eff f h = h
  lifts_kept Comma k i last Body f h = h
  lifts_kept Call k i last Val f h = h
  lifts_kept Call k i last Eff f h = h
  lifts_kept Call k i last Body f h = h
  lifts_kept Isolated k i last Val f h = h
  lifts_kept Isolated k i last Eff f h = h
  lifts_kept Isolated k i last Body f h = h

  across_kept : (class : Class) (k i j : ℕ) → goes class (T k) (suc j) ≡ true → across class (S k) i (suc j) ≡ true → across class (T k) i (suc j) ≡ true
  across_kept Choice k i j g h = and_b (i == 0) (is_number (T k) (suc j)) (and_l (i == 0) _ h) (goes_number (T k) j g)
  across_kept Comma k i j g h = h
  across_kept Object k i j g h = h
  across_kept Constant k i j g h = h
  across_kept Plain k i j g h = h
  across_kept Store k i j g h = h
  across_kept Update k i j g h = h
  across_kept Call k i j g h = h
  across_kept Isolated k i j g h = h

  crosses_kept : (ts : Trees) (class : Class) (k i j m : ℕ) → due_among T class (T k) (suc j) m ts y ≡ true
      → crosses class (S k) i (suc j) m ts y.node ≡ true → crosses class (T k) i (suc j) m ts y.node ≡ true
  crosses_kept Rattle.c_typed.specs.Tree.none class k i j m d h = h
  crosses_kept (Rattle.c_typed.specs.Tree.more t ts) class k i j m d h =
      go (nat_lt y.node (m + size t)) d h (crosses_kept ts class k i (suc j) (m + size t))
    where
      go : (b : Bool) → (if b then goes class (T k) (suc j) && due_in T m t y else due_among T class (T k) (suc (suc j)) (m + size t) ts y) ≡ true
          → (if b then across class (S k) i (suc j) else crosses class (S k) i (suc (suc j)) (m + size t) ts y.node) ≡ true
          → (due_among T class (T k) (suc (suc j)) (m + size t) ts y ≡ true → crosses class (S k) i (suc (suc j)) (m + size t) ts y.node ≡ true
          → crosses class (T k) i (suc (suc j)) (m + size t) ts y.node ≡ true)
          → (if b then across class (T k) i (suc j) else crosses class (T k) i (suc (suc j)) (m + size t) ts y.node) ≡ true
      go true d h again = across_kept class k i j (and_l (goes class (T k) (suc j)) _ d) h
      go false d h again = again d h

  mutual
    rises_kept : (es : Exprs) (class : Class) (k i m : ℕ) (kind : Kind) → (is_choice class ≡ true → is_some (S k) ≡ true → is_some (T k) ≡ true)
        → y.node < m → FactsIn (at_node_among m es) → due_among T class (T k) i m (trees_of es) x ≡ true
        → rises S class (S k) i m (trees_of es) x kind ≡ true → rises T class (T k) i m (trees_of es) x kind ≡ true
    rises_kept none class k i m kind f l facts d h = h
    rises_kept (more e es) class k i m kind f l facts d h =
        let s = size_pos (tree_of e) in
        go (nat_lt x.node (m + size (tree_of e))) d h
        (to_val_kept e m l (first_facts m e es facts))
        (rises_kept es class k (suc i) (m + size (tree_of e)) kind f (omega (arith, l, s)) (later_facts m e es facts))
      where
        n : ℕ
        n = m + size (tree_of e)

        go : (b : Bool) → (if b then goes class (T k) i && due_in T m (tree_of e) x else due_among T class (T k) (suc i) n (trees_of es) x) ≡ true
            → (if b then lifts class (S k) i (is_last (trees_of es)) kind || (not (is_body kind) && (not (is_quiet (tree_of e)) && to_val S m (tree_of e) x))
            else rises S class (S k) (suc i) n (trees_of es) x kind) ≡ true
            → (due_in T m (tree_of e) x ≡ true → to_val S m (tree_of e) x ≡ true → to_val T m (tree_of e) x ≡ true)
            → (due_among T class (T k) (suc i) n (trees_of es) x ≡ true → rises S class (S k) (suc i) n (trees_of es) x kind ≡ true
            → rises T class (T k) (suc i) n (trees_of es) x kind ≡ true)
            → (if b then lifts class (T k) i (is_last (trees_of es)) kind || (not (is_body kind) && (not (is_quiet (tree_of e)) && to_val T m (tree_of e) x))
            else rises T class (T k) (suc i) n (trees_of es) x kind) ≡ true
        go true d h here there =
            or_map _ _ _ _ (lifts_kept class k i (is_last (trees_of es)) kind f)
            (and_map (not (is_body kind)) _ _ (and_map (not (is_quiet (tree_of e))) _ _ (here (and_r (goes class (T k) i) _ d)))) h
        go false d h here there = there d h

    to_val_kept : (e : Expr) (k : ℕ) → y.node < k → FactsIn (at_node k e) → due_in T k (tree_of e) x ≡ true → to_val S k (tree_of e) x ≡ true
        → to_val T k (tree_of e) x ≡ true
    to_val_kept (expr g t l none) k below facts d h = h
    to_val_kept (expr g t l (more a es)) k below facts d h =
        go (x.node == k) d h
        (rises_kept (more a es) (head_class g (trees_of (more a es))) k 0 (suc k) Val
        (λ c s. elim (facts k g t l a es (itself_there (expr g t l (more a es)) k) c s) [
          | inl r ↦ r
          | inr (inl r) ↦ chosen g t l a es k x c d r.0
          | inr (inr r) ↦ absurd (let q = r.0 in omega (arith, q, below))
        ])
        (omega (arith, below)) (operand_facts g t l (more a es) k facts))
      where
        class : Class
        class = head_class g (trees_of (more a es))

        ts : Trees
        ts = trees_of (more a es)

        go : (b : Bool) → (if b then has_kind (kinds_of class) x.kind else due_among T class (T k) 0 (suc k) ts x) ≡ true
            → (if b then is_val x.kind || own_rule class x.kind Val else rises S class (S k) 0 (suc k) ts x Val) ≡ true
            → (due_among T class (T k) 0 (suc k) ts x ≡ true → rises S class (S k) 0 (suc k) ts x Val ≡ true → rises T class (T k) 0 (suc k) ts x Val ≡ true)
            → (if b then is_val x.kind || own_rule class x.kind Val else rises T class (T k) 0 (suc k) ts x Val) ≡ true
        go true d h again = h
        go false d h again = again d h

  mutual
    pub before_kept : (e : Expr) (k : ℕ) → FactsIn (at_node k e) → due_in T k (tree_of e) x ≡ true → due_in T k (tree_of e) y ≡ true
        → is_before S k (tree_of e) x y ≡ true → is_before T k (tree_of e) x y ≡ true
    before_kept (expr g t l none) k facts dx dy h = h
    before_kept (expr g t l (more a es)) k facts dx dy h =
        go (x.node == k) (y.node == k) refl dx dy h
        (λ yk. rises_kept (more a es) (head_class g (trees_of (more a es))) k 0 (suc k) y.kind
        (λ c s. elim (facts k g t l a es (itself_there (expr g t l (more a es)) k) c s) [
          | inl r ↦ r
          | inr (inl r) ↦ chosen g t l a es k x c dx r.0
          | inr (inr r) ↦ absurd (let q = r.0 in omega (arith, q, yk))
        ])
        (omega (arith, yk)) (operand_facts g t l (more a es) k facts))
        (between_kept (more a es) (head_class g (trees_of (more a es))) k 0 (suc k) (operand_facts g t l (more a es) k facts))
      where
        class : Class
        class = head_class g (trees_of (more a es))

        ts : Trees
        ts = trees_of (more a es)

        go : (b c : Bool) → (y.node == k) ≡ c → (if b then has_kind (kinds_of class) x.kind else due_among T class (T k) 0 (suc k) ts x) ≡ true
            → (if c then has_kind (kinds_of class) y.kind else due_among T class (T k) 0 (suc k) ts y) ≡ true
            → (if b then c && own_rule class x.kind y.kind
            else (if c then rises S class (S k) 0 (suc k) ts x y.kind else between S class (S k) 0 (suc k) ts x y)) ≡ true
            → (y.node ≡ k → due_among T class (T k) 0 (suc k) ts x ≡ true → rises S class (S k) 0 (suc k) ts x y.kind ≡ true
            → rises T class (T k) 0 (suc k) ts x y.kind ≡ true)
            → (due_among T class (T k) 0 (suc k) ts x ≡ true → due_among T class (T k) 0 (suc k) ts y ≡ true
            → between S class (S k) 0 (suc k) ts x y ≡ true → between T class (T k) 0 (suc k) ts x y ≡ true)
            → (if b then c && own_rule class x.kind y.kind
            else (if c then rises T class (T k) 0 (suc k) ts x y.kind else between T class (T k) 0 (suc k) ts x y)) ≡ true
        go true c e dx dy h up across_them = h
        go false true e dx dy h up across_them = up (eq_of y.node k e) dx h
        go false false e dx dy h up across_them = across_them dx dy h

    between_kept : (es : Exprs) (class : Class) (k i m : ℕ) → FactsIn (at_node_among m es) → due_among T class (T k) i m (trees_of es) x ≡ true
        → due_among T class (T k) i m (trees_of es) y ≡ true → between S class (S k) i m (trees_of es) x y ≡ true
        → between T class (T k) i m (trees_of es) x y ≡ true
    between_kept none class k i m facts dx dy h = h
    between_kept (more e es) class k i m facts dx dy h =
        go (nat_lt x.node (m + size (tree_of e))) (nat_lt y.node (m + size (tree_of e))) dx dy h (before_kept e m (first_facts m e es facts))
        (between_kept es class k (suc i) (m + size (tree_of e)) (later_facts m e es facts))
      where
        n : ℕ
        n = m + size (tree_of e)

        go : (b c : Bool) → (if b then goes class (T k) i && due_in T m (tree_of e) x else due_among T class (T k) (suc i) n (trees_of es) x) ≡ true
            → (if c then goes class (T k) i && due_in T m (tree_of e) y else due_among T class (T k) (suc i) n (trees_of es) y) ≡ true
            → (if b then (if c then is_before S m (tree_of e) x y else crosses class (S k) i (suc i) n (trees_of es) y.node)
            else (if c then false else between S class (S k) (suc i) n (trees_of es) x y)) ≡ true
            → (due_in T m (tree_of e) x ≡ true → due_in T m (tree_of e) y ≡ true → is_before S m (tree_of e) x y ≡ true → is_before T m (tree_of e) x y ≡ true)
            → (due_among T class (T k) (suc i) n (trees_of es) x ≡ true → due_among T class (T k) (suc i) n (trees_of es) y ≡ true
            → between S class (S k) (suc i) n (trees_of es) x y ≡ true → between T class (T k) (suc i) n (trees_of es) x y ≡ true)
            → (if b then (if c then is_before T m (tree_of e) x y else crosses class (T k) i (suc i) n (trees_of es) y.node)
            else (if c then false else between T class (T k) (suc i) n (trees_of es) x y)) ≡ true
        go true true dx dy h here there = here (and_r (goes class (T k) i) _ dx) (and_r (goes class (T k) i) _ dy) h
        go true false dx dy h here there = crosses_kept (trees_of es) class k i i n dy h
        go false true dx dy h here there = absurd (true≢false (sym h))
        go false false dx dy h here there = there dx dy h

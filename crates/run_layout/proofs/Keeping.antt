-- What is kept of choices by the tables of the code.
use Rattle.std.proofs.Common.{arith, ◌≡◌, ◌<◌, ◌≤◌, ◌+◌, ◌⊎◌, inl, inr, Bool, true, false, ℕ, suc, List, [], ◌∷◌, length, Option, Some, None, slice_get}
use Rattle.std.proofs.Common.{refl, sym, ap, subst, ◌∙◌}
use Rattle.std.specs.Option.{IfSome}
use Rattle.std.proofs.lemmas.Option.{slice_get_within}
use Rattle.ub_base.specs.declared.clause.Kind.{Kind}
use Rattle.ub_base.specs.declared.clause.Kind.TheVariants.{Val, Eff, Body}
use Rattle.c_typed.specs.declared.tree.Place.{Place}
use Rattle.c_typed.specs.declared.tree.Typed.{Typed, out-Typed}
use Rattle.c_typed.specs.Tree.{size, sizes}
use Rattle.c_typed.specs.Order.{Taken, place, is_due}
use Rattle.c_model.specs.Program.{Expr, expr, Exprs, none, more, tree_of, trees_of}
use Rattle.c_model.specs.Values.{Value, truth}
use Rattle.c_model.specs.World.{World}
use Rattle.c_model.specs.Steps.{Scene, Begun, with_given, taken_by}
use Rattle.elaborate.specs.Formed.{is_formed}
use Rattle.run_layout.specs.declared.nodes.NodeInfo.{NodeInfo}
use Rattle.run_layout.specs.declared.steps.Choice.{Choice}
use Rattle.run_layout.specs.declared.steps.Listed.TheVariants as listed
use Rattle.run_layout.specs.declared.steps.Way.{Way}
use Rattle.run_layout.specs.declared.tables.Tables.{Tables}
use Rattle.run_layout.specs.InRange.{part_of, way_of}
use Rattle.run_layout.specs.Numbered.{IsAt, AreBelow, AreNoted, AreNodes}
use Rattle.run_layout.specs.Choosing.{chooses, node_of, IsTest}
use Rattle.run_layout.specs.AtOnce.{chosen_in, Lists}
use Rattle.run_layout.specs.Choices.{Goes, IsChoiceOf, ChoosesAt}
use Rattle.run_layout.specs.Chosen.{with_chosen, Views, ViewAll, IsNodeOf, IsNodeBelow, IsKept, by_way}
use Rattle.run_layout.specs.Keeping.{choice_of, kept_by, KeepsAtBegin, KeepsAtEvent}
use Rattle.run_layout.proofs.AtOnce.{node_at, noted_below, test_there, taken}
use Rattle.run_layout.proofs.ChosenLemmas.{view_size, chosen_at_once}
use Rattle.run_layout.proofs.Tested.{node_viewed, chosen_at_test, chosen_elsewhere}

same_info : (nodes : List NodeInfo) (n : ℕ) (x y : NodeInfo) → slice_get nodes n ≡ Some x → slice_get nodes n ≡ Some y → x ≡ y
same_info nodes n x y e f = cc

some_same : (k p : ℕ) → Some k ≡ Some p → k ≡ p
some_same k p q = cc

place_at : (u : Place) (n : ℕ) → u.node ≡ n → u.kind ≡ Val → u ≡ place n Val
place_at u n number kind = λ i. record { node = number i; kind = kind i }

equal_or_not : (k p : ℕ) → (k ≡ p) ⊎ (k ≡ p → ⊥)
equal_or_not k p = grind arith

below_or_not : (p n : ℕ) → (p < n) ⊎ (n ≤ p)
below_or_not p n = grind arith

-- ---- the nodes of a tree by their numbers

module _ (world : World) (f : Scene) (firsts : List ℕ) (nodes : List NodeInfo) (noted : AreNoted firsts nodes) where
  mutual
    node_there : (k : ℕ) (parent : Option ℕ) (t : Typed) (e : Expr) → Views world f firsts k t e → IsAt nodes k parent t → (p : ℕ) (x : Typed) (y : Expr)
        → IsNodeOf k t e p x y → (above : Option ℕ) × IsAt nodes p above x
    node_there k parent t (expr h ty line es) v here p x y (inl q) =
        (parent, subst (IsAt nodes p parent) q.1 (subst (λ n. IsAt nodes n parent t) q.0 here))
    node_there k parent t (expr h ty line es) v here p x y (inr b) =
        below_there k (suc k) (out-Typed t).children es v.3 (noted_below firsts nodes k parent t noted here) p x y b

    below_there : (k m : ℕ) (ts : List Typed) (es : Exprs) → ViewAll world f firsts m ts es → AreBelow nodes k m ts → (p : ℕ) (x : Typed) (y : Expr)
        → IsNodeBelow m ts es p x y → (above : Option ℕ) × IsAt nodes p above x
    below_there k m [] es v here p x y b = absurd b
    below_there k m (t ∷ ts) none v here p x y b = absurd b
    below_there k m (t ∷ ts) (more e es) v here p x y (inl n) = node_there m (Some k) t e v.0 here.0 p x y n
    below_there k m (t ∷ ts) (more e es) v here p x y (inr n) =
        below_there k (m + size (tree_of e)) ts es v.1 (subst (λ s. AreBelow nodes k (m + s) ts) (view_size world f firsts m t e v.0) here.1) p x y n

  -- the node above it, in which it is
  abbrev HasAbove : ℕ → Typed → Expr → (p q : ℕ) → Type 0
  HasAbove k t e p q = (x : Typed) × (y : Expr) × IsNodeOf k t e q x y × (q < p) × (p < q + size (tree_of y))

  abbrev HasAboveIn : ℕ → List Typed → Exprs → (p q : ℕ) → Type 0
  HasAboveIn m ts es p q = (x : Typed) × (y : Expr) × IsNodeBelow m ts es q x y × (q < p) × (p < q + size (tree_of y))

  mutual
    node_by_number : (k : ℕ) (parent : Option ℕ) (t : Typed) (e : Expr) → Views world f firsts k t e → IsAt nodes k parent t → (p : ℕ) (x : NodeInfo)
        → k ≤ p → p < k + size (tree_of e) → slice_get nodes p ≡ Some x
        → (y : Expr) × IsNodeOf k t e p x.tree.now y × ((x.parent ≡ parent) ⊎ ((q : ℕ) × (x.parent ≡ Some q) × HasAbove k t e p q))
    node_by_number k parent t (expr h ty line es) v here p x l r at = elim (equal_or_not k p) [
      | inl q ↦
          (let same : here.0 ≡ x = same_info nodes k here.0 x here.1 (ap (slice_get nodes) q ∙ at) in (
            expr h ty line es,
            inl (q, sym here.2 ∙ ap (λ (z : NodeInfo). z.tree.now) same, refl),
            inl (sym (ap (λ (z : NodeInfo). z.parent) same) ∙ here.3),
          ))
      | inr q ↦
          (let below = below_by_number k (suc k) (out-Typed t).children es v.3 (noted_below firsts nodes k parent t noted here) p x (omega (arith, l, q))
          (omega (arith, r)) at in (
            below.0,
            inr below.1,
            elim below.2 [
              | inl a ↦ inr (k, a, (t, expr h ty line es, inl (refl, refl, refl), omega (arith, l, q), r))
              | inr a ↦ inr (a.0, a.1, (a.2.0, a.2.1, inr a.2.2, a.2.3, a.2.4))
            ],
          ))
    ]

    below_by_number : (k m : ℕ) (ts : List Typed) (es : Exprs) → ViewAll world f firsts m ts es → AreBelow nodes k m ts → (p : ℕ) (x : NodeInfo)
        → m ≤ p → p < m + sizes (trees_of es) → slice_get nodes p ≡ Some x
        → (y : Expr) × IsNodeBelow m ts es p x.tree.now y × ((x.parent ≡ Some k) ⊎ ((q : ℕ) × (x.parent ≡ Some q) × HasAboveIn m ts es p q))
    below_by_number k m [] none v here p x l r at = absurd (omega (arith, l, r))
    below_by_number k m [] (more e es) v here p x l r at = absurd v
    below_by_number k m (t ∷ ts) none v here p x l r at = absurd v
    below_by_number k m (t ∷ ts) (more e es) v here p x l r at = elim (below_or_not p (m + size (tree_of e))) [
      | inl q ↦
          (let found = node_by_number m (Some k) t e v.0 here.0 p x l q at in (
            found.0,
            inl found.1,
            elim found.2 [
              | inl a ↦ inl a
              | inr a ↦ inr (a.0, a.1, (a.2.0, a.2.1, inl a.2.2, a.2.3, a.2.4))
            ],
          ))
      | inr q ↦
          (let found = below_by_number k (m + size (tree_of e)) ts es v.1
          (subst (λ s. AreBelow nodes k (m + s) ts) (view_size world f firsts m t e v.0) here.1) p x q (omega (arith, r)) at in (
            found.0,
            inr found.1,
            elim found.2 [
              | inl a ↦ inl a
              | inr a ↦ inr (a.0, a.1, (a.2.0, a.2.1, inr a.2.2, a.2.3, a.2.4))
            ],
          ))
    ]

-- ---- what the tables say

-- a node with more below it has a first operand
first_there : (world : World) (f : Scene) (firsts : List ℕ) (p : ℕ) (x : Typed) (y : Expr) → Views world f firsts p x y → suc p < p + size (tree_of y)
    → (test : Typed) × (slice_get (out-Typed x).children 0 ≡ Some test)
first_there world f firsts p x (expr h ty line es) v l = by_children (out-Typed x).children es v.3 l
  where
    by_children : (ts : List Typed) (es : Exprs) → ViewAll world f firsts (suc p) ts es → suc p < p + suc (sizes (trees_of es))
        → (test : Typed) × (slice_get ts 0 ≡ Some test)
    by_children [] none v l = absurd (omega (arith, l))
    by_children [] (more e es) v l = absurd v
    by_children (t ∷ ts) es v l = (t, refl)

-- the choices by the way that is gone
same_way : (firsts : List ℕ) (tables : Tables) (number : ℕ) (above : NodeInfo) (test : Bool) (w : Way) (kept : Taken) → Goes firsts tables number above test w
    → with_chosen (by_way number w.operand (λ i. chosen_in firsts (out-Typed above.tree.now).children i (suc number))) kept
    ≡ with_chosen (by_way number w.operand (λ i. part_of tables.chosen.items w.chosen)) kept
same_way firsts tables number above test w kept g = by_operand w.operand g.chosen
  where
    by_operand : (o : Option ℕ) → IfSome o (λ i. Lists tables.chosen.items w.chosen (chosen_in firsts (out-Typed above.tree.now).children i (suc number)))
        → with_chosen (by_way number o (λ i. chosen_in firsts (out-Typed above.tree.now).children i (suc number))) kept
        ≡ with_chosen (by_way number o (λ i. part_of tables.chosen.items w.chosen)) kept
    by_operand None l = refl
    by_operand (Some i) l = ap (λ cs. with_chosen ((number, i) ∷ cs) kept) (sym l.entries)

gone_by : (firsts : List ℕ) (tables : Tables) (number : ℕ) (above : NodeInfo) (c : Choice) (test : Bool) → Goes firsts tables number above true c.yes
    → Goes firsts tables number above false c.no → Goes firsts tables number above test (way_of c test)
gone_by firsts tables number above c true g h = g
gone_by firsts tables number above c false g h = h

pub keeps_at_begin : KeepsAtBegin
keeps_at_begin world f firsts nodes tables entries laid e out views form fresh =
    subst (λ cs. IsKept world f e (with_chosen cs (λ k. None))) (sym out.chosen.entries) (chosen_at_once world f firsts laid.root.now e views form fresh)

module _ (world : World) (f : Scene) (firsts : List ℕ) (nodes : List NodeInfo) (tables : Tables) (root : Typed) (e : Begun) (kept : Taken) (v : Value)
    (numbered : AreNodes firsts root nodes) (views : Views world f firsts 0 root e.root) (form : is_formed (tree_of e.root) ≡ true)
    (keeps : IsKept world f e kept) (u : Place) (due : is_due (tree_of e.root) (taken_by world f e) u ≡ true) (left : e.given u ≡ None)
    (x : NodeInfo) (there : slice_get nodes u.node ≡ Some x) where
  abbrev After : Taken → Type 0
  After = IsKept world f (with_given e u v)

  -- the node whose test it would be is there
  a_test : (p : ℕ) (y test : Typed) (z : Expr) → IsNodeOf 0 root e.root p y z → chooses (node_at y) ≡ true → slice_get (out-Typed y).children 0 ≡ Some test
      → u.node ≡ suc p → (above : NodeInfo) × IsTest nodes u.node x p above
  a_test p y test z node choice first number =
      let found = (node_there world f firsts nodes numbered.each 0 None root e.root views numbered.top p y z node).1 in
      let below = test_there firsts nodes p u.node (node_there world f firsts nodes numbered.each 0 None root e.root views numbered.top p y z node).0 y test
      numbered.each found (sym first) number in
      let same : below.0 ≡ x = same_info nodes u.node below.0 x below.1 there in (
        found.0,
        record {
          below = sym (ap (λ (w : NodeInfo). w.parent) same) ∙ below.3;
          there = found.1;
          first = number;
          choice = ap (λ w. chooses (node_at w)) found.2 ∙ choice;
        },
      )

  no_choice_made : ((u.kind ≡ Val) → (p : ℕ) (above : NodeInfo) → IsTest nodes u.node x p above → ⊥) → After kept
  no_choice_made f2 = chosen_elsewhere world f firsts root e kept u v views form keeps due
      (λ val p y test z node choice first number. let t = a_test p y test z node choice first number in f2 val p t.0 t.1)

  above_there : (p : ℕ) (above : NodeInfo) → IsTest nodes u.node x p above
      → (z : Expr) × IsNodeOf 0 root e.root p above.tree.now z × (suc p < p + size (tree_of z))
  above_there p above t =
      let count : length nodes ≡ size (tree_of e.root) = numbered.count ∙ view_size world f firsts 0 root e.root views in
      let within = slice_get_within nodes u.node x there in
      let found = node_by_number world f firsts nodes numbered.each 0 None root e.root views numbered.top u.node x (omega arith)
      (omega (arith, within, count)) there in
      elim found.2 [
        | inl a ↦ absurd (cc (a, t.below))
        | inr a ↦
            (let number : a.0 ≡ p = some_same a.0 p (sym a.1 ∙ t.below) in
            let node : IsNodeOf 0 root e.root p a.2.0 a.2.1 = subst (λ n. IsNodeOf 0 root e.root n a.2.0 a.2.1) number a.2.2 in
            let here = (node_there world f firsts nodes numbered.each 0 None root e.root views numbered.top p a.2.0 a.2.1 node).1 in
            let tree : a.2.0 ≡ above.tree.now = sym here.2 ∙ ap (λ (w : NodeInfo). w.tree.now) (same_info nodes p here.0 above here.1 t.there) in
            (a.2.1, subst (λ w. IsNodeOf 0 root e.root p w a.2.1) tree node, omega (arith, a.2.4, t.first, number)))
      ]

  choice_made : (p : ℕ) (above : NodeInfo) (c : Choice) → u.kind ≡ Val → IsTest nodes u.node x p above → IsChoiceOf firsts tables p above x.operand c
      → After (kept_by tables (Some c) (truth v) kept)
  choice_made p above c val t h =
      let w = way_of c (truth v) in
      let goes = gone_by firsts tables p above c (truth v) h.yes h.no in
      let found = above_there p above t in
      let seen = (node_viewed world f firsts 0 root e.root p above.tree.now found.0 found.1 views form).0 in
      let test = first_there world f firsts p above.tree.now found.0 seen found.2 in
      let at : u ≡ place (suc p) Val = place_at u (suc p) t.first val in
      let made = chosen_at_test world f firsts root e kept p above.tree.now test.0 found.0 v views form keeps found.1 t.choice test.1
      (ap (is_due (tree_of e.root) (taken_by world f e)) (sym at) ∙ due) (ap e.given (sym at) ∙ left) w.operand
      (taken (node_of above) (truth v) w.operand goes.operand t.choice) in
      subst (λ z. IsKept world f (with_given e z v) (kept_by tables (Some c) (truth v) kept)) (sym at)
      (subst (IsKept world f (with_given e (place (suc p) Val) v)) (same_way firsts tables p above (truth v) w kept goes
      ∙ ap (λ n. with_chosen (by_way n w.operand (λ i. part_of tables.chosen.items w.chosen)) kept) (sym h.node)) made)

  by_kind : (kind : Kind) (o : Option ℕ) → u.kind ≡ kind → ChoosesAt firsts tables nodes u.node x kind o
      → After (kept_by tables (choice_of tables o) (truth v) kept)
  by_kind Val None k h = no_choice_made (λ val. h)
  by_kind Val (Some n) k h =
      subst (λ c. After (kept_by tables c (truth v) kept)) (sym h.4) (choice_made h.0 h.1 h.3 k h.2 h.5)
  by_kind Eff o k h =
      subst (λ z. After (kept_by tables (choice_of tables z) (truth v) kept)) (sym h) (no_choice_made (λ val p above t. absurd (cc (val, k))))
  by_kind Body o k h =
      subst (λ z. After (kept_by tables (choice_of tables z) (truth v) kept)) (sym h) (no_choice_made (λ val p above t. absurd (cc (val, k))))

pub keeps_at_event : KeepsAtEvent
keeps_at_event world f firsts nodes tables entries laid e kept i d v out views form keeps l r at due left =
    let entry = out.each i (listed.Event d) l r at in
    by_kind world f firsts nodes tables laid.root.now e kept v out.numbered views form keeps d.place due left entry.0 entry.1 d.place.kind d.choice refl entry.3

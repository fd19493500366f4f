-- What an event takes that may come next is given.
use Rattle.std.proofs.Common.{◌≡◌, ℕ, zero, suc, ◌+◌, ◌<◌, ◌≤◌, Bool, true, false, not, ◌&&◌, ◌||◌, ◌==◌, nat_lt, List, [], ◌∷◌, length, slice_get}
use Rattle.std.proofs.Common.{Option, Some, None, refl, sym, ap, ap₂, subst, ◌∙◌, arith, if◌then◌else◌}
use Rattle.std.specs.Prelude.{is_some, unsigned_abs}
use Rattle.std.specs.List.{All}
use Rattle.std.proofs.lemmas.Bool.Decides.{nat_tests}
use Rattle.std.proofs.lemmas.List.Elements.{All-head, All-tail}
use Rattle.ub_base.specs.declared.clause.Kind.{Kind}
use Rattle.ub_base.specs.declared.clause.Kind.TheVariants.{Val, Eff, Body}
use Rattle.c_types.specs.Types.{CType, type_of}
use Rattle.c_typed.specs.declared.class.Class.{Class}
use Rattle.c_typed.specs.declared.class.Class.TheVariants as class
use Rattle.c_typed.specs.declared.tree.Conversion.{Conversion}
use Rattle.c_typed.specs.declared.tree.Conversion.TheVariants as conversion
use Rattle.c_typed.specs.declared.tree.Node.{Node, fold-Node, fold-roll-Node}
use Rattle.c_typed.specs.declared.tree.Node.TheVariants as tree_node
use Rattle.c_typed.specs.declared.tree.Node.TheOpen as shape
use Rattle.c_typed.specs.declared.tree.Node.TheOpen.{Node-F}
use Rattle.c_typed.specs.declared.tree.Place.{Place}
use Rattle.c_typed.specs.declared.tree.Slot.{Slot}
use Rattle.c_typed.specs.declared.tree.Typed.{Typed, fold-roll-Typed, out-Typed}
use Rattle.c_typed.specs.Decide.{due_in, due_among, has_kind}
use Rattle.c_typed.specs.Lawful.{CountIs}
use Rattle.c_typed.specs.Sites as sites
use Rattle.c_typed.specs.Order.{Taken, goes, place, is_body, is_choice, is_number, own_rule, IsPermitted}
use Rattle.c_typed.specs.Tree.{Tree, Trees, kinds_of, is_quiet, is_quiet_class, class_of, size, sizes}
use Rattle.c_typed.specs.Tree as order
use Rattle.c_model.specs.Nodes as nodes
use Rattle.c_model.specs.Program as model
use Rattle.c_model.specs.Program.{Expr, expr, Exprs, none, more, Head, head_class, tree_of, trees_of}
use Rattle.c_model.specs.Steps.{Scene, Begun, at_node, at_node_among, choice_by, choice_in, first_known, is_done, name_of, own_kind, pointer_to}
use Rattle.c_model.specs.Steps.{quiet_value, taken_by, values_of}
use Rattle.c_model.specs.Values.{Value, or_nothing, truth, value_at}
use Rattle.c_model.specs.World.{World}
use Rattle.c_model.proofs.Closed.{found_before}
use Rattle.c_model.proofs.Decided.{has_due}
use Rattle.c_model.proofs.Ranks.{if_true, if_false, lt_lt, ge_lt}
use Rattle.program_view.specs.Build as build
use Rattle.program_view.specs.Trees.{constant_head, expr_of, exprs_of, is_pointer, node_head, typed_expr}
use Rattle.program_view.proofs.Seen.{node_in, operands_in, own_type, head_in, expr_at, same_tree}
use Rattle.run_layout.specs.declared.steps.Due.{Due}
use Rattle.run_layout.specs.declared.steps.Listed.TheVariants as listed
use Rattle.run_layout.specs.declared.steps.Operand.{Operand}
use Rattle.run_layout.specs.declared.steps.Operand.TheVariants as operand
use Rattle.run_layout.specs.EventActs.{pointed, sight_of, IsAct}
use Rattle.run_layout.specs.EventActs as code
use Rattle.run_layout.specs.Resolved as resolved
use Rattle.run_layout.specs.Resolved.{object_of, operands_from}
use Rattle.run_listing.specs.Along.{part_of}
use Rattle.run_state.specs.declared.machine.Machine.{Machine}
use Rattle.run_state.specs.Operands.{Gives, IsNamed, IsThere, QuietGives, RoomGives, StandsObjects}
use Rattle.run_state.specs.Stands.{IsUpdate, StandsValues}
use Rattle.run_answers.specs.Nodes.{head_of, Evaluates, OwnIsGiven}
use Rattle.run_answers.specs.Takes.{CallTakesGiven, ListIsThere, PermittedTakesGiven}
use Rattle.run_answers.proofs.Before.{is_call, is_operand, node_among_in, node_in as stands_in, operand_before, own_before}
use Rattle.run_answers.proofs.Nodes.{head_is, node_is}

eq_eq : (a : ℕ) → (a == a) ≡ true
eq_eq a = grind (arith, nat_tests)

eq_of : (a b : ℕ) → (a == b) ≡ true → a ≡ b
eq_of a b h = grind (arith, nat_tests, h)

ne_ne : (a b : ℕ) → b < a → (a == b) ≡ false
ne_ne a b h = grind (arith, nat_tests, h)

and_both : (a b : Bool) → a ≡ true → b ≡ true → a && b ≡ true
and_both true b h g = g
and_both false b h g = h

and_first : (a b : Bool) → a && b ≡ true → a ≡ true
and_first true b h = refl
and_first false b h = h

and_second : (a b : Bool) → a && b ≡ true → b ≡ true
and_second true b h = h
and_second false b h = absurd (cc)

or_either : (a b : Bool) → (a ≡ false → b ≡ true) → a || b ≡ true
or_either true b h = refl
or_either false b h = h refl

-- ---- the operand of a number among those of a node
abbrev pub IsIth : List Typed → (k i c : ℕ) → Typed → Type 0
IsIth [] k i c t = ⊥
IsIth (x ∷ xs) k zero c t = (c ≡ k) × (t ≡ x)
IsIth (x ∷ xs) k (suc i) c t = IsIth xs (k + size (tree_of (expr_of x))) i c t

ith : (ts : List Typed) (k i : ℕ) → i < length ts → (c : ℕ) × (t : Typed) × IsIth ts k i c t
ith [] k i lt = absurd (omega (arith, lt))
ith (x ∷ xs) k zero lt = (k, x, (refl, refl))
ith (x ∷ xs) k (suc i) lt = ith xs (k + size (tree_of (expr_of x))) i (omega (arith, lt))

size_pos : (t : Expr) → 1 ≤ size (tree_of t)
size_pos (expr h ty line ts) = omega arith

ith_in : (ts : List Typed) (k i c : ℕ) (t : Typed) → IsIth ts k i c t → (k ≤ c) × (c + size (tree_of (expr_of t)) ≤ k + sizes (trees_of (exprs_of ts)))
ith_in [] k i c t is = absurd is
ith_in (x ∷ xs) k zero c t is =
    let a = is.0 in
    let b : size (tree_of (expr_of t)) ≡ size (tree_of (expr_of x)) = ap (λ (z : Typed). size (tree_of (expr_of z))) is.1 in
    (omega (arith, a), omega (arith, a, b))
ith_in (x ∷ xs) k (suc i) c t is =
    let r = ith_in xs (k + size (tree_of (expr_of x))) i c t is in
    (let a = r.0 in omega (arith, a), let b = r.1 in omega (arith, b))

ith_operand : (ts : List Typed) (k i c : ℕ) (t : Typed) → IsIth ts k i c t → is_quiet (tree_of (expr_of t)) ≡ false → is_operand k (exprs_of ts) c ≡ true
ith_operand [] k i c t is q = absurd is
ith_operand (x ∷ xs) k zero c t is q =
    let a : (k == c) ≡ true = ap (λ (n : ℕ). k == n) is.0 ∙ eq_eq k in
    let b : not (is_quiet (tree_of (expr_of x))) ≡ true = ap not (ap (λ (z : Typed). is_quiet (tree_of (expr_of z))) (sym is.1) ∙ q) in
    ap (λ (p : Bool). p || is_operand (k + size (tree_of (expr_of x))) (exprs_of xs) c) (and_both _ _ a b)
ith_operand (x ∷ xs) k (suc i) c t is q =
    or_either ((k == c) && not (is_quiet (tree_of (expr_of x)))) _ (λ h. ith_operand xs (k + size (tree_of (expr_of x))) i c t is q)

ith_named : (P : Typed → Type 0) (ts : List Typed) (k i c : ℕ) (t : Typed) → IsIth ts k i c t → All P ts → P t
ith_named P [] k i c t is all = absurd is
ith_named P (x ∷ xs) k zero c t is all = subst P (sym is.1) (All-head P x xs all)
ith_named P (x ∷ xs) k (suc i) c t is all = ith_named P xs (k + size (tree_of (expr_of x))) i c t is (All-tail P x xs all)

-- where its value comes from, and which it is
ith_resolved : (firsts : List ℕ) (ts : List Typed) (j k i c : ℕ) (t : Typed) → j ≡ k → IsIth ts k i c t
    → resolved.value_at (operands_from firsts j ts) i ≡ resolved.resolved firsts t c
ith_resolved firsts [] j k i c t e is = absurd is
ith_resolved firsts (x ∷ xs) j k zero c t e is = ap₂ (λ (u : Typed) (n : ℕ). resolved.resolved firsts u n) (sym is.1) (e ∙ sym is.0)
ith_resolved firsts (x ∷ xs) j k (suc i) c t e is =
    ith_resolved firsts xs (j + size (order.tree_of x)) (k + size (tree_of (expr_of x))) i c t
    (let s : size (tree_of (expr_of x)) ≡ size (order.tree_of x) = ap size (same_tree x) in omega (arith, e, s)) is

module _ (world : World) (f : Scene) (given : Place → Option Value) where
  abbrev its_value : ℕ → Typed → Value
  its_value c t = if is_quiet (tree_of (expr_of t)) then quiet_value world f (expr_of t) else or_nothing (given (place c Val))

  ith_value : (ts : List Typed) (k i c : ℕ) (t : Typed) → IsIth ts k i c t → value_at (values_of world f given k (exprs_of ts)) i ≡ its_value c t
  ith_value [] k i c t is = absurd is
  ith_value (x ∷ xs) k zero c t is = ap₂ its_value (sym is.0) (sym is.1)
  ith_value (x ∷ xs) k (suc i) c t is = ith_value xs (k + size (tree_of (expr_of x))) i c t is

-- ---- what is due
has_val : (n : Class) → is_quiet_class n ≡ false → has_kind (kinds_of n) Val ≡ true
has_val class.Object q = absurd (cc)
has_val class.Constant q = absurd (cc)
has_val _ q = refl

module _ (taken : Taken) where
  -- the value of a tree that isn't known beforehand is due in it
  val_due : (e : Expr) (c : ℕ) → is_quiet (tree_of e) ≡ false → due_in taken c (tree_of e) (place c Val) ≡ true
  val_due (expr h ty line es) c q = if_true (c == c) _ _ (eq_eq c) ∙ has_val (head_class h (trees_of es)) q

  -- that of an operand that is evaluated is due among those of its node
  ith_due : (ts : List Typed) (n : Class) (choice : Option ℕ) (a k i c : ℕ) (t : Typed) → IsIth ts k i c t → is_quiet (tree_of (expr_of t)) ≡ false
      → goes n choice (a + i) ≡ true → due_among taken n choice a k (trees_of (exprs_of ts)) (place c Val) ≡ true
  ith_due [] n choice a k i c t is q g = absurd is
  ith_due (x ∷ xs) n choice a k zero c t is q g =
      let e = is.0 in
      let s = size_pos (expr_of x) in
      let z : a + 0 ≡ a = omega arith in
      if_true (nat_lt c (k + size (tree_of (expr_of x)))) _ _ (lt_lt c (k + size (tree_of (expr_of x))) (omega (arith, e, s)))
      ∙ and_both _ _ (ap (goes n choice) (sym z) ∙ g)
      (subst (λ (j : ℕ). due_in taken j (tree_of (expr_of x)) (place c Val) ≡ true) e
      (subst (λ (u : Typed). due_in taken c (tree_of (expr_of u)) (place c Val) ≡ true) is.1 (val_due (expr_of t) c q)))
  ith_due (x ∷ xs) n choice a k (suc i) c t is q g =
      let r = (ith_in xs (k + size (tree_of (expr_of x))) i c t is).0 in
      let z : a + suc i ≡ suc a + i = omega arith in
      if_false (nat_lt c (k + size (tree_of (expr_of x)))) _ _ (ge_lt c (k + size (tree_of (expr_of x))) r)
      ∙ ith_due xs n choice (suc a) (k + size (tree_of (expr_of x))) i c t is q (ap (goes n choice) (sym z) ∙ g)

  -- an event below a node that has a due event is due in the whole where it is due below the node
  module _ (z : Place) (kind : Kind) where
    mutual
      due_outside : (e : Expr) (k n : ℕ) (g : Expr) → at_node k e n ≡ Some g → n ≤ z.node → z.node < n + size (tree_of g)
          → due_in taken k (tree_of e) (place n kind) ≡ true → due_in taken n (tree_of g) z ≡ true → due_in taken k (tree_of e) z ≡ true
      due_outside (expr h ty line es) k n g q l u whole part =
          go (k == n) refl (λ there due. among_outside es (head_class h (trees_of es)) (taken k) 0 (suc k) n g there l u due part) q
        where
          root : Expr
          root = expr h ty line es

          go : (b : Bool) → (k == n) ≡ b
              → (at_node_among (suc k) es n ≡ Some g → due_among taken (head_class h (trees_of es)) (taken k) 0 (suc k) (trees_of es) (place n kind) ≡ true
              → due_among taken (head_class h (trees_of es)) (taken k) 0 (suc k) (trees_of es) z ≡ true)
              → (if b then Some root else at_node_among (suc k) es n) ≡ Some g → due_in taken k (tree_of root) z ≡ true
          go true e below q =
              let is : root ≡ g = cc in
              subst (λ (j : ℕ). due_in taken j (tree_of root) z ≡ true) (sym (eq_of k n e))
              (subst (λ (x : Expr). due_in taken n (tree_of x) z ≡ true) (sym is) part)
          go false e below q =
              let r = (node_among_in es (suc k) n g q).0 in
              let whole' : due_among taken (head_class h (trees_of es)) (taken k) 0 (suc k) (trees_of es) (place n kind) ≡ true =
              sym (if_false (n == k) _ _ (ne_ne n k (omega (arith, r)))) ∙ whole in
              if_false (z.node == k) _ _ (ne_ne z.node k (omega (arith, r, l))) ∙ below q whole'

      among_outside : (es : Exprs) (c : Class) (choice : Option ℕ) (i k n : ℕ) (g : Expr) → at_node_among k es n ≡ Some g → n ≤ z.node
          → z.node < n + size (tree_of g) → due_among taken c choice i k (trees_of es) (place n kind) ≡ true → due_in taken n (tree_of g) z ≡ true
          → due_among taken c choice i k (trees_of es) z ≡ true
      among_outside none c choice i k n g q l u whole part = absurd (cc)
      among_outside (more e es) c choice i k n g q l u whole part =
          go (nat_lt n (k + size (tree_of e))) refl (λ there due. due_outside e k n g there l u due part)
          (λ there due. among_outside es c choice (suc i) (k + size (tree_of e)) n g there l u due part) q
        where
          end : ℕ
          end = k + size (tree_of e)

          go : (b : Bool) → nat_lt n end ≡ b
              → (at_node k e n ≡ Some g → due_in taken k (tree_of e) (place n kind) ≡ true → due_in taken k (tree_of e) z ≡ true)
              → (at_node_among end es n ≡ Some g → due_among taken c choice (suc i) end (trees_of es) (place n kind) ≡ true
              → due_among taken c choice (suc i) end (trees_of es) z ≡ true)
              → (if b then at_node k e n else at_node_among end es n) ≡ Some g → due_among taken c choice i k (trees_of (more e es)) z ≡ true
          go true b first rest q =
              let r = (stands_in e k n g q).1 in
              let here : goes c choice i && due_in taken k (tree_of e) (place n kind) ≡ true = sym (if_true (nat_lt n end) _ _ b) ∙ whole in
              if_true (nat_lt z.node end) _ _ (lt_lt z.node end (omega (arith, r, u)))
              ∙ and_both _ _ (and_first _ _ here) (first q (and_second (goes c choice i) _ here))
          go false b first rest q =
              let r = (node_among_in es end n g q).0 in
              let there : due_among taken c choice (suc i) end (trees_of es) (place n kind) ≡ true = sym (if_false (nat_lt n end) _ _ b) ∙ whole in
              if_false (nat_lt z.node end) _ _ (ge_lt z.node end (omega (arith, r, l))) ∙ rest q there

-- ---- what is done before an event that may come next
module _ (taken : Taken) (done : Place → Bool) (root : Expr) (u : Place) (permitted : IsPermitted (tree_of root) taken done u)
    (h : Head) (ty : CType) (line : ℕ) (ts : List Typed) (there : at_node 0 root u.node ≡ Some (expr h ty line (exprs_of ts)))
    (calls : u.kind ≡ Body → is_call (head_class h (trees_of (exprs_of ts))) ≡ true) where
  u_due : due_in taken 0 (tree_of root) u ≡ true
  u_due = sym (has_due taken (tree_of root) 0 u) ∙ permitted.ready.due

  -- the value of an operand that is evaluated and isn't known beforehand
  operand_done : (i c : ℕ) (t : Typed) → IsIth ts (suc u.node) i c t → is_quiet (tree_of (expr_of t)) ≡ false
      → goes (head_class h (trees_of (exprs_of ts))) (taken u.node) i ≡ true → done (place c Val) ≡ true
  operand_done i c t is q g =
      let n = u.node in
      let g' = expr h ty line (exprs_of ts) in
      let r = ith_in ts (suc n) i c t is in
      let a = r.0 in
      let b = r.1 in
      let s = size_pos (expr_of t) in
      let from_zero : 0 + i ≡ i = omega arith in
      let below : due_in taken n (tree_of g') (place c Val) ≡ true =
      if_false (c == n) _ _ (ne_ne c n (omega (arith, a))) ∙ ith_due taken ts (head_class h (trees_of (exprs_of ts))) (taken n) 0 (suc n) i c t is q
      (ap (λ (j : ℕ). goes (head_class h (trees_of (exprs_of ts))) (taken n) j) from_zero ∙ g) in
      let due : due_in taken 0 (tree_of root) (place c Val) ≡ true =
      due_outside taken (place c Val) u.kind root 0 n g' there (omega (arith, a)) (omega (arith, b, s)) u_due below in
      permitted.ready.earlier (place c Val)
      (found_before (tree_of root) taken (place c Val) u (has_due taken (tree_of root) 0 (place c Val) ∙ due) permitted.ready.due
      (operand_before taken n c u.kind h ty line (exprs_of ts) (ith_operand ts (suc n) i c t is q) calls root 0 there))

  -- the earlier event of its node
  own_done : (k : Kind) → own_rule (head_class h (trees_of (exprs_of ts))) k u.kind ≡ true
      → has_kind (kinds_of (head_class h (trees_of (exprs_of ts)))) k ≡ true
      → done (place u.node k) ≡ true
  own_done k rule has =
      let n = u.node in
      let g' = expr h ty line (exprs_of ts) in
      let s = size_pos g' in
      let below : due_in taken n (tree_of g') (place n k) ≡ true = if_true (n == n) _ _ (eq_eq n) ∙ has in
      let due : due_in taken 0 (tree_of root) (place n k) ≡ true =
      due_outside taken (place n k) u.kind root 0 n g' there (omega arith) (omega (arith, s)) u_due below in
      permitted.ready.earlier (place n k)
      (found_before (tree_of root) taken (place n k) u (has_due taken (tree_of root) 0 (place n k) ∙ due) permitted.ready.due
      (own_before taken n k u.kind h ty line (exprs_of ts) rule root 0 there))

-- ---- which operands are evaluated
goes_first : (n : Class) (choice : Option ℕ) → goes n choice 0 ≡ true
goes_first n choice = go (is_choice n)
  where
    go : (b : Bool) → not b || (true || is_number choice 0) ≡ true
    go true = refl
    go false = refl

goes_any : (n : Class) (choice : Option ℕ) (i : ℕ) → is_choice n ≡ false → goes n choice i ≡ true
goes_any n choice i q = ap (λ (b : Bool). not b || ((i == 0) || is_number choice i)) q

constant_plain : (z : _) (ty : CType) (cs : Trees) → is_choice (head_class (constant_head z ty) cs) ≡ false
constant_plain z ty cs = go (is_pointer ty && (unsigned_abs z == 0))
  where
    go : (b : Bool) → is_choice (head_class (if b then model.Null else model.Number z) cs) ≡ false
    go true = refl
    go false = refl

converted_plain : (c : Conversion) (o : Option Class) → is_choice (order.conversion_class c o) ≡ false
converted_plain (conversion.Integer k) None = refl
converted_plain (conversion.Integer k) (Some n) = go (is_quiet_class n)
  where
    go : (b : Bool) → is_choice (if b then class.Constant else class.Plain) ≡ false
    go true = refl
    go false = refl
converted_plain _ o = refl

member_plain : (o : Option Class) → is_choice (order.member_class o) ≡ false
member_plain None = refl
member_plain (Some class.Object) = refl
member_plain (Some _) = refl

-- the operand that a node with these operands evaluates after its first
two : (i : ℕ) → suc i < 2 → i ≡ 0
two i lt = omega (arith, lt)

module _ (world : World) (f : Scene) (given : Place → Option Value) (k : ℕ) where
  abbrev Vals : List Typed → List Value
  Vals ts = values_of world f given k (exprs_of ts)

  abbrev knows : List Typed → Bool
  knows ts = first_known given k (exprs_of ts)

  -- the value of the first operand, and those of the others
  abbrev first_value : Typed → Value
  first_value t = its_value world f given k t

  abbrev later_values : Typed → List Typed → List Value
  later_values t ts = values_of world f given (k + size (tree_of (expr_of t))) (exprs_of ts)

  chosen_and : (v : Value) (vs : List Value) (known : Bool) → known ≡ true → truth v ≡ true → choice_by model.And (v ∷ vs) known ≡ Some 1
  chosen_and v vs true e t = ap (λ (b : Bool). if b then Some 1 else None) t
  chosen_and v vs false e t = absurd (cc)

  chosen_or : (v : Value) (vs : List Value) (known : Bool) → known ≡ true → truth v ≡ false → choice_by model.Or (v ∷ vs) known ≡ Some 1
  chosen_or v vs true e t = ap (λ (b : Bool). if b then None else Some 1) t
  chosen_or v vs false e t = absurd (cc)

  chosen_yes : (v : Value) (vs : List Value) (known : Bool) → known ≡ true → truth v ≡ true → choice_by model.Cond (v ∷ vs) known ≡ Some 1
  chosen_yes v vs true e t = ap (λ (b : Bool). if b then Some 1 else Some 2) t
  chosen_yes v vs false e t = absurd (cc)

  chosen_no : (v : Value) (vs : List Value) (known : Bool) → known ≡ true → truth v ≡ false → choice_by model.Cond (v ∷ vs) known ≡ Some 2
  chosen_no v vs true e t = ap (λ (b : Bool). if b then Some 1 else Some 2) t
  chosen_no v vs false e t = absurd (cc)

  -- what is evaluated goes
  evaluated : (d : Node-F Node Typed) (ty : CType) (ts : List Typed) (i : ℕ) → CountIs (sites.head_of d) (length ts) → i < length ts
      → Evaluates (head_in d ty) (Vals ts) i → (0 < i → knows ts ≡ true)
      → goes (head_class (head_in d ty) (trees_of (exprs_of ts))) (choice_by (head_in d ty) (Vals ts) (knows ts)) i ≡ true
  evaluated shape.And ty ts zero c lt ev known = goes_first class.Choice (choice_by model.And (Vals ts) (knows ts))
  evaluated shape.And ty [] (suc i) c lt ev known = absurd (omega (arith, lt))
  evaluated shape.And ty (t ∷ ts) (suc zero) c lt ev known =
      ap (λ (o : Option ℕ). goes class.Choice o 1) (chosen_and (first_value t) (later_values t ts) (knows (t ∷ ts)) (known (omega arith)) ev)
  evaluated shape.And ty (t ∷ ts) (suc (suc i)) c lt ev known = absurd (omega (arith, lt, c))
  evaluated shape.Or ty ts zero c lt ev known = goes_first class.Choice (choice_by model.Or (Vals ts) (knows ts))
  evaluated shape.Or ty [] (suc i) c lt ev known = absurd (omega (arith, lt))
  evaluated shape.Or ty (t ∷ ts) (suc zero) c lt ev known =
      ap (λ (o : Option ℕ). goes class.Choice o 1) (chosen_or (first_value t) (later_values t ts) (knows (t ∷ ts)) (known (omega arith)) ev)
  evaluated shape.Or ty (t ∷ ts) (suc (suc i)) c lt ev known = absurd (omega (arith, lt, c))
  evaluated shape.Cond ty ts zero c lt ev known = goes_first class.Choice (choice_by model.Cond (Vals ts) (knows ts))
  evaluated shape.Cond ty [] (suc i) c lt ev known = absurd (omega (arith, lt))
  evaluated shape.Cond ty (t ∷ ts) (suc zero) c lt ev known =
      ap (λ (o : Option ℕ). goes class.Choice o 1) (chosen_yes (first_value t) (later_values t ts) (knows (t ∷ ts)) (known (omega arith)) ev)
  evaluated shape.Cond ty (t ∷ ts) (suc (suc zero)) c lt ev known =
      ap (λ (o : Option ℕ). goes class.Choice o 2) (chosen_no (first_value t) (later_values t ts) (knows (t ∷ ts)) (known (omega arith)) ev)
  evaluated shape.Cond ty (t ∷ ts) (suc (suc (suc i))) c lt ev known = absurd (omega (arith, lt, c))
  evaluated (shape.Const z) ty ts i c lt ev known = goes_any _ _ i (constant_plain z ty (trees_of (exprs_of ts)))
  evaluated (shape.Conv k) ty ts i c lt ev known =
      goes_any (order.conversion_class k (order.first_class (trees_of (exprs_of ts)))) (choice_by (head_in (shape.Conv k) ty) (Vals ts) (knows ts)) i
      (converted_plain k (order.first_class (trees_of (exprs_of ts))))
  evaluated (shape.Member offset) ty ts i c lt ev known =
      goes_any (order.member_class (order.first_class (trees_of (exprs_of ts)))) (choice_by (head_in (shape.Member offset) ty) (Vals ts) (knows ts)) i
      (member_plain (order.first_class (trees_of (exprs_of ts))))
  evaluated _ ty ts i c lt ev known = refl

-- ---- all that an event takes
some_of : {A : Type 0} (o : Option A) → is_some o ≡ true → (a : A) × (o ≡ Some a)
some_of (Some a) h = (a, refl)
some_of None h = absurd (cc)

none_of : {A : Type 0} (o : Option A) → is_some o ≡ false → o ≡ None
none_of None h = refl
none_of (Some a) h = absurd (cc)

module _ (world : World) (m : Machine) (f : Scene) (e : Begun) (firsts : List ℕ) (first end : ℕ) (u : Place) (stands : StandsObjects world m f)
    (held : StandsValues world m m.top.base first end f e)
    (permitted : IsPermitted (tree_of e.root) (taken_by world f e) (is_done e) u)
    (d : Node-F Node Typed) (ty : CType) (line : ℕ) (ts : List Typed)
    (there : at_node 0 e.root u.node ≡ Some (expr (head_in d ty) ty line (exprs_of ts)))
    (counts : CountIs (sites.head_of d) (length ts))
    (named : All (λ o. is_quiet (tree_of (expr_of o)) ≡ true → IsNamed m firsts f.blocks (expr_of o)) ts)
    (calls : u.kind ≡ Body → is_call (head_class (head_in d ty) (trees_of (exprs_of ts))) ≡ true) where
  abbrev n : ℕ
  n = u.node

  abbrev Values : List Value
  Values = values_of world f e.given (suc n) (exprs_of ts)

  choice_there : taken_by world f e n ≡ choice_by (head_in d ty) Values (first_known e.given (suc n) (exprs_of ts))
  choice_there = ap (choice_in world f e.given n) there

  done_there : (i c : ℕ) (t : Typed) → IsIth ts (suc n) i c t → is_quiet (tree_of (expr_of t)) ≡ false
      → goes (head_class (head_in d ty) (trees_of (exprs_of ts))) (taken_by world f e n) i ≡ true → is_some (e.given (place c Val)) ≡ true
  done_there i c t is q g = operand_done (taken_by world f e) (is_done e) e.root u permitted (head_in d ty) ty line ts there calls i c t is q g

  first_there : (ws : List Typed) → ((t : Typed) → is_quiet (tree_of (expr_of t)) ≡ false → IsIth ws (suc n) 0 (suc n) t
      → is_some (e.given (place (suc n) Val)) ≡ true) → 0 < length ws → first_known e.given (suc n) (exprs_of ws) ≡ true
  first_there [] h some = absurd (omega (arith, some))
  first_there (x ∷ xs) h some = or_either (is_quiet (tree_of (expr_of x))) (is_some (e.given (place (suc n) Val))) (λ q. h x q (refl, refl))

  knows_first : 0 < length ts → first_known e.given (suc n) (exprs_of ts) ≡ true
  knows_first some = first_there ts (λ t q is. done_there 0 (suc n) t is q (goes_first _ (taken_by world f e n))) some

  goes_there : (i : ℕ) → i < length ts → Evaluates (head_in d ty) Values i
      → goes (head_class (head_in d ty) (trees_of (exprs_of ts))) (taken_by world f e n) i ≡ true
  goes_there i lt ev =
      ap (λ (o : Option ℕ). goes (head_class (head_in d ty) (trees_of (exprs_of ts))) o i) choice_there
      ∙ evaluated world f e.given (suc n) d ty ts i counts lt ev (λ more. knows_first (omega (arith, lt, more)))

  operand_gives : QuietGives → RoomGives → (i : ℕ) → i < length ts → Evaluates (head_in d ty) Values i
      → Gives m (resolved.value_at (operands_from firsts (suc n) ts) i) (value_at Values i)
  operand_gives quiet_gives room_gives i lt ev =
      let r = ith ts (suc n) i lt in
      let c = r.0 in
      let t = r.1 in
      let is = r.2 in
      subst (λ (o : Operand). Gives m o (value_at Values i)) (sym (ith_resolved firsts ts (suc n) (suc n) i c t refl is))
      (subst (λ (v : Value). Gives m (resolved.resolved firsts t c) v) (sym (ith_value world f e.given ts (suc n) i c t is))
      (go t c is (is_quiet (tree_of (expr_of t))) refl))
    where
      go : (t : Typed) (c : ℕ) → IsIth ts (suc n) i c t → (b : Bool) → is_quiet (tree_of (expr_of t)) ≡ b
          → Gives m (resolved.resolved firsts t c) (if b then quiet_value world f (expr_of t) else or_nothing (e.given (place c Val)))
      go t c is true q =
          quiet_gives world m f firsts t c stands q
          (ith_named (λ (o : Typed). is_quiet (tree_of (expr_of o)) ≡ true → IsNamed m firsts f.blocks (expr_of o)) ts (suc n) i c t is named q)
      go t c is false q =
          let v = some_of (e.given (place c Val)) (done_there i c t is q (goes_there i lt ev)) in
          subst (λ (w : Value). Gives m (resolved.resolved firsts t c) w) (sym (ap or_nothing v.1))
          (room_gives m firsts t c v.0 q (held.val c v.0 v.1))

  own_there : (k : Kind) → own_rule (head_class (head_in d ty) (trees_of (exprs_of ts))) k u.kind ≡ true
      → has_kind (kinds_of (head_class (head_in d ty) (trees_of (exprs_of ts)))) k ≡ true → is_some (e.given (place n k)) ≡ true
  own_there k rule has = own_done (taken_by world f e) (is_done e) e.root u permitted (head_in d ty) ty line ts there calls k rule has

-- an event that isn't a body
no_calls : (k : Kind) (b : Bool) → is_body k ≡ false → k ≡ Body → b ≡ true
no_calls k b plain e = absurd (let body : is_body k ≡ true = ap is_body e in cc)

-- an object that is named
object_is : (s : Slot) → expr_of (build.object s build.int_ty) ≡ expr (model.Obj s) (type_of (build.pointer_ty build.int_ty)) 1 none
object_is s =
    let ty = type_of (build.pointer_ty build.int_ty) in
    fold-roll-Typed (CType → Head) Expr node_head typed_expr
    (record { node = tree_node.Obj s; ty = build.pointer_ty build.int_ty; line = 1; children = [] })
    ∙ (ap (λ (n : Node). expr (fold-Node (CType → Head) Expr node_head typed_expr n ty) ty 1 none) (sym (tree_node.rolls-Obj s))
    ∙ ap (λ (g : CType → Head). expr (g ty) ty 1 none) (fold-roll-Node (CType → Head) Expr node_head typed_expr (shape.Obj s)))

object_resolved : (firsts : List ℕ) (s : Slot) (n : ℕ) → resolved.resolved firsts (build.object s build.int_ty) n ≡ object_of firsts s
object_resolved firsts s n =
    let ty = type_of (build.pointer_ty build.int_ty) in
    ap (λ (g : ℕ → Operand). g n) (fold-roll-Typed resolved.NodeResolved (ℕ → Operand) (resolved.node_resolved firsts) resolved.tree_resolved
    (record { node = tree_node.Obj s; ty = build.pointer_ty build.int_ty; line = 1; children = [] }))
    ∙ (ap (λ (u : Node). fold-Node resolved.NodeResolved (ℕ → Operand) (resolved.node_resolved firsts) resolved.tree_resolved u ty [] n)
    (sym (tree_node.rolls-Obj s))
    ∙ ap (λ (g : resolved.NodeResolved). g ty [] n)
    (fold-roll-Node resolved.NodeResolved (ℕ → Operand) (resolved.node_resolved firsts) resolved.tree_resolved (shape.Obj s)))

object_gives : QuietGives → (world : World) (m : Machine) (f : Scene) (firsts : List ℕ) (s : Slot) → StandsObjects world m f
    → IsThere m firsts f.blocks s → Gives m (object_of firsts s) (pointer_to world (name_of world f s))
object_gives quiet_gives world m f firsts s stands there =
    let t = build.object s build.int_ty in
    let e = object_is s in
    let given = quiet_gives world m f firsts t 0 stands (ap (λ (x : Expr). is_quiet (tree_of x)) e)
    (subst (λ (x : Expr). IsNamed m firsts f.blocks x) (sym e) there) in
    subst (λ (o : Operand). Gives m o (pointer_to world (name_of world f s))) (object_resolved firsts s 0)
    (subst (λ (v : Value). Gives m (resolved.resolved firsts t 0) v) (ap (quiet_value world f) e) given)

module _ (quiet_gives : QuietGives) (world : World) (m : Machine) (f : Scene) (e : Begun) (firsts : List ℕ) (first end : ℕ) (due : Due)
    (stands : StandsObjects world m f)
    (held : StandsValues world m m.top.base first end f e)
    (permitted : IsPermitted (tree_of e.root) (taken_by world f e) (is_done e) due.place) (plain : is_body due.place.kind ≡ false)
    (at : ℕ) (listed_there : slice_get (part_of m.image.code.now.listing.items first end) at ≡ Some (listed.Event due)) where
  own_gives : (d : Node-F Node Typed) (ty : CType) (line : ℕ) (ts : List Typed) (own : Operand) (room initializer : ℕ) (k : Kind) → due.place.kind ≡ k
      → at_node 0 e.root due.place.node ≡ Some (expr (head_in d ty) ty line (exprs_of ts)) → CountIs (sites.head_of d) (length ts)
      → All (λ o. is_quiet (tree_of (expr_of o)) ≡ true → IsNamed m firsts f.blocks (expr_of o)) ts → ListIsThere m firsts f.blocks (head_in d ty)
      → IsAct firsts m.image.code.now.tables initializer (sites.head_of d)
      (record {
        operands = operands_from firsts (suc due.place.node) ts;
        object = pointed (code.first_type ty ts);
        later = code.later_types ts;
        own = own;
        room = room;
      }) k due.act
      → OwnIsGiven world m f firsts due.place.node room (head_in d ty) k (values_of world f e.given (suc due.place.node) (exprs_of ts))
      (or_nothing (e.given (place due.place.node (own_kind k))))
  own_gives (shape.Call discarded) ty line ts own room initializer Val is there counts named list act =
      let n = due.place.node in
      let same : due.place ≡ place n Val = ap (place n) is in
      let left : e.given (place n Val) ≡ None = none_of _ (ap (λ (v : Place). is_some (e.given v)) (sym same) ∙ permitted.ready.left) in
      let body = some_of (e.given (place n Body))
      (own_there world m f e firsts first end due.place stands held permitted (shape.Call discarded) ty line ts there counts named
      (no_calls due.place.kind _ plain) Body
      (ap (own_rule class.Call Body) is) refl) in
      subst (λ (w : Value). Gives m (operand.Done n) w) (sym (ap or_nothing body.1)) (held.body n body.0 left body.1)
  own_gives (shape.Update c old) ty line ts own room initializer Eff is there counts named list act =
      let n = due.place.node in
      let val = some_of (e.given (place n Val))
      (own_there world m f e firsts first end due.place stands held permitted (shape.Update c old) ty line ts there counts named
      (no_calls due.place.kind _ plain) Val
      (ap (own_rule class.Update Val) is) refl) in
      subst (λ (w : Value). Gives m (operand.Done room) (nodes.new_value c old w (nodes.amount old (values_of world f e.given (suc n) (exprs_of ts)))))
      (sym (ap or_nothing val.1))
      (held.update at due act.0 room _ c old (exprs_of ts) val.0 listed_there act.4 is
      (subst (λ (o : Option Expr). IsUpdate o c old (exprs_of ts)) (sym there) (refl, refl)) val.1)
  own_gives (shape.List slot bytes) ty line ts own room initializer Eff is there counts named list act =
      object_gives quiet_gives world m f firsts slot stands list
  own_gives (shape.Const z) ty line ts own room initializer k is there counts named list act = constant_own z ty k
    where
      constant_own : (z : _) (ty : CType) (k : Kind) → OwnIsGiven world m f firsts due.place.node room (constant_head z ty) k
          (values_of world f e.given (suc due.place.node) (exprs_of ts)) (or_nothing (e.given (place due.place.node (own_kind k))))
      constant_own z ty k = go (is_pointer ty && (unsigned_abs z == 0)) k
        where
          go : (b : Bool) (k : Kind) → OwnIsGiven world m f firsts due.place.node room (if b then model.Null else model.Number z) k
              (values_of world f e.given (suc due.place.node) (exprs_of ts)) (or_nothing (e.given (place due.place.node (own_kind k))))
          go true k = tt
          go false k = tt
  own_gives (shape.Call discarded) ty line ts own room initializer Eff is there counts named list act = tt
  own_gives (shape.Call discarded) ty line ts own room initializer Body is there counts named list act = tt
  own_gives (shape.Update c old) ty line ts own room initializer Val is there counts named list act = tt
  own_gives (shape.Update c old) ty line ts own room initializer Body is there counts named list act = tt
  own_gives (shape.List slot bytes) ty line ts own room initializer Val is there counts named list act = tt
  own_gives (shape.List slot bytes) ty line ts own room initializer Body is there counts named list act = tt
  own_gives _ ty line ts own room initializer k is there counts named list act = tt

pub permitted_takes_given : QuietGives → RoomGives → PermittedTakesGiven
permitted_takes_given quiet_gives room_gives world m f e firsts root noted d x first end i stands held whole are there due
    listed_there permitted plain fits near =
    let t = x.tree.now in
    let u = d.place in
    let ty = own_type t in
    let ts = operands_in t in
    let line = (out-Typed t).line in
    let here : at_node 0 e.root u.node ≡ Some (expr (head_in (node_in t) ty) ty line (exprs_of ts)) =
    ap (λ (z : Expr). at_node 0 z u.node) whole ∙ node_is firsts root noted u.node x are there ∙ ap Some (expr_at t) in
    let s = sight_of firsts (length noted) u.node x in
    let head : head_of (expr_of t) ≡ head_in (node_in t) ty = ap head_of (expr_at t) in
    let counts = subst (λ (h : sites.Head). CountIs h (length ts)) (head_is t) fits.counts in
    let vs = values_of world f e.given (suc u.node) (exprs_of ts) in
    record {
      counts = fits.counts;
      operands = λ j lt ev. operand_gives world m f e firsts first end u stands held permitted (node_in t) ty line ts here counts fits.operands
          (no_calls u.kind _ plain) quiet_gives room_gives j lt
          (subst (λ (h : Head). Evaluates h vs j) head ev);
      near = near;
      own = subst (λ (h : Head). OwnIsGiven world m f firsts u.node s.room h u.kind vs (or_nothing (e.given (place u.node (own_kind u.kind))))) (sym head)
          (own_gives quiet_gives world m f e firsts first end d stands held permitted plain i listed_there (node_in t) ty line ts s.own s.room x.initializer
          u.kind
          refl here counts fits.operands (subst (λ (h : Head). ListIsThere m firsts f.blocks h) head fits.list)
          (subst (λ (h : sites.Head). IsAct firsts m.image.code.now.tables x.initializer h s u.kind d.act) (head_is t) due.does));
    }

-- ---- the operands of the body of a call
call_class : (h : Head) (discarded : Bool) (ts : Trees) → h ≡ model.Call discarded → is_call (head_class h ts) ≡ true
call_class h discarded ts e = ap (λ (z : Head). is_call (head_class z ts)) e

call_evaluates : (h : Head) (discarded : Bool) (vs : List Value) (i : ℕ) → h ≡ model.Call discarded → Evaluates h vs i
call_evaluates h discarded vs i e = subst (λ (z : Head). Evaluates z vs i) (sym e) tt

pub call_takes_given : QuietGives → RoomGives → CallTakesGiven
call_takes_given quiet_gives room_gives world m f e firsts root noted u x discarded first end stands held whole are there permitted call fits i lt =
    let t = x.tree.now in
    let ty = own_type t in
    let ts = operands_in t in
    let line = (out-Typed t).line in
    let here : at_node 0 e.root u.node ≡ Some (expr (head_in (node_in t) ty) ty line (exprs_of ts)) =
    ap (λ (z : Expr). at_node 0 z u.node) whole ∙ node_is firsts root noted u.node x are there ∙ ap Some (expr_at t) in
    let head : head_in (node_in t) ty ≡ model.Call discarded = sym (ap head_of (expr_at t)) ∙ call in
    let counts = subst (λ (h : sites.Head). CountIs h (length ts)) (head_is t) fits.counts in
    let vs = values_of world f e.given (suc u.node) (exprs_of ts) in
    operand_gives world m f e firsts first end u stands held permitted (node_in t) ty line ts here counts fits.operands
    (λ body. call_class (head_in (node_in t) ty) discarded (trees_of (exprs_of ts)) head) quiet_gives room_gives i lt
    (call_evaluates (head_in (node_in t) ty) discarded vs i head)

-- The value of an assignment or a list is made of values alone, so it has no items (6.5.16p3, 6.7.9p23).
use Rattle.std.proofs.Common.{◌≡◌, ℕ, suc, ◌+◌, ◌==◌, nat_lt, Bool, true, false, if◌then◌else◌, List, [], Option, Some, None, sym, ap, subst, ◌∙◌, arith}
use Rattle.std.proofs.lemmas.Bool.Decides.{nat_tests}
use Rattle.std.proofs.lemmas.Option.{same_Some}
use Rattle.ub_base.specs.declared.clause.Kind.TheVariants.{Val}
use Rattle.ub_base.specs.declared.names.Event.{Event}
use Rattle.ub_base.specs.declared.names.Item.{Item}
use Rattle.addr_map.specs.declared.map.Row.{Row}
use Rattle.c_types.specs.Types.{CType}
use Rattle.c_typed.specs.declared.class.Class.{Class}
use Rattle.c_typed.specs.declared.class.Class.TheVariants as class
use Rattle.c_typed.specs.declared.tree.Conversion.{Conversion}
use Rattle.c_typed.specs.declared.tree.Conversion.TheVariants as conversion
use Rattle.c_typed.specs.declared.tree.Place.{Place}
use Rattle.c_typed.specs.Order.{place}
use Rattle.c_typed.specs.Tree as order
use Rattle.c_typed.specs.Tree.{Tree, Trees, class_of, conversion_class, first_class, is_quiet_class, member_class, size}
use Rattle.mem_spec.specs.Script.{Act, Done, run}
use Rattle.mem_spec.specs.Store.{Store}
use Rattle.c_model.specs.Nodes.{act_of}
use Rattle.c_model.specs.Program.{Head, Assign, Conv, Listed, Member, Expr, expr, Exprs, none, more, head_class, tree_of, trees_of}
use Rattle.c_model.specs.Steps.{Begun, Scene, at_node, at_node_among, event_act}
use Rattle.c_model.specs.Values.{Value}
use Rattle.c_model.specs.World.{World}
use Rattle.completion_laws.proofs.Ahead.{by_test, if_false, if_true}
use Rattle.run_evaluations.specs.Scopes.{part_among, part_in}

turned : (a b : ℕ) (c : Bool) → (a == b) ≡ c → (b == a) ≡ c
turned a b true h = grind (arith, nat_tests, h)
turned a b false h = grind (arith, nat_tests, h)

-- the node of a part of the tree
mutual
  part_at : (x : Expr) (k n : ℕ) (t : Tree) → part_in k (tree_of x) n ≡ Some t → (y : Expr) × (at_node k x n ≡ Some y) × (tree_of y ≡ t)
  part_at (expr h ty line es) k n t q =
      by_test (n == k)
      (λ s. (
        expr h ty line es,
        if_true (k == n) _ _ (turned n k true s),
        same_Some (tree_of (expr h ty line es)) t (sym (if_true (n == k) _ _ s) ∙ q),
      ))
      (λ s. let r = part_among_at es (suc k) n t (sym (if_false (n == k) _ _ s) ∙ q) in (r.0, if_false (k == n) _ _ (turned n k false s) ∙ r.1, r.2))

  part_among_at : (es : Exprs) (m n : ℕ) (t : Tree) → part_among m (trees_of es) n ≡ Some t →
      (y : Expr) × (at_node_among m es n ≡ Some y) × (tree_of y ≡ t)
  part_among_at none m n t q = absurd (cc)
  part_among_at (more e es) m n t q =
      by_test (nat_lt n (m + size (tree_of e)))
      (λ s. let r = part_at e m n t (sym (if_true _ _ _ s) ∙ q) in (r.0, if_true _ _ _ s ∙ r.1, r.2))
      (λ s. let r = part_among_at es (m + size (tree_of e)) n t (sym (if_false _ _ _ s) ∙ q) in (r.0, if_false _ _ _ s ∙ r.1, r.2))

-- ---- the nodes that store
quiet_not : (b : Bool) → (if b then class.Constant else class.Plain) ≡ class.Store → ⊥
quiet_not true h = absurd (cc)
quiet_not false h = absurd (cc)

conversion_not : (c : Conversion) (o : Option Class) → conversion_class c o ≡ class.Store → ⊥
conversion_not (conversion.Integer k) None h = absurd (cc)
conversion_not (conversion.Integer k) (Some d) h = quiet_not (is_quiet_class d) h
conversion_not _ o h = absurd (cc)

member_not : (o : Option Class) → member_class o ≡ class.Store → ⊥
member_not None h = absurd (cc)
member_not (Some class.Object) h = absurd (cc)
member_not (Some _) h = absurd (cc)

abbrev items_in : Act Value → List Item
items_in (Done v is s) = is
items_in act = []

bare_act : (h : Head) (ts : Trees) → head_class h ts ≡ class.Store → (rows : List Row) (who : Event) (ty : CType) (vs : List Value) (own : Value)
    (s : Store) (v : Value) (is : List Item) (s1 : Store) → run rows (act_of rows who h ty Val vs own) s ≡ Done v is s1 → is ≡ []
bare_act (Assign first how) ts q rows who ty vs own s v is s1 r = sym (ap items_in r)
bare_act (Listed slot fillings) ts q rows who ty vs own s v is s1 r = sym (ap items_in r)
bare_act (Conv c) ts q rows who ty vs own s v is s1 r = absurd (conversion_not c (first_class ts) q)
bare_act (Member offset) ts q rows who ty vs own s v is s1 r = absurd (member_not (first_class ts) q)
bare_act _ ts q rows who ty vs own s v is s1 r = absurd (cc (q))

-- ---- its value
pub value_bare : (world : World) (f : Scene) (e : Begun) (u : Place) (s : Store) (v : Value) (is : List Item) (s1 : Store) → u.kind ≡ Val → (ts : Trees)
    → part_in 0 (tree_of e.root) u.node ≡ Some (order.node class.Store ts)
    → run world.rows (event_act world f e u (at_node 0 e.root u.node)) s ≡ Done v is s1 → is ≡ []
value_bare world f e u s v is s1 k ts there r =
    let y = part_at e.root 0 u.node (order.node class.Store ts) there in
    let q : u ≡ place u.node Val = (λ i. record { node = u.node; kind = k i }) in
    at_expr y.0 y.2
    (subst (λ o. run world.rows (event_act world f e (place u.node Val) o) s ≡ Done v is s1) y.1
    (subst (λ z. run world.rows (event_act world f e z (at_node 0 e.root z.node)) s ≡ Done v is s1) q r))
  where
    at_expr : (x : Expr) → tree_of x ≡ order.node class.Store ts → run world.rows (event_act world f e (place u.node Val) (Some x)) s ≡ Done v is s1 →
        is ≡ []
    at_expr (expr h ty line es) t g = bare_act h (trees_of es) (ap class_of t) world.rows _ _ _ _ s v is s1 g

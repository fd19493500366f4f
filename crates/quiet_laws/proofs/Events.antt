-- The events of an expression at their nodes, and two that stand apart in a quiet one.
use Rattle.std.proofs.Common.{◌≡◌, ℕ, suc, ◌+◌, Bool, true, false, ◌&&◌, ◌==◌, nat_lt, Option, Some, refl, sym, ap, subst, ◌∙◌, arith}
use Rattle.std.proofs.lemmas.Bool.Decides.{nat_tests}
use Rattle.ub_base.proofs.Tests.{and_right, if_true, if_false, number_is, number_equal}
use Rattle.ub_base.specs.declared.clause.Kind.{Kind}
use Rattle.ub_base.specs.declared.clause.Kind.TheVariants.{Val, Eff, Body}
use Rattle.addr_map.specs.Conflict.{stands_at}
use Rattle.c_types.specs.Types.{CType}
use Rattle.c_typed.specs.declared.tree.Place.{Place}
use Rattle.c_typed.specs.declared.class.Class.{Class}
use Rattle.c_typed.specs.declared.class.Class.TheVariants.{Call, Isolated}
use Rattle.c_typed.specs.Tree.{size, kinds_of}
use Rattle.c_typed.specs.Order.{Taken, goes, is_body}
use Rattle.c_typed.specs.Decide.{has_kind, due_in, due_among}
use Rattle.c_model.specs.World.{World}
use Rattle.c_model.specs.Values.{or_nothing}
use Rattle.c_model.specs.Program.{Head, Expr, expr, Exprs, none, more, tree_of, trees_of, head_class}
use Rattle.c_model.specs.Steps.{Scene, Begun, at_node, at_node_among, taken_by, event_act, event_of, target, first_type, operand_values, own_kind}
use Rattle.c_typed.specs.Order.{place}
use Rattle.quiet_trees.specs.Acts.{Act, act_by, act_in, act_among, may_clash}
use Rattle.quiet_trees.specs.Acts as act
use Rattle.quiet_trees.specs.Items.{suits, QuietItems}
use Rattle.quiet_laws.specs.QuietEvents.{Suits, EventsSuit, QuietEvents, head_loads, expr_loads, exprs_loads}
use Rattle.quiet_laws.proofs.Suiting.{one_of, all_run}
use Rattle.quiet_laws.proofs.ActsSuit.{value_suits, effect_suits}

-- the node of a due event
record Found (o : Option Expr) (a : Act) (kind : Kind) : Type 0 where
  head : Head
  ty : CType
  line : ℕ
  operands : Exprs
  at : o ≡ Some (expr head ty line operands)
  does : a ≡ act_by (head_class head (trees_of operands)) (head_loads head) kind
  has : has_kind (kinds_of (head_class head (trees_of operands))) kind ≡ true

by_test : {C : Type 0} (b : Bool) → (b ≡ true → C) → (b ≡ false → C) → C
by_test true f g = f refl
by_test false f g = g refl

turned : (k n : ℕ) (b : Bool) → (n == k) ≡ b → (k == n) ≡ b
turned k n true h = number_equal k n (sym (number_is n k h))
turned k n false h = grind (arith, nat_tests)

moved : (o q : Option Expr) (a b : Act) (kind : Kind) → q ≡ o → b ≡ a → Found o a kind → Found q b kind
moved o q a b kind e d f = record { head = f.head; ty = f.ty; line = f.line; operands = f.operands; at = e ∙ f.at; does = d ∙ f.does; has = f.has }

module _ (taken : Taken) where
  mutual
    found : (e : Expr) (k : ℕ) (u : Place) → due_in taken k (tree_of e) u ≡ true → Found (at_node k e u.node) (act_in k (tree_of e) (expr_loads e) u) u.kind
    found (expr h ty line es) k u d = by_test (u.node == k)
        (λ e. record {
          head = h;
          ty = ty;
          line = line;
          operands = es;
          at = if_true (k == u.node) (Some (expr h ty line es)) (at_node_among (suc k) es u.node) (turned k u.node true e);
          does = if_true (u.node == k) (act_by (head_class h (trees_of es)) (head_loads h) u.kind) (act_among (suc k) (trees_of es) (exprs_loads es) u) e;
          has = sym (if_true (u.node == k) (has_kind (kinds_of (head_class h (trees_of es))) u.kind)
              (due_among taken (head_class h (trees_of es)) (taken k) 0 (suc k) (trees_of es) u) e) ∙ d;
        })
        (λ e. moved (at_node_among (suc k) es u.node) (at_node k (expr h ty line es) u.node) (act_among (suc k) (trees_of es) (exprs_loads es) u)
        (act_in k (tree_of (expr h ty line es)) (expr_loads (expr h ty line es)) u) u.kind
        (if_false (k == u.node) (Some (expr h ty line es)) (at_node_among (suc k) es u.node) (turned k u.node false e))
        (if_false (u.node == k) (act_by (head_class h (trees_of es)) (head_loads h) u.kind) (act_among (suc k) (trees_of es) (exprs_loads es) u) e)
        (found_among es (head_class h (trees_of es)) (taken k) 0 (suc k) u
        (sym (if_false (u.node == k) (has_kind (kinds_of (head_class h (trees_of es))) u.kind)
        (due_among taken (head_class h (trees_of es)) (taken k) 0 (suc k) (trees_of es) u) e) ∙ d)))

    found_among : (es : Exprs) (class : Class) (choice : Option ℕ) (i m : ℕ) (u : Place) → due_among taken class choice i m (trees_of es) u ≡ true →
        Found (at_node_among m es u.node) (act_among m (trees_of es) (exprs_loads es) u) u.kind
    found_among none class choice i m u d = absurd (cc)
    found_among (more t ts) class choice i m u d = by_test (nat_lt u.node (m + size (tree_of t)))
        (λ e. moved (at_node m t u.node) (at_node_among m (more t ts) u.node) (act_in m (tree_of t) (expr_loads t) u)
        (act_among m (trees_of (more t ts)) (exprs_loads (more t ts)) u) u.kind
        (if_true (nat_lt u.node (m + size (tree_of t))) (at_node m t u.node) (at_node_among (m + size (tree_of t)) ts u.node) e)
        (if_true (nat_lt u.node (m + size (tree_of t))) (act_in m (tree_of t) (expr_loads t) u)
        (act_among (m + size (tree_of t)) (trees_of ts) (exprs_loads ts) u) e)
        (found t m u (and_right (goes class choice i) (due_in taken m (tree_of t) u)
        (sym (if_true (nat_lt u.node (m + size (tree_of t))) (goes class choice i && due_in taken m (tree_of t) u)
        (due_among taken class choice (suc i) (m + size (tree_of t)) (trees_of ts) u) e) ∙ d))))
        (λ e. moved (at_node_among (m + size (tree_of t)) ts u.node) (at_node_among m (more t ts) u.node)
        (act_among (m + size (tree_of t)) (trees_of ts) (exprs_loads ts) u) (act_among m (trees_of (more t ts)) (exprs_loads (more t ts)) u) u.kind
        (if_false (nat_lt u.node (m + size (tree_of t))) (at_node m t u.node) (at_node_among (m + size (tree_of t)) ts u.node) e)
        (if_false (nat_lt u.node (m + size (tree_of t))) (act_in m (tree_of t) (expr_loads t) u)
        (act_among (m + size (tree_of t)) (trees_of ts) (exprs_loads ts) u) e)
        (found_among ts class choice (suc i) (m + size (tree_of t)) u
        (sym (if_false (nat_lt u.node (m + size (tree_of t))) (goes class choice i && due_in taken m (tree_of t) u)
        (due_among taken class choice (suc i) (m + size (tree_of t)) (trees_of ts) u) e) ∙ d)))

module _ (world : World) where
  node_suits : (f : Scene) (e : Begun) (u : Place) (kind : Kind) (h : Head) (ty : CType) (line : ℕ) (es : Exprs) → u.kind ≡ kind →
      has_kind (kinds_of (head_class h (trees_of es))) kind ≡ true → is_body kind ≡ false →
      Suits (suits (act_by (head_class h (trees_of es)) (head_loads h) kind)) (event_act world f e u (Some (expr h ty line es)))
  node_suits f e u Val h ty line es k d b =
      subst (λ (z : Kind). Suits (suits (act_by (head_class h (trees_of es)) (head_loads h) Val))
      (event_act world f e (place u.node z) (Some (expr h ty line es)))) (sym k)
      (value_suits world.rows (event_of world f (place u.node Val)) h (trees_of es) (target (first_type es))
      (operand_values world f e.given (suc u.node) h es) (or_nothing (e.given (place u.node (own_kind Val)))) d)
  node_suits f e u Eff h ty line es k d b =
      subst (λ (z : Kind). Suits (suits (act_by (head_class h (trees_of es)) (head_loads h) Eff))
      (event_act world f e (place u.node z) (Some (expr h ty line es)))) (sym k)
      (effect_suits world.rows (event_of world f (place u.node Eff)) h (trees_of es) (target (first_type es))
      (operand_values world f e.given (suc u.node) h es) (or_nothing (e.given (place u.node (own_kind Eff)))) d)
  node_suits f e u Body h ty line es k d b = absurd (cc)

  found_suits : (f : Scene) (e : Begun) (u : Place) (o : Option Expr) (a : Act) → Found o a u.kind → is_body u.kind ≡ false →
      Suits (suits a) (event_act world f e u o)
  found_suits f e u o a g b =
      subst (λ z. Suits (suits a) (event_act world f e u z)) (sym g.at)
      (subst (λ z. Suits (suits z) (event_act world f e u (Some (expr g.head g.ty g.line g.operands)))) (sym g.does)
      (node_suits f e u u.kind g.head g.ty g.line g.operands refl g.has b))

pub events_suit : EventsSuit
events_suit world f e u d b =
    found_suits world f e u (at_node 0 e.root u.node) (act_in 0 (tree_of e.root) (expr_loads e.root) u) (found (taken_by world f e) e.root 0 u d) b

-- a body may clash with everything
body_class : (class : Class) (l : Bool) → has_kind (kinds_of class) Body ≡ true → act_by class l Body ≡ act.All
body_class Call l h = refl
body_class Isolated l h = refl
body_class _ l h = absurd (cc)

body_acts : (class : Class) (l : Bool) (kind : Kind) → has_kind (kinds_of class) kind ≡ true → is_body kind ≡ true → act_by class l kind ≡ act.All
body_acts class l Body h b = body_class class l h
body_acts class l Val h b = absurd (cc)
body_acts class l Eff h b = absurd (cc)

no_body : (a b : Act) (o : Option Expr) (kind : Kind) → Found o a kind → may_clash a b ≡ false → is_body kind ≡ false
no_body a b o kind f c = by_test (is_body kind)
    (λ e. absurd (all_clash a b (f.does ∙ body_acts (head_class f.head (trees_of f.operands)) (head_loads f.head) kind f.has e) c))
    (λ e. e)
  where
    all_clash : (a b : Act) → a ≡ act.All → may_clash a b ≡ false → ⊥
    all_clash a b e c = let q : true ≡ false = sym (ap (λ z. may_clash z b) e) ∙ c in absurd (cc)

turned_clash : (a b : Act) → may_clash a b ≡ false → may_clash b a ≡ false
turned_clash act.All b h = absurd (cc)
turned_clash act.Nothing act.All h = absurd (cc)
turned_clash act.Nothing act.Nothing h = refl
turned_clash act.Nothing act.Reads h = refl
turned_clash act.Nothing act.Writes h = refl
turned_clash act.Reads act.All h = absurd (cc)
turned_clash act.Reads act.Nothing h = refl
turned_clash act.Reads act.Reads h = refl
turned_clash act.Reads act.Writes h = absurd (cc)
turned_clash act.Writes act.All h = absurd (cc)
turned_clash act.Writes act.Nothing h = refl
turned_clash act.Writes act.Reads h = absurd (cc)
turned_clash act.Writes act.Writes h = absurd (cc)

pub quiet_events : QuietItems → QuietEvents
quiet_events law world f e u v q du dv n b a =
    let taken = taken_by world f e in
    let c : may_clash (act_in 0 (tree_of e.root) (expr_loads e.root) u) (act_in 0 (tree_of e.root) (expr_loads e.root) v) ≡ false = q taken u v du dv n b a in
    let fu = found taken e.root 0 u du in
    let fv = found taken e.root 0 v dv in
    let bu = no_body (act_in 0 (tree_of e.root) (expr_loads e.root) u) (act_in 0 (tree_of e.root) (expr_loads e.root) v)
    (at_node 0 e.root u.node) u.kind fu c in
    let bv = no_body (act_in 0 (tree_of e.root) (expr_loads e.root) v) (act_in 0 (tree_of e.root) (expr_loads e.root) u) (at_node 0 e.root v.node) v.kind fv
    (turned_clash (act_in 0 (tree_of e.root) (expr_loads e.root) u) (act_in 0 (tree_of e.root) (expr_loads e.root) v) c) in (
      bu,
      bv,
      (λ s t x y is js s1 t1 ru rv. λ m k i j si sj w.
          law (stands_at world.rows) (act_in 0 (tree_of e.root) (expr_loads e.root) u) (act_in 0 (tree_of e.root) (expr_loads e.root) v) i j c
          (one_of (suits (act_in 0 (tree_of e.root) (expr_loads e.root) u)) is m i
          (all_run (suits (act_in 0 (tree_of e.root) (expr_loads e.root) u)) world.rows (event_act world f e u (at_node 0 e.root u.node)) s x is s1
          (events_suit world f e u du bu) ru)
          si)
          (one_of (suits (act_in 0 (tree_of e.root) (expr_loads e.root) v)) js k j
          (all_run (suits (act_in 0 (tree_of e.root) (expr_loads e.root) v)) world.rows (event_act world f e v (at_node 0 e.root v.node)) t y js t1
          (events_suit world f e v dv bv) rv)
          sj)
          w),
    )

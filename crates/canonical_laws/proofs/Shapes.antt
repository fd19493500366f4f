-- A node that has a body is a call or an isolated initializer (6.5.2.2p10, 6.7.9p23).
use Rattle.std.proofs.Common.{◌≡◌, ℕ, Bool, true, false, ◌&&◌, ◌==◌, not, if◌then◌else◌, List, [], ◌∷◌, Option, Some, None, refl, sym, ap, subst, ◌∙◌}
use Rattle.std.proofs.Common.{true≢false}
use Rattle.std.proofs.lemmas.Option.{same_Some}
use Rattle.std.specs.Prelude.{unsigned_abs, ℤ}
use Rattle.ub_base.specs.declared.clause.Kind.TheVariants.{Body}
use Rattle.c_types.specs.Types.{CType}
use Rattle.c_typed.specs.declared.class.Class.{Class}
use Rattle.c_typed.specs.declared.class.Class.TheVariants.{Object, Constant, Plain}
use Rattle.c_typed.specs.declared.tree.Conversion.{Conversion}
use Rattle.c_typed.specs.declared.tree.Conversion.TheVariants as conversion
use Rattle.c_typed.specs.declared.tree.Node.{Node}
use Rattle.c_typed.specs.declared.tree.Node.TheOpen as shape
use Rattle.c_typed.specs.declared.tree.Node.TheOpen.{Node-F}
use Rattle.c_typed.specs.declared.tree.Place.{Place}
use Rattle.c_typed.specs.declared.tree.Typed.{Typed}
use Rattle.c_typed.specs.Decide.{canonical, due_in, first_place, has_kind, is_permitted, is_ready}
use Rattle.c_typed.specs.Order.{events, is_body, update_is_open}
use Rattle.c_typed.specs.Tree.{Trees, class_of, class_over, conversion_class, first_class, is_quiet_class, kinds_of, member_class}
use Rattle.c_model.specs.Program as model
use Rattle.c_model.specs.Program.{head_class, tree_of, trees_of}
use Rattle.c_model.specs.Runs.{canonical_pick, chosen_pick}
use Rattle.c_model.specs.Steps.{Begun, Ev, Local, is_done, taken_by}
use Rattle.c_model.specs.World.{World}
use Rattle.program_view.specs.Trees.{constant_head, expr_of, exprs_of, is_pointer}
use Rattle.program_view.proofs.Seen.{expr_at, head_in, node_in, operands_in, own_type}

-- ---- by its class
abbrev HasBody : Class → Type 0
HasBody c = has_kind (kinds_of c) Body ≡ true

-- a call, or an isolated initializer
pub data IsBodyNode (z : Node-F Node Typed) : Type 0 where
  calls : (discarded : Bool) → z ≡ shape.Call discarded → IsBodyNode z
  isolates : (tree : Typed) → z ≡ shape.Isolated tree → IsBodyNode z

no_constant : (z : ℤ) (ty : CType) (ts : Trees) → HasBody (head_class (constant_head z ty) ts) → ⊥
no_constant z ty ts = go (is_pointer ty && (unsigned_abs z == 0))
  where
    go : (b : Bool) → HasBody (head_class (if b then model.Null else model.Number z) ts) → ⊥
    go true h = true≢false (sym h)
    go false h = true≢false (sym h)

no_over : (o : Option Class) → HasBody (class_over o) → ⊥
no_over None h = true≢false (sym h)
no_over (Some c) h = go (is_quiet_class c) h
  where
    go : (b : Bool) → HasBody (if b then Constant else Plain) → ⊥
    go true h = true≢false (sym h)
    go false h = true≢false (sym h)

no_conversion : (c : Conversion) (o : Option Class) → HasBody (conversion_class c o) → ⊥
no_conversion (conversion.Integer k) o h = no_over o h
no_conversion _ o h = true≢false (sym h)

no_member : (o : Option Class) → HasBody (member_class o) → ⊥
no_member None h = true≢false (sym h)
no_member (Some Object) h = true≢false (sym h)
no_member (Some _) h = true≢false (sym h)

body_shape : (z : Node-F Node Typed) (ty : CType) (ts : Trees) → HasBody (head_class (head_in z ty) ts) → IsBodyNode z
body_shape (shape.Const z) ty ts h = absurd (no_constant z ty ts h)
body_shape (shape.Conv c) ty ts h = absurd (no_conversion c (first_class ts) h)
body_shape (shape.Member offset) ty ts h = absurd (no_member (first_class ts) h)
body_shape (shape.Call discarded) ty ts h = calls discarded refl
body_shape (shape.Isolated tree) ty ts h = isolates tree refl
body_shape _ ty ts h = absurd (true≢false (sym h))

pub body_node_shape : (t : Typed) → has_kind (kinds_of (class_of (tree_of (expr_of t)))) Body ≡ true → IsBodyNode (node_in t)
body_node_shape t h =
    body_shape (node_in t) (own_type t) (trees_of (exprs_of (operands_in t)))
    (ap (λ (z : model.Expr). has_kind (kinds_of (class_of (tree_of z))) Body) (sym (expr_at t)) ∙ h)

-- ---- the canonical pick is of an event that is due
first_passes : (test : Place → Bool) (us : List Place) (v : Place) → first_place test us ≡ Some v → test v ≡ true
first_passes test [] v is = absurd (cc (is))
first_passes test (u ∷ us) v is = step (test u) refl (λ g. first_passes test us v g) is
  where
    step : (b : Bool) → test u ≡ b → (first_place test us ≡ Some v → test v ≡ true) → (if b then Some u else first_place test us) ≡ Some v → test v ≡ true
    step true e later g = subst (λ w. test w ≡ true) (same_Some u v g) e
    step false e later g = later g

and_left : (a b : Bool) → (a && b) ≡ true → a ≡ true
and_left true b h = refl
and_left false b h = absurd (true≢false (sym h))

same_pick : (u v : Place) → Ev u ≡ Ev v → u ≡ v
same_pick u v h = cc

chosen_place : (world : World) (o : Option Place) (u : Place) → chosen_pick world o ≡ Ev u → o ≡ Some u
chosen_place world None u is = absurd (cc (is))
chosen_place world (Some v) u is = ap Some (same_pick v u is)

pub pick_due : (world : World) (f : Local) (e : Begun) (u : Place) → canonical_pick world f (Some e) ≡ Ev u
    → due_in (taken_by world f.scene e) 0 (tree_of e.root) u ≡ true
pick_due world f e u is =
    let root = tree_of e.root in
    let taken = taken_by world f.scene e in
    let permitted =
    first_passes (is_permitted root taken (is_done e)) (events taken 0 root) u (chosen_place world (canonical root taken (is_done e)) u is) in
    and_left (due_in taken 0 root u) _
    (and_left (is_ready root taken (is_done e) u) (not (is_body u.kind && update_is_open taken (is_done e) 0 root)) permitted)

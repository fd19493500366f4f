-- The room of an update in the code: that of its node, or one behind those of all nodes where it gives its old value.
use Rattle.std.proofs.Common.{◌≡◌, ℕ, zero, suc, ◌+◌, ◌-◌, ◌<◌, ◌≤◌, ◌^◌, min, Bool, true, false, refl, sym, ap, ◌∙◌, subst, arith, List, [], ◌∷◌, length}
use Rattle.std.proofs.Common.{take, drop, Option, Some, slice_get, ℤ, if◌then◌else◌}
use Rattle.std.specs.Prelude.{◌&&◌, ◌==◌, unsigned_abs}
use Rattle.ub_base.specs.declared.clause.Kind.{Kind}
use Rattle.ub_base.specs.declared.clause.Kind.TheVariants.{Eff}
use Rattle.c_types.specs.Types.{CType}
use Rattle.c_typed.specs.declared.tree.Change.{Change}
use Rattle.c_typed.specs.declared.tree.Node.{Node}
use Rattle.c_typed.specs.declared.tree.Node.TheOpen as shape
use Rattle.c_typed.specs.declared.tree.Node.TheOpen.{Node-F}
use Rattle.c_typed.specs.declared.tree.Typed.{Typed, out-Typed}
use Rattle.c_typed.specs.Sites as sites
use Rattle.c_typed.specs.Tree.{size}
use Rattle.c_model.specs.Program as model
use Rattle.c_model.specs.Program.{Expr, Exprs, expr, tree_of}
use Rattle.c_model.specs.Steps.{Begun, at_node}
use Rattle.program_view.specs.Trees.{expr_of, exprs_of, is_pointer}
use Rattle.program_view.proofs.Seen.{expr_at, head_in, node_in, operands_in, own_type, same_tree}
use Rattle.run_layout.specs.declared.nodes.NodeInfo.{NodeInfo}
use Rattle.run_layout.specs.declared.steps.Act.{Act}
use Rattle.run_layout.specs.declared.steps.Act.TheVariants as act
use Rattle.run_layout.specs.declared.steps.Due.{Due}
use Rattle.run_layout.specs.declared.steps.Expression.{Expression}
use Rattle.run_layout.specs.declared.steps.Listed.{Listed}
use Rattle.run_layout.specs.declared.steps.Listed.TheVariants as listed
use Rattle.run_layout.specs.declared.steps.Operand.TheVariants.{Done}
use Rattle.run_layout.specs.declared.tables.Tables.{Tables}
use Rattle.run_layout.specs.EventActs.{IsAct, IsDue, IsEffect, Sight, head_at, room_of, sight_of}
use Rattle.run_layout.specs.LaidOut.{LaidOutBy}
use Rattle.run_listing.specs.Along.{IsListed, part_of}
use Rattle.run_state.specs.Stands.{IsUpdate}
use Rattle.run_answers.proofs.Nodes.{head_is, node_is}
use Rattle.run_answers.specs.Ending.{IsUpdateRoom}

-- ---- an entry of a part is one of the whole
taken_front : {A : Type 0} (n : ℕ) (xs : List A) (i : ℕ) (x : A) → slice_get (take n xs) i ≡ Some x → (i < n) × (slice_get xs i ≡ Some x)
taken_front zero xs i x at = absurd (cc)
taken_front (suc n) [] i x at = absurd (cc)
taken_front (suc n) (y ∷ xs) zero x at = (omega arith, at)
taken_front (suc n) (y ∷ xs) (suc i) x at = (let h = taken_front n xs i x at in (omega (arith, h.0), h.1))

taken_behind : {A : Type 0} (k : ℕ) (xs : List A) (i : ℕ) (x : A) → slice_get (drop k xs) i ≡ Some x → slice_get xs (k + i) ≡ Some x
taken_behind zero xs i x at = (let e : 0 + i ≡ i = omega arith in ap (slice_get xs) e ∙ at)
taken_behind (suc k) [] i x at = absurd (cc)
taken_behind (suc k) (y ∷ xs) i x at = (let e : suc k + i ≡ suc (k + i) = omega arith in ap (slice_get (y ∷ xs)) e ∙ taken_behind k xs i x at)

-- ---- the node of an update
not_number : (z : ℤ) (ty : CType) (c : Change) (old : Bool) → head_in (shape.Const z) ty ≡ model.Update c old → (d : Node-F Node Typed)
    → d ≡ shape.Update c old
not_number z ty c old e = go (is_pointer ty && (unsigned_abs z == 0)) e
  where
    go : (b : Bool) → (if b then model.Null else model.Number z) ≡ model.Update c old → (d : Node-F Node Typed) → d ≡ shape.Update c old
    go true e d = absurd (cc)
    go false e d = absurd (cc)

update_node : (d : Node-F Node Typed) (ty : CType) (c : Change) (old : Bool) → head_in d ty ≡ model.Update c old → sites.head_of d ≡ shape.Update c old
update_node (shape.Const z) ty c old e = ap sites.head_of (not_number z ty c old e (shape.Const z))
update_node (shape.Update k o) ty c old e = cc
update_node _ ty c old e = absurd (cc)

abbrev stored_room : Act → ℕ
stored_room (act.Store n target (Done room)) = room
stored_room a = 0

module _ (tables : Tables) (listing : List Listed) (laid : Expression) (firsts : List ℕ) (nodes : List NodeInfo)
    (lays : LaidOutBy firsts nodes tables listing laid) (e : Begun) (root : e.root ≡ expr_of laid.root.now) (few : size (tree_of e.root) < 2 ^ 32) where
  abbrev entries : List Listed
  entries = part_of listing laid.first laid.end

  abbrev sight : ℕ → NodeInfo → Sight
  sight n x = sight_of firsts (length nodes) n x

  -- what is noted of an event
  record Noted (d : Due) : Type 0 where
    node : NodeInfo
    there : slice_get nodes d.place.node ≡ Some node
    due : IsDue firsts tables (length nodes) d node

  noted : (d : Due) → IsListed entries d → Noted d
  noted d at =
      let front = taken_front (laid.end - laid.first) (drop laid.first listing) at.0 (listed.Event d) at.1 in
      let behind = taken_behind laid.first listing at.0 (listed.Event d) front.1 in
      let entry = lays.each (laid.first + at.0) (listed.Event d) (omega arith) (omega (arith, front.0)) behind in
      record { node = entry.0; there = entry.1; due = entry.2 }

  count : length nodes ≡ size (tree_of e.root)
  count = lays.numbered.count ∙ sym (ap size (same_tree laid.root.now)) ∙ ap (λ (z : Expr). size (tree_of z)) (sym root)

  head_there : (n : ℕ) (x : NodeInfo) (c : Change) (old : Bool) (es : Exprs) → slice_get nodes n ≡ Some x → IsUpdate (at_node 0 e.root n) c old es
      → head_at (out-Typed x.tree.now).node ≡ shape.Update c old
  head_there n x c old es there is =
      let t = x.tree.now in
      let at : at_node 0 e.root n ≡ Some (expr (head_in (node_in t) (own_type t)) (own_type t) (out-Typed t).line (exprs_of (operands_in t))) =
      ap (λ (z : Expr). at_node 0 z n) root ∙ node_is firsts laid.root.now nodes n x lays.numbered there ∙ ap Some (expr_at t) in
      head_is t ∙ update_node (node_in t) (own_type t) c old (subst (λ (o : Option Expr). IsUpdate o c old es) at is).0

  effect_act : (d : Due) (n : Noted d) → d.place.kind ≡ Eff
      → IsEffect firsts tables (head_at (out-Typed n.node.tree.now).node) (sight d.place.node n.node) d.act
  effect_act d n kind =
      subst (λ (k : Kind). IsAct firsts tables n.node.initializer (head_at (out-Typed n.node.tree.now).node) (sight d.place.node n.node) k d.act) kind
      n.due.does

  room_is : (room : ℕ) (r : IsUpdateRoom entries e room) (n : Noted r.due) → room ≡ (sight r.due.place.node n.node).room
  room_is room r n =
      let head = head_there r.due.place.node n.node r.change r.old r.operands n.there r.update in
      let does = subst (λ (h : sites.Head). IsEffect firsts tables h (sight r.due.place.node n.node) r.due.act) head (effect_act r.due n r.effect) in
      ap stored_room (sym r.act ∙ does.4)

  room_by : (n k : ℕ) (h : sites.Head) (c : Change) (old : Bool) → h ≡ shape.Update c old
      → room_of h (min (length nodes) (2 ^ 32 - 1)) n k ≡ room_of (shape.Update c old) (min (length nodes) (2 ^ 32 - 1)) n k
  room_by n k h c old is = ap (λ (z : sites.Head). room_of z (min (length nodes) (2 ^ 32 - 1)) n k) is

  new_room : (n k : ℕ) (c : Change) (old : Bool) → old ≡ false → room_of (shape.Update c old) (min (length nodes) (2 ^ 32 - 1)) n k ≡ n
  new_room n k c true is = absurd (cc)
  new_room n k c false is = refl

  old_room : (n k : ℕ) (c : Change) (old : Bool) → old ≡ true → size (tree_of e.root) ≤ room_of (shape.Update c old) (min (length nodes) (2 ^ 32 - 1)) n k
  old_room n k c false is = absurd (cc)
  old_room n k c true is = let all = count in omega (arith, all, few)

  pub own_room : (room : ℕ) (r : IsUpdateRoom entries e room) → r.old ≡ false → room ≡ r.due.place.node
  own_room room r new =
      let n = noted r.due r.listed in
      let head = head_there r.due.place.node n.node r.change r.old r.operands n.there r.update in
      room_is room r n ∙ room_by r.due.place.node n.node.room (head_at (out-Typed n.node.tree.now).node) r.change r.old head
      ∙ new_room r.due.place.node n.node.room r.change r.old new

  pub room_behind : (room : ℕ) (r : IsUpdateRoom entries e room) → r.old ≡ true → size (tree_of e.root) ≤ room
  room_behind room r old =
      let n = noted r.due r.listed in
      let head = head_there r.due.place.node n.node r.change r.old r.operands n.there r.update in
      subst (λ (k : ℕ). size (tree_of e.root) ≤ k)
      (sym (room_is room r n ∙ room_by r.due.place.node n.node.room (head_at (out-Typed n.node.tree.now).node) r.change r.old head))
      (old_room r.due.place.node n.node.room r.change r.old old)

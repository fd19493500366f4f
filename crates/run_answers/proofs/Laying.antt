-- What code that is laid out says of the rooms of updates.
use Rattle.std.proofs.Common.{◌≡◌, ℕ, zero, suc, ◌+◌, ◌-◌, ◌<◌, ◌≤◌, ◌^◌, min, Bool, true, false, refl, sym, ap, ◌∙◌, subst, arith, List, [], ◌∷◌, length, take}
use Rattle.std.proofs.Common.{drop, Option, Some, slice_get, pos, ℤ, if◌then◌else◌}
use Rattle.std.specs.Borrow.{Bor}
use Rattle.std.specs.Prelude.{◌&&◌, ◌==◌, unsigned_abs}
use Rattle.std.proofs.lemmas.Option.{same_Some}
use Rattle.ub_base.specs.declared.clause.Kind.{Kind}
use Rattle.ub_base.specs.declared.clause.Kind.TheVariants.{Val, Eff, Body}
use Rattle.c_types.specs.declared.ty.Ty.{Ty}
use Rattle.c_types.specs.Types.{CType}
use Rattle.c_typed.specs.declared.tree.Change.{Change}
use Rattle.c_typed.specs.declared.tree.Node.{Node}
use Rattle.c_typed.specs.declared.tree.Node.TheOpen as shape
use Rattle.c_typed.specs.declared.tree.Node.TheOpen.{Node-F}
use Rattle.c_typed.specs.declared.tree.Typed.{Typed, out-Typed}
use Rattle.c_typed.specs.Order.{is_body, is_val, place}
use Rattle.c_typed.specs.Sites as sites
use Rattle.c_typed.specs.Tree.{size}
use Rattle.c_model.specs.Program as model
use Rattle.c_model.specs.Program.{Expr, Exprs, expr, tree_of}
use Rattle.c_model.specs.Steps.{Begun, at_node}
use Rattle.program_view.specs.Trees.{expr_of, exprs_of, is_pointer}
use Rattle.program_view.proofs.Seen.{expr_at, head_in, node_in, operands_in, own_type, same_tree}
use Rattle.run_layout.specs.declared.nodes.NodeInfo.{NodeInfo}
use Rattle.run_layout.specs.declared.steps.Act.{Act}
use Rattle.run_layout.specs.declared.steps.Act.TheVariants as act
use Rattle.run_layout.specs.declared.steps.Due.{Due}
use Rattle.run_layout.specs.declared.steps.Expression.{Expression}
use Rattle.run_layout.specs.declared.steps.Listed.{Listed}
use Rattle.run_layout.specs.declared.steps.Listed.TheVariants as listed
use Rattle.run_layout.specs.declared.steps.Operand.{Operand}
use Rattle.run_layout.specs.declared.steps.Operand.TheVariants.{Done, Integer}
use Rattle.run_layout.specs.declared.tables.Tables.{Tables}
use Rattle.run_layout.specs.EventActs.{IsAct, IsDue, IsEffect, IsValue, Sight, head_at, room_of, sight_of}
use Rattle.run_layout.specs.LaidOut.{LaidOutBy}
use Rattle.run_layout.specs.Resolved.{value_at}
use Rattle.run_listing.specs.Along.{IsListed, part_of}
use Rattle.run_state.specs.Stands.{IsUpdate}
use Rattle.run_answers.specs.Performs.{gives_value, kept_room}
use Rattle.run_answers.proofs.Nodes.{head_is, node_is}
use Rattle.run_answers.specs.Ending.{IsUpdateRoom}
use Rattle.run_answers.specs.Taking.{HasRooms}

-- the act works out what an update that gives its old value will store, and keeps it in this room (6.5.2.4p2)
abbrev pub WorksOut : Act → Change → (room : ℕ) → Type 0
WorksOut a c room = (ty : Bor Ty) × (target : Operand) × (a ≡ act.Change c true ty target (Integer (pos 1)) room)

-- ---- an entry of a part is one of the whole
taken_front : {A : Type 0} (n : ℕ) (xs : List A) (i : ℕ) (x : A) → slice_get (take n xs) i ≡ Some x → (i < n) × (slice_get xs i ≡ Some x)
taken_front zero xs i x at = absurd (cc)
taken_front (suc n) [] i x at = absurd (cc)
taken_front (suc n) (y ∷ xs) zero x at = (omega arith, at)
taken_front (suc n) (y ∷ xs) (suc i) x at = (let h = taken_front n xs i x at in (omega (arith, h.0), h.1))

taken_behind : {A : Type 0} (k : ℕ) (xs : List A) (i : ℕ) (x : A) → slice_get (drop k xs) i ≡ Some x → slice_get xs (k + i) ≡ Some x
taken_behind zero xs i x at = (let e : 0 + i ≡ i = omega arith in ap (slice_get xs) e ∙ at)
taken_behind (suc k) [] i x at = absurd (cc)
taken_behind (suc k) (y ∷ xs) i x at = (let e : suc k + i ≡ suc (k + i) = omega arith in ap (slice_get (y ∷ xs)) e ∙ taken_behind k xs i x at)

-- ---- the node of an update
not_number : (z : ℤ) (ty : CType) (c : Change) (old : Bool) → head_in (shape.Const z) ty ≡ model.Update c old → (d : Node-F Node Typed) → d ≡ shape.Update c old
not_number z ty c old e = go (is_pointer ty && (unsigned_abs z == 0)) e
  where
    go : (b : Bool) → (if b then model.Null else model.Number z) ≡ model.Update c old → (d : Node-F Node Typed) → d ≡ shape.Update c old
    go true e d = absurd (cc)
    go false e d = absurd (cc)

update_node : (d : Node-F Node Typed) (ty : CType) (c : Change) (old : Bool) → head_in d ty ≡ model.Update c old → sites.head_of d ≡ shape.Update c old
update_node (shape.Const z) ty c old e = ap sites.head_of (not_number z ty c old e (shape.Const z))
update_node (shape.Update k o) ty c old e = cc
update_node (shape.Load how) ty c old e = absurd (cc)
update_node (shape.Conv k) ty c old e = absurd (cc)
update_node (shape.Un op) ty c old e = absurd (cc)
update_node (shape.Bin op kind) ty c old e = absurd (cc)
update_node (shape.PtrAdd size subtract) ty c old e = absurd (cc)
update_node (shape.PtrDiff size) ty c old e = absurd (cc)
update_node (shape.Rel op pointers) ty c old e = absurd (cc)
update_node (shape.Eq op) ty c old e = absurd (cc)
update_node (shape.Member offset) ty c old e = absurd (cc)
update_node (shape.Part offset how) ty c old e = absurd (cc)
update_node (shape.Assign first how) ty c old e = absurd (cc)
update_node shape.And ty c old e = absurd (cc)
update_node shape.Or ty c old e = absurd (cc)
update_node shape.Cond ty c old e = absurd (cc)
update_node shape.Comma ty c old e = absurd (cc)
update_node (shape.Call discarded) ty c old e = absurd (cc)
update_node (shape.List slot bytes) ty c old e = absurd (cc)
update_node (shape.Isolated tree) ty c old e = absurd (cc)
update_node (shape.Obj slot) ty c old e = absurd (cc)
update_node (shape.Func k) ty c old e = absurd (cc)
update_node (shape.Str k) ty c old e = absurd (cc)

-- ---- the room that an act keeps something in is that of an update which gives its old value
record Keeps_in (h : sites.Head) (s : Sight) (room : ℕ) : Type 0 where
  change : Change
  head : h ≡ shape.Update change true
  is : room ≡ s.room

value_keeps : (h : sites.Head) (s : Sight) (a : Act) (room : ℕ) → IsValue h s a → kept_room a ≡ Some room → Keeps_in h s room
value_keeps (shape.Update c true) s a room is kept = record { change = c; head = refl; is = sym (same_Some s.room room (ap kept_room (sym is.2) ∙ kept)) }
value_keeps (shape.Update c false) s a room is kept = absurd (cc (ap kept_room (sym is.2) ∙ kept))
value_keeps (shape.Load how) s a room is kept = absurd (cc (ap kept_room (sym is.2) ∙ kept))
value_keeps (shape.Const z) s a room is kept = absurd (cc (ap kept_room (sym is) ∙ kept))
value_keeps (shape.Conv k) s a room is kept = absurd (cc (ap kept_room (sym is) ∙ kept))
value_keeps (shape.Un op) s a room is kept = absurd (cc (ap kept_room (sym is) ∙ kept))
value_keeps (shape.Bin op kind) s a room is kept = absurd (cc (ap kept_room (sym is) ∙ kept))
value_keeps (shape.PtrAdd size subtract) s a room is kept = absurd (cc (ap kept_room (sym is) ∙ kept))
value_keeps (shape.PtrDiff size) s a room is kept = absurd (cc (ap kept_room (sym is) ∙ kept))
value_keeps (shape.Rel op pointers) s a room is kept = absurd (cc (ap kept_room (sym is) ∙ kept))
value_keeps (shape.Eq op) s a room is kept = absurd (cc (ap kept_room (sym is) ∙ kept))
value_keeps (shape.Member offset) s a room is kept = absurd (cc (ap kept_room (sym is) ∙ kept))
value_keeps (shape.Part offset how) s a room is kept = absurd (cc (ap kept_room (sym is) ∙ kept))
value_keeps (shape.Assign first how) s a room is kept = absurd (cc (ap kept_room (sym is) ∙ kept))
value_keeps shape.And s a room is kept = absurd (cc (ap kept_room (sym is) ∙ kept))
value_keeps shape.Or s a room is kept = absurd (cc (ap kept_room (sym is) ∙ kept))
value_keeps shape.Cond s a room is kept = absurd (cc (ap kept_room (sym is) ∙ kept))
value_keeps shape.Comma s a room is kept = absurd (cc (ap kept_room (sym is) ∙ kept))
value_keeps (shape.Call discarded) s a room is kept = absurd (cc (ap kept_room (sym is) ∙ kept))
value_keeps (shape.List slot bytes) s a room is kept = absurd (cc (ap kept_room (sym is) ∙ kept))
value_keeps (shape.Isolated tree) s a room is kept = absurd (cc (ap kept_room (sym is) ∙ kept))
value_keeps (shape.Obj slot) s a room is kept = absurd (cc (ap kept_room (sym is) ∙ kept))
value_keeps (shape.Func k) s a room is kept = absurd (cc (ap kept_room (sym is) ∙ kept))
value_keeps (shape.Str k) s a room is kept = absurd (cc (ap kept_room (sym is) ∙ kept))

effect_keeps : (firsts : List ℕ) (tables : Tables) (h : sites.Head) (s : Sight) (a : Act) (room : ℕ) → IsEffect firsts tables h s a →
    kept_room a ≡ Some room → Keeps_in h s room
effect_keeps firsts tables (shape.Assign first how) s a room is kept = absurd (cc (ap kept_room (sym is.4) ∙ kept))
effect_keeps firsts tables (shape.Update c old) s a room is kept = absurd (cc (ap kept_room (sym is.4) ∙ kept))
effect_keeps firsts tables (shape.List slot bytes) s a room is kept = absurd (cc (ap kept_room (sym is.4) ∙ kept))
effect_keeps firsts tables (shape.Const z) s a room is kept = absurd (cc (ap kept_room (sym is) ∙ kept))
effect_keeps firsts tables (shape.Load how) s a room is kept = absurd (cc (ap kept_room (sym is) ∙ kept))
effect_keeps firsts tables (shape.Conv k) s a room is kept = absurd (cc (ap kept_room (sym is) ∙ kept))
effect_keeps firsts tables (shape.Un op) s a room is kept = absurd (cc (ap kept_room (sym is) ∙ kept))
effect_keeps firsts tables (shape.Bin op kind) s a room is kept = absurd (cc (ap kept_room (sym is) ∙ kept))
effect_keeps firsts tables (shape.PtrAdd size subtract) s a room is kept = absurd (cc (ap kept_room (sym is) ∙ kept))
effect_keeps firsts tables (shape.PtrDiff size) s a room is kept = absurd (cc (ap kept_room (sym is) ∙ kept))
effect_keeps firsts tables (shape.Rel op pointers) s a room is kept = absurd (cc (ap kept_room (sym is) ∙ kept))
effect_keeps firsts tables (shape.Eq op) s a room is kept = absurd (cc (ap kept_room (sym is) ∙ kept))
effect_keeps firsts tables (shape.Member offset) s a room is kept = absurd (cc (ap kept_room (sym is) ∙ kept))
effect_keeps firsts tables (shape.Part offset how) s a room is kept = absurd (cc (ap kept_room (sym is) ∙ kept))
effect_keeps firsts tables shape.And s a room is kept = absurd (cc (ap kept_room (sym is) ∙ kept))
effect_keeps firsts tables shape.Or s a room is kept = absurd (cc (ap kept_room (sym is) ∙ kept))
effect_keeps firsts tables shape.Cond s a room is kept = absurd (cc (ap kept_room (sym is) ∙ kept))
effect_keeps firsts tables shape.Comma s a room is kept = absurd (cc (ap kept_room (sym is) ∙ kept))
effect_keeps firsts tables (shape.Call discarded) s a room is kept = absurd (cc (ap kept_room (sym is) ∙ kept))
effect_keeps firsts tables (shape.Isolated tree) s a room is kept = absurd (cc (ap kept_room (sym is) ∙ kept))
effect_keeps firsts tables (shape.Obj slot) s a room is kept = absurd (cc (ap kept_room (sym is) ∙ kept))
effect_keeps firsts tables (shape.Func k) s a room is kept = absurd (cc (ap kept_room (sym is) ∙ kept))
effect_keeps firsts tables (shape.Str k) s a room is kept = absurd (cc (ap kept_room (sym is) ∙ kept))

-- ---- a value gives one
value_gives : (h : sites.Head) (s : Sight) (a : Act) → IsValue h s a → gives_value a ≡ true
value_gives (shape.Update c old) s a is = ap gives_value is.2
value_gives (shape.Load how) s a is = ap gives_value is.2
value_gives (shape.Const z) s a is = ap gives_value is
value_gives (shape.Conv k) s a is = ap gives_value is
value_gives (shape.Un op) s a is = ap gives_value is
value_gives (shape.Bin op kind) s a is = ap gives_value is
value_gives (shape.PtrAdd size subtract) s a is = ap gives_value is
value_gives (shape.PtrDiff size) s a is = ap gives_value is
value_gives (shape.Rel op pointers) s a is = ap gives_value is
value_gives (shape.Eq op) s a is = ap gives_value is
value_gives (shape.Member offset) s a is = ap gives_value is
value_gives (shape.Part offset how) s a is = ap gives_value is
value_gives (shape.Assign first how) s a is = ap gives_value is
value_gives shape.And s a is = ap gives_value is
value_gives shape.Or s a is = ap gives_value is
value_gives shape.Cond s a is = ap gives_value is
value_gives shape.Comma s a is = ap gives_value is
value_gives (shape.Call discarded) s a is = ap gives_value is
value_gives (shape.List slot bytes) s a is = ap gives_value is
value_gives (shape.Isolated tree) s a is = ap gives_value is
value_gives (shape.Obj slot) s a is = ap gives_value is
value_gives (shape.Func k) s a is = ap gives_value is
value_gives (shape.Str k) s a is = ap gives_value is

-- ---- all that is known of the rooms of a full expression
pub record RoomsLaid (entries : List Listed) (rooms : ℕ) (e : Begun) : Type 0 where
  pub nodes : size (tree_of e.root) ≤ rooms
  pub within : (room : ℕ) → IsUpdateRoom entries e room → room < rooms
  pub own : (room : ℕ) (r : IsUpdateRoom entries e room) → r.old ≡ false → room ≡ r.due.place.node
  pub behind : (room : ℕ) (r : IsUpdateRoom entries e room) → r.old ≡ true → size (tree_of e.root) ≤ room
  pub value : (room : ℕ) (r : IsUpdateRoom entries e room) (d : Due) → r.old ≡ true → IsListed entries d → d.place ≡ place r.due.place.node Val
      → WorksOut d.act r.change room
  pub apart : (room : ℕ) (r : IsUpdateRoom entries e room) (d : Due) → IsListed entries d → kept_room d.act ≡ Some room
      → d.place.node ≡ r.due.place.node
  pub kept : (room : ℕ) (d : Due) → IsListed entries d → is_body d.place.kind ≡ false → kept_room d.act ≡ Some room → size (tree_of e.root) ≤ room
  pub gives : (d : Due) → IsListed entries d → is_body d.place.kind ≡ false → gives_value d.act ≡ is_val d.place.kind

abbrev stored_room : Act → ℕ
stored_room (act.Store n target (Done room)) = room
stored_room a = 0

module _ (tables : Tables) (listing : List Listed) (laid : Expression) (firsts : List ℕ) (nodes : List NodeInfo)
    (lays : LaidOutBy firsts nodes tables listing laid) (e : Begun) (root : e.root ≡ expr_of laid.root.now) (few : size (tree_of e.root) < 2 ^ 32) where
  abbrev entries : List Listed
  entries = part_of listing laid.first laid.end

  abbrev sight : ℕ → NodeInfo → Sight
  sight n x = sight_of firsts (length nodes) n x

  -- what is noted of an event
  record Noted (d : Due) : Type 0 where
    node : NodeInfo
    there : slice_get nodes d.place.node ≡ Some node
    due : IsDue firsts tables (length nodes) d node

  noted : (d : Due) → IsListed entries d → Noted d
  noted d at =
      let front = taken_front (laid.end - laid.first) (drop laid.first listing) at.0 (listed.Event d) at.1 in
      let behind = taken_behind laid.first listing at.0 (listed.Event d) front.1 in
      let entry = lays.each (laid.first + at.0) (listed.Event d) (omega arith) (omega (arith, front.0)) behind in
      record { node = entry.0; there = entry.1; due = entry.2 }

  count : length nodes ≡ size (tree_of e.root)
  count = lays.numbered.count ∙ sym (ap size (same_tree laid.root.now)) ∙ ap (λ (z : Expr). size (tree_of z)) (sym root)

  head_there : (n : ℕ) (x : NodeInfo) (c : Change) (old : Bool) (es : Exprs) → slice_get nodes n ≡ Some x → IsUpdate (at_node 0 e.root n) c old es →
      head_at (out-Typed x.tree.now).node ≡ shape.Update c old
  head_there n x c old es there is =
      let t = x.tree.now in
      let at : at_node 0 e.root n ≡ Some (expr (head_in (node_in t) (own_type t)) (own_type t) (out-Typed t).line (exprs_of (operands_in t))) =
      ap (λ (z : Expr). at_node 0 z n) root ∙ node_is firsts laid.root.now nodes n x lays.numbered there ∙ ap Some (expr_at t) in
      head_is t ∙ update_node (node_in t) (own_type t) c old (subst (λ (o : Option Expr). IsUpdate o c old es) at is).0

  -- the act of a value, of an effect
  value_act : (d : Due) (n : Noted d) → d.place.kind ≡ Val → IsValue (head_at (out-Typed n.node.tree.now).node) (sight d.place.node n.node) d.act
  value_act d n kind =
      subst (λ (k : Kind). IsAct firsts tables n.node.initializer (head_at (out-Typed n.node.tree.now).node) (sight d.place.node n.node) k d.act) kind
      n.due.does

  effect_act : (d : Due) (n : Noted d) → d.place.kind ≡ Eff →
      IsEffect firsts tables (head_at (out-Typed n.node.tree.now).node) (sight d.place.node n.node) d.act
  effect_act d n kind =
      subst (λ (k : Kind). IsAct firsts tables n.node.initializer (head_at (out-Typed n.node.tree.now).node) (sight d.place.node n.node) k d.act) kind
      n.due.does

  -- the room of an update
  room_is : (room : ℕ) (r : IsUpdateRoom entries e room) (n : Noted r.due) → room ≡ (sight r.due.place.node n.node).room
  room_is room r n =
      let head = head_there r.due.place.node n.node r.change r.old r.operands n.there r.update in
      let does = subst (λ (h : sites.Head). IsEffect firsts tables h (sight r.due.place.node n.node) r.due.act) head (effect_act r.due n r.effect) in
      ap stored_room (sym r.act ∙ does.4)

  room_by : (n k : ℕ) (h : sites.Head) (c : Change) (old : Bool) → h ≡ shape.Update c old →
      room_of h (min (length nodes) (2 ^ 32 - 1)) n k ≡ room_of (shape.Update c old) (min (length nodes) (2 ^ 32 - 1)) n k
  room_by n k h c old is = ap (λ (z : sites.Head). room_of z (min (length nodes) (2 ^ 32 - 1)) n k) is

  new_room : (n k : ℕ) (c : Change) (old : Bool) → old ≡ false → room_of (shape.Update c old) (min (length nodes) (2 ^ 32 - 1)) n k ≡ n
  new_room n k c true is = absurd (cc)
  new_room n k c false is = refl

  old_room : (n k : ℕ) (c : Change) (old : Bool) → old ≡ true → size (tree_of e.root) ≤ room_of (shape.Update c old) (min (length nodes) (2 ^ 32 - 1)) n k
  old_room n k c false is = absurd (cc)
  old_room n k c true is = omega (arith, count, few)

  own_room : (room : ℕ) (r : IsUpdateRoom entries e room) → r.old ≡ false → room ≡ r.due.place.node
  own_room room r new =
      let n = noted r.due r.listed in
      let head = head_there r.due.place.node n.node r.change r.old r.operands n.there r.update in
      room_is room r n ∙ room_by r.due.place.node n.node.room (head_at (out-Typed n.node.tree.now).node) r.change r.old head
      ∙ new_room r.due.place.node n.node.room r.change r.old new

  room_behind : (room : ℕ) (r : IsUpdateRoom entries e room) → r.old ≡ true → size (tree_of e.root) ≤ room
  room_behind room r old =
      let n = noted r.due r.listed in
      let head = head_there r.due.place.node n.node r.change r.old r.operands n.there r.update in
      subst (λ (k : ℕ). size (tree_of e.root) ≤ k)
      (sym (room_is room r n ∙ room_by r.due.place.node n.node.room (head_at (out-Typed n.node.tree.now).node) r.change r.old head))
      (old_room r.due.place.node n.node.room r.change r.old old)

  works_out : (s : Sight) (a : Act) (c : Change) (old : Bool) (room : ℕ) → old ≡ true → s.room ≡ room → IsValue (shape.Update c old) s a →
      WorksOut a c room
  works_out s a c false room is same v = absurd (cc)
  works_out s a c true room is same v =
      (v.0, value_at s.operands 0, v.2 ∙ ap (λ (k : ℕ). act.Change c true v.0 (value_at s.operands 0) (Integer (pos 1)) k) same)

  value_works : (room : ℕ) (r : IsUpdateRoom entries e room) (d : Due) → r.old ≡ true → IsListed entries d → d.place ≡ place r.due.place.node Val →
      WorksOut d.act r.change room
  value_works room r d old at is =
      let n = noted r.due r.listed in
      let k = noted d at in
      let number : d.place.node ≡ r.due.place.node = ap (λ p. p.node) is in
      let same : k.node ≡ n.node = same_Some k.node n.node (sym k.there ∙ ap (slice_get nodes) number ∙ n.there) in
      let head : head_at (out-Typed k.node.tree.now).node ≡ shape.Update r.change r.old =
      ap (λ (z : NodeInfo). head_at (out-Typed z.tree.now).node) same
      ∙ head_there r.due.place.node n.node r.change r.old r.operands n.there r.update in
      works_out (sight d.place.node k.node) d.act r.change r.old room old
      (ap (λ (z : NodeInfo). (sight d.place.node z).room) same ∙ ap (λ (i : ℕ). (sight i n.node).room) number ∙ sym (room_is room r n))
      (subst (λ (h : sites.Head). IsValue h (sight d.place.node k.node) d.act) head (value_act d k (ap (λ p. p.kind) is)))

  -- what an act keeps stands behind the rooms of nodes
  keeps_behind : (d : Due) (n : Noted d) (room : ℕ) → Keeps_in (head_at (out-Typed n.node.tree.now).node) (sight d.place.node n.node) room →
      size (tree_of e.root) ≤ room
  keeps_behind d n room keeps =
      subst (λ (k : ℕ). size (tree_of e.root) ≤ k)
      (sym (keeps.is ∙ room_by d.place.node n.node.room (head_at (out-Typed n.node.tree.now).node) keeps.change true keeps.head))
      (old_room d.place.node n.node.room keeps.change true refl)

  act_keeps : (d : Due) (room : ℕ) → IsListed entries d → is_body d.place.kind ≡ false → kept_room d.act ≡ Some room → size (tree_of e.root) ≤ room
  act_keeps d room at plain kept = go d.place.kind refl
    where
      go : (k : Kind) → d.place.kind ≡ k → size (tree_of e.root) ≤ room
      go Val is =
          let n = noted d at in
          keeps_behind d n room (value_keeps (head_at (out-Typed n.node.tree.now).node) (sight d.place.node n.node) d.act room (value_act d n is) kept)
      go Eff is =
          let n = noted d at in
          keeps_behind d n room
          (effect_keeps firsts tables (head_at (out-Typed n.node.tree.now).node) (sight d.place.node n.node) d.act room (effect_act d n is) kept)
      go Body is = absurd (cc (ap is_body is, plain))

  act_gives : ((d : Due) → IsListed entries d → d.place.kind ≡ Eff → gives_value d.act ≡ false) → (d : Due) → IsListed entries d →
      is_body d.place.kind ≡ false → gives_value d.act ≡ is_val d.place.kind
  act_gives effects d at plain = go d.place.kind refl
    where
      go : (k : Kind) → d.place.kind ≡ k → gives_value d.act ≡ is_val d.place.kind
      go Val is =
          let n = noted d at in
          value_gives (head_at (out-Typed n.node.tree.now).node) (sight d.place.node n.node) d.act (value_act d n is) ∙ sym (ap is_val is)
      go Eff is = effects d at is ∙ sym (ap is_val is)
      go Body is = absurd (cc (ap is_body is, plain))

  pub rooms_laid : (rooms : ℕ) → HasRooms entries rooms e → RoomsLaid entries rooms e
  rooms_laid rooms h = record {
    nodes = h.nodes;
    within = h.within;
    own = own_room;
    behind = room_behind;
    value = value_works;
    apart = h.apart;
    kept = λ room d at plain kept. act_keeps d room at plain kept;
    gives = act_gives h.effects;
  }

-- The rooms of a full expression's updates are there, and apart.
use Rattle.std.proofs.Common.{arith, ◌≡◌, ◌+◌, ◌-◌, ◌<◌, ◌≤◌, ◌^◌, min, ℕ, zero, suc, ◌==◌, nat_lt, Bool, true, false, ◌&&◌, if◌then◌else◌}
use Rattle.std.proofs.Common.{List, [], ◌∷◌, length, take, drop}
use Rattle.std.proofs.Common.{Option, Some, None, slice_get, ℤ, refl, sym, ap, subst, ◌∙◌}
use Rattle.std.specs.Prelude.{unsigned_abs}
use Rattle.std.proofs.lemmas.Bool.Decides.{nat_tests}
use Rattle.std.proofs.lemmas.Option.{slice_get_within}
use Rattle.ub_base.specs.declared.clause.Kind.{Kind}
use Rattle.ub_base.specs.declared.clause.Kind.TheVariants.{Val, Eff, Body}
use Rattle.c_types.specs.Types.{CType}
use Rattle.c_typed.specs.declared.tree.Change.{Change}
use Rattle.c_typed.specs.declared.tree.Node.{Node}
use Rattle.c_typed.specs.declared.tree.Node.TheOpen as shape
use Rattle.c_typed.specs.declared.tree.Node.TheOpen.{Node-F}
use Rattle.c_typed.specs.declared.tree.Typed.{Typed, out-Typed}
use Rattle.c_typed.specs.Sites.{Head}
use Rattle.c_typed.specs.Tree as order
use Rattle.c_typed.specs.Tree.{size, sizes, trees_of}
use Rattle.c_model.specs.Program as model
use Rattle.c_model.specs.Program.{Expr, expr, Exprs, tree_of}
use Rattle.c_model.specs.Steps.{at_node, at_node_among}
use Rattle.program_view.specs.Trees.{expr_of, exprs_of, constant_head, is_pointer}
use Rattle.program_view.proofs.Seen.{node_in, operands_in, own_type, head_in, expr_at, by_size, size_at, same_tree}
use Rattle.run_layout.specs.declared.nodes.NodeInfo.{NodeInfo}
use Rattle.run_layout.specs.declared.steps.Act.{Act}
use Rattle.run_layout.specs.declared.steps.Act.TheVariants as act
use Rattle.run_layout.specs.declared.steps.Due.{Due}
use Rattle.run_layout.specs.declared.steps.Expression.{Expression as Laid}
use Rattle.run_layout.specs.declared.steps.Listed.{Listed}
use Rattle.run_layout.specs.declared.steps.Listed.TheVariants as listed
use Rattle.run_layout.specs.declared.steps.Operand.{Operand}
use Rattle.run_layout.specs.declared.steps.Operand.TheVariants.{Done}
use Rattle.run_layout.specs.declared.tables.Tables.{Tables}
use Rattle.run_layout.specs.declared.whole.Code.{Code}
use Rattle.run_layout.specs.EventActs.{head_at, room_of, sight_of, Sight, IsValue, IsEffect, IsBody, IsAct, IsDue}
use Rattle.run_layout.specs.LaidOut.{LaidOutBy}
use Rattle.run_layout.specs.Numbered.{IsAt, AreBelow, AreNoted, AreNodes}
use Rattle.run_layout.specs.Rooms.{gives_old, IsOld, IsRoomedBy}
use Rattle.run_state.specs.Stands.{IsUpdate}
use Rattle.code_view.specs.Events.{IsListedAt}
use Rattle.code_view.specs.Rooms.{IsListedIn, IsUpdateRoomOf, kept_at, RoomsAreThere}
use Rattle.run_layout.specs.OfTrees.{listing_in}
use Rattle.code_view.proofs.Events.{effects_store, head_root, in_part, behind as from_there}
use Rattle.code_view.proofs.Listed.{seen_root}
use Rattle.code_view.proofs.Parts.{same_node, operands_below}

less : (a b : ℕ) → nat_lt a b ≡ true → a < b
less a b h = grind (arith, nat_tests, h)

not_less : (a b : ℕ) → nat_lt a b ≡ false → b ≤ a
not_less a b h = grind (arith, nat_tests, h)

equal : (a b : ℕ) → (a == b) ≡ true → b ≡ a
equal a b h = grind (arith, nat_tests, h)

unequal : (a b : ℕ) → (a == b) ≡ false → a ≤ b → a < b
unequal a b h l = grind (arith, nat_tests, h, l)

choose : {A : Type 0} (b : Bool) (x y z : A) → (b ≡ true → x ≡ z) → (b ≡ false → y ≡ z) → (if b then x else y) ≡ z
choose true x y z f g = f refl
choose false x y z f g = g refl

-- ---- an entry of a part of the listing
taken_within : {A : Type 0} (xs : List A) (n i : ℕ) (x : A) → slice_get (take n xs) i ≡ Some x → i < n
taken_within [] zero i x h = absurd (cc)
taken_within [] (suc n) i x h = absurd (cc)
taken_within (y ∷ xs) zero i x h = absurd (cc)
taken_within (y ∷ xs) (suc n) zero x h = omega arith
taken_within (y ∷ xs) (suc n) (suc i) x h = let l = taken_within xs n i x h in omega (arith, l)

listed_at : (all : List Listed) (laid : Laid) (d : Due) → IsListedIn (listing_in all laid) d → IsListedAt all laid d
listed_at all laid d is =
    let few = taken_within (drop laid.first all) (laid.end - laid.first) is.0 (listed.Event d) is.1 in
    record {
      at = laid.first + is.0;
      first = omega arith;
      end = omega (arith, few);
      entry =
          sym (from_there all laid.first is.0) ∙ (sym (in_part (drop laid.first all) (laid.end - laid.first) is.0 few) ∙ is.1);
    }

-- ---- the node of a number is that of the expression
module _ (firsts : List ℕ) (nodes : List NodeInfo) (noted : AreNoted firsts nodes) where
  abbrev Seats : Typed → Type 0
  Seats t = (k : ℕ) (parent : Option ℕ) → IsAt nodes k parent t → (n : ℕ) → k ≤ n → n < k + size (order.tree_of t) → (x : NodeInfo)
      → slice_get nodes n ≡ Some x → at_node k (expr_of t) n ≡ Some (expr_of x.tree.now)

  all_seat : (ts : List Typed) → ((u : Typed) → size (order.tree_of u) ≤ sizes (trees_of ts) → Seats u) → (parent m : ℕ) → AreBelow nodes parent m ts
      → (n : ℕ) → m ≤ n → n < m + sizes (trees_of ts) → (x : NodeInfo) → slice_get nodes n ≡ Some x
      → at_node_among m (exprs_of ts) n ≡ Some (expr_of x.tree.now)
  all_seat [] ih parent m b n from to x at = absurd (omega (arith, from, to))
  all_seat (t ∷ ts) ih parent m b n from to x at =
      let same : size (tree_of (expr_of t)) ≡ size (order.tree_of t) = ap size (same_tree t) in
      choose (nat_lt n (m + size (tree_of (expr_of t)))) (at_node m (expr_of t) n) (at_node_among (m + size (tree_of (expr_of t))) (exprs_of ts) n)
      (Some (expr_of x.tree.now))
      (λ e. ih t (omega arith) m (Some parent) b.0 n from (let l = less n (m + size (tree_of (expr_of t))) e in omega (arith, l, same)) x at)
      (λ e. ap (λ j. at_node_among (m + j) (exprs_of ts) n) same
      ∙ all_seat ts (λ u le. ih u (omega (arith, le))) parent (m + size (order.tree_of t)) b.1 n
      (let l = not_less n (m + size (tree_of (expr_of t))) e in omega (arith, l, same)) (omega (arith, to)) x at)

  seats : (t : Typed) → Seats t
  seats = by_size Seats (λ t ih k parent is n from to x at.
      let es = exprs_of (operands_in t) in
      let own = expr (head_in (node_in t) (own_type t)) (own_type t) (out-Typed t).line es in
      let count = size_at t in
      subst (λ (e : Expr). at_node k e n ≡ Some (expr_of x.tree.now)) (sym (expr_at t))
      (choose (k == n) (Some own) (at_node_among (suc k) es n) (Some (expr_of x.tree.now))
      (λ e.
      let here = same_node nodes k x is.0 (ap (slice_get nodes) (sym (equal k n e)) ∙ at) is.1 in
      ap Some (sym (expr_at t) ∙ (ap expr_of (sym is.2) ∙ ap (λ (z : NodeInfo). expr_of z.tree.now) (sym here))))
      (λ e. all_seat (operands_in t) ih k (suc k) (operands_below firsts nodes noted t k parent is) n
      (let l = unequal k n e from in omega (arith, l)) (omega (arith, to, count)) x at)))

node_at : (firsts : List ℕ) (nodes : List NodeInfo) (root : Typed) → AreNodes firsts root nodes → (n : ℕ) (x : NodeInfo) → slice_get nodes n ≡ Some x
    → at_node 0 (expr_of root) n ≡ Some (expr_of x.tree.now)
node_at firsts nodes root are n x at =
    let within = slice_get_within nodes n x at in
    let count = are.count in
    seats firsts nodes are.each root 0 None are.top n (omega arith) (omega (arith, within, count)) x at

-- ---- an update is one both ways
constant_update : (z : ℤ) (ty : CType) (c : Change) (old : Bool) → constant_head z ty ≡ model.Update c old → ⊥
constant_update z ty c old = go (is_pointer ty && (unsigned_abs z == 0))
  where
    go : (b : Bool) → (if b then model.Null else model.Number z) ≡ model.Update c old → ⊥
    go true h = cc
    go false h = cc

head_update : (d : Node-F Node Typed) (ty : CType) (c : Change) (old : Bool) → head_in d ty ≡ model.Update c old → (seen_root d).head ≡ shape.Update c old
head_update (shape.Update e f) ty c old h = let first : e ≡ c = cc in let second : f ≡ old = cc in ap (λ z. shape.Update z f) first ∙ ap (shape.Update c) second
head_update (shape.Const z) ty c old h = absurd (constant_update z ty c old h)
head_update _ ty c old h = absurd (cc)

expr_update : (d : Node-F Node Typed) (ty : CType) (line : ℕ) (es os : Exprs) (c : Change) (old : Bool)
    → IsUpdate (Some (expr (head_in d ty) ty line es)) c old os → (seen_root d).head ≡ shape.Update c old
expr_update d ty line es os c old h = head_update d ty c old h.0

tree_update : (t : Typed) (os : Exprs) (c : Change) (old : Bool) → IsUpdate (Some (expr_of t)) c old os → head_at (out-Typed t).node ≡ shape.Update c old
tree_update t os c old h =
    head_root t
    ∙ expr_update (node_in t) (own_type t) (out-Typed t).line (exprs_of (operands_in t)) os c old
    (subst (λ (e : Expr). IsUpdate (Some e) c old os) (expr_at t) h)

-- ---- what is kept
kept_value : (h : Head) (s : Sight) (a : Act) (room : ℕ) → IsValue h s a → kept_at a ≡ Some room → (gives_old h ≡ true) × (s.room ≡ room)
kept_value (shape.Update c true) s a room v k = let e = sym (ap kept_at v.2) ∙ k in (refl, cc)
kept_value (shape.Update c false) s a room v k = absurd (let e = sym (ap kept_at v.2) ∙ k in cc)
kept_value (shape.Load how) s a room v k = absurd (let e = sym (ap kept_at v.2) ∙ k in cc)
kept_value (shape.Conv c) s a room v k = absurd (let e = sym (ap kept_at v) ∙ k in cc)
kept_value (shape.Un op) s a room v k = absurd (let e = sym (ap kept_at v) ∙ k in cc)
kept_value (shape.Bin op kind) s a room v k = absurd (let e = sym (ap kept_at v) ∙ k in cc)
kept_value (shape.PtrAdd size subtract) s a room v k = absurd (let e = sym (ap kept_at v) ∙ k in cc)
kept_value (shape.PtrDiff size) s a room v k = absurd (let e = sym (ap kept_at v) ∙ k in cc)
kept_value (shape.Rel op pointers) s a room v k = absurd (let e = sym (ap kept_at v) ∙ k in cc)
kept_value (shape.Eq op) s a room v k = absurd (let e = sym (ap kept_at v) ∙ k in cc)
kept_value (shape.Member offset) s a room v k = absurd (let e = sym (ap kept_at v) ∙ k in cc)
kept_value (shape.Part offset how) s a room v k = absurd (let e = sym (ap kept_at v) ∙ k in cc)
kept_value (shape.Assign first how) s a room v k = absurd (let e = sym (ap kept_at v) ∙ k in cc)
kept_value shape.And s a room v k = absurd (let e = sym (ap kept_at v) ∙ k in cc)
kept_value shape.Or s a room v k = absurd (let e = sym (ap kept_at v) ∙ k in cc)
kept_value shape.Cond s a room v k = absurd (let e = sym (ap kept_at v) ∙ k in cc)
kept_value shape.Comma s a room v k = absurd (let e = sym (ap kept_at v) ∙ k in cc)
kept_value (shape.Call discarded) s a room v k = absurd (let e = sym (ap kept_at v) ∙ k in cc)
kept_value (shape.List slot bytes) s a room v k = absurd (let e = sym (ap kept_at v) ∙ k in cc)
kept_value (shape.Isolated tree) s a room v k = absurd (let e = sym (ap kept_at v) ∙ k in cc)
kept_value (shape.Const z) s a room v k = absurd (let e = sym (ap kept_at v) ∙ k in cc)
kept_value (shape.Obj slot) s a room v k = absurd (let e = sym (ap kept_at v) ∙ k in cc)
kept_value (shape.Func number) s a room v k = absurd (let e = sym (ap kept_at v) ∙ k in cc)
kept_value (shape.Str number) s a room v k = absurd (let e = sym (ap kept_at v) ∙ k in cc)

none_kept : (a b : Act) (room : ℕ) → a ≡ b → kept_at b ≡ None → kept_at a ≡ Some room → ⊥
none_kept a b room e n k = let both : None ≡ Some room = sym n ∙ (sym (ap kept_at e) ∙ k) in cc

kept_effect : (firsts : List ℕ) (tables : Tables) (h : Head) (s : Sight) (a : Act) (room : ℕ) → IsEffect firsts tables h s a → kept_at a ≡ Some room → ⊥
kept_effect firsts tables (shape.Assign first how) s a room v k = none_kept a _ room v.4 refl k
kept_effect firsts tables (shape.Update c old) s a room v k = none_kept a _ room v.4 refl k
kept_effect firsts tables (shape.List slot bytes) s a room v k = none_kept a _ room v.4 refl k
kept_effect firsts tables _ s a room v k = none_kept a act.Nothing room v refl k

kept_body : (tables : Tables) (initializer : ℕ) (h : Head) (s : Sight) (a : Act) (room : ℕ) → IsBody tables initializer h s a → kept_at a ≡ Some room → ⊥
kept_body tables initializer (shape.Call discarded) s a room v k = none_kept a _ room v.4 refl k
kept_body tables initializer (shape.Isolated tree) s a room v k = none_kept a _ room v refl k
kept_body tables initializer _ s a room v k = none_kept a act.Nothing room v refl k

kept_act : (firsts : List ℕ) (tables : Tables) (initializer : ℕ) (h : Head) (s : Sight) (kind : Kind) (a : Act) (room : ℕ)
    → IsAct firsts tables initializer h s kind a → kept_at a ≡ Some room → (gives_old h ≡ true) × (s.room ≡ room)
kept_act firsts tables initializer h s Val a room v k = kept_value h s a room v k
kept_act firsts tables initializer h s Eff a room v k = absurd (kept_effect firsts tables h s a room v k)
kept_act firsts tables initializer h s Body a room v k = absurd (kept_body tables initializer h s a room v k)

-- what an update stores is in its room
store_room : (store n room own : ℕ) (target place : Operand) → act.Store store target (Done room) ≡ act.Store n place (Done own) → own ≡ room
store_room store n room own target place e = cc

update_room : (firsts : List ℕ) (tables : Tables) (h : Head) (c : Change) (old : Bool) (s : Sight) (a : Act) (store room : ℕ) (target : Operand)
    → h ≡ shape.Update c old → IsEffect firsts tables h s a → a ≡ act.Store store target (Done room) → s.room ≡ room
update_room firsts tables h c old s a store room target is does e =
    let v : IsEffect firsts tables (shape.Update c old) s a = subst (λ z. IsEffect firsts tables z s a) is does in
    store_room store v.0 room s.room target _ (sym e ∙ v.4)

-- ---- the room of a node
old_room : (h : Head) (count n room : ℕ) → gives_old h ≡ true → room_of h count n room ≡ min (count + room) (2 ^ 32 - 1)
old_room (shape.Update c true) count n room h = refl
old_room (shape.Update c false) count n room h = absurd (cc)
old_room _ count n room h = absurd (cc)

module _ (code : Code) (firsts : List ℕ) (nodes : List NodeInfo) (laid : Laid) (lays : LaidOutBy firsts nodes code.tables code.listing.items laid) where
  abbrev roomed : IsRoomedBy nodes laid.rooms
  roomed = lays.rooms

  abbrev count : ℕ
  count = length nodes

  abbrev part : List Listed
  part = listing_in code.listing.items laid

  abbrev root : Expr
  root = expr_of laid.root.now

  -- of one that gives the old value
  behind : (n : ℕ) (x : NodeInfo) → IsOld nodes n x
      → room_of (head_at (out-Typed x.tree.now).node) (min count (2 ^ 32 - 1)) n x.room ≡ count + x.room
  behind n x is =
      let few = roomed.few in
      let less_room = roomed.behind n x is in
      old_room (head_at (out-Typed x.tree.now).node) (min count (2 ^ 32 - 1)) n x.room is.1 ∙ omega (arith, few, less_room)

  -- an update's room: its own, or the one behind
  abbrev IsRoom : ℕ → NodeInfo → (old : Bool) → ℕ → Type 0
  IsRoom n x true room = IsOld nodes n x × (count + x.room ≡ room)
  IsRoom n x false room = (n < count) × (n ≡ room)

  room_is : (n : ℕ) (x : NodeInfo) (c : Change) (old : Bool) (room : ℕ) → slice_get nodes n ≡ Some x
      → head_at (out-Typed x.tree.now).node ≡ shape.Update c old
      → room_of (head_at (out-Typed x.tree.now).node) (min count (2 ^ 32 - 1)) n x.room ≡ room → IsRoom n x old room
  room_is n x c true room at h e =
      let is : IsOld nodes n x = (at, ap gives_old h) in
      (is, sym (behind n x is) ∙ e)
  room_is n x c false room at h e =
      let own : room_of (head_at (out-Typed x.tree.now).node) (min count (2 ^ 32 - 1)) n x.room ≡ n =
      ap (λ z. room_of z (min count (2 ^ 32 - 1)) n x.room) h in
      (slice_get_within nodes n x at, sym own ∙ e)

  room_within : (n : ℕ) (x : NodeInfo) (old : Bool) (room : ℕ) → IsRoom n x old room → room < laid.rooms
  room_within n x true room h = let l = roomed.behind n x h.0 in let e = h.1 in omega (arith, l, e)
  room_within n x false room h = let l = roomed.own in let e = h.1 in let w = h.0 in omega (arith, l, e, w)

  room_apart : (n k : ℕ) (x y : NodeInfo) (old : Bool) (room : ℕ) → IsRoom n x old room → IsOld nodes k y → count + y.room ≡ room → k ≡ n
  room_apart n k x y true room h is e = roomed.apart k n y x is h.0 (let f = h.1 in omega (arith, e, f))
  room_apart n k x y false room h is e = absurd (let f = h.1 in let w = h.0 in omega (arith, e, f, w))

  -- the node of a listed event, with what is noted of the event
  abbrev Found : Due → Type 0
  Found d = (x : NodeInfo) × (slice_get nodes d.place.node ≡ Some x) × IsDue firsts code.tables count d x

  found : (d : Due) → IsListedAt code.listing.items laid d → Found d
  found d is =
      let e = lays.each is.at (listed.Event d) is.first is.end is.entry in
      (e.0, e.1, e.2)

  abbrev UpdateFound : (room : ℕ) → (r : IsUpdateRoomOf part root room) → Type 0
  UpdateFound room r = (x : NodeInfo) × IsRoom r.due.place.node x r.old room

  update_found : (room : ℕ) (r : IsUpdateRoomOf part root room) → UpdateFound room r
  update_found room r =
      let d = r.due in
      let it = found d (listed_at code.listing.items laid d r.is_listed) in
      let x = it.0 in
      let h = head_at (out-Typed x.tree.now).node in
      let s = sight_of firsts count d.place.node x in
      let there = node_at firsts nodes laid.root.now lays.numbered d.place.node x it.1 in
      let is = tree_update x.tree.now r.operands r.change r.old (subst (λ o. IsUpdate o r.change r.old r.operands) there r.update) in
      let does : IsEffect firsts code.tables h s d.act = subst (λ z. IsAct firsts code.tables x.initializer h s z d.act) r.effect it.2.does in (
        x,
        room_is d.place.node x r.change r.old room it.1 is
            (update_room firsts code.tables h r.change r.old s d.act r.store room r.target is does r.act),
      )

  rooms_within : (room : ℕ) → IsUpdateRoomOf part root room → room < laid.rooms
  rooms_within room r = let u = update_found room r in room_within r.due.place.node u.0 r.old room u.1

  rooms_apart : (room : ℕ) (r : IsUpdateRoomOf part root room) (d : Due) → IsListedIn part d → kept_at d.act ≡ Some room
      → d.place.node ≡ r.due.place.node
  rooms_apart room r d is k =
      let u = update_found room r in
      let it = found d (listed_at code.listing.items laid d is) in
      let y = it.0 in
      let kept = kept_act firsts code.tables y.initializer (head_at (out-Typed y.tree.now).node) (sight_of firsts count d.place.node y) d.place.kind d.act room
      it.2.does k in
      let old : IsOld nodes d.place.node y = (it.1, kept.0) in
      room_apart r.due.place.node d.place.node u.0 y r.old room u.1 old (sym (behind d.place.node y old) ∙ kept.1)

pub rooms_there : RoomsAreThere
rooms_there code firsts nodes n laid lists at lays = record {
  nodes = let own = lays.rooms.own in let count = lays.numbered.count in let same = ap size (same_tree laid.root.now) in omega (arith, own, count, same);
  within = rooms_within code firsts nodes laid lays;
  apart = rooms_apart code firsts nodes laid lays;
  effects = λ d is kind. effects_store code firsts nodes n laid d lists at lays (listed_at code.listing.items laid d is) kind;
}

-- An event that isn't a body gives its value: what stands in the rooms of its full expression then.
use Rattle.std.proofs.Common.{◌≡◌, ◌≢◌, ℕ, suc, ◌+◌, ◌<◌, ◌≤◌, Bool, true, false, refl, sym, ap, ◌∙◌, subst, arith, true≢false, length, Option, Some, None}
use Rattle.std.proofs.Common.{slice_get, pos}
use Rattle.std.specs.Prelude.{◌||◌, is_some, if◌then◌else◌}
use Rattle.std.specs.Option.{ForSome}
use Rattle.std.proofs.lemmas.Option.{same_Some}
use Rattle.ub_base.specs.declared.clause.Kind.TheVariants.{Val, Eff, Body}
use Rattle.c_typed.specs.declared.tree.Change.{Change}
use Rattle.c_typed.specs.declared.tree.Place.{Place}
use Rattle.c_typed.specs.Order.{Taken, is_body, is_due, is_val, place, same_place}
use Rattle.c_typed.specs.Tree.{Tree, size}
use Rattle.c_model.specs.Nodes.{amount, changed, new_value}
use Rattle.c_model.specs.Program.{Exprs, tree_of}
use Rattle.c_model.specs.Steps.{Begun, Scene, at_node, is_done, values_of, with_given}
use Rattle.c_model.specs.Values.{Value}
use Rattle.c_model.specs.World.{World}
use Rattle.c_model.proofs.Decided.{place_eq, val_kind}
use Rattle.c_model.proofs.Listed.{same_place_eq, same_place_itself}
use Rattle.c_model.proofs.Ranks.{events_in}
use Rattle.mem_objects.specs.Keeps.{Keeps}
use Rattle.run_layout.specs.declared.steps.Act.{Act}
use Rattle.run_layout.specs.declared.steps.Act.TheVariants as act
use Rattle.run_layout.specs.declared.steps.Due.{Due}
use Rattle.run_layout.specs.declared.steps.Listed.TheVariants as listed
use Rattle.run_layout.specs.declared.steps.Operand.{Operand}
use Rattle.run_layout.specs.declared.steps.Operand.TheVariants.{Done}
use Rattle.run_listing.specs.Along.{part_of, IsListed}
use Rattle.run_state.specs.declared.machine.Machine.{Machine}
use Rattle.run_state.specs.declared.machine.Open.{Open}
use Rattle.run_state.specs.Stands.{Holds, IsUpdate, StandsValues}
use Rattle.run_answers.specs.Performs.{gives_value, kept_room}
use Rattle.run_answers.proofs.Stays.{holds_stay}
use Rattle.run_answers.specs.Ending.{IsUpdateRoom}
use Rattle.run_answers.proofs.Laying.{RoomsLaid, WorksOut}
use Rattle.run_answers.proofs.Standing.{moved_on, some_there}

-- ---- what is given then
pub given_same : (e : Begun) (u w : Place) (v : Value) → same_place u w ≡ true → (with_given e u v).given w ≡ Some v
given_same e u w v is = ap (λ (b : Bool). if b then Some v else e.given w) is

pub given_else : (e : Begun) (u w : Place) (v : Value) → same_place u w ≡ false → (with_given e u v).given w ≡ e.given w
given_else e u w v is = ap (λ (b : Bool). if b then Some v else e.given w) is

done_by : (b : Bool) (v : Value) (o : Option Value) → is_some (if b then Some v else o) ≡ (b || is_some o)
done_by true v o = refl
done_by false v o = refl

pub done_more : (e : Begun) (u w : Place) (v : Value) → is_done (with_given e u v) w ≡ (same_place u w || is_done e w)
done_more e u w v = done_by (same_place u w) v (e.given w)

pub none_of : {A : Type 0} (o : Option A) → is_some o ≡ false → o ≡ None
none_of None h = refl
none_of (Some w) h = absurd (cc)

-- an event that is due is one of a node of the tree
pub node_within : (taken : Taken) (root : Tree) (u : Place) → is_due root taken u ≡ true → u.node < size root
node_within taken root u due = (let r = events_in taken root 0 u due in omega (arith, r.1))

-- ---- rooms that an act keeps something in
kept_gives : (a : Act) (r : ℕ) → kept_room a ≡ Some r → gives_value a ≡ true
kept_gives (act.Change c true ty target o k) r e = refl
kept_gives (act.Change c false ty target o k) r e = refl
kept_gives (act.Load how ty target) r e = refl
kept_gives (act.Convert c o) r e = refl
kept_gives (act.Unary op o) r e = refl
kept_gives (act.Binary op kind a b) r e = refl
kept_gives (act.Move size subtract p i) r e = refl
kept_gives (act.Distance size a b) r e = refl
kept_gives (act.Related op pointers a b) r e = refl
kept_gives (act.Equal op a b) r e = refl
kept_gives (act.Member offset p) r e = refl
kept_gives (act.Part offset how o) r e = refl
kept_gives (act.Same o) r e = refl
kept_gives (act.Logical either a b) r e = refl
kept_gives (act.Selected test a b) r e = refl
kept_gives (act.Answer discarded) r e = refl
kept_gives act.Nothing r e = refl
kept_gives (act.Store n target value) r e = absurd (cc)
kept_gives (act.Fill object n) r e = absurd (cc)
kept_gives (act.Call n) r e = absurd (cc)
kept_gives (act.Initialize n) r e = absurd (cc)

-- ---- the values of the full expression
module _ (world : World) (m n : Machine) (t : Open) (keeps : Keeps m.memory n.memory) (f : Scene) (e : Begun) (d : Due) (v : Value)
    (base first end count : ℕ) (rooms : RoomsLaid (part_of m.image.code.now.listing.items first end) count e)
    (listed_there : IsListed (part_of m.image.code.now.listing.items first end) d) (plain : is_body d.place.kind ≡ false)
    (within : (w : Place) → is_some (e.given w) ≡ true → w.node < size (tree_of e.root)) (here : d.place.node < size (tree_of e.root))
    (there : base + count ≤ length m.values.items)
    (others : (j : ℕ) → j ≢ base + d.place.node → ForSome (kept_room d.act) (λ r. j ≢ base + r) → slice_get n.values.items j ≡ slice_get m.values.items j)
    (effect : gives_value d.act ≡ false → (j : ℕ) → slice_get n.values.items j ≡ slice_get m.values.items j)
    (value : gives_value d.act ≡ true → Holds n.memory n.values.items (base + d.place.node) v)
    (update : (c : Change) (room : ℕ) → WorksOut d.act c room → room ≢ d.place.node → base + room < length m.values.items
    → Holds n.memory n.values.items (base + room) (changed c v (pos 1))) where
  abbrev after : Begun
  after = with_given e d.place v

  gives : gives_value d.act ≡ is_val d.place.kind
  gives = rooms.gives d listed_there plain

  -- a room that is none of the event's
  stays : (j : ℕ) → (is_val d.place.kind ≡ true → j ≢ d.place.node) → ((r : ℕ) → kept_room d.act ≡ Some r → j ≢ r)
      → slice_get n.values.items (base + j) ≡ slice_get m.values.items (base + j)
  stays j apart away = go (gives_value d.act) refl
    where
      go : (b : Bool) → gives_value d.act ≡ b → slice_get n.values.items (base + j) ≡ slice_get m.values.items (base + j)
      go true is =
          let ne : j ≢ d.place.node = apart (sym gives ∙ is) in
          others (base + j) (λ eq. ne (omega (arith, eq)))
          (λ r kept eq. away r kept (omega (arith, eq)))
      go false is = effect is (base + j)

  -- that of another node
  node_stays : (j : ℕ) → j < size (tree_of e.root) → (is_val d.place.kind ≡ true → j ≢ d.place.node)
      → slice_get n.values.items (base + j) ≡ slice_get m.values.items (base + j)
  node_stays j lt apart =
      stays j apart (λ r is eq. (let le = rooms.kept r d listed_there plain is in omega (arith, le, lt, eq)))

  held : (room : ℕ) (w : Value) → slice_get n.values.items (base + room) ≡ slice_get m.values.items (base + room)
      → Holds m.memory m.values.items (base + room) w → Holds n.memory n.values.items (base + room) w
  held room w same h = holds_stay m.memory n.memory m.values.items n.values.items (base + room) w keeps same h

  -- another place than the event's is that of another node
  other_node : (k : ℕ) → same_place d.place (place k Val) ≡ false → is_val d.place.kind ≡ true → k ≢ d.place.node
  other_node k away val eq =
      let is : d.place ≡ place k Val = place_eq d.place k Val (sym eq) (val_kind d.place.kind val) in
      true≢false (sym (subst (λ (w : Place). same_place d.place w ≡ true) is (same_place_itself d.place)) ∙ away)

  own_value : (k : ℕ) → same_place d.place (place k Val) ≡ true → Holds n.memory n.values.items (base + k) v
  own_value k is =
      let same = same_place_eq d.place (place k Val) is in
      subst (λ (j : ℕ). Holds n.memory n.values.items (base + j) v) (ap (λ (w : Place). w.node) same)
      (value (gives ∙ ap (λ (w : Place). is_val w.kind) same))

  val_after : (k : ℕ) (w : Value) (b : Bool) → same_place d.place (place k Val) ≡ b → StandsValues world m base first end f e
      → after.given (place k Val) ≡ Some w → Holds n.memory n.values.items (base + k) w
  val_after k w true is s given =
      subst (λ (x : Value). Holds n.memory n.values.items (base + k) x)
      (same_Some v w (sym (given_same e d.place (place k Val) v is) ∙ given)) (own_value k is)
  val_after k w false is s given =
      let before = sym (given_else e d.place (place k Val) v is) ∙ given in
      held k w (node_stays k (within (place k Val) (some_there (e.given (place k Val)) w before)) (other_node k is)) (s.val k w before)

  no_body : (k : ℕ) (b : Bool) → same_place d.place (place k Body) ≡ b → b ≡ false
  no_body k true is =
      absurd (true≢false (sym (ap (λ (w : Place). is_body w.kind) (same_place_eq d.place (place k Body) is)) ∙ plain))
  no_body k false is = refl

  body_after : (k : ℕ) (w : Value) (b : Bool) → same_place d.place (place k Val) ≡ b → StandsValues world m base first end f e
      → after.given (place k Val) ≡ None → after.given (place k Body) ≡ Some w → Holds n.memory n.values.items (base + k) w
  body_after k w true is s none given = absurd (cc (given_same e d.place (place k Val) v is, none))
  body_after k w false is s none given =
      let other = no_body k (same_place d.place (place k Body)) refl in
      let before = sym (given_else e d.place (place k Body) v other) ∙ given in
      held k w (node_stays k (within (place k Body) (some_there (e.given (place k Body)) w before)) (other_node k is))
      (s.body k w (sym (given_else e d.place (place k Val) v is) ∙ none) before)

  abbrev room_of : (i : ℕ) (due : Due) (store room : ℕ) (target : Operand) (c : Change) (old : Bool) (es : Exprs)
      → slice_get (part_of m.image.code.now.listing.items first end) i ≡ Some (listed.Event due) → due.act ≡ act.Store store target (Done room)
      → due.place.kind ≡ Eff → IsUpdate (at_node 0 e.root due.place.node) c old es
      → IsUpdateRoom (part_of m.image.code.now.listing.items first end) e room
  room_of i due store room target c old es at does kind is = record {
    due = due;
    store = store;
    target = target;
    change = c;
    old = old;
    operands = es;
    listed = (i, at);
    act = does;
    effect = kind;
    update = is;
  }

  -- what an update is to store that gives its new value
  new_after : (due : Due) (room : ℕ) (r : IsUpdateRoom (part_of m.image.code.now.listing.items first end) e room) → r.due ≡ due → r.old ≡ false
      → (w : Value) (b : Bool) → same_place d.place (place due.place.node Val) ≡ b → after.given (place due.place.node Val) ≡ Some w
      → (e.given (place due.place.node Val) ≡ Some w → Holds m.memory m.values.items (base + room) w)
      → Holds n.memory n.values.items (base + room) w
  new_after due room r own new w true is given before =
      let number : room ≡ due.place.node = rooms.own room r new ∙ ap (λ (x : Due). x.place.node) own in
      subst (λ (j : ℕ). Holds n.memory n.values.items (base + j) w) (sym number)
      (subst (λ (x : Value). Holds n.memory n.values.items (base + due.place.node) x)
      (same_Some v w (sym (given_same e d.place (place due.place.node Val) v is) ∙ given)) (own_value due.place.node is))
  new_after due room r own new w false is given before =
      let number : room ≡ due.place.node = rooms.own room r new ∙ ap (λ (x : Due). x.place.node) own in
      let was = sym (given_else e d.place (place due.place.node Val) v is) ∙ given in
      let lt = within (place due.place.node Val) (some_there (e.given (place due.place.node Val)) w was) in
      held room w (node_stays room (omega (arith, number, lt)) (λ val eq. other_node due.place.node is val (sym number ∙ eq))) (before was)

  -- .. and that gives its old one
  old_after : (due : Due) (room : ℕ) (r : IsUpdateRoom (part_of m.image.code.now.listing.items first end) e room) → r.due ≡ due → r.old ≡ true
      → (w : Value) (b : Bool) → same_place d.place (place due.place.node Val) ≡ b → after.given (place due.place.node Val) ≡ Some w
      → (e.given (place due.place.node Val) ≡ Some w → Holds m.memory m.values.items (base + room) (changed r.change w (pos 1)))
      → Holds n.memory n.values.items (base + room) (changed r.change w (pos 1))
  old_after due room r own old w true is given before =
      let same = same_place_eq d.place (place due.place.node Val) is in
      let works = rooms.value room r d old listed_there (same ∙ ap (λ (x : Due). place x.place.node Val) (sym own)) in
      let le = rooms.behind room r old in
      let lt = rooms.within room r in
      subst (λ (x : Value). Holds n.memory n.values.items (base + room) (changed r.change x (pos 1)))
      (same_Some v w (sym (given_same e d.place (place due.place.node Val) v is) ∙ given))
      (update r.change room works (λ eq. omega (arith, le, here, eq)) (omega (arith, lt, there)))
  old_after due room r own old w false is given before =
      let was = sym (given_else e d.place (place due.place.node Val) v is) ∙ given in
      let le = rooms.behind room r old in
      held room (changed r.change w (pos 1))
      (stays room (λ val eq. omega (arith, le, here, eq)) (λ k kept eq.
      other_node due.place.node is (sym gives ∙ kept_gives d.act k kept)
      (sym (rooms.apart room r d listed_there (kept ∙ ap (λ (j : ℕ). Some j) (sym eq)) ∙ ap (λ (x : Due). x.place.node) own)))) (before was)

  update_after : (i : ℕ) (due : Due) (store room : ℕ) (target : Operand) (c : Change) (old : Bool) (es : Exprs) (w : Value)
      → StandsValues world m base first end f e
      → slice_get (part_of m.image.code.now.listing.items first end) i ≡ Some (listed.Event due) → due.act ≡ act.Store store target (Done room)
      → due.place.kind ≡ Eff → IsUpdate (at_node 0 e.root due.place.node) c old es → after.given (place due.place.node Val) ≡ Some w
      → Holds n.memory n.values.items (base + room) (new_value c old w (amount old (values_of world f after.given (suc due.place.node) es)))
  update_after i due store room target c false es w s at does kind is given =
      new_after due room (room_of i due store room target c false es at does kind is) refl refl w
      (same_place d.place (place due.place.node Val)) refl given (λ was. s.update i due store room target c false es w at does kind is was)
  update_after i due store room target c true es w s at does kind is given =
      old_after due room (room_of i due store room target c true es at does kind is) refl refl w
      (same_place d.place (place due.place.node Val)) refl given (λ was. s.update i due store room target c true es w at does kind is was)

  -- all together
  pub values_after : StandsValues world m base first end f e → StandsValues world (moved_on m n t) base first end f after
  values_after s = record {
    val = λ k w given. val_after k w (same_place d.place (place k Val)) refl s given;
    body = λ k w none given. body_after k w (same_place d.place (place k Val)) refl s none given;
    update = λ i due store room target c old es w at does kind is given.
        update_after i due store room target c old es w s at does kind is given;
  }

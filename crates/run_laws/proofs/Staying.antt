-- Behind an event that isn't a body the machine stands as picks ask it again.
use Rattle.std.proofs.Common.{arith, ◌≡◌, ◌≢◌, ◌+◌, ◌<◌, ◌≤◌, ℕ, zero, suc, Bool, true, false, if◌then◌else◌, List, length, Option, Some, None, slice_get}
use Rattle.std.proofs.Common.{refl, sym, ap, subst, ◌∙◌}
use Rattle.std.proofs.lemmas.List.Elements.{All-weaker}
use Rattle.std.proofs.lemmas.Option.{same_Some, slice_get_within}
use Rattle.ub_base.specs.declared.names.Event.{Event}
use Rattle.ub_base.specs.declared.clause.Kind.{Kind}
use Rattle.ub_base.specs.declared.clause.Kind.TheVariants.{Val, Eff, Body}
use Rattle.c_typed.specs.declared.program.Program.{Program}
use Rattle.c_typed.specs.declared.tree.Node.TheOpen as shape
use Rattle.c_typed.specs.declared.tree.Place.{Place}
use Rattle.c_typed.specs.declared.tree.Slot.{Slot}
use Rattle.c_typed.specs.declared.tree.Slot.TheVariants as slot
use Rattle.c_typed.specs.declared.tree.Typed.{Typed, out-Typed}
use Rattle.c_typed.specs.Order.{place, same_place}
use Rattle.c_typed.specs.Sites.{Head, sites}
use Rattle.mem_spec.specs.Store.{Store}
use Rattle.mem_objects.specs.Memory.{store_of}
use Rattle.mem_spec.specs.Script.{Script, Done as Acts_done, run}
use Rattle.c_model.specs.Nodes.{act_of}
use Rattle.c_model.specs.Program as model
use Rattle.c_model.specs.Program.{Expr, expr, Exprs, Head as Model_head, tree_of}
use Rattle.c_model.specs.Runs.{State}
use Rattle.c_model.specs.Steps.{Begun, Scene, at_node, call_act, event_act, event_of, first_type, name_of, operand_values, own_kind, target, values_of}
use Rattle.c_model.specs.Steps.{with_given}
use Rattle.c_model.specs.Values.{Value, or_nothing, value_at}
use Rattle.c_model.specs.World.{World}
use Rattle.program_view.specs.Trees.{exprs_of}
use Rattle.program_view.proofs.Seen.{expr_at, head_in, node_in, operands_in, own_type}
use Rattle.run_control.specs.View.{Meaning}
use Rattle.run_layout.specs.declared.nodes.NodeInfo.{NodeInfo}
use Rattle.run_layout.specs.declared.steps.Choice.{Choice}
use Rattle.run_layout.specs.declared.steps.Due.{Due}
use Rattle.run_layout.specs.declared.steps.Expression.{Expression as Laid}
use Rattle.run_layout.specs.declared.steps.Act.{Act}
use Rattle.run_layout.specs.declared.steps.Listed.{Listed}
use Rattle.run_layout.specs.declared.steps.Listed.TheVariants as listed
use Rattle.run_layout.specs.declared.steps.Operand.{Operand}
use Rattle.run_layout.specs.declared.tables.Tables.{Tables}
use Rattle.run_layout.specs.declared.whole.Code.{Code}
use Rattle.run_layout.specs.Choices.{ChoosesAt}
use Rattle.run_layout.specs.EventActs.{IsAct, IsValue, Sight, head_at, sight_of}
use Rattle.run_layout.specs.LaidOut.{LaidOutBy}
use Rattle.run_listing.specs.Along.{IsListed}
use Rattle.run_state.specs.declared.machine.Machine.{Machine}
use Rattle.run_state.specs.declared.machine.Open.{Open}
use Rattle.run_state.specs.declared.machine.Stage.{Stage}
use Rattle.run_state.specs.declared.watch.Begun.{Begun as Shown}
use Rattle.run_state.specs.Operands.{Gives, RoomGives}
use Rattle.run_state.specs.Stands.{Holds}
use Rattle.run_answers.specs.Nodes.{IsActOf}
use Rattle.run_answers.specs.Acts.{script_in}
use Rattle.run_answers.specs.Performs.{gives_value}
use Rattle.run_answers.proofs.Nodes.{node_is}
use Rattle.run_answers.specs.Ending.{NotesWay}
use Rattle.run_answers.specs.Picks.{event_at, whole_part}
use Rattle.run_answers.specs.Taking.{Decides, EventStands, IsPast, TakesEvent, after_event, store_after}
use Rattle.code_view.specs.Events.{EventsAreEvaluated, IsListedAt}
use Rattle.code_view.specs.Named.{NamedIsOpen, NamesAreOpen, SlotIsOpen}
use Rattle.run_laws.specs.Open.{aside, IsLawfulCode, IsOpen}
use Rattle.value_facts.specs.Small.{ActsGiveSmall, AreSmall, EndInTime, FillsSmall, HasSmallBytes, IsSmall, NodeFillsSmall}
use Rattle.run_laws.specs.Staying.{MovesOn, OpenStays, moved_on}
use Rattle.run_laws.proofs.Frames.{top_frame}
use Rattle.run_laws.proofs.Given.{Laws, act_is, end_is, first_is, in_listing, part_same, root_is, rooms_is}
use Rattle.run_laws.proofs.Near.{base_small, operands_small}

-- ---- what stays of the machine
abbrev keep_of : (old new : Machine) → Machine
keep_of old new = record old {
  memory = new.memory;
  begun = new.begun;
  strayed = new.strayed;
  values = new.values;
  items = new.items;
  spare = new.spare;
}

kept_by : (old new w : Machine) → new ≡ w → w ≡ keep_of old w → new ≡ keep_of old new
kept_by old new w is keeps = is ∙ keeps ∙ ap (keep_of old) (sym is)

moved_top : {old new : Machine} {s : Stage} (m : MovesOn old s new) → new.top ≡ record old.top { stage = Some (record s { cursor = m.cursor }) }
moved_top m = ap (λ (k : Machine). k.top) m.rest

moved_code : {old new : Machine} {s : Stage} → MovesOn old s new → new.image.code.now ≡ old.image.code.now
moved_code m = ap (λ (k : Machine). k.image.code.now) m.rest

moved_program : {old new : Machine} {s : Stage} → MovesOn old s new → new.program.now ≡ old.program.now
moved_program m = ap (λ (k : Machine). k.program.now) m.rest

-- of the memory and the streams too
abbrev StoreOf : Machine → Store
StoreOf m = store_of m.memory m.streams

past_store : (straight : Bool) (old past : Machine) (s : Stage) (d : Due) → IsPast straight old s d past → StoreOf past ≡ StoreOf old
past_store true old past s d p = ap StoreOf p.5
past_store false old past s d p = ap StoreOf p

past_moves : (straight : Bool) (old past : Machine) (s : Stage) (d : Due) → old.top.stage ≡ Some s → IsPast straight old s d past → MovesOn old s past
past_moves true old past s d stage p = record {
  cursor = suc (s.cursor + p.1.0);
  rest = p.5 ∙ ap (moved_on old s (suc (s.cursor + p.1.0))) (sym p.5);
  begun = λ j b other is. ap (λ (k : Machine). slice_get k.begun.items j) p.5 ∙ is;
  values = let same = ap (λ (k : Machine). length k.values.items) p.5 in omega (arith, same);
}
past_moves false old past s d stage p = record {
  cursor = s.cursor;
  rest = p ∙ ap (λ (z : Option Stage). record old { top = record old.top { stage = z } }) stage ∙ ap (moved_on old s s.cursor) (sym p);
  begun = λ j b other is. ap (λ (k : Machine). slice_get k.begun.items j) p ∙ is;
  values = let same = ap (λ (k : Machine). length k.values.items) p in omega (arith, same);
}

past_count : (straight : Bool) (old past : Machine) (s : Stage) (d : Due) → IsPast straight old s d past
    → length past.values.items ≡ length old.values.items
past_count true old past s d p = ap (λ (k : Machine). length k.values.items) p.5
past_count false old past s d p = ap (λ (k : Machine). length k.values.items) p

-- what changes neither
record Same (old new : Machine) : Type 0 where
  rest : new ≡ keep_of old new
  begun : (j : ℕ) (b : Shown) → j ≢ length old.below.items → slice_get old.begun.items j ≡ Some b → slice_get new.begun.items j ≡ Some b
  values : length old.values.items ≤ length new.values.items

same_by : (old new : Machine) → new ≡ old → Same old new
same_by old new is = record {
  rest = kept_by old new old is refl;
  begun = λ j b other at. ap (λ (k : Machine). slice_get k.begun.items j) is ∙ at;
  values = let same = ap (λ (k : Machine). length k.values.items) is in omega (arith, same);
}

moves_on : (old mid new : Machine) (s : Stage) → MovesOn old s mid → Same mid new → MovesOn old s new
moves_on old mid new s m same = record {
  cursor = m.cursor;
  rest = same.rest ∙ ap (λ (k : Machine). keep_of k new) m.rest;
  begun = λ j b other at. same.begun j b (λ is. other (is ∙ ap (λ (k : Machine). length k.below.items) m.rest)) (m.begun j b other at);
  values = let p = m.values in let q = same.values in omega (arith, p, q);
}

noted_same : (straight : Bool) (old new : Machine) (u : Place) → NotesWay straight old u new → Same old new
noted_same true old new u n = same_by old new n
noted_same false old new u n = record {
  rest = kept_by old new (record old { strayed = new.strayed }) n.rest refl;
  begun = λ j b other at. ap (λ (k : Machine). slice_get k.begun.items j) n.rest ∙ at;
  values = let same = ap (λ (k : Machine). length k.values.items) n.rest in omega (arith, same);
}

noted_store : (straight : Bool) (old new : Machine) (u : Place) → NotesWay straight old u new → StoreOf new ≡ StoreOf old
noted_store true old new u n = ap StoreOf n
noted_store false old new u n = ap StoreOf n.rest

noted_values : (straight : Bool) (old new : Machine) (u : Place) (room : ℕ) (v : Value) → NotesWay straight old u new
    → Holds old.memory old.values.items room v → Holds new.memory new.values.items room v
noted_values true old new u room v n h = subst (λ (k : Machine). Holds k.memory k.values.items room v) (sym n) h
noted_values false old new u room v n h = subst (λ (k : Machine). Holds k.memory k.values.items room v) (sym n.rest) h

-- a choice that is made by an operand that gives a value changes neither
record TestGives (tables : Tables) (m : Machine) (number : ℕ) : Type 0 where
  choice : Choice
  there : slice_get tables.choices.items number ≡ Some choice
  value : Value
  gives : Gives m choice.test value

decides_same : (o : Option ℕ) (old new : Machine) → ((number : ℕ) → o ≡ Some number → TestGives old.image.code.now.tables old number)
    → Decides o old new → Same old new
decides_same None old new test d = same_by old new d
decides_same (Some number) old new test d =
    let t = test number refl in
    let has = d t.choice t.gives.0 t.there t.gives.1 in
    record {
      rest = kept_by old new (record old { begun = new.begun }) has.rest refl;
      begun = has.others;
      values = let same = ap (λ (k : Machine). length k.values.items) has.rest in omega (arith, same);
    }

decides_store : (o : Option ℕ) (old new : Machine) → ((number : ℕ) → o ≡ Some number → TestGives old.image.code.now.tables old number) → Decides o old new
    → StoreOf new ≡ StoreOf old
decides_store None old new test d = ap StoreOf d
decides_store (Some number) old new test d = let t = test number refl in ap StoreOf (d t.choice t.gives.0 t.there t.gives.1).rest

-- the choice at an event is made at its value, by what its node's operand gives
record Test (firsts : List ℕ) (tables : Tables) (x : NodeInfo) (kind : Kind) (number : ℕ) : Type 0 where
  value : kind ≡ Val
  choice : Choice
  there : slice_get tables.choices.items number ≡ Some choice
  test : choice.test ≡ x.operand

test_at : (firsts : List ℕ) (tables : Tables) (nodes : List NodeInfo) (n : ℕ) (x : NodeInfo) (kind : Kind) (number : ℕ)
    → ChoosesAt firsts tables nodes n x kind (Some number) → Test firsts tables x kind number
test_at firsts tables nodes n x Val number h = record { value = refl; choice = h.3; there = h.4; test = h.5.test }
test_at firsts tables nodes n x Eff number h = absurd (cc)
test_at firsts tables nodes n x Body number h = absurd (cc)

-- the act of a node's value gives one
value_gives : (h : Head) (s : Sight) (a : Act) → IsValue h s a → gives_value a ≡ true
value_gives (shape.Load how) s a h = ap gives_value h.2
value_gives (shape.Conv c) s a h = ap gives_value h
value_gives (shape.Un op) s a h = ap gives_value h
value_gives (shape.Bin op kind) s a h = ap gives_value h
value_gives (shape.PtrAdd n subtract) s a h = ap gives_value h
value_gives (shape.PtrDiff n) s a h = ap gives_value h
value_gives (shape.Rel op pointers) s a h = ap gives_value h
value_gives (shape.Eq op) s a h = ap gives_value h
value_gives (shape.Member offset) s a h = ap gives_value h
value_gives (shape.Part offset how) s a h = ap gives_value h
value_gives (shape.Assign first how) s a h = ap gives_value h
value_gives (shape.Update c old) s a h = ap gives_value h.2
value_gives shape.And s a h = ap gives_value h
value_gives shape.Or s a h = ap gives_value h
value_gives shape.Cond s a h = ap gives_value h
value_gives shape.Comma s a h = ap gives_value h
value_gives (shape.Call discarded) s a h = ap gives_value h
value_gives (shape.List named bytes) s a h = ap gives_value h
value_gives (shape.Isolated tree) s a h = ap gives_value h
value_gives _ s a h = ap gives_value h

-- ---- the names that are open
module _ (old new : Machine) (code : new.image.code.now ≡ old.image.code.now) (blocks : new.top.blocks ≡ old.top.blocks) (firsts : List ℕ) (bs : List (ℕ × ℕ))
  where
    slot_moved : (s : Slot) → SlotIsOpen old firsts bs s → SlotIsOpen new firsts bs s
    slot_moved (slot.Auto block decl) h = (
      h.0,
      ap (λ (k : Code). slice_get k.tables.blocks.items (new.top.blocks + block)) code
          ∙ (ap (λ (n : ℕ). slice_get old.image.code.now.tables.blocks.items (n + block)) blocks ∙ h.1),
      h.2,
      h.3,
      h.4,
      h.5,
    )
    slot_moved (slot.Static number) h = tt

    name_moved : (h : Head) → NamedIsOpen old firsts bs h → NamedIsOpen new firsts bs h
    name_moved (shape.Obj named) is = slot_moved named is
    name_moved (shape.List named bytes) is = slot_moved named is
    name_moved _ is = tt

    names_moved : (t : Typed) → NamesAreOpen old firsts bs t → NamesAreOpen new firsts bs t
    names_moved t all =
        All-weaker (λ s. NamedIsOpen old firsts bs s.head) (λ s. NamedIsOpen new firsts bs s.head) (λ s h. name_moved s.head h) (sites t) all

-- ---- what is small stays so
small_with : (e : Begun) (u : Place) (v : Value) → AreSmall e.given → IsSmall v → AreSmall (with_given e u v).given
small_with e u v small own w x is = go (same_place u w) is
  where
    go : (b : Bool) → (if b then Some v else e.given w) ≡ Some x → IsSmall x
    go true h = subst IsSmall (same_Some v x h) own
    go false h = small w x h

abbrev event_with : (number turn : ℕ) → Place → Event
event_with number turn u = record { frame = record { 0 = number }; turn = turn; node = u.node; kind = u.kind }

or_small : (z : Option Value) → ((v : Value) → z ≡ Some v → IsSmall v) → IsSmall (or_nothing z)
or_small None h = tt
or_small (Some v) h = h v refl

operand_small : (world : World) (f : Scene) → EndInTime world.rows → (given : Place → Option Value) (k : ℕ) (h : Model_head) (es : Exprs) (j : ℕ)
    → IsSmall (value_at (values_of world f given k es) j) → IsSmall (value_at (operand_values world f given k h es) j)
operand_small world f ends given k (model.Listed named fillings) es zero small = base_small world.rows ends (name_of world f named)
operand_small world f ends given k (model.Listed named fillings) es (suc j) small = tt
operand_small world f ends given k h es j small = small

past_is : (straight : Bool) (old past : Machine) (s : Stage) (d : Due) → IsPast straight old s d past → (z : Option Stage) × (past ≡ aside old z old.items)
past_is true old past s d p = (Some (record s { cursor = suc (s.cursor + p.1.0) }), p.5)
past_is false old past s d p = (old.top.stage, p)

module _ (gives : RoomGives) (evaluated : EventsAreEvaluated) (world : World) (meaning : Option ℕ → Meaning) (old new : Machine) (st : State) (e : Begun)
    (s : Stage) (laid : Laid) (firsts : List ℕ) (nodes : List NodeInfo) (d : Due) (v : Value) (o : IsOpen world meaning old st e s laid firsts nodes)
    (t : TakesEvent world meaning old st e s laid d v new) where
  abbrev listing : List Listed
  listing = old.image.code.now.listing.items

  is_listed : IsListedAt listing laid d
  is_listed = record { at = t.event.at; first = t.event.first; end = t.event.end; entry = t.event.entry }

  -- the event is listed
  listed_there : IsListed (whole_part old s) d
  listed_there =
      let part =
      part_same listing s.first laid.first s.end laid.end (first_is world meaning old st e s laid firsts nodes o)
      (end_is world meaning old st e s laid firsts nodes o) in
      subst (λ es. IsListed es d) (sym part) (in_listing listing laid d is_listed)

  entry : (x : NodeInfo) × (slice_get nodes d.place.node ≡ Some x) × ChoosesAt firsts old.image.code.now.tables nodes d.place.node x d.place.kind d.choice
  entry = let it = o.lays.each is_listed.at (listed.Event d) is_listed.first is_listed.end is_listed.entry in (it.0, it.1, it.3)

  gives_own : d.place.kind ≡ Val → gives_value d.act ≡ true
  gives_own is =
      let it = o.lays.each is_listed.at (listed.Event d) is_listed.first is_listed.end is_listed.entry in
      let x = it.0 in
      let h = head_at (out-Typed x.tree.now).node in
      let seen = sight_of firsts (length nodes) d.place.node x in
      value_gives h seen d.act (subst (λ (k : Kind). IsAct firsts old.image.code.now.tables x.initializer h seen k d.act) is it.2.does)

  passes : MovesOn old s t.taken.past
  passes = past_moves s.straight old t.taken.past s d t.stage t.taken.passes

  base_is : t.taken.past.top.base ≡ old.top.base
  base_is = ap (λ (z : Open). z.base) (moved_top passes)

  done_moves : MovesOn old s t.taken.done
  done_moves =
      moves_on old t.taken.past t.taken.done s passes (record {
        rest = kept_by t.taken.past t.taken.done (record t.taken.past {
          memory = t.taken.done.memory;
          values = t.taken.done.values;
          items = t.taken.done.items;
          spare = t.taken.done.spare;
        }) t.taken.changes.rest refl;
        begun = λ j b other at. ap (λ (k : Machine). slice_get k.begun.items j) t.taken.changes.rest ∙ at;
        values = t.taken.changes.count;
      })

  noted_moves : MovesOn old s t.taken.noted
  noted_moves = moves_on old t.taken.done t.taken.noted s done_moves (noted_same s.straight t.taken.done t.taken.noted d.place t.taken.notes)

  room_there : t.taken.past.top.base + d.place.node < length t.taken.past.values.items
  room_there =
      let base = base_is in
      let same : length t.taken.past.values.items ≡ length old.values.items = past_count s.straight old t.taken.past s d t.taken.passes in
      let node = slice_get_within nodes d.place.node entry.0 entry.1 in
      let own = o.lays.rooms.own in
      let is = rooms_is world meaning old st e s laid firsts nodes o in
      let rooms = o.stood.rooms in
      omega (arith, base, same, node, own, is, rooms)

  value_held : d.place.kind ≡ Val → Holds t.taken.noted.memory t.taken.noted.values.items (t.taken.noted.top.base + d.place.node) v
  value_held is =
      let held = t.taken.does.value (gives_own is) room_there in
      let base : t.taken.past.top.base ≡ t.taken.noted.top.base = base_is ∙ sym (ap (λ (z : Open). z.base) (moved_top noted_moves)) in
      subst (λ (n : ℕ). Holds t.taken.noted.memory t.taken.noted.values.items (n + d.place.node) v) base
      (noted_values s.straight t.taken.done t.taken.noted d.place (t.taken.past.top.base + d.place.node) v t.taken.notes held)

  tested : (number : ℕ) → d.choice ≡ Some number → TestGives t.taken.noted.image.code.now.tables t.taken.noted number
  tested number is =
      let x = entry.0 in
      let chooses = subst (ChoosesAt firsts old.image.code.now.tables nodes d.place.node x d.place.kind) is entry.2 in
      let test = test_at firsts old.image.code.now.tables nodes d.place.node x d.place.kind number chooses in
      let operand = test.test ∙ (o.lays.numbered.each d.place.node x entry.1).operand in
      let quiet = evaluated old.image.code.now firsts nodes s.expression laid d x o.stood.stands.listed o.at o.lays is_listed entry.1 in
      record {
        choice = test.choice;
        there = ap (λ (k : Code). slice_get k.tables.choices.items number) (moved_code noted_moves) ∙ test.there;
        value = v;
        gives = subst (λ (z : Operand). Gives t.taken.noted z v) (sym operand)
            (gives t.taken.noted firsts x.tree.now d.place.node v quiet (value_held test.value));
      }

  pub moves : MovesOn old s new
  moves = moves_on old t.taken.noted new s noted_moves (decides_same d.choice t.taken.noted new tested t.taken.decides)

  abbrev after : Stage
  after = record s { cursor = moves.cursor }

  -- ---- what it gives is small
  x_in : (x : NodeInfo) × (slice_get nodes d.place.node ≡ Some x)
  x_in = (entry.0, entry.1)

  abbrev its_tree : Typed
  its_tree = x_in.0.tree.now

  abbrev its_head : Model_head
  its_head = head_in (node_in its_tree) (own_type its_tree)

  abbrev its_operands : Exprs
  its_operands = exprs_of (operands_in its_tree)

  abbrev its_values : List Value
  its_values = operand_values world st.top.scene e.given (suc d.place.node) its_head its_operands

  node_there : at_node 0 e.root d.place.node ≡ Some (expr its_head (own_type its_tree) (out-Typed its_tree).line its_operands)
  node_there =
      ap (λ (z : Expr). at_node 0 z d.place.node) (root_is world meaning old st e s laid firsts nodes o)
      ∙ (node_is firsts laid.root.now nodes d.place.node x_in.0 o.lays.numbered x_in.1 ∙ ap Some (expr_at its_tree))

  fills : FillsSmall its_head
  fills = subst NodeFillsSmall node_there (o.lists d.place.node)

  values_in : (j : ℕ) → IsSmall (value_at its_values j)
  values_in j =
      operand_small world st.top.scene o.ends e.given (suc d.place.node) its_head its_operands j
      (operands_small old.program.now world st.top.scene e.given firsts laid.root.now nodes d.place.node (suc d.place.node) x_in.0
      (o.code.trees s.expression laid o.at) o.lays.numbered x_in.1 o.ends o.small j)

  abbrev own : Value
  own = or_nothing (e.given (place d.place.node (own_kind d.place.kind)))

  own_small : IsSmall own
  own_small = or_small (e.given (place d.place.node (own_kind d.place.kind))) (o.small (place d.place.node (own_kind d.place.kind)))

  abbrev does : Option Expr → Script Value
  does z = event_act world st.top.scene e d.place z

  -- what the event does by the definitions
  abbrev its_act : Script Value
  its_act = act_of world.rows (event_of world st.top.scene d.place) its_head (target (first_type its_operands)) d.place.kind its_values own

  does_act : does (at_node 0 e.root d.place.node) ≡ its_act
  does_act =
      ap does node_there
      ∙ ap (λ (b : Bool). if b then call_act world (event_of world st.top.scene d.place) its_head its_operands
      (values_of world st.top.scene e.given (suc d.place.node) its_operands) else its_act) t.plain

  -- which the act in the code does
  seen : event_at t.taken.past d.place ≡ event_of world st.top.scene d.place
  seen =
      let frame = top_frame world meaning old st o.stood.stands in
      let number : t.taken.past.top.frame.0 ≡ world.number st.top.scene.path = ap (λ (z : Open). z.frame.0) (moved_top passes) ∙ frame.number in
      let turn : t.taken.past.top.turn ≡ st.top.scene.turn = ap (λ (z : Open). z.turn) (moved_top passes) ∙ frame.turn in
      ap (λ (n : ℕ). event_with n t.taken.past.top.turn d.place) number
      ∙ ap (λ (n : ℕ). event_with (world.number st.top.scene.path) n d.place) turn

  ran : IsActOf world t.taken.past st.top.scene e d
      → run world.rows (does (at_node 0 e.root d.place.node)) st.store ≡ Acts_done v t.taken.done.items (StoreOf t.taken.done)
  ran is =
      let past = t.taken.past in
      let script : script_in world.rows past (event_at past d.place) d.act ≡ does (at_node 0 e.root d.place.node) =
      ap (λ (w : Event). script_in world.rows past w d.act) seen ∙ is.same in
      let store : StoreOf past ≡ st.store = past_store s.straight old past s d t.taken.passes ∙ sym o.stood.stands.memory.store in
      ap (λ (p : Script Value). run world.rows p st.store) (sym script)
      ∙ (ap (run world.rows (script_in world.rows past (event_at past d.place) d.act)) (sym store) ∙ t.taken.does.did)

  same_store : StoreOf t.taken.done ≡ store_after new
  same_store =
      sym (decides_store d.choice t.taken.noted new tested t.taken.decides ∙ noted_store s.straight t.taken.done t.taken.noted d.place t.taken.notes)

  gives_small : ActsGiveSmall → IsActOf world t.taken.past st.top.scene e d → IsSmall v × HasSmallBytes (store_after new)
  gives_small acts is =
      let small =
      acts world.rows (event_of world st.top.scene d.place) its_head (target (first_type its_operands)) d.place.kind its_values own st.store
      (StoreOf t.taken.done) v t.taken.done.items o.ends t.plain fills values_in own_small o.bytes
      (ap (λ (p : Script Value). run world.rows p st.store) (sym does_act) ∙ ran is) in
      (small.0, subst HasSmallBytes same_store small.1)

  -- in the machine whose cursor has passed it
  past_aside : (z : Option Stage) × (t.taken.past ≡ aside old z old.items)
  past_aside = past_is s.straight old t.taken.past s d t.taken.passes

  pub stays : EventStands → IsSmall v × HasSmallBytes (store_after new)
      → IsOpen world meaning new (after_event world st e d.place v new.items (store_after new)) (with_given e d.place v) after laid firsts nodes
  stays stands small = record {
    stood = stands world meaning old new st e s laid d v t;
    stage = ap (λ (z : Open). z.stage) (moved_top moves);
    code = subst (λ (p : Program). IsLawfulCode p new.image.code.now) (sym (moved_program moves))
        (subst (λ (k : Code). IsLawfulCode old.program.now k) (sym (moved_code moves)) o.code);
    at = ap (λ (k : Code). slice_get k.expressions.items s.expression) (moved_code moves) ∙ o.at;
    lays = subst (λ (k : Code). LaidOutBy firsts nodes k.tables k.listing.items laid) (sym (moved_code moves)) o.lays;
    names = names_moved old new (moved_code moves) (ap (λ (z : Open). z.blocks) (moved_top moves)) firsts st.top.scene.blocks laid.root.now o.names;
    ends = o.ends;
    small = small_with e d.place v o.small small.0;
    bytes = small.1;
    lists = o.lists;
  }

module _ (gives : RoomGives) (laws : Laws) (acts : ActsGiveSmall) (stands : EventStands) where
  pub open_stays : OpenStays
  open_stays world meaning old new st e s laid firsts nodes d v o t =
      let evaluated = laws.evaluated in
      let past = past_aside gives evaluated world meaning old new st e s laid firsts nodes d v o t in
      let listed = listed_there gives evaluated world meaning old new st e s laid firsts nodes d v o t in
      let is = subst (λ (k : Machine). IsActOf world k st.top.scene e d) (sym past.1)
      (act_is laws world meaning old st e s laid firsts nodes o past.0 old.items d listed t.may t.plain) in
      let small = gives_small gives evaluated world meaning old new st e s laid firsts nodes d v o t acts is in (
        moves gives evaluated world meaning old new st e s laid firsts nodes d v o t,
        stays gives evaluated world meaning old new st e s laid firsts nodes d v o t stands small,
      )

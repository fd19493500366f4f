-- Behind the body of a call of a library function the machine stands for the definitions' next state.
use Rattle.std.proofs.Common.{
  ◌≡◌,
  ◌≢◌,
  ℕ,
  suc,
  ◌+◌,
  ◌-◌,
  ◌<◌,
  ◌≤◌,
  ◌^◌,
  ◌==◌,
  Bool,
  true,
  false,
  refl,
  sym,
  ap,
  ◌∙◌,
  subst,
  arith,
  List,
  [],
  ◌∷◌,
  length,
  map,
  reverse,
  drop,
  Option,
  Some,
  None,
  slice_get,
}
use Rattle.std.specs.Prelude.{if◌then◌else◌}
use Rattle.std.proofs.lemmas.Bool.{eqb-true}
use Rattle.std.proofs.lemmas.List.{length-reverse}
use Rattle.std.proofs.lemmas.Option.{same_Some}
use Rattle.ub_base.specs.declared.clause.Kind.TheVariants.{Val, Body}
use Rattle.ub_base.specs.declared.names.Item.{Item}
use Rattle.c_types.specs.declared.library.LibFunc.{LibFunc}
use Rattle.c_types.specs.Types.{CType}
use Rattle.c_typed.specs.declared.tree.Change.{Change}
use Rattle.c_typed.specs.declared.tree.Place.{Place}
use Rattle.c_typed.specs.Order.{is_val, place}
use Rattle.c_typed.specs.Tree.{Tree, size}
use Rattle.mem_objects.specs.declared.value.Value.{Value as Kept_value}
use Rattle.mem_objects.specs.Keeps.{Keeps, RowsStay}
use Rattle.mem_objects.specs.Memory.{store_of}
use Rattle.libc_spec.specs.Library.{LibValue}
use Rattle.c_model.specs.Completions.{completed_by}
use Rattle.c_model.specs.ChoiceLaws.{IsNext, StaysClosed}
use Rattle.c_model.specs.Libraries.{result}
use Rattle.c_model.specs.Nodes.{amount, new_value}
use Rattle.c_model.specs.Program.{Call, Expr, expr, Exprs, tree_of}
use Rattle.c_model.specs.Runs.{State}
use Rattle.c_model.specs.Steps.{Begun, Local, Scene, at_node, is_done, taken_by, values_of, with_given}
use Rattle.c_model.specs.Values.{Value}
use Rattle.c_model.specs.World.{World}
use Rattle.program_view.specs.Laws.{TreesAreKept}
use Rattle.seq_order.specs.Marked.{taken_in}
use Rattle.run_control.specs.View.{Meaning}
use Rattle.run_layout.specs.declared.steps.Due.{Due}
use Rattle.run_layout.specs.declared.steps.Expression.{Expression}
use Rattle.run_layout.specs.declared.steps.Listed.{Listed}
use Rattle.run_layout.specs.declared.steps.Listed.TheVariants as listed
use Rattle.run_layout.specs.Chosen.{IsKept}
use Rattle.run_layout.specs.Keeping.{KeepsAtEvent}
use Rattle.run_layout.specs.LaidOut.{LaidOutBy}
use Rattle.run_layout.specs.OfTrees.{IsListingOf}
use Rattle.run_listing.specs.Along.{events_of, part_of}
use Rattle.run_listing.specs.Cursor.{IsListed as IsListedIn, StandsBehind, StandsStraight}
use Rattle.run_state.specs.declared.machine.Machine.{Machine}
use Rattle.run_state.specs.declared.machine.Open.{Open}
use Rattle.run_state.specs.declared.machine.Stage.{Stage}
use Rattle.run_state.specs.declared.watch.Begun.{Begun as Shown}
use Rattle.run_state.specs.Operands.{RoomGives}
use Rattle.run_state.specs.Stands.{
  Holds,
  HoldsAll,
  IsResultOf,
  IsUpdate,
  StandFrames,
  Stands,
  StandsDone,
  StandsExpression,
  StandsFrame,
  StandsValues,
  frames_of,
  result_seen,
}
use Rattle.run_answers.specs.LibraryCalls.{ChangesByCall, HasCalled}
use Rattle.run_answers.proofs.Stays.{holds_stay}
use Rattle.completion_laws.specs.Listing.{CompletesListed, completed_of}
use Rattle.run_answers.specs.declared.pick.Completed.{Completed}
use Rattle.run_answers.specs.Completing.{CompletesNoted, completed_seen}
use Rattle.run_answers.specs.Ending.{IsUpdateRoom, NotesWay}
use Rattle.run_answers.specs.Library.{LibraryStands, TakesCall}
use Rattle.run_answers.specs.LibraryCompletes.{LibraryCompletes}
use Rattle.run_answers.specs.Picks.{at_cursor, event_at, top_of, whole_part}
use Rattle.run_answers.specs.Taking.{Decides, HasRooms, IsPast, StandsOpen, after_event, store_after}
use Rattle.run_answers.proofs.Behind.{comes_next, cursor_in, get_drop, get_take, open_at}
use Rattle.run_answers.proofs.Deciding.{ChosenThen, NotedThen, Passed, chosen_then, done_then, noted_then, passed}
use Rattle.run_answers.proofs.Given.{given_other, given_own, given_value, values_given}
use Rattle.run_answers.proofs.Giving.{node_within}
use Rattle.run_answers.proofs.Laying.{RoomsLaid, rooms_laid}
use Rattle.run_answers.proofs.LibraryFree.{free_so}
use Rattle.run_answers.proofs.Opened.{Opened, opened, top_frame}
use Rattle.run_answers.proofs.Standing.{frames_under, locals_on, moved_on, part_same, result_none, some_there, tables_on}
use Rattle.run_answers.proofs.Started.{place_is}
use Rattle.run_answers.proofs.Still.{above_same, depth_same, frames_aside, tables_aside}

-- ---- the room of an update is none of a call's
none_some : {A : Type 0} (o : Option A) (x : A) → o ≡ None → o ≡ Some x → ⊥
none_some o x none some = cc

no_update : (o : Option Expr) (discarded : Bool) (ty : CType) (line : ℕ) (os : Exprs) (c : Change) (old : Bool) (es : Exprs)
    → o ≡ Some (expr (Call discarded) ty line os) → IsUpdate o c old es → ⊥
no_update None discarded ty line os c old es is update = update
no_update (Some (expr h t l xs)) discarded ty line os c old es is update = cc (is, update.0)

-- ---- what stands in the rooms of the full expression then
module _ (world : World) (m n : Machine) (t : Open) (keeps : Keeps m.memory n.memory) (f : Scene) (e : Begun) (node : ℕ) (v : Value)
    (base first end : ℕ) (others : (j : ℕ) → j ≢ base + node → slice_get n.values.items j ≡ slice_get m.values.items j)
    (value : Holds n.memory n.values.items (base + node) v) (free : e.given (place node Val) ≡ None)
    (apart : (room : ℕ) → IsUpdateRoom (part_of m.image.code.now.listing.items first end) e room → room ≢ node) where
  elsewhere : (k : ℕ) (w : Value) → k ≢ node → Holds m.memory m.values.items (base + k) w → Holds n.memory n.values.items (base + k) w
  elsewhere k w ne h =
      holds_stay m.memory n.memory m.values.items n.values.items (base + k) w keeps (others (base + k) (λ eq. ne (omega (arith, eq)))) h

  not_so : (a b : ℕ) → (a == b) ≡ false → a ≢ b
  not_so a b differs = λ same. grind (arith, differs, same)

  body_by : (k : ℕ) (w : Value) (b : Bool) → (node == k) ≡ b → (with_given e (place node Body) v).given (place k Body) ≡ Some w
      → (e.given (place k Body) ≡ Some w → Holds m.memory m.values.items (base + k) w) → Holds n.memory n.values.items (base + k) w
  body_by k w true is given before =
      subst (λ (x : Value). Holds n.memory n.values.items (base + k) x) (same_Some v w (sym (given_own e node k v is) ∙ given))
      (subst (λ (j : ℕ). Holds n.memory n.values.items (base + j) v) (eqb-true node k is) value)
  body_by k w false is given before =
      let ne : node ≢ k = not_so node k is in
      elsewhere k w (λ eq. ne (sym eq)) (before (sym (given_other e node k v ne) ∙ given))

  values_after : StandsValues world m base first end f e → StandsValues world (moved_on m n t) base first end f (with_given e (place node Body) v)
  values_after s = record {
    val = λ k w given.
        let before = sym (given_value e node k v) ∙ given in
        elsewhere k w (λ same. none_some (e.given (place k Val)) w (ap (λ (j : ℕ). e.given (place j Val)) same ∙ free) before) (s.val k w before);
    body = λ k w none given.
        body_by k w (node == k) refl given (λ before. s.body k w (sym (given_value e node k v) ∙ none) before);
    update = λ i due store room target c old es w there act kind is given.
        subst (λ (vs : List Value). Holds n.memory n.values.items (base + room) (new_value c old w (amount old vs)))
        (sym (values_given world f e node v (suc due.place.node) es))
        (elsewhere room (new_value c old w (amount old (values_of world f e.given (suc due.place.node) es))) (apart room (record {
          due = due;
          store = store;
          target = target;
          change = c;
          old = old;
          operands = es;
          listed = (i, there);
          act = act;
          effect = kind;
          update = is;
        })) (s.update i due store room target c old es w there act kind is (sym (given_value e node due.place.node v) ∙ given)));
  }

-- a body is no value
not_val : (u : Place) → u.kind ≡ Body → is_val u.kind ≡ true → ⊥
not_val u body val = cc (ap is_val body, val)

module _ (trees : TreesAreKept) (keeps_at : KeepsAtEvent) (gives : RoomGives) (behind : StandsBehind) (closes : StaysClosed) (world : World)
    (meaning : Option ℕ → Meaning) (old new : Machine) (st : State) (e : Begun) (s : Stage) (laid : Expression) (d : Due) (g : LibFunc) (ts : List CType)
    (hs : List Kept_value) (w : LibValue) (is : List Item) (t : TakesCall world meaning old st e s laid d g ts hs w new) where
  abbrev v : Value
  v = result w

  abbrev after : Begun
  after = with_given e d.place v

  abbrev height : ℕ
  height = length old.below.items

  frame : StandsFrame world (meaning old.top.function) old height old.top old.work.now old.left st.top None
  frame = top_frame world meaning old st t.stood.stands

  x : StandsExpression world (meaning old.top.function) old height old.top s st.top.scene e None
  x = open_at world (meaning old.top.function) old height old.top old.top.stage st.top.scene st.top.begun s e frame.begun t.stage t.stood.begun

  look : Opened world old s x.shown st.top e
  look = opened trees world (meaning old.top.function) old s x.shown st.top e t.stood.stands.listed x.shows x

  abbrev listing : List Listed
  listing = old.image.code.now.listing.items

  parts : whole_part old s ≡ part_of listing x.laid.first x.laid.end
  parts = part_same listing s.first x.laid.first s.end x.laid.end x.first x.end

  same_laid : laid ≡ x.laid
  same_laid = same_Some laid x.laid (sym t.at ∙ x.at)

  few : size (tree_of e.root) < 2 ^ 32
  few = subst (λ (r : Tree). size r < 2 ^ 32) (sym look.tree) look.few

  in_rooms : RoomsLaid (part_of listing x.laid.first x.laid.end) old.top.rooms e
  in_rooms =
      rooms_laid old.image.code.now.tables listing x.laid t.event.firsts t.event.nodes
      (subst (λ (l : Expression). LaidOutBy t.event.firsts t.event.nodes old.image.code.now.tables listing l) same_laid t.event.lays) e x.root few old.top.rooms
      (subst (λ (es : List Listed). HasRooms es old.top.rooms e) parts t.rooms)

  -- the cursor has passed it
  way : Passed behind world old s st.top.scene e d v height x.shown x.shows look.listed t.stage s.straight t.called.past
  way = passed behind world old s st.top.scene e d v height x.shown x.shows look.listed t.stage s.straight t.called.past t.called.passes look.done

  abbrev there : Open
  there = record old.top { stage = Some (record s { cursor = way.cursor }) }

  abbrev past : Machine
  past = at_cursor old s way.cursor

  -- the call is done
  abbrev done : Machine
  done = t.called.done

  changes : ChangesByCall past done d.place.node
  changes = subst (λ (k : Machine). ChangesByCall k done d.place.node) way.is t.called.changes

  did : HasCalled past done g (event_at past d.place) ts hs w
  did = subst (λ (k : Machine). HasCalled k done g (event_at k d.place) ts hs w) way.is t.called.does

  abbrev called_on : Machine
  called_on = record past { memory = done.memory; streams = done.streams; values = done.values; items = done.items }

  -- it was noted
  notes : NotesWay s.straight called_on d.place t.called.noted
  notes = subst (λ (k : Machine). NotesWay s.straight k d.place t.called.noted) changes.rest t.called.notes

  noting : NotedThen e d.place v s.straight height called_on t.called.noted
  noting = noted_then world st.top.scene e d.place v s.straight old called_on t.called.noted s.first s.cursor s.end notes look.done refl

  abbrev noted : Machine
  noted = record called_on { strayed = t.called.noted.strayed }

  decides : Decides d.choice noted new
  decides = subst (λ (k : Machine). Decides d.choice k new) noting.rest t.called.decides

  due_now : IsNext world st.top.scene e d.place
  due_now = comes_next world st.top e d.place t.may

  node_here : d.place.node < size (tree_of e.root)
  node_here = node_within (taken_by world st.top.scene e) (tree_of e.root) d.place t.may.ready.due

  room_there : old.top.base + d.place.node < length old.values.items
  room_there = (let n = in_rooms.nodes in let r = t.stood.rooms in omega (arith, n, r, node_here))

  -- a body chooses no operand
  chosen : ChosenThen world st.top.scene after noted new x.shown
  chosen = chosen_then keeps_at gives world st.top.scene laid e d v noted new x.shown t.event (whole_part old s) look.listed.0 (t.stood.chosen x.shown x.shows)
      t.may.ready.due due_now.left x.shows (λ val. absurd (not_val d.place t.body.kind val)) decides

  -- so it is the machine that moved on, with other streams
  abbrev end : Machine
  end = record done { begun = new.begun; strayed = t.called.noted.strayed; spare = old.spare }

  abbrev quiet : Machine
  quiet = moved_on old end there

  abbrev moved : Machine
  moved = record quiet { streams = done.streams }

  moves : new ≡ moved
  moves = chosen.rest

  free : e.given (place d.place.node Val) ≡ None
  free =
      free_so world st.top.scene e d.place.node t.stood.reached
      (subst (λ (u : Place). IsNext world st.top.scene e u) (place_is d.place Body t.body.kind) due_now)

  -- ---- what stays of the values
  low : (j : ℕ) → j < old.top.base → slice_get done.values.items j ≡ slice_get old.values.items j
  low j lt = changes.others j (λ eq. omega (arith, lt, eq))

  apart : (room : ℕ) → IsUpdateRoom (part_of listing x.laid.first x.laid.end) e room → room ≢ d.place.node
  apart room r same = by r.old refl
    where
      by : (b : Bool) → r.old ≡ b → ⊥
      by true old =
          let le = in_rooms.behind room r old in
          omega (arith, le, node_here, same)
      by false new =
          let number : d.place.node ≡ r.due.place.node = sym same ∙ in_rooms.own room r new in
          no_update (at_node 0 e.root r.due.place.node) t.body.discarded t.body.ty t.body.line t.body.operands r.change r.old r.operands
          (ap (at_node 0 e.root) (sym number) ∙ t.body.node) r.update

  values : StandsValues world quiet old.top.base x.laid.first x.laid.end st.top.scene after
  values =
      subst (λ (u : Place). StandsValues world quiet old.top.base x.laid.first x.laid.end st.top.scene (with_given e u v))
      (sym (place_is d.place Body t.body.kind))
      (values_after world old end there did.kept st.top.scene e d.place.node v old.top.base x.laid.first x.laid.end changes.others (did.value room_there)
      free apart x.values)

  -- ---- what is done
  stands_done : StandsDone s.straight world quiet height x.laid.first way.cursor x.laid.end st.top.scene after None
  stands_done = done_then world quiet s.straight height x.laid.first way.cursor x.laid.end st.top.scene after
      (λ h. subst (λ (n : ℕ). StandsStraight world st.top.scene listing n way.cursor x.laid.end after None) x.first
      (subst (λ (n : ℕ). StandsStraight world st.top.scene listing s.first way.cursor n after None) x.end (way.stands h))) noting.strays

  expression : StandsExpression world (meaning old.top.function) quiet height there (record s { cursor = way.cursor }) st.top.scene after None
  expression = record {
    laid = x.laid;
    at = x.at;
    root = x.root;
    first = x.first;
    end = x.end;
    value = x.value;
    rooms = x.rooms;
    what = x.what;
    shown = record x.shown { taken = chosen.choices };
    shows = chosen.shows;
    frame = x.frame;
    turn = x.turn;
    tree = x.tree;
    tree_root = x.tree_root;
    taken = λ n due. chosen.kept.chosen n ∙ ap (λ (b : Bool). if b then taken_by world st.top.scene after n else None) due;
    done = stands_done;
    values = values;
  }

  abbrev then_frame : Local
  then_frame = record st.top { begun = Some after }

  abbrev then_state : State
  then_state = after_event world st e d.place v is (store_of done.memory done.streams)

  top_stands : StandsFrame world (meaning old.top.function) quiet height there old.work.now old.left then_frame None
  top_stands = record {
    number = frame.number;
    turn = frame.turn;
    function = frame.function;
    arguments = subst (λ (vs : List Value). HoldsAll done.memory done.values.items old.top.base vs) (sym t.stood.arguments) tt;
    locals = locals_on world old end there did.kept old.top st.top.scene st.top.scene.blocks frame.locals;
    result = frame.result ∙ ap (result_seen old.memory old.top.function) t.stood.result ∙ result_none old.memory done.memory old.top.function
        ∙ ap (result_seen done.memory old.top.function) (sym t.stood.result);
    control = record { ready = frame.control.ready; behind = λ h. frame.control.behind (some_there st.top.begun e t.stood.begun) };
    begun = expression;
  }

  frames : StandFrames world meaning quiet old.left (there ∷ reverse old.below.items) (old.work.now ∷ old.work.below) (frames_of then_state)
  frames = (
    subst (λ (n : ℕ). StandsFrame world (meaning old.top.function) quiet n there old.work.now old.left then_frame None)
        (sym (length-reverse old.below.items)) top_stands,
    above_same old.top there st.top then_frame (reverse old.below.items) (map (λ h. (h.0, Some h.1)) st.held)
        (record { base = refl; node = refl; function = refl; locals = refl; above = refl; first_block = refl })
        (record { path = refl; home = refl; blocks = refl }) t.stood.stands.frames.1,
    frames_under world old end there did.kept old.top.base height low chosen.others (λ j other ne at. noting.others j ne ∙ at) meaning old.top st.top
        (reverse old.below.items)
        old.work.below st.held (let n = length-reverse old.below.items in omega (arith, n)) (omega arith) t.stood.stands.frames.1 t.stood.below
        t.stood.stands.frames.2,
  )

  stands : Stands world meaning moved then_state
  stands = record {
    program = t.stood.stands.program;
    code = t.stood.stands.code;
    listed = t.stood.stands.listed;
    memory = record {
      store = refl;
      sound = did.kept.sound t.stood.stands.memory.sound;
      tagged = did.kept.tagged t.stood.stands.memory.tagged;
      bare = did.kept.bare t.stood.stands.memory.bare;
      high = did.kept.high t.stood.stands.memory.high;
      rows = subst (λ (k : Machine). RowsStay k.memory.rows world.rows) moves t.called.rows.rows;
    };
    tables = tables_aside quiet moved (tables_on old end there did.kept t.constants t.stood.stands.tables);
    frames = frames_aside world meaning quiet moved old.left (there ∷ reverse old.below.items) (old.work.now ∷ old.work.below) (frames_of then_state) frames;
    result = subst (IsResultOf done.memory) (sym t.stood.result) tt;
    depth = t.stood.stands.depth ∙ sym (depth_same st.top then_frame st.held refl);
  }

  same_choices : (b : Shown) → top_of moved ≡ Some b → IsKept world st.top.scene after (taken_in b.taken)
  same_choices b at =
      subst (λ (z : Shown). IsKept world st.top.scene after (taken_in z.taken))
      (same_Some (record x.shown { taken = chosen.choices }) b (sym chosen.shows ∙ at)) chosen.kept

  stands_open : StandsOpen world meaning moved then_state after
  stands_open = record {
    stands = stands;
    begun = refl;
    chosen = same_choices;
    reached = closes world st.top.scene e d.place v due_now t.stood.reached;
    arguments = t.stood.arguments;
    result = t.stood.result;
    rooms = (let r = t.stood.rooms in let c = changes.count in omega (arith, r, c));
    below = t.stood.below;
  }

  pub library_stands_so : StandsOpen world meaning new (after_event world st e d.place v is (store_after new)) after
  library_stands_so =
      subst (λ (k : Machine). StandsOpen world meaning k (after_event world st e d.place v is (store_after k)) after) (sym moves) stands_open

  -- ---- what it completes, along the canonical way
  module _ (law : CompletesListed) (straight : s.straight ≡ true) where
    along : IsPast true old s d t.called.past
    along = subst (λ (b : Bool). IsPast b old s d t.called.past) straight t.called.passes

    abbrev position : ℕ
    position = s.cursor + along.1.0

    cursor_is : way.cursor ≡ suc position
    cursor_is = ap (λ (k : Machine). cursor_in k.top.stage) (sym way.is ∙ along.5)

    here : slice_get listing position ≡ Some (listed.Event d)
    here =
        sym (get_drop listing s.cursor along.1.0) ∙ (get_take (s.end - s.cursor) (drop s.cursor listing) along.1.0 (listed.Event along.1.1.now) along.4.0
        ∙ ap (λ (z : Due). Some (listed.Event z)) along.3)

    first_low : x.laid.first ≤ position
    first_low =
        let stood : StandsStraight world st.top.scene listing s.first s.cursor s.end e None =
        subst (λ (b : Bool). StandsDone b world old height s.first s.cursor s.end st.top.scene e None) straight look.done in
        let first = x.first in
        let from = stood.order.0 in
        omega (arith, first, from)

    stands_after : StandsStraight world st.top.scene listing x.laid.first (suc position) x.laid.end after None
    stands_after =
        subst (λ (n : ℕ). StandsStraight world st.top.scene listing x.laid.first n x.laid.end after None) cursor_is
        (subst (λ (n : ℕ). StandsStraight world st.top.scene listing n way.cursor x.laid.end after None) x.first
        (subst (λ (n : ℕ). StandsStraight world st.top.scene listing s.first way.cursor n after None) x.end (way.stands straight)))

    in_list : IsListedIn world st.top.scene listing x.laid.first x.laid.end after (taken_in chosen.choices)
    in_list = (
      subst (λ (es : List Listed). IsListingOf es (tree_of e.root)) parts look.listed.0,
      λ n due. chosen.kept.chosen n ∙ ap (λ (b : Bool). if b then taken_by world st.top.scene after n else None) due,
    )

    by_law : completed_by (tree_of e.root) (taken_by world st.top.scene after) (is_done after) d.place.node
        ≡ completed_of d (events_of (taken_in chosen.choices) (part_of listing (suc position) x.laid.end))
    by_law = law world st.top.scene listing t.event.firsts t.event.nodes old.image.code.now.tables x.laid position after (taken_in chosen.choices) d
        (subst (λ (l : Expression). LaidOutBy t.event.firsts t.event.nodes old.image.code.now.tables listing l) same_laid t.event.lays)
        (sym (ap tree_of x.root ∙ trees x.laid.root.now)) stands_after in_list first_low here

    pub completes_so : (c : Completed) → CompletesNoted d new c
        → completed_seen c ≡ completed_by (tree_of e.root) (taken_by world st.top.scene after) (is_done after) d.place.node
    completes_so c noted_so =
        noted_so (record s { cursor = way.cursor }) (record x.shown { taken = chosen.choices }) (ap (λ (k : Machine). k.top.stage) moves)
        (ap top_of moves ∙ chosen.shows)
        ∙ (ap (λ (k : Machine). completed_of d (events_of (taken_in chosen.choices) (part_of k.image.code.now.listing.items way.cursor s.end))) moves
        ∙ (ap (λ (n : ℕ). completed_of d (events_of (taken_in chosen.choices) (part_of listing n s.end))) cursor_is
        ∙ (ap (λ (n : ℕ). completed_of d (events_of (taken_in chosen.choices) (part_of listing (suc position) n))) x.end ∙ sym by_law)))

pub library_stands : TreesAreKept → KeepsAtEvent → RoomGives → StandsBehind → StaysClosed → LibraryStands
library_stands trees keeps_at gives behind closes world meaning old new st e s laid d f ts hs w is t =
    library_stands_so trees keeps_at gives behind closes world meaning old new st e s laid d f ts hs w is t

pub library_completes : TreesAreKept → KeepsAtEvent → RoomGives → StandsBehind → StaysClosed → CompletesListed → LibraryCompletes
library_completes trees keeps_at gives behind closes law world meaning old new st e s laid d f ts hs w t straight c noted =
    completes_so trees keeps_at gives behind closes world meaning old new st e s laid d f ts hs w [] t law straight c noted

-- Behind an event that isn't a body the machine stands for the definitions' next state.
use Rattle.std.proofs.Common.{
  ◌≡◌,
  ◌≢◌,
  ℕ,
  zero,
  suc,
  ◌+◌,
  ◌-◌,
  ◌<◌,
  ◌≤◌,
  ◌^◌,
  Bool,
  true,
  false,
  refl,
  sym,
  ap,
  ◌∙◌,
  subst,
  arith,
  List,
  [],
  ◌∷◌,
  length,
  map,
  reverse,
  take,
  drop,
  Option,
  Some,
  None,
  slice_get,
  pos,
}
use Rattle.std.specs.Prelude.{is_some, if◌then◌else◌}
use Rattle.std.specs.Option.{ForSome}
use Rattle.std.proofs.lemmas.List.{length-reverse}
use Rattle.std.proofs.lemmas.Option.{same_Some}
use Rattle.ub_base.specs.declared.names.Event.{Event}
use Rattle.ub_base.specs.declared.names.Item.{Item}
use Rattle.c_typed.specs.declared.tree.Change.{Change}
use Rattle.c_typed.specs.declared.tree.Place.{Place}
use Rattle.c_typed.specs.Order.{is_body, is_val}
use Rattle.c_typed.specs.Tree.{Tree, size}
use Rattle.c_typed.specs.Tree as typed
use Rattle.mem_spec.specs.Script.{Done as Acts_done, Script, run}
use Rattle.mem_spec.specs.Store.{Store}
use Rattle.mem_objects.specs.Keeps.{RowsStay}
use Rattle.mem_objects.specs.Memory.{store_of}
use Rattle.completion_laws.specs.Listing.{CompletesListed, completed_of}
use Rattle.c_model.specs.Completions.{completed_by}
use Rattle.c_model.specs.ChoiceLaws.{IsClosed, IsNext, StaysClosed}
use Rattle.c_model.specs.Moves.{Move, Stay}
use Rattle.c_model.specs.Nodes.{changed}
use Rattle.c_model.specs.Program.{Expr, expr, tree_of}
use Rattle.c_model.specs.Runs.{Running, State, acted, depth_of, entry_of, limit_passed, limited, moved, step, within}
use Rattle.c_model.specs.Steps.{
  Begun,
  Ev,
  Local,
  MayPick,
  Scene,
  at_node,
  does,
  event_act,
  event_of,
  move,
  is_done,
  move_of,
  next,
  started,
  taken_by,
  values_of,
  with_given,
}
use Rattle.c_model.specs.Values.{Value}
use Rattle.c_model.specs.World.{World}
use Rattle.c_model.proofs.Closed.{found_before}
use Rattle.c_model.proofs.Decided.{has_due}
use Rattle.program_view.specs.Laws.{TreesAreKept}
use Rattle.seq_order.specs.Marked.{taken_in}
use Rattle.run_control.specs.View.{Meaning}
use Rattle.run_layout.specs.declared.steps.Act.{Act}
use Rattle.run_layout.specs.declared.steps.Due.{Due}
use Rattle.run_layout.specs.declared.steps.Expression.{Expression}
use Rattle.run_layout.specs.declared.steps.Listed.{Listed}
use Rattle.run_layout.specs.declared.steps.Listed.TheVariants as listed
use Rattle.run_layout.specs.Chosen.{IsKept}
use Rattle.run_layout.specs.Keeping.{KeepsAtEvent}
use Rattle.run_layout.specs.LaidOut.{LaidOutBy}
use Rattle.run_layout.specs.OfTrees.{IsListingOf}
use Rattle.run_listing.specs.Along.{IsListed, events_of, part_of}
use Rattle.run_listing.specs.Cursor as cursors
use Rattle.run_listing.specs.Cursor.{StandsBehind, StandsStraight}
use Rattle.run_state.specs.declared.machine.Machine.{Machine}
use Rattle.run_state.specs.declared.machine.Open.{Open}
use Rattle.run_state.specs.declared.machine.Stage.{Stage}
use Rattle.run_state.specs.declared.watch.Begun.{Begun as Shown}
use Rattle.run_state.specs.Operands.{RoomGives}
use Rattle.run_state.specs.Stands.{
  Holds,
  HoldsAll,
  IsResultOf,
  StandFrames,
  Stands,
  StandsBegun,
  StandsDone,
  StandsExpression,
  StandsFrame,
  StandsValues,
  frames_of,
  result_seen,
}
use Rattle.run_answers.specs.Acts.{script_in}
use Rattle.run_answers.specs.Nodes.{IsActOf}
use Rattle.run_answers.specs.Performs.{ChangesOnly, HoldsUpdate, IsDone, gives_value, kept_room}
use Rattle.run_answers.specs.declared.pick.Completed.{Completed}
use Rattle.run_answers.specs.Completing.{CompletesNoted, EventCompletes, completed_seen}
use Rattle.run_answers.specs.Ending.{NotesWay}
use Rattle.run_answers.specs.Picks.{at_cursor, event_at, top_of, whole_part}
use Rattle.run_answers.specs.Taking.{Decides, EventStands, EventSteps, HasRooms, IsPast, StandsOpen, TakesEvent, after_event, store_after}
use Rattle.run_answers.proofs.Creating.{act_creates_none}
use Rattle.run_answers.proofs.Deciding.{ChosenThen, NotedThen, Passed, chosen_then, done_then, listed_in, noted_then, passed}
use Rattle.run_answers.proofs.Giving.{node_within, none_of, values_after}
use Rattle.run_answers.proofs.Laying.{RoomsLaid, WorksOut, rooms_laid}
use Rattle.run_answers.proofs.Opened.{Opened, opened, top_frame}
use Rattle.run_answers.proofs.Standing.{frames_under, locals_on, moved_on, part_same, result_none, some_there, tables_on}
use Rattle.run_answers.proofs.Still.{above_same, depth_same}
use Rattle.run_answers.proofs.Taken.{event_seen}

-- ---- the full expression that is open
pub open_at : (world : World) (meaning : Meaning) (m : Machine) (height : ℕ) (o : Open) (stage : Option Stage) (f : Scene) (b : Option Begun) (s : Stage)
    (e : Begun) → StandsBegun world meaning m height o stage f b None → stage ≡ Some s → b ≡ Some e → StandsExpression world meaning m height o s f e None
open_at world meaning m height o None f b s e x stage begun = absurd (cc)
open_at world meaning m height o (Some r) f None s e x stage begun = absurd x
open_at world meaning m height o (Some r) f (Some z) s e x stage begun =
    subst (λ (k : Stage). StandsExpression world meaning m height o k f e None) (same_Some r s stage)
    (subst (λ (k : Begun). StandsExpression world meaning m height o r f k None) (same_Some z e begun) x)

-- ---- an event that may come next
module _ (world : World) (f : Local) (e : Begun) (u : Place) (may : MayPick world f (Some e) (Ev u)) where
  pub comes_next : IsNext world f.scene e u
  comes_next = record {
    due = sym (has_due (taken_by world f.scene e) (tree_of e.root) 0 u) ∙ may.ready.due;
    left = none_of (e.given u) may.ready.left;
    earlier = λ v d h. may.ready.earlier v (found_before (tree_of e.root) (taken_by world f.scene e) v u
        (has_due (taken_by world f.scene e) (tree_of e.root) 0 v ∙ d) may.ready.due h);
  }

  pub done_within : IsClosed world f.scene e → (w : Place) → is_some (e.given w) ≡ true → w.node < size (tree_of e.root)
  done_within closed w given =
      node_within (taken_by world f.scene e) (tree_of e.root) w
      (has_due (taken_by world f.scene e) (tree_of e.root) 0 w ∙ (closed w given).due)

-- ---- an entry of a part
pub get_take : (k : ℕ) (xs : List Listed) (n : ℕ) (y : Listed) → slice_get (take k xs) n ≡ Some y → slice_get xs n ≡ Some y
get_take zero xs n y h = absurd (cc)
get_take (suc k) [] n y h = absurd (cc)
get_take (suc k) (z ∷ zs) zero y h = h
get_take (suc k) (z ∷ zs) (suc n) y h = get_take k zs n y h

pub get_drop : (xs : List Listed) (c n : ℕ) → slice_get (drop c xs) n ≡ slice_get xs (c + n)
get_drop xs zero n = ap (slice_get xs) (omega arith)
get_drop [] (suc c) n = refl
get_drop (x ∷ xs) (suc c) n = let e : suc (c + n) ≡ suc c + n = omega arith in get_drop xs c n ∙ ap (slice_get (x ∷ xs)) e

abbrev pub cursor_in : Option Stage → ℕ
cursor_in None = 0
cursor_in (Some s) = s.cursor

-- ---- its act, done
-- the machine of the event, whose cursor stands there
abbrev acting : Machine → Stage → ℕ → Open
acting old s cursor = record old.top { stage = Some (record s { cursor = cursor }) }

update_held : (past done : Machine) (node : ℕ) (a : Act) (v : Value) (c : Change) (room : ℕ) → HoldsUpdate past done node a v → WorksOut a c room →
    room ≢ node → past.top.base + room < length past.values.items → Holds done.memory done.values.items (past.top.base + room) (changed c v (pos 1))
update_held past done node a v c room held works ne lt =
    (subst (λ (x : Act). HoldsUpdate past done node x v) works.2 held) ne lt

module _ (trees : TreesAreKept) (keeps_at : KeepsAtEvent) (gives : RoomGives) (behind : StandsBehind) (closes : StaysClosed) (world : World)
    (meaning : Option ℕ → Meaning) (old new : Machine) (st : State) (e : Begun) (s : Stage) (laid : Expression) (d : Due) (v : Value)
    (t : TakesEvent world meaning old st e s laid d v new) where
  abbrev after : Begun
  after = with_given e d.place v

  abbrev height : ℕ
  height = length old.below.items

  frame : StandsFrame world (meaning old.top.function) old height old.top old.work.now old.left st.top None
  frame = top_frame world meaning old st t.stood.stands

  x : StandsExpression world (meaning old.top.function) old height old.top s st.top.scene e None
  x = open_at world (meaning old.top.function) old height old.top old.top.stage st.top.scene st.top.begun s e frame.begun t.stage t.stood.begun

  look : Opened world old s x.shown st.top e
  look = opened trees world (meaning old.top.function) old s x.shown st.top e t.stood.stands.listed x.shows x

  abbrev listing : List Listed
  listing = old.image.code.now.listing.items

  parts : whole_part old s ≡ part_of listing x.laid.first x.laid.end
  parts = part_same listing s.first x.laid.first s.end x.laid.end x.first x.end

  same_laid : laid ≡ x.laid
  same_laid = same_Some laid x.laid (sym t.at ∙ x.at)

  in_part : IsListed (part_of listing x.laid.first x.laid.end) d
  in_part =
      subst (λ (l : Expression). IsListed (part_of listing l.first l.end) d) same_laid
      (listed_in listing laid.first laid.end t.event.at d t.event.first t.event.end t.event.entry)

  few : size (tree_of e.root) < 2 ^ 32
  few = subst (λ (r : Tree). size r < 2 ^ 32) (sym look.tree) look.few

  in_rooms : RoomsLaid (part_of listing x.laid.first x.laid.end) old.top.rooms e
  in_rooms =
      rooms_laid old.image.code.now.tables listing x.laid t.event.firsts t.event.nodes
      (subst (λ (l : Expression). LaidOutBy t.event.firsts t.event.nodes old.image.code.now.tables listing l) same_laid t.event.lays) e x.root few old.top.rooms
      (subst (λ (es : List Listed). HasRooms es old.top.rooms e) parts t.rooms)

  -- the cursor has passed it
  way : Passed behind world old s st.top.scene e d v height x.shown x.shows look.listed t.stage s.straight t.taken.past
  way = passed behind world old s st.top.scene e d v height x.shown x.shows look.listed t.stage s.straight t.taken.past t.taken.passes look.done

  abbrev cursor : ℕ
  cursor = way.cursor

  abbrev there : Open
  there = acting old s cursor

  abbrev past : Machine
  past = at_cursor old s cursor

  -- the act is done
  abbrev done : Machine
  done = t.taken.done

  changes : ChangesOnly past done d.place.node d.act
  changes = subst (λ (k : Machine). ChangesOnly k done d.place.node d.act) way.is t.taken.changes

  act_done : IsDone world.rows past done (event_at past d.place) d.act v
  act_done = subst (λ (k : Machine). IsDone world.rows k done (event_at k d.place) d.act v) way.is t.taken.does

  effect : gives_value d.act ≡ false → (j : ℕ) → slice_get done.values.items j ≡ slice_get old.values.items j
  effect none j = ap (λ z. slice_get z.items j) (t.taken.effect none ∙ ap (λ (k : Machine). k.values) way.is)

  abbrev acted_on : Machine
  acted_on = record past { memory = done.memory; values = done.values; items = done.items; spare = done.spare }

  -- it was noted
  notes : NotesWay s.straight acted_on d.place t.taken.noted
  notes = subst (λ (k : Machine). NotesWay s.straight k d.place t.taken.noted) changes.rest t.taken.notes

  noting : NotedThen e d.place v s.straight height acted_on t.taken.noted
  noting = noted_then world st.top.scene e d.place v s.straight old acted_on t.taken.noted s.first s.cursor s.end notes look.done refl

  abbrev noted : Machine
  noted = record acted_on { strayed = t.taken.noted.strayed }

  -- its choice was made
  decides : Decides d.choice noted new
  decides = subst (λ (k : Machine). Decides d.choice k new) noting.rest t.taken.decides

  due_now : IsNext world st.top.scene e d.place
  due_now = comes_next world st.top e d.place t.may

  own_gives : gives_value d.act ≡ is_val d.place.kind
  own_gives = in_rooms.gives d in_part t.plain

  node_here : d.place.node < size (tree_of e.root)
  node_here = node_within (taken_by world st.top.scene e) (tree_of e.root) d.place t.may.ready.due

  room_there : old.top.base + d.place.node < length old.values.items
  room_there = (let n = in_rooms.nodes in let r = t.stood.rooms in omega (arith, n, r, node_here))

  own_value : gives_value d.act ≡ true → Holds done.memory done.values.items (old.top.base + d.place.node) v
  own_value is = act_done.value is room_there

  chosen : ChosenThen world st.top.scene after noted new x.shown
  chosen = chosen_then keeps_at gives world st.top.scene laid e d v noted new x.shown t.event (whole_part old s) look.listed.0 (t.stood.chosen x.shown x.shows)
      t.may.ready.due due_now.left x.shows (λ is. own_value (own_gives ∙ is)) decides

  -- so it is the machine that moved on
  abbrev end : Machine
  end = record done { begun = new.begun; strayed = t.taken.noted.strayed }

  moves : new ≡ moved_on old end there
  moves = chosen.rest

  -- ---- what stays of the values
  others : (j : ℕ) → j ≢ old.top.base + d.place.node → ForSome (kept_room d.act) (λ r. j ≢ old.top.base + r) →
      slice_get done.values.items j ≡ slice_get old.values.items j
  others = changes.others

  low : (j : ℕ) → j < old.top.base → slice_get done.values.items j ≡ slice_get old.values.items j
  low j lt = others j (λ eq. omega (arith, lt, eq))
      (λ r kept eq. omega (arith, lt, eq))

  values : StandsValues world (moved_on old end there) old.top.base x.laid.first x.laid.end st.top.scene after
  values = values_after world old end there act_done.kept st.top.scene e d v old.top.base x.laid.first x.laid.end old.top.rooms in_rooms in_part t.plain
      (done_within world st.top e d.place t.may t.stood.reached) node_here t.stood.rooms others effect own_value
      (λ c room works ne lt. update_held past done d.place.node d.act v c room act_done.update works ne lt) x.values

  -- ---- what is done
  stands_done : StandsDone s.straight world (moved_on old end there) height x.laid.first cursor x.laid.end st.top.scene after None
  stands_done = done_then world (moved_on old end there) s.straight height x.laid.first cursor x.laid.end st.top.scene after
      (λ h. subst (λ (n : ℕ). StandsStraight world st.top.scene listing n cursor x.laid.end after None) x.first
      (subst (λ (n : ℕ). StandsStraight world st.top.scene listing s.first cursor n after None) x.end (way.stands h))) noting.strays

  expression : StandsExpression world (meaning old.top.function) (moved_on old end there) height there (record s { cursor = cursor }) st.top.scene after None
  expression = record {
    laid = x.laid;
    at = x.at;
    root = x.root;
    first = x.first;
    end = x.end;
    value = x.value;
    rooms = x.rooms;
    what = x.what;
    shown = record x.shown { taken = chosen.choices };
    shows = chosen.shows;
    frame = x.frame;
    turn = x.turn;
    tree = x.tree;
    tree_root = x.tree_root;
    taken = λ n due. chosen.kept.chosen n ∙ ap (λ (b : Bool). if b then taken_by world st.top.scene after n else None) due;
    done = stands_done;
    values = values;
  }

  abbrev then_frame : Local
  then_frame = record st.top { begun = Some after }

  abbrev then_state : State
  then_state = after_event world st e d.place v done.items (store_of done.memory old.streams)

  top_stands : StandsFrame world (meaning old.top.function) (moved_on old end there) height there old.work.now old.left then_frame None
  top_stands = record {
    number = frame.number;
    turn = frame.turn;
    function = frame.function;
    arguments = subst (λ (vs : List Value). HoldsAll done.memory done.values.items old.top.base vs) (sym t.stood.arguments) tt;
    locals = locals_on world old end there act_done.kept old.top st.top.scene st.top.scene.blocks frame.locals;
    result = frame.result ∙ ap (result_seen old.memory old.top.function) t.stood.result ∙ result_none old.memory done.memory old.top.function
        ∙ ap (result_seen done.memory old.top.function) (sym t.stood.result);
    control = record { ready = frame.control.ready; behind = λ h. frame.control.behind (some_there st.top.begun e t.stood.begun) };
    begun = expression;
  }

  frames : StandFrames world meaning (moved_on old end there) old.left (there ∷ reverse old.below.items) (old.work.now ∷ old.work.below)
      (frames_of then_state)
  frames = (
    subst (λ (n : ℕ). StandsFrame world (meaning old.top.function) (moved_on old end there) n there old.work.now old.left then_frame None)
        (sym (length-reverse old.below.items)) top_stands,
    above_same old.top there st.top then_frame (reverse old.below.items) (map (λ h. (h.0, Some h.1)) st.held)
        (record { base = refl; node = refl; function = refl; locals = refl; above = refl; first_block = refl })
        (record { path = refl; home = refl; blocks = refl }) t.stood.stands.frames.1,
    frames_under world old end there act_done.kept old.top.base height low chosen.others (λ j other ne at. noting.others j ne ∙ at) meaning old.top st.top
        (reverse old.below.items)
        old.work.below st.held (let n = length-reverse old.below.items in omega (arith, n)) (omega arith) t.stood.stands.frames.1 t.stood.below
        t.stood.stands.frames.2,
  )

  stands : Stands world meaning (moved_on old end there) then_state
  stands = record {
    program = t.stood.stands.program;
    code = t.stood.stands.code;
    listed = t.stood.stands.listed;
    memory = record {
      store = refl;
      sound = act_done.kept.sound t.stood.stands.memory.sound;
      tagged = act_done.kept.tagged t.stood.stands.memory.tagged;
      bare = act_done.kept.bare t.stood.stands.memory.bare;
      high = act_done.kept.high t.stood.stands.memory.high;
      rows = subst (λ (k : Machine). RowsStay k.memory.rows world.rows) moves t.taken.rows;
    };
    tables = tables_on old end there act_done.kept t.constants t.stood.stands.tables;
    frames = frames;
    result = subst (IsResultOf done.memory) (sym t.stood.result) tt;
    depth = t.stood.stands.depth ∙ sym (depth_same st.top then_frame st.held refl);
  }

  same_choices : (b : Shown) → top_of (moved_on old end there) ≡ Some b → IsKept world st.top.scene after (taken_in b.taken)
  same_choices b at =
      subst (λ (z : Shown). IsKept world st.top.scene after (taken_in z.taken))
      (same_Some (record x.shown { taken = chosen.choices }) b (sym chosen.shows ∙ at)) chosen.kept

  stands_open : StandsOpen world meaning (moved_on old end there) then_state after
  stands_open = record {
    stands = stands;
    begun = refl;
    chosen = same_choices;
    reached = closes world st.top.scene e d.place v due_now t.stood.reached;
    arguments = t.stood.arguments;
    result = t.stood.result;
    rooms = (let r = t.stood.rooms in let c = changes.count in omega (arith, r, c));
    below = t.stood.below;
  }

  pub event_stands_so : StandsOpen world meaning new (after_event world st e d.place v new.items (store_after new)) after
  event_stands_so =
      subst (λ (k : Machine). StandsOpen world meaning k (after_event world st e d.place v k.items (store_after k)) after) (sym moves) stands_open

  -- what the definitions do
  pub ran : IsActOf world t.taken.past st.top.scene e d →
      run world.rows (event_act world st.top.scene e d.place (at_node 0 e.root d.place.node)) st.store ≡ Acts_done v new.items (store_after new)
  ran a =
      let seen : event_at past d.place ≡ event_of world st.top.scene d.place = event_seen world meaning old past st d.place t.stood.stands refl refl in
      let same : script_in world.rows past (event_of world st.top.scene d.place) d.act
      ≡ event_act world st.top.scene e d.place (at_node 0 e.root d.place.node) =
      ap (λ (k : Machine). script_in world.rows k (event_of world st.top.scene d.place) d.act) (sym way.is) ∙ a.same in
      ap (run world.rows (event_act world st.top.scene e d.place (at_node 0 e.root d.place.node))) t.stood.stands.memory.store
      ∙ ap (λ (p : Script Value). run world.rows p (store_of old.memory old.streams)) (sym same)
      ∙ ap (λ (w : Event). run world.rows (script_in world.rows past w d.act) (store_of old.memory old.streams)) (sym seen)
      ∙ act_done.did
      ∙ ap (λ (k : Machine). Acts_done v k.items (store_of k.memory k.streams)) (changes.rest)
      ∙ ap (λ (k : Machine). Acts_done v k.items (store_after k)) (sym moves)

  -- and nothing was created
  pub stays_within : limit_passed world.limits (depth_of st.top st.held) st.store ≡ None →
      limit_passed world.limits (depth_of then_frame st.held) (store_after new) ≡ None
  stays_within is =
      let created : done.memory.created ≡ old.memory.created =
      act_creates_none world.rows past (event_at past d.place) d.act (store_of old.memory old.streams) (store_of done.memory done.streams) v done.items
      act_done.did in
      ap (λ (k : Machine). limit_passed world.limits (depth_of then_frame st.held) (store_after k)) moves
      ∙ ap (λ (n : ℕ). limit_passed world.limits n (store_of done.memory old.streams)) (depth_same st.top then_frame st.held refl)
      ∙ ap (λ (n : ℕ). limit_passed world.limits (depth_of st.top st.held) (record (store_of old.memory old.streams) { created = n })) created
      ∙ ap (limit_passed world.limits (depth_of st.top st.held)) (sym t.stood.stands.memory.store) ∙ is

  -- ---- what it completes, along the canonical way
  module _ (law : CompletesListed) (straight : s.straight ≡ true) where
    along : IsPast true old s d t.taken.past
    along = subst (λ (b : Bool). IsPast b old s d t.taken.past) straight t.taken.passes

    abbrev position : ℕ
    position = s.cursor + along.1.0

    cursor_is : cursor ≡ suc position
    cursor_is = ap (λ (k : Machine). cursor_in k.top.stage) (sym way.is ∙ along.5)

    here : slice_get listing position ≡ Some (listed.Event d)
    here =
        sym (get_drop listing s.cursor along.1.0) ∙ (get_take (s.end - s.cursor) (drop s.cursor listing) along.1.0 (listed.Event along.1.1.now) along.4.0
        ∙ ap (λ (z : Due). Some (listed.Event z)) along.3)

    first_low : x.laid.first ≤ position
    first_low =
        let stood : StandsStraight world st.top.scene listing s.first s.cursor s.end e None =
        subst (λ (b : Bool). StandsDone b world old height s.first s.cursor s.end st.top.scene e None) straight look.done in
        let first = x.first in
        let from = stood.order.0 in
        omega (arith, first, from)

    stands_after : StandsStraight world st.top.scene listing x.laid.first (suc position) x.laid.end after None
    stands_after =
        subst (λ (n : ℕ). StandsStraight world st.top.scene listing x.laid.first n x.laid.end after None) cursor_is
        (subst (λ (n : ℕ). StandsStraight world st.top.scene listing n cursor x.laid.end after None) x.first
        (subst (λ (n : ℕ). StandsStraight world st.top.scene listing s.first cursor n after None) x.end (way.stands straight)))

    in_list : cursors.IsListed world st.top.scene listing x.laid.first x.laid.end after (taken_in chosen.choices)
    in_list = (
      subst (λ (es : List Listed). IsListingOf es (tree_of e.root)) parts look.listed.0,
      λ n due. chosen.kept.chosen n ∙ ap (λ (b : Bool). if b then taken_by world st.top.scene after n else None) due,
    )

    typed_same : typed.tree_of x.laid.root.now ≡ tree_of e.root
    typed_same = sym (ap tree_of x.root ∙ trees x.laid.root.now)

    by_law : completed_by (tree_of e.root) (taken_by world st.top.scene after) (is_done after) d.place.node
        ≡ completed_of d (events_of (taken_in chosen.choices) (part_of listing (suc position) x.laid.end))
    by_law = law world st.top.scene listing t.event.firsts t.event.nodes old.image.code.now.tables x.laid position after (taken_in chosen.choices) d
        (subst (λ (l : Expression). LaidOutBy t.event.firsts t.event.nodes old.image.code.now.tables listing l) same_laid t.event.lays) typed_same stands_after
        in_list first_low here

    pub completes_so : (c : Completed) → CompletesNoted d new c
        → completed_seen c ≡ completed_by (tree_of e.root) (taken_by world st.top.scene after) (is_done after) d.place.node
    completes_so c noted_so =
        noted_so (record s { cursor = cursor }) (record x.shown { taken = chosen.choices }) (ap (λ (k : Machine). k.top.stage) moves)
        (ap top_of moves ∙ chosen.shows)
        ∙ (ap (λ (k : Machine). completed_of d (events_of (taken_in chosen.choices) (part_of k.image.code.now.listing.items cursor s.end))) moves
        ∙ (ap (λ (n : ℕ). completed_of d (events_of (taken_in chosen.choices) (part_of listing n s.end))) cursor_is
        ∙ (ap (λ (n : ℕ). completed_of d (events_of (taken_in chosen.choices) (part_of listing (suc position) n))) x.end ∙ sym by_law)))

pub event_completes : TreesAreKept → KeepsAtEvent → RoomGives → StandsBehind → StaysClosed → CompletesListed → EventCompletes
event_completes trees keeps_at gives behind closes law world meaning old new st e s laid d v t straight c noted =
    completes_so trees keeps_at gives behind closes world meaning old new st e s laid d v t law straight c noted

pub event_stands : TreesAreKept → KeepsAtEvent → RoomGives → StandsBehind → StaysClosed → EventStands
event_stands trees keeps_at gives behind closes world meaning old new st e s laid d v t =
    event_stands_so trees keeps_at gives behind closes world meaning old new st e s laid d v t

-- ---- what the definitions do at such an event
stays_there : (world : World) (f : Scene) (e : Begun) (u : Place) (o : Option Expr) → is_body u.kind ≡ false → move_of world f e u o ≡ Stay
stays_there world f e u None plain = refl
stays_there world f e u (Some (expr h ty line es)) plain =
    ap (λ (b : Bool). if b then started world f u.node h (values_of world f e.given (suc u.node) es) else Stay) plain

pub steps_so : (world : World) (st : State) (e : Begun) (u : Place) (v : Value) (is : List Item) (s : Store) → st.top.begun ≡ Some e →
    is_body u.kind ≡ false → run world.rows (event_act world st.top.scene e u (at_node 0 e.root u.node)) st.store ≡ Acts_done v is s →
    step world st (Ev u) ≡ limited world.limits (Running (after_event world st e u v is s))
steps_so world st e u v is s begun plain ran =
    let trace = entry_of world st.top (Ev u) is ∷ st.trace in
    ap (λ (b : Option Begun). acted world st (Ev u) (run world.rows (does world st.top b (Ev u)) st.store)) begun
    ∙ ap (acted world st (Ev u)) ran
    ∙ ap (λ (b : Option Begun). limited world.limits (moved world st (Ev u) (move world st.top b (Ev u)) v s trace)) begun
    ∙ ap (λ (k : Move Local). limited world.limits (moved world st (Ev u) k v s trace))
    (stays_there world st.top.scene e u (at_node 0 e.root u.node) plain)
    ∙ ap (λ (b : Option Begun). limited world.limits (Running (record { top = next world st.top b (Ev u) v; held = st.held; store = s; trace = trace }))) begun

pub event_steps : TreesAreKept → KeepsAtEvent → RoomGives → StandsBehind → StaysClosed → EventSteps
event_steps trees keeps_at gives behind closes world meaning old new st e s laid d v t a is =
    let after = after_event world st e d.place v new.items (store_after new) in
    steps_so world st e d.place v new.items (store_after new) t.stood.begun t.plain
    (ran trees keeps_at gives behind closes world meaning old new st e s laid d v t a)
    ∙ ap (λ (l : Option _). within l (Running after)) (stays_within trees keeps_at gives behind closes world meaning old new st e s laid d v t is)

-- A full expression begins: the machine then stands for the definitions' next state.
use Rattle.std.proofs.Common.{
  ◌≡◌,
  ℕ,
  suc,
  ◌+◌,
  ◌-◌,
  ◌<◌,
  ◌≤◌,
  ◌^◌,
  min,
  Bool,
  true,
  false,
  refl,
  sym,
  ap,
  ◌∙◌,
  subst,
  arith,
  List,
  [],
  ◌∷◌,
  length,
  map,
  reverse,
  Option,
  Some,
  None,
  slice_get,
}
use Rattle.std.proofs.Math.Logic.{∥∥₁_elim}
use Rattle.std.proofs.Math.Nat.{ℕ_set}
use Rattle.std.proofs.Props.{props}
use Rattle.std.proofs.lemmas.List.{length-reverse}
use Rattle.std.proofs.lemmas.Option.{slice_get_within}
use Rattle.std.specs.Prelude.{if◌then◌else◌, Ok}
use Rattle.ub_base.specs.declared.clause.Kind.TheVariants.{Val}
use Rattle.c_typed.specs.declared.tree.Place.{Place}
use Rattle.c_typed.specs.Order.{place, is_due}
use Rattle.c_typed.specs.Tree as typed
use Rattle.mem_objects.specs.declared.value.Value.{Value as Kept_value}
use Rattle.c_model.specs.Control as todo
use Rattle.c_model.specs.Control.{Todo, ready_work}
use Rattle.c_model.specs.Program.{tree_of}
use Rattle.c_model.specs.Runs.{Entry, State, entry_of, limit_passed}
use Rattle.c_model.specs.Steps.{Begun, Control, Local, Scene, begin, taken_by}
use Rattle.c_model.specs.Values.{Value, Nothing}
use Rattle.c_model.specs.World.{World}
use Rattle.program_view.specs.Laws.{TreesAreKept}
use Rattle.program_view.specs.Trees.{expr_of}
use Rattle.seq_order.specs.Marked.{taken_in}
use Rattle.run_control.specs.declared.work.Step.TheVariants as taking
use Rattle.run_control.specs.declared.work.Use.{Use}
use Rattle.run_control.specs.declared.work.Work.{Work}
use Rattle.run_control.specs.View.{Meaning, todo_of, use_of}
use Rattle.run_layout.specs.declared.steps.Expression.{Expression}
use Rattle.run_layout.specs.declared.steps.Listed.{Listed}
use Rattle.run_layout.specs.declared.whole.Code.{Code}
use Rattle.run_layout.specs.Chosen.{Views, with_chosen}
use Rattle.run_layout.specs.InRange.{part_of}
use Rattle.run_layout.specs.Keeping.{KeepsAtBegin}
use Rattle.run_layout.specs.LaidOut.{IsLaidOut}
use Rattle.run_layout.specs.Named.{IsExpressionOf}
use Rattle.run_layout.specs.OfTrees.{HasListing, IsListingOf}
use Rattle.run_listing.specs.Along as along
use Rattle.run_listing.specs.Cursor.{StandsAtBegin}
use Rattle.run_state.specs.declared.machine.Machine.{Machine}
use Rattle.run_state.specs.declared.machine.Open.{Open}
use Rattle.run_state.specs.declared.machine.Stage.{Stage}
use Rattle.run_state.specs.declared.watch.Begun.{Begun as Shown}
use Rattle.run_state.specs.Stands.{Holds, HoldsAll, StandFrames, StandLocals, Stands, StandsBegun, StandsDone, StandsExpression, StandsFrame, StandsValues}
use Rattle.run_answers.specs.Choices.{HasChosen}
use Rattle.run_answers.specs.Answering.{AnswersStep, as_before}
use Rattle.run_answers.specs.Beginning.{CanBegin, HasShown, next_turn}
use Rattle.run_answers.proofs.Parts.{each_at}
use Rattle.run_answers.proofs.Staying.{control_stays, not_both}
use Rattle.run_answers.proofs.Still.{above_same, depth_same, frames_aside}

-- ---- other values, and other full expressions of the top frame
-- the one machine with the values and the full expressions of the other
abbrev pub with_rooms : (m n : Machine) → Machine
with_rooms m n = record m { values = n.values; begun = n.begun }

-- rooms that have a value keep it, and the full expressions of the frames below this height stay
pub record KeepsRooms (m n : Machine) (height : ℕ) : Type 0 where
  pub values : (j : ℕ) (h : Kept_value) → slice_get m.values.items j ≡ Some h → slice_get n.values.items j ≡ Some h
  pub shown : (j : ℕ) (b : Shown) → j < height → slice_get m.begun.items j ≡ Some b → slice_get n.begun.items j ≡ Some b

module _ (world : World) (m n : Machine) (height : ℕ) (keeps : KeepsRooms m n height) where
  holds_roomed : (room : ℕ) (v : Value) → Holds m.memory m.values.items room v → Holds m.memory n.values.items room v
  holds_roomed room v h = (h.0, keeps.values room h.0 h.1, h.2, h.3)

  pub held_roomed : (room : ℕ) (vs : List Value) → HoldsAll m.memory m.values.items room vs → HoldsAll m.memory n.values.items room vs
  held_roomed room [] h = tt
  held_roomed room (v ∷ vs) h = (holds_roomed room v h.0, held_roomed (suc room) vs h.1)

  done_roomed : (straight : Bool) (at first cursor end : ℕ) (f : Scene) (e : Begun) (waiting : Option Place) →
      StandsDone straight world m at first cursor end f e waiting → StandsDone straight world (with_rooms m n) at first cursor end f e waiting
  done_roomed true at first cursor end f e waiting d = d
  done_roomed false at first cursor end f e waiting d = d

  values_roomed : (base first end : ℕ) (f : Scene) (e : Begun) → StandsValues world m base first end f e →
      StandsValues world (with_rooms m n) base first end f e
  values_roomed base first end f e v = record {
    val = λ k w given. holds_roomed (base + k) w (v.val k w given);
    body = λ k w none given. holds_roomed (base + k) w (v.body k w none given);
    update = λ i due store room target c old es w at act kind is given.
        holds_roomed (base + room) _ (v.update i due store room target c old es w at act kind is given);
  }

  expression_roomed : (meaning : Meaning) (at : ℕ) (o : Open) (stage : Stage) (f : Scene) (e : Begun) (waiting : Option Place) → at < height →
      StandsExpression world meaning m at o stage f e waiting → StandsExpression world meaning (with_rooms m n) at o stage f e waiting
  expression_roomed meaning at o stage f e waiting lt x = record {
    laid = x.laid;
    at = x.at;
    root = x.root;
    first = x.first;
    end = x.end;
    value = x.value;
    rooms = x.rooms;
    what = x.what;
    shown = x.shown;
    shows = keeps.shown at x.shown lt x.shows;
    frame = x.frame;
    turn = x.turn;
    tree = x.tree;
    tree_root = x.tree_root;
    taken = x.taken;
    done = done_roomed stage.straight at x.laid.first stage.cursor x.laid.end f e waiting x.done;
    values = values_roomed o.base x.laid.first x.laid.end f e x.values;
  }

  begun_roomed : (meaning : Meaning) (at : ℕ) (o : Open) (stage : Option Stage) (f : Scene) (e : Option Begun) (waiting : Option Place) → at < height →
      StandsBegun world meaning m at o stage f e waiting → StandsBegun world meaning (with_rooms m n) at o stage f e waiting
  begun_roomed meaning at o None f None waiting lt b = b
  begun_roomed meaning at o None f (Some e) waiting lt b = absurd b
  begun_roomed meaning at o (Some stage) f None waiting lt b = absurd b
  begun_roomed meaning at o (Some stage) f (Some e) waiting lt b = expression_roomed meaning at o stage f e waiting lt b

  locals_roomed : (o : Open) (f : Scene) (bs : List (ℕ × ℕ)) → StandLocals world m o f bs → StandLocals world (with_rooms m n) o f bs
  locals_roomed o f [] l = tt
  locals_roomed o f (b ∷ bs) l = (l.0, locals_roomed o f bs l.1)

  frame_roomed : (meaning : Meaning) (at : ℕ) (o : Open) (ws : List Work) (left : Option Kept_value) (f : Local) (waiting : Option Place) → at < height →
      StandsFrame world meaning m at o ws left f waiting → StandsFrame world meaning (with_rooms m n) at o ws left f waiting
  frame_roomed meaning at o ws left f waiting lt s = record {
    number = s.number;
    turn = s.turn;
    function = s.function;
    arguments = held_roomed o.base f.arguments s.arguments;
    locals = locals_roomed o f.scene f.scene.blocks s.locals;
    result = s.result;
    control = s.control;
    begun = begun_roomed meaning at o o.stage f.scene f.begun waiting lt s.begun;
  }

  pub frames_roomed : (meaning : Option ℕ → Meaning) (left : Option Kept_value) (os : List Open) (wss : List (List Work))
      (fs : List (Local × Option Place)) → length os ≤ height → StandFrames world meaning m left os wss fs →
      StandFrames world meaning (with_rooms m n) left os wss fs
  frames_roomed meaning left [] wss [] le s = s
  frames_roomed meaning left [] wss (f ∷ fs) le s = absurd s
  frames_roomed meaning left (o ∷ os) [] fs le s = absurd s
  frames_roomed meaning left (o ∷ os) (ws ∷ wss) [] le s = absurd s
  frames_roomed meaning left (o ∷ os) (ws ∷ wss) (f ∷ fs) le s = (
    frame_roomed (meaning o.function) (length os) o ws left f.0 f.1 (omega (arith, le)) s.0,
    s.1,
    frames_roomed meaning None os wss fs (omega (arith, le)) s.2,
  )

-- ---- each frame below the top one has a full expression, in which a body waits
waits_shown : (world : World) (meaning : Meaning) (m : Machine) (at : ℕ) (o : Open) (stage : Option Stage) (f : Scene) (e : Option Begun) (u : Place) →
    StandsBegun world meaning m at o stage f e (Some u) → at < length m.begun.items
waits_shown world meaning m at o None f None u b = absurd (cc)
waits_shown world meaning m at o None f (Some e) u b = absurd b
waits_shown world meaning m at o (Some stage) f None u b = absurd b
waits_shown world meaning m at o (Some stage) f (Some e) u b = slice_get_within m.begun.items at b.shown b.shows

held_shown : (world : World) (meaning : Option ℕ → Meaning) (m : Machine) (left : Option Kept_value) (os : List Open) (wss : List (List Work))
    (hs : List (Local × Place)) → StandFrames world meaning m left os wss (map (λ h. (h.0, Some h.1)) hs) → length os ≤ length m.begun.items
held_shown world meaning m left [] wss hs s = omega arith
held_shown world meaning m left (o ∷ os) [] hs s = absurd s
held_shown world meaning m left (o ∷ os) (ws ∷ wss) [] s = absurd s
held_shown world meaning m left (o ∷ os) (ws ∷ wss) (h ∷ hs) s =
    let lt = waits_shown world (meaning o.function) m (length os) o o.stage h.0.scene h.0.begun h.1 s.0.begun in omega (arith, lt)

pub below_shown : (world : World) (meaning : Option ℕ → Meaning) (m : Machine) (st : State) → Stands world meaning m st →
    length m.below.items ≤ length m.begun.items
below_shown world meaning m st s =
    subst (λ (n : ℕ). n ≤ length m.begun.items) (length-reverse m.below.items)
    (held_shown world meaning m None (reverse m.below.items) m.work.below st.held s.frames.2)

-- ---- the choices that are made as it begins
none_taken : (k : ℕ) → taken_in [] k ≡ None
none_taken k = refl

where_is : (b : Bool) (o : Option ℕ) → b ≡ true → (if b then o else None) ≡ o
where_is true o e = refl
where_is false o e = absurd (cc)

module _ (world : World) (f : Scene) (code : Code) (number : ℕ) (laid : Expression) (e : Begun) where
  pub taken_first : KeepsAtBegin → (choices : List (Option ℕ)) → slice_get code.expressions.items number ≡ Some laid →
      ((firsts : List ℕ) → Views world f firsts 0 laid.root.now e.root) → (entries : List Listed) → IsListingOf entries (tree_of e.root) →
      ((u : Place) → e.given u ≡ None) →
      ((n : ℕ) → taken_in choices n ≡ with_chosen (part_of code.tables.chosen.items laid.chosen) (taken_in []) n) →
      (n : ℕ) → is_due (tree_of e.root) (taken_by world f e) (place n Val) ≡ true → taken_in choices n ≡ taken_by world f e n
  taken_first keeps choices at views entries listing none made n due =
      let P : Type 0 = taken_in choices n ≡ taken_by world f e n in
      let cs = part_of code.tables.chosen.items laid.chosen in
      let by : IsLaidOut code.tables code.listing.items laid → P = λ l.
      let kept = keeps world f l.0 l.1 code.tables code.listing.items laid e l.2 (views l.0) listing.formed none in
      let start : taken_in [] ≡ (λ k. None) = (λ i k. none_taken k i) in
      made n ∙ ap (λ t. with_chosen cs t n) start ∙ kept.chosen n
      ∙ where_is (is_due (tree_of e.root) (taken_by world f e) (place n Val)) (taken_by world f e n) due in
      ∥∥₁_elim code.laid_out (hlevel (props, ℕ_set)) (λ all. by (each_at (IsLaidOut code.tables code.listing.items) code.expressions.items number laid at all))

turn_after : (old seen new : ℕ) → old + 1 < 2 ^ 64 → new ≡ min (old + 1) (2 ^ 64 - 1) → old ≡ seen → new ≡ suc seen
turn_after old seen new fits is same = omega (arith, fits, is, same)

-- ---- the full expression of the top frame
-- in the machine
abbrev pub begun_open : Open → (turn number : ℕ) → Use → Expression → Open
begun_open o turn number how laid = record o {
  turn = turn;
  stage = Some (record { expression = number; first = laid.first; cursor = laid.first; end = laid.end; straight = true; value = laid.value });
  how = how;
  rooms = laid.rooms;
}

abbrev pub begun_in : (m n : Machine) → Open → Machine
begun_in m n o = record m { top = o; values = n.values; begun = n.begun }

abbrev pub shown_in : (number : ℕ) → Expression → Open → List (Option ℕ) → Shown
shown_in number laid o choices = record { frame = o.frame; turn = o.turn; tree = number; root = laid.root; taken = choices }

-- what is there of it, as it begins
pub record HasBegun (m n : Machine) (turn number : ℕ) (how : Use) (laid : Expression) : Type 0 where
  pub at : slice_get m.image.code.now.expressions.items number ≡ Some laid
  pub turned : turn ≡ min (m.top.turn + 1) (2 ^ 64 - 1)
  pub keeps : KeepsRooms m n (length m.below.items)
  pub shown : length m.below.items ≤ length m.begun.items → (choices : List (Option ℕ))
      × (slice_get n.begun.items (length m.below.items) ≡ Some (shown_in number laid (begun_open m.top turn number how laid) choices))
      × ((k : ℕ) → taken_in choices k ≡ with_chosen (part_of m.image.code.now.tables.chosen.items laid.chosen) (taken_in []) k)

some_given : {A : Type 0} (P : Type 0) (o : Option A) (x : A) → o ≡ None → o ≡ Some x → P
some_given P o x none some = absurd (not_both o x none some)

locals_turned : (world : World) (m n : Machine) (before : List Work) (turn number : ℕ) (how : Use) (laid : Expression) (f : Scene) (bs : List (ℕ × ℕ)) →
    StandLocals world (as_before m before) m.top f bs →
    StandLocals world (begun_in m n (begun_open m.top turn number how laid)) (begun_open m.top turn number how laid) (next_turn f) bs
locals_turned world m n before turn number how laid f [] l = tt
locals_turned world m n before turn number how laid f (b ∷ bs) l = (l.0, locals_turned world m n before turn number how laid f bs l.1)

module _ (trees : TreesAreKept) (begins : StandsAtBegin) (keeps : KeepsAtBegin) where
  module _ (world : World) (meaning : Option ℕ → Meaning) (m n : Machine) (turn number : ℕ) (how : Use) (laid : Expression) (st : State)
      (before : List Work) (s : Stands world meaning (as_before m before) st)
      (can : CanBegin world m.image.code.now m.top st ((meaning m.top.function).root number))
      (b : HasBegun m n turn number how laid) where
    abbrev mg : Meaning
    mg = meaning m.top.function

    abbrev opened : Open
    opened = begun_open m.top turn number how laid

    abbrev gone : Machine
    gone = begun_in m n opened

    kept_before : KeepsRooms (as_before m before) n (length m.below.items)
    kept_before = record { values = b.keeps.values; shown = b.keeps.shown }

    abbrev f : Local
    f = begin st.top (mg.root number) (use_of mg how) (todo_of mg m.work.now)

    abbrev e : Begun
    e = record { root = mg.root number; given = λ u. None; what = use_of mg how }

    rooted : mg.root number ≡ expr_of laid.root.now
    rooted = s.code.root m.top.function number laid b.at

    treed : tree_of e.root ≡ typed.tree_of laid.root.now
    treed = ap tree_of rooted ∙ trees laid.root.now

    listed : IsListingOf (along.part_of m.image.code.now.listing.items laid.first laid.end) (tree_of e.root)
    listed = subst (λ t. IsListingOf (along.part_of m.image.code.now.listing.items laid.first laid.end) t) (sym treed)
        (each_at (HasListing m.image.code.now.listing.items) m.image.code.now.expressions.items number laid b.at s.listed)

    ordered : laid.first ≤ laid.end
    ordered =
        (each_at (IsExpressionOf m.image.code.now.tables m.image.code.now.listing.items) m.image.code.now.expressions.items number laid b.at
        m.image.code.now.within).0

    expression_begun : StandsExpression world mg gone (length m.below.items) opened
        (record { expression = number; first = laid.first; cursor = laid.first; end = laid.end; straight = true; value = laid.value }) f.scene e None
    expression_begun = let there = b.shown (below_shown world meaning (as_before m before) st s) in record {
      laid = laid;
      at = b.at;
      root = rooted;
      first = refl;
      end = refl;
      value = refl;
      rooms = refl;
      what = refl;
      shown = shown_in number laid opened there.0;
      shows = there.1;
      frame = refl;
      turn = refl;
      tree = refl;
      tree_root = refl;
      taken = taken_first world f.scene m.image.code.now number laid e keeps there.0 b.at
          (λ firsts. can.known number laid firsts b.at (sym rooted)) _ listed (λ u. refl) there.2;
      done = begins world f.scene m.image.code.now.listing.items laid.first laid.end e ordered listed (λ u. refl);
      values = record {
        val = λ k v given. some_given (Holds m.memory n.values.items (m.top.base + k) v) None v refl given;
        body = λ k v none given. some_given (Holds m.memory n.values.items (m.top.base + k) v) None v refl given;
        update = λ i due store room target c old es v at act kind is given. some_given _ None v refl given;
      };
    }

    frame_begun : StandsFrame world mg gone (length (reverse m.below.items)) opened m.work.now m.left f None
    frame_begun =
        let frame = s.frames.0 in
        record {
          number = frame.number;
          turn = turn_after m.top.turn st.top.scene.turn turn can.turn b.turned frame.turn;
          function = frame.function;
          arguments = held_roomed world (as_before m before) n (length m.below.items) kept_before m.top.base st.top.arguments frame.arguments;
          locals = locals_turned world m n before turn number how laid st.top.scene st.top.scene.blocks frame.locals;
          result = frame.result;
          control = record { ready = refl; behind = λ is. refl };
          begun = subst (λ (h : ℕ). StandsExpression world mg gone h opened
              (record { expression = number; first = laid.first; cursor = laid.first; end = laid.end; straight = true; value = laid.value }) f.scene e None)
              (sym (length-reverse m.below.items)) expression_begun;
        }

    begun_stands : (trace : List Entry) → Stands world meaning gone (record { top = f; held = st.held; store = st.store; trace = trace })
    begun_stands trace =
        let there = as_before m before in
        let fits = subst (λ (k : ℕ). k ≤ length m.below.items) (sym (length-reverse m.below.items)) (omega arith) in
        record {
          program = s.program;
          code = s.code;
          listed = s.listed;
          memory = s.memory;
          tables = record { places = s.tables.places; vias = s.tables.vias; fillings = s.tables.fillings };
          frames = (
            frame_begun,
            above_same m.top opened st.top f (reverse m.below.items) (map (λ h. (h.0, Some h.1)) st.held)
                (record { base = refl; node = refl; function = refl; locals = refl; above = refl; first_block = refl })
                (record { path = refl; home = refl; blocks = refl }) s.frames.1,
            frames_aside world meaning (with_rooms there n) gone None (reverse m.below.items) m.work.below (map (λ h. (h.0, Some h.1)) st.held)
                (frames_roomed world there n (length m.below.items) kept_before meaning None (reverse m.below.items) m.work.below
                (map (λ h. (h.0, Some h.1)) st.held) fits s.frames.2),
          );
          result = s.result;
          depth = s.depth ∙ sym (depth_same st.top f st.held refl);
        }

  -- ---- the step
  begun_so : (m n : Machine) (turn number : ℕ) (how : Use) (laid : Expression) → HasBegun m n turn number how laid →
      AnswersStep (taking.Begin number how) m (begun_in m n (begun_open m.top turn number how laid)) (Ok None)
  begun_so m n turn number how laid b = λ world meaning st h.
      let mg = meaning m.top.function in
      let w = todo.Begin (mg.root number) (use_of mg how) in
      let rest = todo_of mg m.work.now in
      let f = begin st.top (mg.root number) (use_of mg how) rest in
      let ready = sym (h.next ∙ h.stands.frames.0.control.ready) in
      let trace = entry_of world st.top Control [] ∷ st.trace in
      let after : State = record { top = f; held = st.held; store = st.store; trace = trace } in
      λ rows. (
        after,
        control_stays world st w rest Nothing [] st.store h.closed ready refl refl refl
            (ap (λ (d : ℕ). limit_passed world.limits d st.store) (depth_same st.top f st.held refl) ∙ h.within),
        sym h.items,
        begun_stands world meaning m n turn number how laid st h.before h.stands h.can b trace,
      )

  -- by the calls that it consists of: room is made for its values, it is shown, and the first operands are chosen
  pub begin_answers : (m g s n : Machine) (turn number : ℕ) (how : Use) (laid : Expression) (cs : List (ℕ × ℕ)) →
      slice_get m.image.code.now.expressions.items number ≡ Some laid → cs ≡ part_of m.image.code.now.tables.chosen.items laid.chosen →
      turn ≡ min (m.top.turn + 1) (2 ^ 64 - 1) → g ≡ record m { top = begun_open m.top turn number how laid; values = g.values } →
      ((j : ℕ) (h : Kept_value) → slice_get m.values.items j ≡ Some h → slice_get g.values.items j ≡ Some h) →
      HasShown g number laid.root s → HasChosen s cs n → AnswersStep (taking.Begin number how) m n (Ok None)
  begin_answers m g s n turn number how laid cs at chosen turned grown kept shown made =
      let shape : s ≡ record m { top = begun_open m.top turn number how laid; values = g.values; begun = s.begun } =
      shown.rest ∙ ap (λ (x : Machine). record x { begun = s.begun }) grown in
      let whole : n ≡ record m { top = begun_open m.top turn number how laid; values = g.values; begun = n.begun } =
      made.rest ∙ ap (λ (x : Machine). record x { begun = n.begun }) shape in
      let values : n.values.items ≡ g.values.items = ap (λ (x : Machine). x.values.items) whole in
      let full : n ≡ begun_in m n (begun_open m.top turn number how laid) =
      whole ∙ ap (λ (x : Machine). record m { top = begun_open m.top turn number how laid; values = x.values; begun = n.begun }) (sym whole) in
      let under : length g.below.items ≡ length m.below.items = ap (λ (x : Machine). length x.below.items) grown in
      let below : length s.below.items ≡ length m.below.items = ap (λ (x : Machine). length x.below.items) shape in
      let began : g.begun.items ≡ m.begun.items = ap (λ (x : Machine). x.begun.items) grown in
      let top : g.top ≡ begun_open m.top turn number how laid = ap (λ (x : Machine). x.top) grown in
      subst (λ (x : Machine). AnswersStep (taking.Begin number how) m x (Ok None)) (sym full) (begun_so m n turn number how laid (record {
        at = at;
        turned = turned;
        keeps = record {
          values = λ j h is. ap (λ (v : List Kept_value). slice_get v j) values ∙ kept j h is;
          shown = λ j x lt is.
              made.others j x (λ eq. (let far = eq ∙ below in absurd (omega (arith, far, lt))))
              (shown.others j x (λ eq. (let far = eq ∙ under in absurd (omega (arith, far, lt)))) (ap (λ (v : List Shown). slice_get v j) began ∙ is));
        };
        shown = λ le.
            let more : length g.below.items ≤ length g.begun.items =
            subst (λ (k : ℕ). k ≤ length g.begun.items) (sym under) (subst (λ (v : List Shown). length m.below.items ≤ length v) (sym began) le) in
            let same : length s.below.items ≡ length g.below.items = below ∙ sym under in
            let there = shown.shown more in
            let taken = made.taken (shown_in number laid g.top [])
            (subst (λ (k : ℕ). slice_get s.begun.items k ≡ Some (shown_in number laid g.top [])) (sym same) there) in (
              taken.0,
              subst (λ (k : ℕ). slice_get n.begun.items k ≡ Some (shown_in number laid (begun_open m.top turn number how laid) taken.0)) below
                  (taken.1 ∙ ap (λ (o : Open). Some (shown_in number laid o taken.0)) top),
              λ k. taken.2 k ∙ ap (λ (xs : List (ℕ × ℕ)). with_chosen xs (taken_in []) k) chosen,
            );
      }))

-- A frame ends: the one below it goes on, and stands with what was left; or the run ends.
use Rattle.std.proofs.Common.{
  ◌≡◌,
  ◌≢◌,
  ℕ,
  zero,
  suc,
  set,
  ◌+◌,
  ◌<◌,
  ◌≤◌,
  ◌==◌,
  Bool,
  true,
  false,
  refl,
  sym,
  ap,
  ◌∙◌,
  subst,
  arith,
  List,
  [],
  ◌∷◌,
  ◌++◌,
  length,
  map,
  reverse,
  Option,
  Some,
  None,
  slice_get,
}
use Rattle.std.specs.Prelude.{◌||◌, is_some, if◌then◌else◌, nat_lt, Result, Ok, Err, OnOk}
use Rattle.std.proofs.lemmas.Bool.Decides.{nat_tests}
use Rattle.std.specs.Option.{unwrap_or}
use Rattle.std.proofs.lemmas.Bool.{eqb-true}
use Rattle.std.proofs.lemmas.List.{length-reverse, reverse-append}
use Rattle.ub_base.specs.declared.clause.Kind.TheVariants.{Val, Body}
use Rattle.ub_base.specs.declared.clause.Cause.{Cause}
use Rattle.c_typed.specs.declared.tree.Place.{Place}
use Rattle.c_typed.specs.Order.{is_due, place, same_place}
use Rattle.c_typed.specs.declared.program.Program.{Program}
use Rattle.mem_objects.specs.declared.value.Value.{Value as Kept_value}
use Rattle.mem_spec.specs.Store.{Store}
use Rattle.mem_spec.specs.Streams.{Outputs}
use Rattle.c_model.specs.Nodes.{amount, new_value}
use Rattle.c_model.specs.Program.{tree_of}
use Rattle.c_model.specs.Runs.{Entry, Ends, Running, State, back, depth_of, limit_passed, limited, status_of, within}
use Rattle.c_model.specs.Steps.{Begun, Ev, Local, Scene, next, result_of, values_of, with_given}
use Rattle.c_model.specs.Values.{Value}
use Rattle.c_model.specs.World.{World, Limits}
use Rattle.seq_order.specs.declared.done.Marks.{Marks}
use Rattle.seq_order.specs.Marked.{done_in}
use Rattle.run_layout.specs.declared.steps.Listed.{Listed}
use Rattle.run_layout.specs.declared.whole.Code.{Code}
use Rattle.run_control.specs.declared.work.Work.{Work}
use Rattle.run_control.specs.Stacked.{Closes, Stacked}
use Rattle.run_control.specs.View.{Meaning}
use Rattle.run_listing.specs.Along.{part_of}
use Rattle.run_listing.specs.Cursor.{StandsAtEnd}
use Rattle.run_state.specs.declared.halt.Halt.{Halt}
use Rattle.run_state.specs.declared.machine.Machine.{Machine}
use Rattle.run_state.specs.declared.machine.Open.{Open}
use Rattle.run_state.specs.declared.machine.Stage.{Stage}
use Rattle.run_state.specs.Stands.{Holds, HoldsAll, IsAbove, StandFrames, Stands, StandsBegun, StandsDone, StandsExpression, StandsFrame, StandsValues}
use Rattle.run_answers.specs.Answering.{ComesTo, newest_items}
use Rattle.run_answers.specs.Ended.{AnswersEnd}
use Rattle.run_answers.specs.Ending.{
  EndsFrame,
  EndsRun,
  GoesBack,
  HasGiven,
  HasNoted,
  HasRoomBelow,
  HasRoomIn,
  IsRoomFree,
  KeepsTo,
  KeepToRooms,
  LeavesNone,
  LeavesValue,
  Notes,
  NotesIn,
  NotesWay,
  depth_without,
  stage_part,
}
use Rattle.run_answers.proofs.Given.{done_given, given_other, given_own, given_value, taken_given, values_given}
use Rattle.run_machine.proofs.Results.{depth_left, left_as}
use Rattle.run_machine.proofs.Rooms.{frames_below, holds_apart, locals_below, part_same, with_rooms}
use Rattle.run_answers.proofs.Still.{above_same, depth_same, frame_aside, frames_aside}

-- ---- the full expression of the frame that goes on
-- what was noted of it, off the canonical way
abbrev NotedAt : Bool → (was is : List (List Marks)) → ℕ → Place → Type 0
NotedAt true was is height u = Unit {0}
NotedAt false was is height u =
    (before : List Marks) × (after : List Marks) × (slice_get was height ≡ Some before) × (slice_get is height ≡ Some after)
    × ((w : Place) → done_in after w ≡ (same_place u w || done_in before w))

some_same : {A : Type 0} (x y : A) → Some x ≡ Some y → x ≡ y
some_same x y e = cc

none_some : {A : Type 0} (o : Option A) (x : A) → o ≡ None → o ≡ Some x → ⊥
none_some o x none some = cc

apart_from : (base a b : ℕ) → a ≢ b → base + a ≢ base + b
apart_from base a b ne = λ e. ne (omega (arith, e))

module _ (law : StandsAtEnd) (world : World) (m n z : Machine) (onto : Open) (node : ℕ) (v : Value)
    (others : (j : ℕ) → j ≢ onto.base + node → slice_get n.values.items j ≡ slice_get m.values.items j) (top : ℕ)
    (strays : (j : ℕ) → j ≢ top → slice_get z.strayed.items j ≡ slice_get m.strayed.items j)
    (room : Holds m.memory n.values.items (onto.base + node) v) where
  elsewhere : (k : ℕ) (w : Value) → k ≢ node → Holds m.memory m.values.items (onto.base + k) w → Holds m.memory n.values.items (onto.base + k) w
  elsewhere k w ne h =
      holds_apart m.memory m.values.items n.values.items (onto.base + node) (onto.base + k) w others (apart_from onto.base k node ne) h

  body_by : (e : Begun) (k : ℕ) (w : Value) (b : Bool) → (node == k) ≡ b → (with_given e (place node Body) v).given (place k Body) ≡ Some w →
      (e.given (place k Body) ≡ Some w → Holds m.memory m.values.items (onto.base + k) w) → Holds m.memory n.values.items (onto.base + k) w
  body_by e k w true is given before =
      let same = eqb-true node k is in
      let own = some_same v w (sym (given_own e node k v is) ∙ given) in
      subst (λ (x : Value). Holds m.memory n.values.items (onto.base + k) x) own
      (subst (λ (j : ℕ). Holds m.memory n.values.items (onto.base + j) v) same room)
  body_by e k w false is given before =
      let ne : node ≢ k = λ e. not_so node k is e in
      elsewhere k w (λ e. ne (sym e)) (before (sym (given_other e node k v ne) ∙ given))
    where
      not_so : (a b : ℕ) → (a == b) ≡ false → a ≡ b → ⊥
      not_so a b differs same = grind (arith, differs, same)

  values_ended : (first end : ℕ) (f : Scene) (e : Begun) (count at : ℕ) → IsRoomFree (part_of m.image.code.now.listing.items first end) count at e node →
      StandsValues world m onto.base first end f e → StandsValues world (with_rooms m n z) onto.base first end f (with_given e (place node Body) v)
  values_ended first end f e count at free s = record {
    val = λ k w given.
        let before = sym (given_value e node k v) ∙ given in
        elsewhere k w (λ same. none_some (e.given (place k Val)) w (ap (λ (j : ℕ). e.given (place j Val)) same ∙ free.value) before) (s.val k w before);
    body = λ k w none given.
        body_by e k w (node == k) refl given (λ before. s.body k w (sym (given_value e node k v) ∙ none) before);
    update = λ i due store room target c old es w there act kind is given.
        subst (λ (vs : List Value). Holds m.memory n.values.items (onto.base + room) (new_value c old w (amount old vs)))
        (sym (values_given world f e node v (suc due.place.node) es))
        (elsewhere room (new_value c old w (amount old (values_of world f e.given (suc due.place.node) es))) (free.update room (record {
          due = due;
          store = store;
          target = target;
          change = c;
          old = old;
          operands = es;
          listed = (i, there);
          act = act;
          effect = kind;
          update = is;
        })) (s.update i due store room target c old es w there act kind is (sym (given_value e node due.place.node v) ∙ given)));
  }

  done_ended : (straight : Bool) (height first cursor end : ℕ) (f : Scene) (e : Begun) →
      NotedAt straight m.strayed.items z.strayed.items height (place node Body) →
      StandsDone straight world m height first cursor end f e (Some (place node Body)) →
      StandsDone straight world (with_rooms m n z) height first cursor end f (with_given e (place node Body) v) None
  done_ended true height first cursor end f e noted d = law world f m.image.code.now.listing.items first cursor end e (place node Body) v refl d
  done_ended false height first cursor end f e noted d =
      let same : noted.0 ≡ d.0 = some_same noted.0 d.0 (sym noted.2 ∙ d.1) in (
        noted.1,
        noted.3,
        λ w. noted.4 w ∙ ap (λ (ms : List Marks). same_place (place node Body) w || done_in ms w) same
            ∙ ap (λ (b : Bool). same_place (place node Body) w || b) (d.2 w) ∙ sym (done_given e (place node Body) w v),
      )

  expression_ended : (meaning : Meaning) (height : ℕ) (stage : Stage) (f : Scene) (e : Begun) (count at : ℕ) →
      IsRoomFree (stage_part m.image.code.now stage) count at e node → NotedAt stage.straight m.strayed.items z.strayed.items height (place node Body) →
      StandsExpression world meaning m height onto stage f e (Some (place node Body)) →
      StandsExpression world meaning (with_rooms m n z) height onto stage f (with_given e (place node Body) v) None
  expression_ended meaning height stage f e count at free noted x = record {
    laid = x.laid;
    at = x.at;
    root = x.root;
    first = x.first;
    end = x.end;
    value = x.value;
    rooms = x.rooms;
    what = x.what;
    shown = x.shown;
    shows = x.shows;
    frame = x.frame;
    turn = x.turn;
    tree = x.tree;
    tree_root = x.tree_root;
    taken = λ k due.
        let same = taken_given world f e node v in
        x.taken k (subst (λ t. is_due (tree_of e.root) t (place k Val) ≡ true) same due) ∙ ap (λ t. t k) (sym same);
    done = done_ended stage.straight height x.laid.first stage.cursor x.laid.end f e noted x.done;
    values = values_ended x.laid.first x.laid.end f e count at
        (subst (λ (es : List Listed). IsRoomFree es count at e node)
        (part_same m.image.code.now.listing.items stage.first x.laid.first stage.end x.laid.end x.first x.end) free) x.values;
  }

  -- the frame, by its full expression
  frame_ended : (meaning : Meaning) (height : ℕ) (ws : List Work) (f : Local) (stage : Option Stage) (e : Option Begun) → onto.stage ≡ stage →
      f.begun ≡ e → KeepsTo m.image.code.now onto.rooms stage f e → HasRoomIn m.image.code.now (length m.values.items) (onto.base + node) node stage e →
      ((s : Stage) → stage ≡ Some s → NotedAt s.straight m.strayed.items z.strayed.items height (place node Body)) →
      StandsBegun world meaning m height onto stage f.scene e (Some (place node Body)) →
      StandsFrame world meaning m height onto ws None f (Some (place node Body)) →
      StandsFrame world meaning (with_rooms m n z) height onto ws None (next world f e (Ev (place node Body)) v) None
  frame_ended meaning height ws f None None is be keeps has noted b s = absurd (cc)
  frame_ended meaning height ws f None (Some e) is be keeps has noted b s = absurd b
  frame_ended meaning height ws f (Some stage) None is be keeps has noted b s = absurd b
  frame_ended meaning height ws f (Some stage) (Some e) is be keeps has noted b s = record {
    number = s.number;
    turn = s.turn;
    function = s.function;
    arguments = subst (λ (vs : List Value). HoldsAll m.memory n.values.items onto.base vs) (sym keeps.0) tt;
    locals = locals_below world m n z (onto.base + node) top others strays onto f.scene f.scene.blocks s.locals;
    result = s.result;
    control = record { ready = s.control.ready; behind = λ t. s.control.behind (ap is_some be) };
    begun = subst (λ (o : Option Stage). StandsBegun world meaning (with_rooms m n z) height onto o f.scene
        (Some (with_given e (place node Body) v)) None) (sym is)
        (expression_ended meaning height stage f.scene e (length m.values.items) (onto.base + node) has (noted stage refl) b);
  }

-- ---- what goes on of it
next_function : (world : World) (f : Local) (e : Option Begun) (u : Place) (v : Value) → (next world f e (Ev u) v).function ≡ f.function
next_function world f None u v = refl
next_function world f (Some e) u v = refl

next_scene : (world : World) (f : Local) (e : Option Begun) (u : Place) (v : Value) → (next world f e (Ev u) v).scene ≡ f.scene
next_scene world f None u v = refl
next_scene world f (Some e) u v = refl

room_there : (world : World) (meaning : Meaning) (m : Machine) (height : ℕ) (o : Open) (stage : Option Stage) (f : Scene) (e : Option Begun) (u : Place)
    (code : Code) (count at node : ℕ) → StandsBegun world meaning m height o stage f e (Some u) → HasRoomIn code count at node stage e → at < count
room_there world meaning m height o None f None u code count at node b has = absurd (cc)
room_there world meaning m height o None f (Some e) u code count at node b has = absurd b
room_there world meaning m height o (Some stage) f None u code count at node b has = absurd b
room_there world meaning m height o (Some stage) f (Some e) u code count at node b has = has.there

-- ---- fewer frames pass no limit
limit_by : {A : Type 0} (more fewer : Bool) (x y : A) (rest : Option A) → (fewer ≡ true → more ≡ true) → (if more then Some x else rest) ≡ None →
    (if fewer then Some y else rest) ≡ None
limit_by true fewer x y rest so h = absurd (cc)
limit_by false true x y rest so h = absurd (let e = so refl in cc)
limit_by false false x y rest so h = h

less_tested : (l d c : ℕ) → c ≤ d → nat_lt l c ≡ true → nat_lt l d ≡ true
less_tested l d c le h = grind (arith, nat_tests, le, h)

limit_less : (limits : Limits) (d c : ℕ) (s : Store) → c ≤ d → limit_passed limits d s ≡ None → limit_passed limits c s ≡ None
limit_less limits d c s le h = limit_by (nat_lt limits.depth d) (nat_lt limits.depth c) _ _ _ (less_tested limits.depth d c le) h

at_most : (a b n : ℕ) → n ≡ a + b → b ≤ n
at_most a b n e = omega (arith, e)

-- ---- the frame below goes on
abbrev pub gone_back : (m n z : Machine) (onto : Open) (ws : List Work) (wss : List (List Work)) → Machine
gone_back m n z onto ws wss = record m {
  work = record { below = wss; now = ws };
  depth = depth_without m.top.function m.depth;
  left = None;
  below = n.below;
  top = onto;
  values = n.values;
  strayed = z.strayed;
}

module _ (law : StandsAtEnd) (world : World) (meaning : Option ℕ → Meaning) (m n z : Machine) (st : State) (onto : Open) (ws : List Work)
    (wss : List (List Work)) (v : Value) (trace : List Entry)
    (others : (j : ℕ) → j ≢ onto.base + m.top.node → slice_get n.values.items j ≡ slice_get m.values.items j)
    (strays : (j : ℕ) → j ≢ length (reverse n.below.items) → slice_get z.strayed.items j ≡ slice_get m.strayed.items j)
    (noted : (s : Stage) → onto.stage ≡ Some s →
    NotedAt s.straight m.strayed.items z.strayed.items (length (reverse n.below.items)) (place m.top.node Body))
    (room : onto.base + m.top.node < length m.values.items → Holds m.memory n.values.items (onto.base + m.top.node) v) where
  abbrev there : Machine
  there = gone_back m n z onto ws wss

  abbrev stay : Machine
  stay = with_rooms m n z

  -- by the body that waits
  back_so : (f : Local) (hs : List (Local × Place)) → Stands world meaning m st →
      StandFrames world meaning m None (onto ∷ reverse n.below.items) (ws ∷ wss) ((f, Some (place m.top.node Body)) ∷ map (λ h. (h.0, Some h.1)) hs) →
      KeepToRooms m.image.code.now (onto ∷ reverse n.below.items) ((f, place m.top.node Body) ∷ hs) →
      HasRoomIn m.image.code.now (length m.values.items) (onto.base + m.top.node) m.top.node onto.stage f.begun → m.top.function ≡ st.top.function →
      m.depth ≡ depth_of st.top ((f, place m.top.node Body) ∷ hs) →
      limit_passed world.limits (depth_of st.top ((f, place m.top.node Body) ∷ hs)) st.store ≡ None → newest_items trace ≡ m.items →
      ComesTo world meaning None there (limited world.limits (back world ((f, place m.top.node Body) ∷ hs) v st.store trace))
  back_so f hs s frames keeps has function depth within_so items =
      let u = place m.top.node Body in
      let rs = reverse n.below.items in
      let g = next world f f.begun (Ev u) v in
      let as_deep : depth_of g hs ≡ depth_of f hs = depth_same f g hs (next_function world f f.begun u v) in
      let scene = next_scene world f f.begun u v in
      let holds = room (room_there world (meaning onto.function) m (length rs) onto onto.stage f.scene f.begun u m.image.code.now (length m.values.items)
      (onto.base + m.top.node) m.top.node frames.0.begun has) in
      let after : State = record { top = g; held = hs; store = st.store; trace = trace } in
      λ rows. (
        after,
        ap (λ (l : Option (Cause × ℕ)). within l (Running after)) (ap (λ (d : ℕ). limit_passed world.limits d st.store) as_deep
            ∙ limit_less world.limits (depth_of st.top ((f, u) ∷ hs)) (depth_of f hs) st.store
            (at_most (if is_some st.top.function then 1 else 0) (depth_of f hs) (depth_of st.top ((f, u) ∷ hs)) refl) within_so),
        items,
        record {
          program = s.program;
          code = s.code;
          listed = s.listed;
          memory = s.memory;
          tables = record { places = s.tables.places; vias = s.tables.vias; fillings = s.tables.fillings };
          result = tt;
          frames = (
            frame_aside world (meaning onto.function) stay there (length rs) onto ws None g None
                (frame_ended law world m n z onto m.top.node v others (length rs) strays holds (meaning onto.function) (length rs) ws f onto.stage f.begun
                refl refl keeps.0 has noted frames.0.begun frames.0),
            above_same onto onto f g rs (map (λ h. (h.0, Some h.1)) hs)
                (record { base = refl; node = refl; function = refl; locals = refl; above = refl; first_block = refl })
                (record { path = ap (λ (k : Scene). k.path) scene; home = ap (λ (k : Scene). k.home) scene; blocks = ap (λ (k : Scene). k.blocks) scene })
                frames.1,
            frames_aside world meaning stay there None rs wss (map (λ h. (h.0, Some h.1)) hs)
                (frames_below world m n z (onto.base + m.top.node) (length rs) others strays meaning onto f rs wss hs (omega arith) (omega arith)
                frames.1 keeps.1 frames.2),
          );
          depth = depth_left m.top.function st.top.function m.depth (depth_of f hs) function depth ∙ sym as_deep;
        },
      )

  back_comes : (held : List (Local × Place)) → Stands world meaning m st →
      StandFrames world meaning m None (onto ∷ reverse n.below.items) (ws ∷ wss) (map (λ h. (h.0, Some h.1)) held) →
      IsAbove m.top st.top (onto ∷ reverse n.below.items) (map (λ h. (h.0, Some h.1)) held) →
      KeepToRooms m.image.code.now (onto ∷ reverse n.below.items) held →
      HasRoomBelow m.image.code.now (length m.values.items) m.top.node (onto ∷ reverse n.below.items) held → m.top.function ≡ st.top.function →
      m.depth ≡ depth_of st.top held → limit_passed world.limits (depth_of st.top held) st.store ≡ None → newest_items trace ≡ m.items →
      ComesTo world meaning None there (limited world.limits (back world held v st.store trace))
  back_comes [] s frames above keeps has function depth within_so items = absurd frames
  back_comes (h ∷ hs) s frames above keeps has function depth within_so items =
      let is : h.1 ≡ place m.top.node Body = some_same h.1 (place m.top.node Body) above.waits in
      subst (λ (u : Place). ComesTo world meaning None there (limited world.limits (back world ((h.0, u) ∷ hs) v st.store trace))) (sym is)
      (back_so h.0 hs s
      (subst (λ (u : Place). StandFrames world meaning m None (onto ∷ reverse n.below.items) (ws ∷ wss)
      ((h.0, Some u) ∷ map (λ h. (h.0, Some h.1)) hs)) is frames) keeps has function depth within_so items)

-- ---- what was noted
noted_way : (straight : Bool) (mid new : Machine) (u : Place) → NotesWay straight mid u new →
    (z : Machine) × (new ≡ record mid { strayed = z.strayed })
    × ((j : ℕ) → j ≢ length mid.below.items → slice_get z.strayed.items j ≡ slice_get mid.strayed.items j)
    × NotedAt straight mid.strayed.items z.strayed.items (length mid.below.items) u
noted_way true mid new u w = (mid, w, λ j ne. refl, tt)
noted_way false mid new u w = (new, w.rest, w.others, (w.before, w.after, w.was, w.is, w.one))

noted_as : (stage : Option Stage) (mid new : Machine) (u : Place) → NotesIn stage mid u new →
    (z : Machine) × (new ≡ record mid { strayed = z.strayed })
    × ((j : ℕ) → j ≢ length mid.below.items → slice_get z.strayed.items j ≡ slice_get mid.strayed.items j)
    × ((s : Stage) → stage ≡ Some s → NotedAt s.straight mid.strayed.items z.strayed.items (length mid.below.items) u)
noted_as None mid new u w = absurd w
noted_as (Some t) mid new u w =
    let k = noted_way t.straight mid new u w in
    (k.0, k.1, k.2, λ s e. subst (λ (x : Stage). NotedAt x.straight mid.strayed.items k.0.strayed.items (length mid.below.items) u) (some_same t s e) k.3)

closes_as : (wss : List (List Work)) (s : Stacked) → Closes wss true s →
    (ws : List Work) × (rest : List (List Work)) × (wss ≡ ws ∷ rest) × (s ≡ record { below = rest; now = ws })
closes_as [] s c = absurd (let e = c.0 in cc)
closes_as (ws ∷ rest) s c = (ws, rest, refl, λ i. record { below = c.2 i; now = c.1 i })

-- ---- all together
pub goes_back : StandsAtEnd → (m new : Machine) → GoesBack m new → Closes m.work.below true new.work → AnswersEnd m new (Ok None)
goes_back law m new g closes = λ world meaning st trace s within_so closed can items.
    let frame = s.frames.0 in
    let v = result_of world st.top in
    let onto = g.onto in
    let mid = g.middle in
    let rs = reverse mid.below.items in
    let at = onto.base + m.top.node in
    let start : Machine = record m {
      work = mid.work;
      depth = depth_without m.top.function m.depth;
      left = None;
      below = mid.below;
      top = onto;
      values = mid.values;
    } in
    let noted = noted_as onto.stage start new (place m.top.node Body)
    (subst (λ (k : Machine). Notes k (place m.top.node Body) new) g.rest g.noted) in
    let z = noted.0 in
    let closed_so = closes_as m.work.below mid.work (subst (Closes m.work.below true) (ap (λ (k : Machine). k.work) noted.1) closes) in
    let ws = closed_so.0 in
    let wss = closed_so.1 in
    let whole : new ≡ gone_back m mid z onto ws wss = noted.1 ∙ ap (λ (w : Stacked). record start { work = w; strayed = z.strayed }) closed_so.3 in
    let turned : reverse m.below.items ≡ onto ∷ rs = ap reverse g.below ∙ reverse-append mid.below.items (onto ∷ []) in
    let high : length mid.below.items ≡ length rs = sym (length-reverse mid.below.items) in
    let seen = left_as m.memory world m.program.now st.top m.top.function m.left g.value s.program frame.function frame.result s.result can.function
    g.leaves in
    subst (λ (k : Machine). ComesTo world meaning None k (limited world.limits (back world st.held v st.store trace))) (sym whole)
    (back_comes law world meaning m mid z st onto ws wss v trace g.others
    (subst (λ (h : ℕ). (j : ℕ) → j ≢ h → slice_get z.strayed.items j ≡ slice_get m.strayed.items j) high noted.2)
    (subst (λ (h : ℕ). (t : Stage) → onto.stage ≡ Some t → NotedAt t.straight m.strayed.items z.strayed.items h (place m.top.node Body)) high noted.3)
    (λ lt. (g.value, g.room lt, seen.0, seen.1)) st.held s
    (subst (λ (ks : List (List Work)). StandFrames world meaning m None (onto ∷ rs) ks (map (λ h. (h.0, Some h.1)) st.held)) closed_so.2
    (subst (λ (os : List Open). StandFrames world meaning m None os m.work.below (map (λ h. (h.0, Some h.1)) st.held)) turned s.frames.2))
    (subst (λ (os : List Open). IsAbove m.top st.top os (map (λ h. (h.0, Some h.1)) st.held)) turned s.frames.1)
    (subst (λ (os : List Open). KeepToRooms m.image.code.now os st.held) turned can.rooms)
    (subst (λ (os : List Open). HasRoomBelow m.image.code.now (length m.values.items) m.top.node os st.held) turned can.room)
    frame.function s.depth within_so items)

run_ends : (world : World) (meaning : Option ℕ → Meaning) (m new : Machine) (status : ℕ) (wss : List (List Work)) (held : List (Local × Place)) (v : Value)
    (s : Store) (trace : List Entry) → StandFrames world meaning m None [] wss (map (λ h. (h.0, Some h.1)) held) → status ≡ status_of v →
    s.output ≡ new.streams.output → newest_items trace ≡ new.items →
    ComesTo world meaning (Some status) new (limited world.limits (back world held v s trace))
run_ends world meaning m new status wss [] v s trace frames is output items =
    (trace, ap (λ (k : ℕ). Ends k s.output trace) (sym is) ∙ ap (λ (o : Outputs). Ends status o trace) output, items)
run_ends world meaning m new status wss (h ∷ hs) v s trace frames is output items = absurd frames

pub run_answers : (m new : Machine) (status : ℕ) → EndsRun m new status → AnswersEnd m new (Ok (Some status))
run_answers m new status g = λ world meaning st trace s within_so closed can items.
    let frame = s.frames.0 in
    let seen = left_as m.memory world m.program.now st.top m.top.function m.left g.value s.program frame.function frame.result s.result can.function
    g.leaves in
    run_ends world meaning m new status m.work.below st.held (result_of world st.top) st.store trace
    (subst (λ (os : List Open). StandFrames world meaning m None (reverse os) m.work.below (map (λ h. (h.0, Some h.1)) st.held)) g.none s.frames.2)
    (g.exits m.memory ∙ ap status_of seen.1)
    (ap (λ (x : Store). x.output) s.memory.store ∙ sym (ap (λ io. io.output) g.output)) (items ∙ sym g.items)

pub end_answers : StandsAtEnd → (m new : Machine) (r : Result (Option ℕ) Halt) → EndsFrame m new r → OnOk r (Closes m.work.below true new.work) →
    AnswersEnd m new r
end_answers law m new (Err e) ends closes = ends
end_answers law m new (Ok None) ends closes = goes_back law m new ends closes
end_answers law m new (Ok (Some status)) ends closes = run_answers m new status ends

-- ---- what the code does is that
pub set_there : {A : Type 0} (xs : List A) (i : ℕ) (v : A) → i < length xs → slice_get (set xs i v) i ≡ Some v
set_there [] i v lt = absurd (omega (arith, lt))
set_there (x ∷ xs) zero v lt = refl
set_there (x ∷ xs) (suc i) v lt = set_there xs i v (omega (arith, lt))

pub set_other : {A : Type 0} (xs : List A) (i j : ℕ) (v : A) → j ≢ i → slice_get (set xs i v) j ≡ slice_get xs j
set_other [] i j v ne = refl
set_other (x ∷ xs) zero zero v ne = absurd (ne refl)
set_other (x ∷ xs) zero (suc j) v ne = refl
set_other (x ∷ xs) (suc i) zero v ne = refl
set_other (x ∷ xs) (suc i) (suc j) v ne = set_other xs i j v (λ e. ne (ap suc e))

abbrev pub or_this : Kept_value → Option Kept_value → Kept_value
or_this other None = other
or_this other (Some w) = w

pub or_this_is : (other : Kept_value) (o : Option Kept_value) → unwrap_or o other ≡ or_this other o
or_this_is other None = refl
or_this_is other (Some w) = refl

straight_not : (o : Option Stage) (s : Stage) (m n : Machine) (u : Place) → o ≡ Some s → s.straight ≡ false → HasNoted m u n → NotesIn o m u n
straight_not None s m n u is strays h = absurd (cc)
straight_not (Some t) s m n u is strays h =
    let same : s ≡ t = sym (some_same t s is) in
    let off : t.straight ≡ false = ap (λ (x : Stage). x.straight) (sym same) ∙ strays in
    subst (λ (b : Bool). NotesWay b m u n) (sym off) h

pub strayed_notes : {A E : Type 0} (r : Result A E) (o : Option Stage) (s : Stage) (m n : Machine) (u : Place) → o ≡ Some s → s.straight ≡ false →
    OnOk r (HasNoted m u n) → OnOk r (NotesIn o m u n)
strayed_notes (Ok x) o s m n u is strays h = straight_not o s m n u is strays h
strayed_notes (Err e) o s m n u is strays h = tt

pub noted_one : {A E : Type 0} (r : Result A E) (m n : Machine) (height : ℕ) (u : Place) (before after : List Marks) → height ≡ length m.below.items →
    n ≡ record m { strayed = n.strayed } → slice_get m.strayed.items height ≡ Some before → slice_get n.strayed.items height ≡ Some after →
    ((j : ℕ) → j ≢ height → slice_get n.strayed.items j ≡ slice_get m.strayed.items j) →
    OnOk r ((w : Place) → done_in after w ≡ (same_place u w || done_in before w)) → OnOk r (HasNoted m u n)
noted_one (Ok x) m n height u before after at rest was is others one = record {
  rest = rest;
  before = before;
  after = after;
  was = ap (slice_get m.strayed.items) (sym at) ∙ was;
  is = ap (slice_get n.strayed.items) (sym at) ∙ is;
  one = one;
  others = λ j ne. others j (λ e. ne (e ∙ at));
}
noted_one (Err e) m n height u before after at rest was is others one = tt

given_by : (p : Program) (f : Option ℕ) (left : Option Kept_value) (other v : Kept_value) → LeavesValue p f None other → v ≡ or_this other left →
    LeavesValue p f left v
given_by p f (Some w) other v leaves is = is
given_by p None None other v leaves is = is ∙ leaves
given_by p (Some n) None other v leaves is = subst (LeavesNone p n) (sym is) leaves

pub has_given : (m n : Machine) (other v : Kept_value) → n ≡ record m { depth = depth_without m.top.function m.depth } →
    LeavesValue m.program.now m.top.function None other → v ≡ or_this other n.left → HasGiven m v (record n { left = None })
has_given m n other v rest leaves is = record {
  rest = ap (λ (k : Machine). record k { left = None }) rest;
  value = given_by m.program.now m.top.function m.left other v leaves (is ∙ ap (λ (k : Machine). or_this other k.left) rest);
}

pub went_back : (m : Machine) (w : Stacked) (r p mid new : Machine) (onto : Open) (node : ℕ) (v : Kept_value) → HasGiven (record m { work = w }) v r →
    p ≡ record r { below = p.below; top = onto } → r.below.items ≡ p.below.items ++ onto ∷ [] → mid ≡ record p { values = mid.values } → node ≡ r.top.node →
    (p.top.base + node < length p.values.items → slice_get mid.values.items (p.top.base + node) ≡ Some v) →
    ((j : ℕ) → j ≢ p.top.base + node → slice_get mid.values.items j ≡ slice_get p.values.items j) → length mid.values.items ≡ length p.values.items →
    Notes mid (place node Body) new → GoesBack m new
went_back m w r p mid new onto node v given top below kept at room others count noted =
    let start : r ≡ record m { work = w; depth = depth_without m.top.function m.depth; left = None } = given.rest in
    let same : node ≡ m.top.node = at ∙ ap (λ (k : Machine). k.top.node) start in
    let base : p.top.base ≡ onto.base = ap (λ (k : Machine). k.top.base) top in
    let place_so : p.top.base + node ≡ onto.base + m.top.node = ap (λ (k : ℕ). k + node) base ∙ ap (λ (k : ℕ). onto.base + k) same in
    let values : p.values.items ≡ m.values.items = ap (λ (k : Machine). k.values.items) top ∙ ap (λ (k : Machine). k.values.items) start in
    let belows : mid.below.items ≡ p.below.items = ap (λ (k : Machine). k.below.items) kept in
    record {
      onto = onto;
      value = v;
      middle = mid;
      below = sym (ap (λ (k : Machine). k.below.items) start) ∙ below ∙ ap (λ (os : List Open). os ++ onto ∷ []) (sym belows);
      leaves = given.value;
      rest = kept ∙ ap (λ (k : Machine). record k { values = mid.values }) top
          ∙ ap (λ (k : Machine). record k { below = p.below; top = onto; values = mid.values }) start
          ∙ (λ i. record m {
            work = works i;
            depth = depth_without m.top.function m.depth;
            left = None;
            below = lists i;
            top = onto;
            values = mid.values;
          });
      room = subst (λ (k : ℕ). k < length m.values.items → slice_get mid.values.items k ≡ Some v) place_so
          (subst (λ (xs : List Kept_value). p.top.base + node < length xs → slice_get mid.values.items (p.top.base + node) ≡ Some v) values room);
      others = subst (λ (k : ℕ). (j : ℕ) → j ≢ k → slice_get mid.values.items j ≡ slice_get m.values.items j) place_so
          (λ j ne. others j ne ∙ ap (λ (xs : List Kept_value). slice_get xs j) values);
      count = count ∙ ap length values;
      noted = subst (λ (k : ℕ). Notes mid (place k Body) new) same noted;
    }
  where
    works : w ≡ mid.work
    works = sym (ap (λ (k : Machine). k.work) kept ∙ ap (λ (k : Machine). k.work) top ∙ ap (λ (k : Machine). k.work) given.rest)

    lists : p.below ≡ mid.below
    lists = sym (ap (λ (k : Machine). k.below) kept)

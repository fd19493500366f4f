-- A block is entered: the machine stands for what the definitions then are.
use Rattle.std.proofs.Common.{
  ◌≡◌,
  ◌≢◌,
  ℕ,
  zero,
  suc,
  ◌+◌,
  ◌-◌,
  ◌<◌,
  ◌≤◌,
  ◌^◌,
  ◌==◌,
  min,
  max,
  Bool,
  true,
  false,
  refl,
  sym,
  ap,
  ap₂,
  ◌∙◌,
  subst,
  arith,
  rules,
  List,
  [],
  ◌∷◌,
  length,
  map,
  reverse,
  Option,
  Some,
  None,
  slice_get,
}
use Rattle.std.proofs.lemmas.Bool.Decides.{nat_tests}
use Rattle.std.specs.Prelude.{◌&&◌, is_some, if◌then◌else◌, nat_lt, option_map}
use Rattle.std.specs.Borrow.{Bor}
use Rattle.std.proofs.lemmas.List.{length-map}
use Rattle.std.proofs.lemmas.Option.{slice_get-map}
use Rattle.ub_base.specs.declared.clause.Cause.TheVariants.{Created}
use Rattle.ub_base.specs.declared.names.ObjName.{ObjName}
use Rattle.ub_base.specs.declared.names.ObjName.TheVariants.{Auto}
use Rattle.addr_map.specs.declared.map.Row.{Row}
use Rattle.addr_map.specs.Rows.{row_at, row_of}
use Rattle.exposure.specs.declared.prov.Prov.TheVariants.{Whole}
use Rattle.c_typed.specs.declared.tree.Place.{Place}
use Rattle.mem_spec.specs.Acts.{base_in, has_place}
use Rattle.mem_spec.specs.Store.{Store}
use Rattle.mem_spec.specs.Streams.{Io}
use Rattle.mem_objects.specs.declared.value.Value.{Value as Kept_value}
use Rattle.mem_objects.specs.Keeps.{Keeps, RowsStay}
use Rattle.mem_objects.specs.Made.{IsMade}
use Rattle.mem_objects.specs.Memory.{store_of}
use Rattle.mem_objects.proofs.AccessLemmas.{before}
use Rattle.c_model.specs.Control as todo
use Rattle.c_model.specs.Control.{Todo, ready_work}
use Rattle.c_model.specs.Program.{Decl}
use Rattle.c_model.specs.Runs.{Entry, State, created_after, depth_of, limit_passed, too_many}
use Rattle.c_model.specs.Steps.{Begun, Local, Scene, auto_name}
use Rattle.c_model.specs.World.{World, Limits}
use Rattle.run_control.specs.declared.statement.Block.{Block}
use Rattle.run_control.specs.declared.work.Step.TheVariants as taking
use Rattle.run_control.specs.declared.work.Work.{Work}
use Rattle.run_control.specs.View.{Meaning, block_of, todo_of}
use Rattle.run_layout.specs.declared.steps.BlockCode.{BlockCode}
use Rattle.run_layout.specs.declared.steps.ObjectCode.{ObjectCode}
use Rattle.run_layout.specs.InRange.{part_of}
use Rattle.run_state.specs.declared.machine.Machine.{Machine}
use Rattle.run_state.specs.declared.machine.Open.{Open}
use Rattle.run_state.specs.declared.machine.Stage.{Stage}
use Rattle.run_state.specs.Stands.{IsAbove, SeesLocals, StandLocals, Stands, StandsBegun, StandsControl, StandsFrame, StandsLocal}
use Rattle.run_answers.specs.Answering.{HasTaken, as_before}
use Rattle.run_answers.specs.Entering.{Birth, CanBear, CanEnter, HasBirths, IsNew, birth_in, birth_of, born_by, born_first, new_name, reached_with, turned}
use Rattle.run_machine.proofs.Births.{CanAll}
use Rattle.run_machine.proofs.Growing.{frame_grown, frames_grown, tables_grown, with_objects_of}
use Rattle.run_machine.proofs.Lives.{result_stays}
use Rattle.run_answers.proofs.Still.{depth_same, frame_aside, frames_aside, tables_aside}
use Rattle.run_machine.proofs.Unwriting.{block_number, capped}

-- ---- the frame inside the block
abbrev pub inside : Local → (b turn : ℕ) → Todo → Local
inside f b turn rest =
    record f { scene = record f.scene { turn = turn; blocks = (b, turn) ∷ f.scene.blocks }; arguments = []; todo = rest }

abbrev pub at_turn : Open → ℕ → Open
at_turn o turn = record o { turn = turn }

-- the blocks that were open stand
pub locals_inside : (world : World) (m : Machine) (o : Open) (f : Scene) (t turn : ℕ) (inner bs : List (ℕ × ℕ)) → StandLocals world m o f bs →
    StandLocals world m (at_turn o t) (record f { turn = turn; blocks = inner }) bs
locals_inside world m o f t turn inner [] l = tt
locals_inside world m o f t turn inner (b ∷ bs) l = (l.0, locals_inside world m o f t turn inner bs l.1)

pub begun_inside : (world : World) (meaning : Meaning) (m : Machine) (height : ℕ) (o p : Open) (stage : Option Stage) (f g : Scene) (e : Option Begun)
    (waiting : Option Place) → e ≡ None → StandsBegun world meaning m height o stage f e waiting → StandsBegun world meaning m height p stage g e waiting
begun_inside world meaning m height o p None f g None waiting none b = b
begun_inside world meaning m height o p (Some stage) f g None waiting none b = absurd b
begun_inside world meaning m height o p stage f g (Some e) waiting none b = absurd (cc)

pub frame_inside : (world : World) (meaning : Meaning) (m : Machine) (height : ℕ) (o : Open) (ws vs : List Work) (left : Option Kept_value) (f : Local)
    (b t turn : ℕ) (rest : Todo) → t ≡ turn → f.begun ≡ None → StandsControl meaning vs (inside f b turn rest) →
    ((code : BlockCode) × (slice_get m.image.code.now.tables.blocks.items (o.blocks + b) ≡ Some code)
    × ((k : ℕ) → k < code.objects.count → StandsLocal world m (o.locals + (code.first + k)) f.scene turn k)) →
    StandsFrame world meaning m height o ws left f None → StandsFrame world meaning m height (at_turn o t) vs left (inside f b turn rest) None
frame_inside world meaning m height o ws vs left f b t turn rest is closed control new s = record {
  number = s.number;
  turn = is;
  function = s.function;
  arguments = tt;
  locals = (new, locals_inside world m o f.scene t turn ((b, turn) ∷ f.scene.blocks) f.scene.blocks s.locals);
  result = s.result;
  control = control;
  begun = begun_inside world meaning m height o (at_turn o t) o.stage f.scene (record f.scene { turn = turn; blocks = (b, turn) ∷ f.scene.blocks }) f.begun
      None closed s.begun;
}

-- a function's frame is known to those below by its path
pub sees_inside : (n : Option ℕ) (o : Open) (f : Local) (b t turn : ℕ) (rest : Todo) (below : Open) (g : Local) → is_some n ≡ true →
    SeesLocals n o f below g → SeesLocals n (at_turn o t) (inside f b turn rest) below g
sees_inside (Some n) o f b t turn rest below g there s = s
sees_inside None o f b t turn rest below g there s = absurd (cc)

pub above_inside : (o : Open) (f : Local) (b t turn : ℕ) (rest : Todo) (opens : List Open) (fs : List (Local × Option Place)) → is_some o.function ≡ true →
    IsAbove o f opens fs → IsAbove (at_turn o t) (inside f b turn rest) opens fs
above_inside o f b t turn rest [] [] there a = a
above_inside o f b t turn rest [] (h ∷ hs) there a = absurd a
above_inside o f b t turn rest (below ∷ opens) [] there a = absurd a
above_inside o f b t turn rest (below ∷ opens) (h ∷ hs) there a = record {
  waits = a.waits;
  path = a.path;
  rooms = a.rooms;
  locals = sees_inside o.function o f b t turn rest below h.0 there a.locals;
}

-- a function's frame names its objects by its own number
pub sees_home : (n : Option ℕ) (o : Open) (f : Local) (below : Open) (g : Local) → is_some n ≡ true → SeesLocals n o f below g → f.scene.home ≡ f.scene.path
sees_home (Some n) o f below g there s = s.1
sees_home None o f below g there s = absurd (cc)

pub own_home : (o : Open) (f : Local) (opens : List Open) (fs : List (Local × Option Place)) → is_some o.function ≡ true → IsAbove o f opens fs →
    f.scene.home ≡ f.scene.path
own_home o f [] [] there a = a.1 ∙ sym a.0
own_home o f [] (h ∷ hs) there a = absurd a
own_home o f (below ∷ opens) [] there a = absurd a
own_home o f (below ∷ opens) (h ∷ hs) there a = sees_home o.function o f below h.0 there a.locals

-- ---- created bytes
pub counted : (n k d : ℕ) → min (min (n + k) (2 ^ 62) + d) (2 ^ 62) ≡ min (n + min (k + d) (2 ^ 62)) (2 ^ 62)
counted n k d = omega arith

pub after_more : (n k : ℕ) (ds : List Decl) → n ≤ 2 ^ 62 → k ≤ 2 ^ 62 →
    created_after (min (n + k) (2 ^ 62)) ds ≡ min (n + created_after k ds) (2 ^ 62)
after_more n k [] low small = refl
after_more n k (d ∷ ds) low small =
    ap (λ (z : ℕ). created_after z ds) (counted n k (max d.size 16)) ∙ after_more n (min (k + max d.size 16) (2 ^ 62)) ds low (omega arith)

pub after_block : (n : ℕ) (ds : List Decl) → n ≤ 2 ^ 62 → created_after n ds ≡ min (n + created_after 0 ds) (2 ^ 62)
after_block n ds low = ap (λ (z : ℕ). created_after z ds) (let same : n ≡ min (n + 0) (2 ^ 62) = omega (arith, low) in same)
    ∙ after_more n 0 ds low (omega arith)

pub born_created : (x : ℕ → ObjName) (bs : List Birth) (k : ℕ) (s : Store) (ds : List Decl) (n : ℕ) → n ≡ k + length ds →
    ((j : ℕ) (d : Decl) → slice_get ds j ≡ Some d → slice_get bs (k + j) ≡ Some (birth_in d)) →
    (born_first x bs n s).created ≡ created_after (born_first x bs k s).created ds
born_created x bs k s [] n e at = ap (λ (j : ℕ). (born_first x bs j s).created) (omega (arith, e))
born_created x bs k s (d ∷ ds) n e at =
    born_created x bs (suc k) s ds n (omega (arith, e)) (λ j c is. subst (λ (i : ℕ). slice_get bs i ≡ Some (birth_in c)) (omega arith) (at (suc j) c is))
    ∙ ap (λ (b : Option Birth). created_after (born_by (born_first x bs k s) (x k) b).created ds)
    (subst (λ (i : ℕ). slice_get bs i ≡ Some (birth_in d)) (omega arith) (at 0 d refl))

pub written_by : (s : Store) (x : ObjName) (b : Option Birth) → (born_by s x b).output ≡ s.output
written_by s x None = refl
written_by s x (Some c) = refl

-- ---- limits
pub not_over : (l n : ℕ) → nat_lt l n ≡ false → n ≤ l
not_over l n e = grind (arith, nat_tests, e)

pub under : (l n : ℕ) → n ≤ l → nat_lt l n ≡ false
under l n le = grind (arith, nat_tests, le)

pub over : (l n : ℕ) → l < n → nat_lt l n ≡ true
over l n lt = grind (arith, nat_tests, lt)

pub depth_by : {A : Type 0} (a : Bool) (x : A) (rest : Option A) → (if a then Some x else rest) ≡ None → (a ≡ false) × (rest ≡ None)
depth_by true x rest h = absurd (cc)
depth_by false x rest h = (refl, h)

-- what a state within the limits has created
pub created_low : (limits : Limits) (depth : ℕ) (s : Store) → limit_passed limits depth s ≡ None → s.created ≤ limits.created
created_low limits depth s h = not_over limits.created s.created (depth_by _ _ _ (depth_by _ _ _ h).1).0

pub both_within : {A : Type 0} (a b c : Bool) (x y z : A) → (if a then Some x else (if b then Some y else (if c then Some z else None))) ≡ None →
    (d : Bool) (w : A) → d ≡ false → (if a then Some x else (if d then Some w else (if c then Some z else None))) ≡ None
both_within true b c x y z h d w e = absurd (cc)
both_within false true c x y z h d w e = absurd (cc)
both_within false false c x y z h true w e = absurd (cc)
both_within false false c x y z h false w e = h

-- as much is open and written, and no more was created than may be
pub limit_within : (limits : Limits) (depth : ℕ) (s t : Store) → t.output ≡ s.output → t.created ≤ limits.created → limit_passed limits depth s ≡ None →
    limit_passed limits depth t ≡ None
limit_within limits depth s t output low h =
    ap (λ o. limit_passed limits depth (record s { created = t.created; output = o })) output
    ∙ both_within _ _ _ _ _ _ h (nat_lt limits.created t.created) (Created, t.created) (under limits.created t.created low)

pub too_many_not : (limits : Limits) (n : ℕ) → n ≤ limits.created → too_many limits n ≡ None
too_many_not limits n le = ap (λ (b : Bool). if b then Some (Created, n) else None) (under limits.created n le)

pub too_many_so : (limits : Limits) (n : ℕ) → limits.created < n → too_many limits n ≡ Some (Created, n)
too_many_so limits n lt = ap (λ (b : Bool). if b then Some (Created, n) else None) (over limits.created n lt)

-- ---- what was created has its rows in the world
pub placed_so : (o : Option Row) (x : ObjName) (base size align : ℕ) → o ≡ Some (row_at x base size align) → has_place o size align ≡ true
placed_so o x base size align e = ap (λ (r : Option Row). has_place r size align) e ∙ ap₂ ◌&&◌ (same_number size) (same_number align)
  where
    same_number : (n : ℕ) → (n == n) ≡ true
    same_number n = search (rules)

pub same_birth : (xs : List ObjectCode) (ds : List Decl) (k : ℕ) (o : ObjectCode) (d : Decl) → map birth_of xs ≡ map birth_in ds → slice_get xs k ≡ Some o →
    slice_get ds k ≡ Some d → birth_of o ≡ birth_in d
same_birth xs ds k o d same at is =
    some_same (birth_of o) (birth_in d)
    (ap (option_map birth_of) (sym at) ∙ sym (slice_get-map birth_of xs k) ∙ ap (λ (bs : List Birth). slice_get bs k) same
    ∙ slice_get-map birth_in ds k ∙ ap (option_map birth_in) is)
  where
    some_same : (a b : Birth) → Some a ≡ Some b → a ≡ b
    some_same a b e = cc

module _ (world : World) (f : Scene) (turn : ℕ) (old new : Machine) (objects : List ObjectCode) (first : ℕ) (ds : List Decl) (io : Io)
    (names : new_name old ≡ auto_name world f turn) (same : map birth_of objects ≡ map birth_in ds) (rows : RowsStay new.memory.rows world.rows) where
  abbrev own : ℕ → ObjName
  own = auto_name world f turn

  -- of one object
  pub can_one : (k : ℕ) (d : Decl) → slice_get ds k ≡ Some d → IsNew old objects first k new →
      (slice_get (map birth_in ds) k ≡ Some (birth_in d)) × (has_place (row_of world.rows (own k)) d.size d.align ≡ true)
      × ((born_first own (map birth_in ds) k (store_of old.memory io)).life (own k) ≡ None)
  can_one k d is i =
      let births = same_birth objects ds k i.object d same i.at is in
      let at : row_of world.rows (new_name old k) ≡ Some (row_at (new_name old k) i.base i.object.size i.object.align) =
      rows (new_name old k) (row_at (new_name old k) i.base i.object.size i.object.align) i.row in (
        slice_get-map birth_in ds k ∙ ap (option_map birth_in) is,
        ap (λ (x : ℕ → ObjName). has_place (row_of world.rows (x k)) d.size d.align) (sym names)
            ∙ ap (λ (b : Birth). has_place (row_of world.rows (new_name old k)) b.size b.align) (sym births)
            ∙ placed_so (row_of world.rows (new_name old k)) (new_name old k) i.base i.object.size i.object.align at,
        ap (λ (x : ℕ → ObjName). (born_first x (map birth_in ds) k (store_of old.memory io)).life (x k)) (sym names)
            ∙ ap (λ (bs : List Birth). (born_first (new_name old) bs k (store_of old.memory io)).life (new_name old k)) (sym same) ∙ i.absent io,
      )

  can_from : (k n : ℕ) (ts : List Decl) → n ≡ k + length ts → ((j : ℕ) (d : Decl) → slice_get ts j ≡ Some d → slice_get ds (k + j) ≡ Some d) →
      ((j : ℕ) → j < n → IsNew old objects first j new) → CanAll world f turn (map birth_in ds) (store_of old.memory io) k ts
  can_from k n [] e tail each = tt
  can_from k n (d ∷ ts) e tail each =
      let here : slice_get ds k ≡ Some d = subst (λ (i : ℕ). slice_get ds i ≡ Some d) (omega arith) (tail 0 d refl) in
      let one = can_one k d here (each k (omega (arith, e))) in (
        one.0,
        one.1,
        one.2,
        can_from (suc k) n ts (omega (arith, e))
            (λ j c is. subst (λ (i : ℕ). slice_get ds i ≡ Some c) (omega arith) (tail (suc j) c is)) each,
      )

  pub can_all : ((j : ℕ) → j < length ds → IsNew old objects first j new) → CanAll world f turn (map birth_in ds) (store_of old.memory io) 0 ds
  can_all each = can_from 0 (length ds) ds (omega arith) (λ j d is. subst (λ (i : ℕ). slice_get ds i ≡ Some d) (omega arith) is) each

  -- the objects stand where the definitions have them
  pub stands_new : (o : Open) (k : ℕ) → old.top.locals ≡ o.locals → IsNew old objects first k new →
      StandsLocal world new (o.locals + (first + k)) f turn k
  stands_new o k bases i =
      let x = new_name old k in
      let at : row_of world.rows x ≡ Some (row_at x i.base i.object.size i.object.align) = rows x (row_at x i.base i.object.size i.object.align) i.row in
      subst (λ (y : ObjName). (slice_get new.locals.items (o.locals + (first + k)) ≡ Some (record { addr = base_in (row_of world.rows y); name = y }))
      × IsMade new.memory (Whole y)) (ap (λ (y : ℕ → ObjName). y k) names) (
        ap (λ (b : ℕ). slice_get new.locals.items (b + (first + k))) (sym bases) ∙ i.placed
            ∙ ap (λ (r : Option Row). Some (record { addr = base_in r; name = x })) (sym at),
        i.made,
      )

-- ---- the machine is inside
abbrev pub inside_machine : (m new : Machine) → (number turn : ℕ) → Machine
inside_machine m new number turn = record m {
  entered = number;
  top = at_turn m.top turn;
  memory = new.memory;
  locals = new.locals;
  items = new.items;
  spare = new.spare;
}

pub entered_stands : (world : World) (meaning : Option ℕ → Meaning) (m new : Machine) (before : List Work) (st : State) (b number t turn : ℕ) (rest : Todo)
    (trace : List Entry) (c : BlockCode) (ds : List Decl) → Stands world meaning (as_before m before) st → CanEnter world m st b ds →
    slice_get m.image.code.now.tables.blocks.items (m.top.blocks + b) ≡ Some c → HasBirths m.image.code.now m.top st.top.scene.blocks c ds st.top.arguments →
    Keeps m.memory new.memory → new.memory.types ≡ m.memory.types → RowsStay new.memory.rows world.rows → t ≡ turn → st.top.begun ≡ None →
    StandsControl (meaning m.top.function) m.work.now (inside st.top b turn rest) →
    ((j : ℕ) → ((k : ℕ) → k < length ds → j ≢ m.top.locals + (c.first + k)) → slice_get new.locals.items j ≡ slice_get m.locals.items j) →
    ((k : ℕ) → k < c.objects.count → StandsLocal world new (m.top.locals + (c.first + k)) st.top.scene turn k) →
    Stands world meaning (inside_machine m new number t)
    (record { top = inside st.top b turn rest; held = st.held; store = store_of new.memory m.streams; trace = trace })
entered_stands world meaning m new before st b number t turn rest trace c ds s can at has keeps types rows is closed control others locals =
    let there = as_before m before in
    let grown = with_objects_of there new in
    let inner = inside_machine m new number t in
    let mg = meaning m.top.function in
    let os = reverse m.below.items in
    let fs : List (Local × Option Place) = map (λ (h : Local × Place). (h.0, Some h.1)) st.held in
    let low : (j : ℕ) → j < m.top.locals + c.first → slice_get new.locals.items j ≡ slice_get m.locals.items j = λ j lt.
    others j (λ k below e. omega (arith, lt, e)) in
    let lower : (j : ℕ) → j < m.top.locals → slice_get new.locals.items j ≡ slice_get m.locals.items j = λ j lt.
    others j (λ k below e. omega (arith, lt, e)) in
    record {
      program = s.program;
      code = s.code;
      listed = s.listed;
      memory = record {
        store = refl;
        sound = keeps.sound s.memory.sound;
        tagged = keeps.tagged s.memory.tagged;
        bare = keeps.bare s.memory.bare;
        high = keeps.high s.memory.high;
        rows = rows;
      };
      tables = tables_aside grown inner (tables_grown world there new (m.top.locals + c.first) keeps types low s.code.constants s.tables);
      frames = (
        frame_aside world mg grown inner (length os) (at_turn m.top t) m.work.now m.left (inside st.top b turn rest) None
            (frame_inside world mg grown (length os) m.top before m.work.now m.left st.top b t turn rest is closed control (c, at, locals)
            (frame_grown world there new (m.top.locals + c.first) keeps types low mg (length os) m.top before m.left st.top None s.result has.behind
            s.frames.0)),
        above_inside m.top st.top b t turn rest os fs can.function s.frames.1,
        frames_aside world meaning grown inner None os m.work.below fs
            (frames_grown world there new m.top.locals keeps types lower meaning os m.work.below st.held can.below s.frames.2),
      );
      result = result_stays m.memory new.memory m.left keeps s.result;
      depth = s.depth ∙ sym (depth_same st.top (inside st.top b turn rest) st.held refl);
    }

-- ---- what is known of the block
pub none_begun : {A : Type 0} (o : Option A) → o ≡ None → is_some o ≡ true → ⊥
none_begun None n e = cc
none_begun (Some x) n e = cc

pub next_turn : (o f : ℕ) → o ≡ f → f + 1 < 2 ^ 64 → min (o + 1) (2 ^ 64 - 1) ≡ suc f
next_turn o f e lt = omega (arith, e, lt)

pub record IsKnown (world : World) (meaning : Option ℕ → Meaning) (m : Machine) (number n : ℕ) (ds : List Decl) (st : State) (c : BlockCode) : Type 0 where
  pub can : CanEnter world m st n ds
  pub at : slice_get m.image.code.now.tables.blocks.items (m.top.blocks + n) ≡ Some c
  pub has : HasBirths m.image.code.now m.top st.top.scene.blocks c ds st.top.arguments
  pub turn : min (m.top.turn + 1) (2 ^ 64 - 1) ≡ suc st.top.scene.turn
  pub names : new_name (turned m number) ≡ auto_name world st.top.scene (suc st.top.scene.turn)
  pub count : length (part_of m.image.code.now.tables.objects.items c.objects) ≡ length ds
  pub bears : CanBear (turned m number) c.first (length (part_of m.image.code.now.tables.objects.items c.objects))
  pub reached : created_after st.store.created ds ≡ reached_with (turned m number) c
  pub low : st.store.created ≤ 2 ^ 26

pub known : (world : World) (meaning : Option ℕ → Meaning) (m : Machine) (b : Bor Block) (st : State) (c : BlockCode) →
    HasTaken world meaning (taking.Enter b) m st →
    slice_get m.image.code.now.tables.blocks.items (min (m.top.blocks + b.now.number) (2 ^ 32 - 1)) ≡ Some c →
    IsKnown world meaning m b.now.number (block_of (meaning m.top.function) b.now).number
    ((meaning m.top.function).decls (block_of (meaning m.top.function) b.now).number) st c
known world meaning m b st c h block =
    let mg = meaning m.top.function in
    let n = (block_of mg b.now).number in
    let ds = mg.decls n in
    let can : CanEnter world m st n ds = h.enters in
    let frame = h.stands.frames.0 in
    let at = ap (slice_get m.image.code.now.tables.blocks.items) (sym (capped m.top.blocks n (m.top.blocks + b.now.number) can.number
    (ap (λ (j : ℕ). m.top.blocks + j) (sym (block_number mg b.now))))) ∙ block in
    let has = can.block c at in
    let turn = next_turn m.top.turn st.top.scene.turn frame.turn can.turn in
    let home = own_home m.top st.top (reverse m.below.items) (map (λ (h : Local × Place). (h.0, Some h.1)) st.held) can.function h.stands.frames.1 in
    let number : m.top.frame.0 ≡ world.number st.top.scene.home = frame.number ∙ ap world.number (sym home) in
    let objects = part_of m.image.code.now.tables.objects.items c.objects in
    let count : length objects ≡ length ds = sym (length-map objects birth_of) ∙ ap length has.objects ∙ length-map ds birth_in in
    let created : st.store.created ≡ m.memory.created = ap (λ (s : Store). s.created) h.stands.memory.store in
    let low : st.store.created ≤ 2 ^ 26 = subst (λ (l : ℕ). st.store.created ≤ l) can.limit
    (created_low world.limits (depth_of st.top st.held) st.store h.within) in
    record {
      can = can;
      at = at;
      has = has;
      turn = turn;
      names = λ i k. Auto (record { 0 = number i }) (turn i) k;
      count = count;
      bears = record {
        sound = h.stands.memory.sound;
        numbers = subst (λ (k : ℕ). c.first + k < 2 ^ 32) (sym count) has.numbers;
        places = subst (λ (k : ℕ). m.top.locals + (c.first + k) < 2 ^ 64) (sym count) has.places;
      };
      reached = after_block st.store.created ds (omega (arith, low)) ∙ ap (λ (k : ℕ). min (k + created_after 0 ds) (2 ^ 62)) created
          ∙ ap (λ (k : ℕ). min (m.memory.created + k) (2 ^ 62)) (sym has.created);
      low = low;
    }

pub ready_so : (world : World) (meaning : Option ℕ → Meaning) (m : Machine) (b : Bor Block) (st : State) → HasTaken world meaning (taking.Enter b) m st →
    ready_work st.top.todo ≡ todo.Enter (block_of (meaning m.top.function) b.now).number
    ((meaning m.top.function).decls (block_of (meaning m.top.function) b.now).number) ∷ todo_of (meaning m.top.function) m.work.now
ready_so world meaning m b st h = sym (h.next ∙ h.stands.frames.0.control.ready)

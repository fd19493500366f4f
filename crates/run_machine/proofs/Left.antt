-- A block is left: its objects die as the definitions say, and it is open no more; the frame goes on, or ends.
use Rattle.std.proofs.Common.{
  ◌≡◌,
  ℕ,
  zero,
  suc,
  ◌+◌,
  ◌-◌,
  ◌<◌,
  ◌^◌,
  ◌==◌,
  min,
  Bool,
  true,
  false,
  refl,
  sym,
  ap,
  ◌∙◌,
  subst,
  arith,
  append_assoc,
  List,
  [],
  ◌∷◌,
  ◌++◌,
  length,
  map,
  reverse,
  rules,
  Option,
  Some,
  None,
  slice_get,
}
use Rattle.std.specs.Borrow.{Bor}
use Rattle.std.specs.Prelude.{is_some, if◌then◌else◌, Result, Ok, Err, OnOk}
use Rattle.ub_base.specs.declared.names.Item.{Item}
use Rattle.ub_base.specs.declared.names.Item.TheVariants.{Dies}
use Rattle.ub_base.specs.declared.names.ObjName.{ObjName}
use Rattle.addr_map.specs.declared.map.Row.{Row}
use Rattle.c_typed.specs.declared.tree.Place.{Place}
use Rattle.mem_spec.specs.Script.{Done, Give, Script, run, touched}
use Rattle.mem_spec.specs.Store.{Store, buried}
use Rattle.mem_objects.specs.Held.{Held}
use Rattle.mem_objects.specs.Keeps.{Keeps}
use Rattle.mem_objects.specs.Memory.{Kept, store_of}
use Rattle.mem_objects.specs.declared.value.Value.{Value as Kept_value}
use Rattle.c_model.specs.Control as todo
use Rattle.c_model.specs.Control.{Todo, ready_work}
use Rattle.c_model.specs.OpenBlocks.{Closes}
use Rattle.c_model.specs.Program.{Decl}
use Rattle.c_model.specs.Runs.{Entry, Outcome, Running, State, depth_of, entry_of, limit_passed, step}
use Rattle.c_model.specs.Moves.{End, Stay}
use Rattle.c_model.specs.Steps.{
  Begun,
  Control,
  Local,
  Scene,
  auto_name,
  control_act,
  control_next,
  ends_with,
  kill_all,
  result_of,
  turn_of,
  without_block,
}
use Rattle.c_model.specs.Values.{Value}
use Rattle.c_model.specs.World.{World, Limits}
use Rattle.run_control.specs.declared.statement.Block.{Block}
use Rattle.run_control.specs.declared.work.Step.{Step}
use Rattle.run_control.specs.declared.work.Step.TheVariants as taking
use Rattle.run_control.specs.declared.work.Work.{Work}
use Rattle.run_control.specs.Stacked.{Stacked}
use Rattle.run_control.specs.View.{Meaning, block_of, is_nothing, todo_of}
use Rattle.run_layout.specs.declared.steps.BlockCode.{BlockCode}
use Rattle.run_state.specs.declared.halt.Halt.{Halt}
use Rattle.run_state.specs.declared.halt.Halt.TheVariants as halt
use Rattle.run_state.specs.declared.machine.Machine.{Machine}
use Rattle.run_state.specs.declared.machine.Open.{Open}
use Rattle.run_state.specs.declared.machine.Stage.{Stage}
use Rattle.run_state.specs.Stands.{IsAbove, SeesLocals, StandLocals, Stands, StandsBegun, StandsControl, StandsFrame, frames_of}
use Rattle.run_answers.specs.Answering.{Answers, AnswersStep, ComesTo, HasObjects, HasTaken, as_before}
use Rattle.run_answers.specs.Ended.{AnswersEnd}
use Rattle.run_answers.specs.Leaving.{GoesStill, HaveDied, LeavesBlock, buried_first, deaths, name_at, name_in}
use Rattle.run_answers.specs.Moving.{GoesOn}
use Rattle.run_machine.proofs.Leaving.{nothing_more}
use Rattle.run_machine.proofs.Lives.{stands_live, with_lives, with_objects}
use Rattle.run_answers.proofs.Staying.{by_step, control_ends, control_stays}
use Rattle.run_answers.proofs.Still.{depth_same, frames_aside, left_stands, tables_aside}
use Rattle.run_machine.proofs.Unwriting.{begins_with, block_number, capped, capped_wide, some_same}

-- ---- the definitions: one after the other
abbrev deaths_from : (ℕ → ObjName) → (k n : ℕ) → List Item
deaths_from x k zero = []
deaths_from x k (suc n) = Dies (x k) ∷ deaths_from x (suc k) n

module _ (world : World) (rows : List Row) (f : Scene) (turn : ℕ) (v : Value) (s : Store) where
  abbrev own : ℕ → ObjName
  own = auto_name world f turn

  killed : (k n : ℕ) (ds : List Decl) → n ≡ k + length ds →
      run rows (kill_all world f turn k ds (Give v)) (buried_first own k s) ≡ Done v (deaths_from own k (length ds)) (buried_first own n s)
  killed k n [] e = ap (λ (m : ℕ). Done v [] (buried_first own m s)) (omega (arith, e))
  killed k n (d ∷ ds) e = ap (touched (Dies (own k))) (killed (suc k) n ds (omega (arith, e)))

joined : (x : ℕ → ObjName) (k m n : ℕ) → m ≡ k + n → deaths x k ++ deaths_from x k n ≡ deaths x m
joined x k m zero e = (let same : k ≡ m = omega (arith, e) in sym (nothing_more (deaths x k)) ∙ ap (deaths x) same)
joined x k m (suc n) e =
    let along : deaths x k ++ (Dies (x k) ∷ deaths_from x (suc k) n) ≡ (deaths x k ++ (Dies (x k) ∷ [])) ++ deaths_from x (suc k) n = simp append_assoc in
    along ∙ joined x (suc k) m n (omega (arith, e))

-- by names that are the same
deaths_same : (x y : ℕ → ObjName) (n : ℕ) → ((j : ℕ) → j < n → x j ≡ y j) → deaths x n ≡ deaths y n
deaths_same x y zero same = refl
deaths_same x y (suc n) same =
    ap (λ (is : List Item). is ++ (Dies (x n) ∷ [])) (deaths_same x y n (λ j lt. same j (omega (arith, lt))))
    ∙ ap (λ (z : ObjName). deaths y n ++ (Dies z ∷ [])) (same n (omega arith))

buried_same : (x y : ℕ → ObjName) (n : ℕ) (s : Store) → ((j : ℕ) → j < n → x j ≡ y j) → buried_first x n s ≡ buried_first y n s
buried_same x y zero s same = refl
buried_same x y (suc n) s same =
    ap (λ (t : Store). buried t (x n)) (buried_same x y n s (λ j lt. same j (omega (arith, lt)))) ∙ ap (buried (buried_first y n s)) (same n (omega arith))

-- ---- the machine's names are those of the innermost block
names_left : (world : World) (m : Machine) (f : Scene) (n turn : ℕ) (os : List (ℕ × ℕ)) (c : BlockCode) (ds : List Decl) →
    slice_get m.image.code.now.tables.blocks.items (m.top.blocks + n) ≡ Some c → HasObjects m.top n c ds → StandLocals world m m.top f ((n, turn) ∷ os) →
    (k : ℕ) → k < c.objects.count → name_at m c.first k ≡ auto_name world f turn k
names_left world m f n turn os c ds block has locals k lt =
    let same : locals.0.0 ≡ c = some_same locals.0.0 c (sym locals.0.1 ∙ block) in
    let bounds = has.within k lt in
    let there = locals.0.2 k (subst (λ (b : BlockCode). k < b.objects.count) (sym same) lt) in
    ap name_in (ap (λ (i : ℕ). slice_get m.locals.items (min (m.top.locals + i) (2 ^ 64 - 1))) (capped c.first k (c.first + k) bounds.0 refl)
    ∙ ap (slice_get m.locals.items) (capped_wide m.top.locals (c.first + k) bounds.1)
    ∙ ap (λ (b : BlockCode). slice_get m.locals.items (m.top.locals + (b.first + k))) (sym same) ∙ there.0)

-- ---- the frame without the block
abbrev without : Local → List (ℕ × ℕ) → Todo → Local
without f os rest = record f { scene = record f.scene { blocks = os }; todo = rest }

locals_without : (world : World) (m : Machine) (o : Open) (f : Scene) (os bs : List (ℕ × ℕ)) → StandLocals world m o f bs →
    StandLocals world m o (record f { blocks = os }) bs
locals_without world m o f os [] l = tt
locals_without world m o f os (b ∷ bs) l = (l.0, locals_without world m o f os bs l.1)

begun_without : (world : World) (meaning : Meaning) (m : Machine) (height : ℕ) (o : Open) (stage : Option Stage) (f g : Scene) (e : Option Begun)
    (waiting : Option Place) → e ≡ None → StandsBegun world meaning m height o stage f e waiting → StandsBegun world meaning m height o stage g e waiting
begun_without world meaning m height o None f g None waiting none b = b
begun_without world meaning m height o (Some stage) f g None waiting none b = absurd b
begun_without world meaning m height o stage f g (Some e) waiting none b = absurd (cc)

frame_without : (world : World) (meaning : Meaning) (m : Machine) (height : ℕ) (o : Open) (ws vs : List Work) (left : Option Kept_value) (f : Local)
    (b : ℕ × ℕ) (os : List (ℕ × ℕ)) (rest : Todo) → f.scene.blocks ≡ b ∷ os → f.begun ≡ None → StandsControl meaning vs (without f os rest) →
    StandsFrame world meaning m height o ws left f None → StandsFrame world meaning m height o vs left (without f os rest) None
frame_without world meaning m height o ws vs left f b os rest is closed control s = record {
  number = s.number;
  turn = s.turn;
  function = s.function;
  arguments = s.arguments;
  locals = locals_without world m o f.scene os os (subst (λ (bs : List (ℕ × ℕ)). StandLocals world m o f.scene bs) is s.locals).1;
  result = s.result;
  control = control;
  begun = begun_without world meaning m height o o.stage f.scene (record f.scene { blocks = os }) f.begun None closed s.begun;
}

-- a function's frame is known to those below by its path
sees_without : (n : Option ℕ) (o : Open) (f : Local) (os : List (ℕ × ℕ)) (rest : Todo) (below : Open) (g : Local) → is_some n ≡ true →
    SeesLocals n o f below g → SeesLocals n o (without f os rest) below g
sees_without (Some n) o f os rest below g there s = s
sees_without None o f os rest below g there s = absurd (cc)

above_without : (o : Open) (f : Local) (os : List (ℕ × ℕ)) (rest : Todo) (opens : List Open) (fs : List (Local × Option Place)) →
    is_some o.function ≡ true → IsAbove o f opens fs → IsAbove o (without f os rest) opens fs
above_without o f os rest [] [] there a = a
above_without o f os rest [] (h ∷ hs) there a = absurd a
above_without o f os rest (below ∷ opens) [] there a = absurd a
above_without o f os rest (below ∷ opens) (h ∷ hs) there a =
    record { waits = a.waits; path = a.path; rooms = a.rooms; locals = sees_without o.function o f os rest below h.0 there a.locals }

-- ---- the definitions: the block that is left is the innermost
closes_first : (n : ℕ) (ds : List Decl) (rest : Todo) (around : List ℕ) → Closes (todo.Leave n ds ∷ rest) around → (os : List ℕ) × (around ≡ n ∷ os)
closes_first n ds rest [] closes = absurd closes
closes_first n ds rest (o ∷ os) closes = (os, ap (λ (j : ℕ). j ∷ os) closes.0)

same_number : (n : ℕ) → (n == n) ≡ true
same_number n = search (rules)

module _ (world : World) (f : Local) (n turn : ℕ) (os : List (ℕ × ℕ)) (ds : List Decl) (rest : Todo) (is : f.scene.blocks ≡ (n, turn) ∷ os) where
  act_left : control_act world f (todo.Leave n ds ∷ rest) ≡ kill_all world f.scene turn 0 ds (Give (result_of world f))
  act_left = ap (λ (bs : List (ℕ × ℕ)). kill_all world f.scene (turn_of bs n) 0 ds (Give (result_of world f))) is
      ∙ ap (λ (t : Bool). kill_all world f.scene (if t then turn else turn_of os n) 0 ds (Give (result_of world f))) (same_number n)

  next_left : control_next world f (todo.Leave n ds ∷ rest) ≡ without f os rest
  next_left = ap (λ (bs : List (ℕ × ℕ)). without f (without_block bs n) rest) is
      ∙ ap (λ (t : Bool). without f (if t then os else (n, turn) ∷ without_block os n) rest) (same_number n)

ends_not : (world : World) (t : Todo) → is_nothing t ≡ false → ends_with world t ≡ false
ends_not world [] e = absurd (cc)
ends_not world (w ∷ ws) e = refl

limit_same : (limits : Limits) (depth : ℕ) (x : ℕ → ObjName) (n : ℕ) (s : Store) →
    limit_passed limits depth (buried_first x n s) ≡ limit_passed limits depth s
limit_same limits depth x zero s = refl
limit_same limits depth x (suc n) s = limit_same limits depth x n s

none_begun : {A : Type 0} (o : Option A) → o ≡ None → is_some o ≡ true → ⊥
none_begun None n e = cc
none_begun (Some x) n e = cc

-- ---- all together
closed_stands : (world : World) (meaning : Option ℕ → Meaning) (m : Machine) (os : List Held) (is spare : List Item) (before ws : List Work) (st : State)
    (b : ℕ × ℕ) (bs : List (ℕ × ℕ)) (rest : Todo) (trace : List Entry) → Keeps m.memory (with_objects m.memory os) → st.top.scene.blocks ≡ b ∷ bs →
    st.top.begun ≡ None → is_some m.top.function ≡ true → StandsControl (meaning m.top.function) ws (without st.top bs rest) →
    Stands world meaning (as_before m before) st →
    Stands world meaning (record m { memory = with_objects m.memory os; items = is; spare = spare; work = record { below = m.work.below; now = ws } })
    (record { top = without st.top bs rest; held = st.held; store = store_of (with_objects m.memory os) m.streams; trace = trace })
closed_stands world meaning m os is spare before ws st b bs rest trace keeps blocks closed function control s =
    let there = as_before m before in
    let live = stands_live world there os keeps meaning st s in
    let n : Machine = record m { memory = with_objects m.memory os; items = is; spare = spare; work = record { below = m.work.below; now = ws } } in
    let fs = frames_aside world meaning (with_lives there os) n m.left (m.top ∷ reverse m.below.items) (before ∷ m.work.below) (frames_of st) live.frames in
    record {
      program = live.program;
      code = live.code;
      listed = live.listed;
      memory = live.memory;
      tables = tables_aside (with_lives there os) n live.tables;
      result = live.result;
      frames = (
        frame_without world (meaning m.top.function) n (length (reverse m.below.items)) m.top before ws m.left st.top b bs rest blocks closed control fs.0,
        above_without m.top st.top bs rest (reverse m.below.items) (map (λ h. (h.0, Some h.1)) st.held) function fs.1,
        fs.2,
      );
      depth = live.depth ∙ sym (depth_same st.top (without st.top bs rest) st.held refl);
    }

wanted_so : (world : World) (meaning : Option ℕ → Meaning) (n : Machine) (o : Outcome) (e : Halt) → e ≡ halt.NoMemory → Answers world meaning (Err e) n o
wanted_so world meaning n o e is = subst (λ (h : Halt). Answers world meaning (Err h) n o) (sym is) tt

-- what the leave does by the definitions, and what the machine then stands for
abbrev state_left : World → State → List Item → Store → List (ℕ × ℕ) → Todo → State
state_left world st js t bs rest =
    record { top = without st.top bs rest; held = st.held; store = t; trace = entry_of world st.top Control js ∷ st.trace }

record BlockIsLeft (world : World) (meaning : Option ℕ → Meaning) (m : Machine) (os : List Held) (is spare : List Item) (n : ℕ) (ds : List Decl)
    (rest : Todo) (st : State) : Type 0 where
  pub turn : ℕ
  pub bs : List (ℕ × ℕ)
  pub js : List Item
  pub items : js ≡ is
  pub next : control_next world st.top (todo.Leave n ds ∷ rest) ≡ without st.top bs rest
  pub ran : run world.rows (control_act world st.top (todo.Leave n ds ∷ rest)) st.store
      ≡ Done (result_of world st.top) js (store_of (with_objects m.memory os) m.streams)
  pub limits : (depth : ℕ) → limit_passed world.limits depth (store_of (with_objects m.memory os) m.streams) ≡ limit_passed world.limits depth st.store
  pub stands : (ws : List Work) → ready_work (todo_of (meaning m.top.function) ws) ≡ ready_work rest →
      Stands world meaning (record m { memory = with_objects m.memory os; items = is; spare = spare; work = record { below = m.work.below; now = ws } })
      (state_left world st js (store_of (with_objects m.memory os) m.streams) bs rest)

left_block : (m : Machine) (os : List Held) (is spare : List Item) (b : Bor Block) (c : BlockCode) →
    slice_get m.image.code.now.tables.blocks.items (min (m.top.blocks + b.now.number) (2 ^ 32 - 1)) ≡ Some c →
    HaveDied m c.first c.objects.count (record m { memory = with_objects m.memory os; items = is; spare = spare }) →
    (world : World) (meaning : Option ℕ → Meaning) (st : State) → HasTaken world meaning (taking.Leave b) m st →
    BlockIsLeft world meaning m os is spare (block_of (meaning m.top.function) b.now).number
    ((meaning m.top.function).decls (block_of (meaning m.top.function) b.now).number) (todo_of (meaning m.top.function) m.work.now) st
left_block m os is spare b c block died world meaning st h =
    let mg = meaning m.top.function in
    let rest = todo_of mg m.work.now in
    let n = (block_of mg b.now).number in
    let ds = mg.decls n in
    let f = st.top in
    let frame = h.stands.frames.0 in
    let ready = sym (h.next ∙ frame.control.ready) in
    let found = closes_first n ds rest (map (λ (k : ℕ × ℕ). k.0) f.scene.blocks)
    (subst (λ (t : Todo). Closes t (map (λ (k : ℕ × ℕ). k.0) f.scene.blocks)) ready h.can.closes) in
    let first = begins_with f.scene.blocks n found.0 found.1 in
    let turn = first.0 in
    let bs = first.1 in
    let locals = subst (λ (ks : List (ℕ × ℕ)). StandLocals world (as_before m h.before) m.top f.scene ks) first.2 frame.locals in
    let own = auto_name world f.scene turn in
    let own_code = locals.0.0 in
    let has = h.can.objects own_code locals.0.1 in
    let same : c ≡ own_code = some_same c own_code (sym block
    ∙ ap (slice_get m.image.code.now.tables.blocks.items)
    (capped m.top.blocks n (m.top.blocks + b.now.number) has.block (ap (λ (j : ℕ). m.top.blocks + j) (sym (block_number mg b.now)))) ∙ locals.0.1) in
    let d = subst (λ (k : BlockCode). HaveDied m k.first k.objects.count
    (record m { memory = with_objects m.memory os; items = is; spare = spare })) same died in
    let names = names_left world (as_before m h.before) f.scene n turn bs own_code ds locals.0.1 has locals in
    let count = own_code.objects.count in
    let x = name_at m own_code.first in
    let v = result_of world f in
    let t = store_of (with_objects m.memory os) m.streams in
    let stored : buried_first own count st.store ≡ t = ap (buried_first own count) h.stands.memory.store
    ∙ sym (buried_same x own count (store_of m.memory m.streams) names) ∙ sym (d.store m.streams) in
    record {
      turn = turn;
      bs = bs;
      js = deaths own count;
      items = sym (d.items ∙ ap (λ (js : List Item). js ++ deaths x count) h.items ∙ deaths_same x own count names);
      next = next_left world f n turn bs ds rest first.2;
      ran = ap (λ (p : Script Value). run world.rows p st.store) (act_left world f n turn bs ds rest first.2)
          ∙ killed world world.rows f.scene turn v st.store 0 (length ds) ds (omega arith)
          ∙ ap (λ (js : List Item). Done v js (buried_first own (length ds) st.store)) (joined own 0 (length ds) (length ds) (omega arith))
          ∙ ap (λ (k : ℕ). Done v (deaths own k) (buried_first own k st.store)) (sym has.count)
          ∙ ap (λ (u : Store). Done v (deaths own count) u) stored;
      limits = λ depth. ap (limit_passed world.limits depth) (sym stored) ∙ limit_same world.limits depth own count st.store;
      stands = λ ws same.
          closed_stands world meaning m os is spare h.before ws st (n, turn) bs rest (entry_of world f Control (deaths own count) ∷ st.trace) d.kept first.2
          h.closed h.can.function (record { ready = same; behind = λ e. absurd (none_begun f.begun h.closed e) }) h.stands;
    }

left_so : (m : Machine) (os : List Held) (is spare : List Item) (b : Bor Block) (c : BlockCode) (ws : List Work) →
    slice_get m.image.code.now.tables.blocks.items (min (m.top.blocks + b.now.number) (2 ^ 32 - 1)) ≡ Some c →
    HaveDied m c.first c.objects.count (record m { memory = with_objects m.memory os; items = is; spare = spare }) →
    ((k : Meaning) → is_nothing (ready_work (todo_of k m.work.now)) ≡ false → ready_work (todo_of k ws) ≡ ready_work (todo_of k m.work.now)) →
    (world : World) (meaning : Option ℕ → Meaning) (st : State) → is_nothing (ready_work (todo_of (meaning m.top.function) m.work.now)) ≡ false →
    HasTaken world meaning (taking.Leave b) m st →
    Answers world meaning (Ok None)
    (record m { memory = with_objects m.memory os; items = is; spare = spare; work = record { below = m.work.below; now = ws } }) (step world st Control)
left_so m os is spare b c ws block died goes world meaning st on h =
    let mg = meaning m.top.function in
    let rest = todo_of mg m.work.now in
    let n = (block_of mg b.now).number in
    let ds = mg.decls n in
    let f = st.top in
    let l = left_block m os is spare b c block died world meaning st h in
    let t = store_of (with_objects m.memory os) m.streams in
    let trace = entry_of world f Control l.js ∷ st.trace in
    λ rows. (
      state_left world st l.js t l.bs rest,
      control_stays world st (todo.Leave n ds) rest (result_of world f) l.js t h.closed (sym (h.next ∙ h.stands.frames.0.control.ready)) refl l.ran
          (ap (λ (k : Bool). if k then End else Stay) (ends_not world (ready_work rest) on))
          (ap (λ (g : Local). limit_passed world.limits (depth_of g st.held) t) l.next
          ∙ ap (λ (k : ℕ). limit_passed world.limits k t) (depth_same f (without f l.bs rest) st.held refl)
          ∙ l.limits (depth_of f st.held) ∙ h.within)
          ∙ ap (λ (g : Local). Running (record { top = g; held = st.held; store = t; trace = trace })) l.next,
      l.items,
      l.stands ws (goes mg on),
    )

-- .. and the frame ends
ends_so : (world : World) (t : Todo) → is_nothing t ≡ true → ends_with world t ≡ true
ends_so world [] e = refl
ends_so world (w ∷ ws) e = absurd (cc)

over_so : (m : Machine) (os : List Held) (is spare : List Item) (b : Bor Block) (c : BlockCode) (n : Machine) (r : Result (Option ℕ) Halt) →
    slice_get m.image.code.now.tables.blocks.items (min (m.top.blocks + b.now.number) (2 ^ 32 - 1)) ≡ Some c →
    HaveDied m c.first c.objects.count (record m { memory = with_objects m.memory os; items = is; spare = spare }) →
    AnswersEnd (record m { memory = with_objects m.memory os; items = is; spare = spare }) n r → (world : World) (meaning : Option ℕ → Meaning) (st : State) →
    is_nothing (ready_work (todo_of (meaning m.top.function) m.work.now)) ≡ true → HasTaken world meaning (taking.Leave b) m st →
    Answers world meaning r n (step world st Control)
over_so m os is spare b c n (Err e) block died ends world meaning st over h = wanted_so world meaning n (step world st Control) e ends
over_so m os is spare b c n (Ok status) block died ends world meaning st over h =
    let mg = meaning m.top.function in
    let rest = todo_of mg m.work.now in
    let k = (block_of mg b.now).number in
    let f = st.top in
    let l = left_block m os is spare b c block died world meaning st h in
    let t = store_of (with_objects m.memory os) m.streams in
    let can = h.ends over in
    subst (λ (o : Outcome). ComesTo world meaning status n o)
    (sym (control_ends world st (todo.Leave k (mg.decls k)) rest (result_of world f) l.js t h.closed (sym (h.next ∙ h.stands.frames.0.control.ready)) refl
    l.ran (ap (λ (x : Bool). if x then End else Stay) (ends_so world (ready_work rest) over))))
    (ends world meaning (state_left world st l.js t l.bs rest) (entry_of world f Control l.js ∷ st.trace) (l.stands m.work.now refl)
    (ap (λ (d : ℕ). limit_passed world.limits d t) (depth_same f (without f l.bs rest) st.held refl) ∙ l.limits (depth_of f st.held) ∙ h.within)
    h.closed (record { function = can.function; rooms = can.rooms; room = can.room }) l.items)

left_whole : (m mid : Machine) (b : Bor Block) → LeavesBlock m b.now.number mid →
    mid ≡ record m { memory = with_objects m.memory mid.memory.objects; items = mid.items; spare = mid.spare }
left_whole m mid b left =
    let d = left.2 in
    let k : mid.memory ≡ with_objects m.memory mid.memory.objects = ap (λ (j : Kept). record j { objects = mid.memory.objects }) d.objects in
    d.rest ∙ ap (λ (j : Kept). record m { memory = j; items = mid.items; spare = mid.spare }) k

-- .. of the machine as it was left
left_answers : (m mid : Machine) (b : Bor Block) (below : List (List Work)) (ws : List Work) → LeavesBlock m b.now.number mid →
    below ≡ mid.work.below →
    ((k : Meaning) → is_nothing (ready_work (todo_of k mid.work.now)) ≡ false → ready_work (todo_of k ws) ≡ ready_work (todo_of k mid.work.now)) →
    (world : World) (meaning : Option ℕ → Meaning) (st : State) → is_nothing (ready_work (todo_of (meaning m.top.function) m.work.now)) ≡ false →
    HasTaken world meaning (taking.Leave b) m st →
    Answers world meaning (Ok None) (record mid { work = record { below = below; now = ws } }) (step world st Control)
left_answers m mid b below ws left under goes world meaning st on h =
    let d = left.2 in
    let os = mid.memory.objects in
    let o = step world st Control in
    let whole = left_whole m mid b left in
    let works = ap (λ (n : Machine). n.work) whole in
    subst (λ (bs : List (List Work)). Answers world meaning (Ok None) (record mid { work = record { below = bs; now = ws } }) o)
    (sym (under ∙ ap (λ (w : Stacked). w.below) works))
    (subst (λ (n : Machine). Answers world meaning (Ok None) (record n { work = record { below = m.work.below; now = ws } }) o) (sym whole)
    (left_so m os mid.items mid.spare b left.0 ws left.1 (subst (λ (n : Machine). HaveDied m left.0.first left.0.objects.count n) whole d)
    (subst (λ (w : Stacked). (k : Meaning) → is_nothing (ready_work (todo_of k w.now)) ≡ false → ready_work (todo_of k ws) ≡ ready_work (todo_of k w.now))
    works goes) world meaning st on h))

over_answers : (m mid n : Machine) (b : Bor Block) (r : Result (Option ℕ) Halt) → LeavesBlock m b.now.number mid → AnswersEnd mid n r →
    (world : World) (meaning : Option ℕ → Meaning) (st : State) → is_nothing (ready_work (todo_of (meaning m.top.function) m.work.now)) ≡ true →
    HasTaken world meaning (taking.Leave b) m st → Answers world meaning r n (step world st Control)
over_answers m mid n b r left ends world meaning st over h =
    let whole = left_whole m mid b left in
    over_so m mid.memory.objects mid.items mid.spare b left.0 n r left.1
    (subst (λ (k : Machine). HaveDied m left.0.first left.0.objects.count k) whole left.2) (subst (λ (k : Machine). AnswersEnd k n r) whole ends)
    world meaning st over h

-- .. as the frame goes on
went_on : (m mid n : Machine) (b : Bor Block) (r : Result (Option ℕ) Halt) → LeavesBlock m b.now.number mid →
    ((k : Meaning) → is_nothing (ready_work (todo_of k mid.work.now)) ≡ false → GoesStill mid n r) →
    OnOk r ((k : Meaning) → GoesOn k mid.work n.work) → (k : Meaning) → is_nothing (ready_work (todo_of k mid.work.now)) ≡ false →
    (world : World) (meaning : Option ℕ → Meaning) (st : State) → is_nothing (ready_work (todo_of (meaning m.top.function) m.work.now)) ≡ false →
    HasTaken world meaning (taking.Leave b) m st → Answers world meaning r n (step world st Control)
went_on m mid n b (Err e) left still goes k on world meaning st so h = wanted_so world meaning n (step world st Control) e (still k on)
went_on m mid n b (Ok status) left still goes k on world meaning st so h =
    let stays = still k on in
    let o = step world st Control in
    subst (λ (t : Option ℕ). Answers world meaning (Ok t) n o) (sym stays.0)
    (subst (λ (x : Machine). Answers world meaning (Ok None) x o) (sym stays.1)
    (left_answers m mid b n.work.below n.work.now left ((goes k).on on).0 (λ j e. ((goes j).on e).1) world meaning st so h))

block_by : (over : Bool) (m mid n : Machine) (b : Bor Block) (r : Result (Option ℕ) Halt) → mid.work ≡ m.work → LeavesBlock m b.now.number mid →
    ((k : Meaning) → is_nothing (ready_work (todo_of k mid.work.now)) ≡ false → GoesStill mid n r) →
    OnOk r ((k : Meaning) → GoesOn k mid.work n.work) →
    ((k : Meaning) → is_nothing (ready_work (todo_of k mid.work.now)) ≡ true → AnswersEnd mid n r) → (world : World)
    (meaning : Option ℕ → Meaning) (st : State) →
    is_nothing (ready_work (todo_of (meaning m.top.function) m.work.now)) ≡ over → HasTaken world meaning (taking.Leave b) m st →
    Answers world meaning r n (step world st Control)
block_by true m mid n b r same left still goes ends world meaning st over h =
    let mg = meaning m.top.function in
    over_answers m mid n b r left (ends mg (subst (λ (w : Stacked). is_nothing (ready_work (todo_of mg w.now)) ≡ true) (sym same) over)) world meaning st over h
block_by false m mid n b r same left still goes ends world meaning st on h =
    let mg = meaning m.top.function in
    went_on m mid n b r left still goes mg (subst (λ (w : Stacked). is_nothing (ready_work (todo_of mg w.now)) ≡ false) (sym same) on) world meaning st on h

pub block_answers : (m mid n : Machine) (b : Bor Block) (s : Step) (r : Result (Option ℕ) Halt) → s ≡ taking.Leave b → mid.work ≡ m.work →
    LeavesBlock m b.now.number mid →
    ((k : Meaning) → is_nothing (ready_work (todo_of k mid.work.now)) ≡ false → GoesStill mid n r) →
    OnOk r ((k : Meaning) → GoesOn k mid.work n.work) →
    ((k : Meaning) → is_nothing (ready_work (todo_of k mid.work.now)) ≡ true → AnswersEnd mid n r) → AnswersStep s m n r
block_answers m mid n b s r is same left still goes ends = by_step s (taking.Leave b) m n r is (λ world meaning st h.
    block_by (is_nothing (ready_work (todo_of (meaning m.top.function) m.work.now))) m mid n b r same left still goes ends world meaning st refl h)

-- where nothing is left to do nothing is said
not_over : (over none : Bool) → over ≡ true → over ≡ none → none ≡ false → ⊥
not_over true true is same none = cc
not_over true false is same none = cc
not_over false none is same on = cc

pub over_still : (m n : Machine) (over : Bool) (r : Result (Option ℕ) Halt) → over ≡ true →
    ((k : Meaning) → over ≡ is_nothing (ready_work (todo_of k m.work.now))) →
    (k : Meaning) → is_nothing (ready_work (todo_of k m.work.now)) ≡ false → GoesStill m n r
over_still m n over r is same = λ k on. absurd (not_over over (is_nothing (ready_work (todo_of k m.work.now))) is (same k) on)

-- .. and where something is, no frame ends
nothing_ends : (over none : Bool) → over ≡ false → over ≡ none → none ≡ true → ⊥
nothing_ends false false is same none = cc
nothing_ends false true is same none = cc
nothing_ends true none is same on = cc

pub on_ends : (m n : Machine) (over : Bool) (r : Result (Option ℕ) Halt) → over ≡ false →
    ((k : Meaning) → over ≡ is_nothing (ready_work (todo_of k m.work.now))) →
    (k : Meaning) → is_nothing (ready_work (todo_of k m.work.now)) ≡ true → AnswersEnd m n r
on_ends m n over r is same = λ k none. absurd (nothing_ends over (is_nothing (ready_work (todo_of k m.work.now))) is (same k) none)

-- with ends of blocks and of `switch` statements taken off it is the same machine
over_stands : (world : World) (meaning : Option ℕ → Meaning) (m : Machine) (below : List (List Work)) (ws : List Work) (st : State) →
    below ≡ m.work.below → ready_work (todo_of (meaning m.top.function) ws) ≡ ready_work (todo_of (meaning m.top.function) m.work.now) → st.top.begun ≡ None →
    Stands world meaning m st → Stands world meaning (record m { work = record { below = below; now = ws } }) st
over_stands world meaning m below ws st under ready closed s =
    subst (λ (bs : List (List Work)). Stands world meaning (record m { work = record { below = bs; now = ws } }) st) (sym under)
    (left_stands world meaning m ws m.items m.spare st st.top.todo st.trace
    (record { ready = ready ∙ s.frames.0.control.ready; behind = λ e. absurd (none_begun st.top.begun closed e) }) s)

pub ends_over : (m n : Machine) (below : List (List Work)) (ws : List Work) (r : Result (Option ℕ) Halt) → below ≡ m.work.below →
    ((k : Meaning) → ready_work (todo_of k ws) ≡ ready_work (todo_of k m.work.now)) →
    AnswersEnd (record m { work = record { below = below; now = ws } }) n r → AnswersEnd m n r
ends_over m n below ws (Err e) under ready ends = ends
ends_over m n below ws (Ok status) under ready ends = λ world meaning st trace s within closed can items.
    ends world meaning st trace (over_stands world meaning m below ws st under (ready (meaning m.top.function)) closed s) within closed
    (record { function = can.function; rooms = can.rooms; room = can.room }) items

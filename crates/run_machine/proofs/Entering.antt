-- A block is entered: what the step comes to.
use Rattle.std.proofs.Common.{
  ◌≡◌,
  ℕ,
  zero,
  suc,
  ◌+◌,
  ◌-◌,
  ◌<◌,
  ◌≤◌,
  ◌^◌,
  min,
  true,
  refl,
  sym,
  ap,
  ◌∙◌,
  subst,
  arith,
  List,
  [],
  ◌∷◌,
  ◌++◌,
  length,
  map,
  reverse,
  Option,
  Some,
  None,
  slice_get,
}
use Rattle.std.specs.Prelude.{◌||◌, not, is_some, if◌then◌else◌, option_map, Result, Ok, Err}
use Rattle.std.specs.List.{All}
use Rattle.std.specs.Borrow.{Bor}
use Rattle.std.proofs.lemmas.Option.{slice_get-map, slice_get_within}
use Rattle.ub_base.specs.declared.clause.Cause.{Cause}
use Rattle.ub_base.specs.declared.clause.Cause.TheVariants.{Created}
use Rattle.ub_base.specs.declared.names.Item.{Item}
use Rattle.ub_base.specs.declared.names.ObjName.{ObjName}
use Rattle.addr_map.specs.declared.map.Row.{Row}
use Rattle.addr_map.specs.Rows.{row_of}
use Rattle.c_typed.specs.Lawful.{ContentIsLawful}
use Rattle.mem_spec.specs.Acts.{has_place}
use Rattle.mem_spec.specs.Script.{Done, Give, Script, Unplaced, run, ◌>>◌}
use Rattle.mem_spec.specs.Store.{Store}
use Rattle.mem_spec.specs.Streams.{Io}
use Rattle.mem_objects.specs.Keeps.{RowsStay}
use Rattle.mem_objects.specs.Memory.{Kept, cannot_create, store_of}
use Rattle.mem_objects.proofs.AccessLemmas.{before}
use Rattle.c_model.specs.Control as todo
use Rattle.c_model.specs.Control.{Todo, ready_work}
use Rattle.c_model.specs.Nodes.{put}
use Rattle.c_model.specs.Program.{Decl}
use Rattle.c_model.specs.Runs.{
  Entry,
  No_row,
  Outcome,
  Over,
  Running,
  State,
  acted,
  allocation_passes,
  block_passes,
  created_after,
  depth_of,
  entry_of,
  limit_passed,
  pick_allocates,
  step,
  too_many,
  within,
}
use Rattle.c_model.specs.Steps.{Begun, Control, Local, Scene, auto_name, bear_all, control_act, does, object_at, pass_all}
use Rattle.c_model.specs.Values.{Value, Nothing}
use Rattle.c_model.specs.World.{World}
use Rattle.run_control.specs.declared.statement.Block.{Block}
use Rattle.run_control.specs.declared.work.Step.{Step}
use Rattle.run_control.specs.declared.work.Step.TheVariants as taking
use Rattle.run_control.specs.View.{Meaning, block_of, todo_of}
use Rattle.run_layout.specs.declared.steps.BlockCode.{BlockCode}
use Rattle.run_layout.specs.declared.steps.ObjectCode.{ObjectCode}
use Rattle.run_layout.specs.InRange.{part_of}
use Rattle.run_state.specs.declared.halt.Halt.{Halt}
use Rattle.run_state.specs.declared.halt.Halt.TheVariants as halt
use Rattle.run_state.specs.declared.machine.Machine.{Machine}
use Rattle.run_state.specs.Stands.{HoldsAll, Stands, StandsTables}
use Rattle.run_answers.specs.Performs.{store_in}
use Rattle.run_answers.specs.Answering.{Answers, AnswersStep, HasTaken, as_before, newest_items}
use Rattle.run_answers.specs.Ending.{KeepToRooms}
use Rattle.run_answers.specs.Entering.{
  AreNew,
  BearsAll,
  Birth,
  CanBear,
  Enters,
  EntersWithin,
  HasNoPlace,
  IsNew,
  TakesAs,
  birth_in,
  birth_of,
  births,
  born_first,
  new_name,
  reached_with,
  turned,
}
use Rattle.run_answers.specs.Passing.{CanPassAll, HavePassed, PassesAll, TakesValue, argument_script, first_of, with_arguments}
use Rattle.run_machine.proofs.Births.{StopsAt, bears, births_from, births_joined, cannot_so, stops}
use Rattle.run_answers.proofs.Creating.{none_run}
use Rattle.run_machine.proofs.Growing.{held_grown, tables_grown}
use Rattle.run_machine.proofs.Passed.{
  AreDone,
  are_done,
  argument_there,
  before_done,
  held_at,
  own_script,
  pass_none,
  passed_stands,
  passes,
  taking_at,
  taking_count,
}
use Rattle.run_answers.proofs.Staying.{by_step, control_stays}
use Rattle.run_answers.proofs.Still.{depth_same}
use Rattle.run_machine.proofs.Storing.{IsFresh, life_of, low_rows, own_lives, passed_quietly}
use Rattle.run_machine.proofs.Entered.{
  IsKnown,
  born_created,
  can_all,
  can_one,
  entered_stands,
  inside,
  known,
  limit_within,
  none_begun,
  ready_so,
  same_birth,
  stands_new,
  too_many_not,
  too_many_so,
}

-- ---- it is entered
-- what the definitions do then
abbrev entry_act : World → Local → List Decl → Script Value
entry_act world f ds = bear_all world f.scene (suc f.scene.turn) 0 ds (pass_all world f.scene (suc f.scene.turn) 0 ds f.arguments)

-- its objects are created, and the first of them take the arguments
abbrev pub Enters_by : (old new : Machine) → BlockCode → Type 0
Enters_by old new c =
    (middle : Machine)
    × AreNew old (part_of old.image.code.now.tables.objects.items c.objects) c.first (length (part_of old.image.code.now.tables.objects.items c.objects)) middle
    × PassesAll middle (with_arguments (part_of old.image.code.now.tables.objects.items c.objects) c.arguments) c.first new

module _ (world : World) (meaning : Option ℕ → Meaning) (m new : Machine) (b : Bor Block) (st : State) (c : BlockCode)
    (h : HasTaken world meaning (taking.Enter b) m st)
    (k : IsKnown world meaning m b.now.number (block_of (meaning m.top.function) b.now).number
    ((meaning m.top.function).decls (block_of (meaning m.top.function) b.now).number) st c) (small : reached_with (turned m b.now.number) c ≤ 2 ^ 26)
    (e : Enters_by (turned m b.now.number) new c) where
  abbrev mg : Meaning
  mg = meaning m.top.function

  abbrev rest : Todo
  rest = todo_of mg m.work.now

  abbrev n : ℕ
  n = (block_of mg b.now).number

  abbrev ds : List Decl
  ds = mg.decls n

  abbrev f : Local
  f = st.top

  abbrev turn : ℕ
  turn = suc f.scene.turn

  abbrev old : Machine
  old = turned m b.now.number

  abbrev objects : List ObjectCode
  objects = part_of m.image.code.now.tables.objects.items c.objects

  abbrev mid : Machine
  mid = e.0

  abbrev vs : List Value
  vs = f.arguments

  abbrev params : List ObjectCode
  params = with_arguments objects c.arguments

  abbrev own_name : ℕ → ObjName
  own_name = auto_name world f.scene turn

  abbrev bs : List Birth
  bs = map birth_in ds

  abbrev s : Store
  s = store_of m.memory m.streams

  abbrev passing : Script Value
  passing = pass_all world f.scene turn 0 ds vs

  d : AreNew old objects c.first (length objects) mid
  d = e.1

  enough : length vs ≤ length objects
  enough = subst (λ (q : ℕ). length vs ≤ q) (sym k.count) k.has.enough

  many_params : length params ≡ length vs
  many_params = taking_count objects c.arguments (length vs) k.has.arguments enough

  low_places : (j : ℕ) → j < m.top.locals + c.first → slice_get mid.locals.items j ≡ slice_get m.locals.items j
  low_places j lt = d.others j (λ i below is. omega (arith, lt, is))

  tables_mid : StandsTables mid
  tables_mid =
      let t = tables_grown world (as_before m h.before) mid (m.top.locals + c.first) d.kept d.types low_places h.stands.code.constants h.stands.tables in
      subst StandsTables (sym d.rest) (record { places = t.places; vias = t.vias; fillings = t.fillings })

  held_mid : HoldsAll mid.memory mid.values.items mid.top.base vs
  held_mid =
      subst (λ (q : Machine). HoldsAll mid.memory q.values.items q.top.base vs) (sym d.rest)
      (held_grown world (as_before m h.before) mid (m.top.locals + c.first) d.kept d.types low_places m.values.items m.top.base vs h.stands.frames.0.arguments)

  each_new : (j : ℕ) → j < length vs → IsNew old objects c.first j mid
  each_new j lt = d.each j (omega (arith, lt, enough))

  can_pass : CanPassAll mid c.first (length params)
  can_pass = record {
    sound = d.kept.sound h.stands.memory.sound;
    tables = tables_mid;
    lawful = subst (λ (q : Machine). All (λ cs. All (λ x. ContentIsLawful q.program.now x.content) cs.now) q.image.code.now.tables.constants.items) (sym d.rest)
        h.stands.code.constants;
    numbers = omega (arith, many_params, k.has.enough, k.has.numbers);
    places = λ j lt.
        let i = each_new j (subst (λ (q : ℕ). j < q) many_params lt) in (
          record { addr = i.base; name = new_name old j },
          ap (λ (q : Machine). slice_get mid.locals.items (q.top.locals + (c.first + j))) d.rest ∙ i.placed,
          i.made,
        );
    values = λ j lt.
        let v = argument_there vs j (subst (λ (q : ℕ). j < q) many_params lt) in
        let held = held_at mid.memory mid.values.items mid.top.base vs held_mid j v.0 v.1 in (held.0, held.1, held.2);
  }

  passed : HavePassed mid params c.first (length params) new
  passed = e.2 can_pass

  -- rows stay
  pub passed_rows : RowsStay m.memory.rows new.memory.rows
  passed_rows x r at = passed.kept.rows x r (d.kept.rows x r at)

  module _ (rows : RowsStay new.memory.rows world.rows) where
    rows_mid : RowsStay mid.memory.rows world.rows
    rows_mid x r at = rows x r (passed.kept.rows x r at)

    each_mid : (j : ℕ) → j < length ds → IsNew old objects c.first j mid
    each_mid j lt = d.each j (subst (λ (q : ℕ). j < q) (sym k.count) lt)

    stored_mid : born_first own_name bs (length ds) s ≡ store_in mid
    stored_mid =
        ap (λ (y : ℕ → ObjName). born_first y bs (length ds) s) (sym k.names)
        ∙ ap (λ (cs : List Birth). born_first (new_name old) cs (length ds) s) (sym k.has.objects)
        ∙ ap (λ (j : ℕ). born_first (new_name old) (map birth_of objects) j s) (sym k.count) ∙ sym (d.store m.streams)
        ∙ ap (λ (q : Machine). store_of mid.memory q.streams) (sym d.rest)

    whole_ran : run world.rows (entry_act world f ds) st.store ≡ before (births_from own_name 0 (length ds)) (run world.rows passing (store_in mid))
    whole_ran =
        ap (run world.rows (entry_act world f ds)) h.stands.memory.store
        ∙ bears world f.scene turn bs s 0 (length ds) ds passing (omega arith)
        (can_all world f.scene turn old mid objects c.first ds m.streams k.names k.has.objects rows_mid each_mid)
        ∙ ap (λ (q : Store). before (births_from own_name 0 (length ds)) (run world.rows passing q)) stored_mid

    abbrev script : ℕ → Script Value
    script = argument_script world.rows mid params c.first

    each_script : (j : ℕ) (x : Decl) (v : Value) → slice_get ds j ≡ Some x → slice_get vs j ≡ Some v →
        script j ≡ put world.rows true x.access x.ty (object_at world f.scene turn j) v
    each_script j x v at is =
        let lt : j < length vs = slice_get_within vs j v is in
        let i = each_new j lt in
        let held = held_at mid.memory mid.values.items mid.top.base vs held_mid j v is in
        own_script world f.scene turn mid params c.first j i.object x v held.0 (low_rows world.rows k.can.rows)
        (taking_at objects c.arguments (length vs) j k.has.arguments enough lt ∙ i.at)
        (ap (λ (q : Machine). slice_get mid.locals.items (q.top.locals + (c.first + j))) d.rest
        ∙ (stands_new world f.scene turn old mid objects c.first ds m.streams k.names k.has.objects rows_mid m.top j refl i).0)
        held.1 held.3
        (subst (λ (q : Machine). TakesAs q.image.code.now i.object x) (sym d.rest) (k.has.stores j i.object x lt i.at at))

    same_script : run world.rows passing (store_in mid) ≡ run world.rows (first_of script (length params) >> Give Nothing) (store_in mid)
    same_script =
        ap (λ (q : Script Value). run world.rows q (store_in mid))
        (passes world f.scene turn script 0 (length params) ds vs (omega (arith, many_params)) k.has.enough
        (λ j x v at is. subst (λ (i : ℕ). script i ≡ put world.rows true x.access x.ty (object_at world f.scene turn i) v)
        (let same : j ≡ 0 + j = omega arith in same) (each_script j x v at is)))

    fresh : (j : ℕ) (x : Decl) → slice_get ds j ≡ Some x → IsFresh world.rows (store_in mid) (own_name j) x
    fresh j x at =
        let lt : j < length ds = slice_get_within ds j x at in
        record {
          life = life_of (birth_in x);
          at = ap (λ (q : Store). q.life (own_name j)) (sym stored_mid)
              ∙ own_lives world f.scene turn bs j (length ds) s (birth_in x) lt (slice_get-map birth_in ds j ∙ ap (option_map birth_in) at);
          live = refl;
          form = refl;
          placed = (can_one world f.scene turn old mid objects c.first ds m.streams k.names k.has.objects rows_mid j x at (each_mid j lt)).1;
        }

    done : AreDone world.rows mid new passing
    done =
        are_done world.rows mid new (first_of script (length params)) passing passed.outcome same_script (passed.puts world.rows rows)
        (passed_quietly world f.scene turn 0 ds vs (store_in mid) k.can.rows (λ j x v at is.
        subst (λ (i : ℕ). TakesValue world.rows (own_name i) x v × IsFresh world.rows (store_in mid) (own_name i) x)
        (let same : j ≡ 0 + j = omega arith in same) (k.can.takes j x v at is, fresh j x at)))

    ran : run world.rows (control_act world f (todo.Enter n ds ∷ rest)) st.store
        ≡ Done Nothing (births own_name (length ds) ++ done.items) (store_in new)
    ran =
        whole_ran ∙ ap (before (births_from own_name 0 (length ds))) done.ran
        ∙ before_done (births_from own_name 0 (length ds)) done.items Nothing (store_in new)
        ∙ ap (λ (js : List Item). Done Nothing (js ++ done.items) (store_in new)) (births_joined own_name 0 (length ds) (length ds) (omega arith))

    touches : births own_name (length ds) ++ done.items ≡ new.items
    touches = sym (done.joined ∙ ap (λ (js : List Item). js ++ done.items)
        (d.items ∙ ap (λ (js : List Item). js ++ births (new_name old) (length objects)) h.items ∙ ap (births (new_name old)) k.count
        ∙ ap (λ (y : ℕ → ObjName). births y (length ds)) k.names))

    fits : created_after st.store.created ds ≤ world.limits.created
    fits = omega (arith, k.reached, small, k.can.limit)

    created_so : (store_in new).created ≡ created_after st.store.created ds
    created_so =
        none_run world.rows passing (store_in mid) (store_in new) Nothing done.items (pass_none world f.scene turn 0 ds vs) done.ran
        ∙ ap (λ (q : Store). q.created) (sym stored_mid)
        ∙ born_created own_name bs 0 s ds (length ds) (omega arith)
        (λ j x is. subst (λ (i : ℕ). slice_get bs i ≡ Some (birth_in x)) (omega arith) (slice_get-map birth_in ds j ∙ ap (option_map birth_in) is))
        ∙ ap (λ (q : Store). created_after q.created ds) (sym h.stands.memory.store)

    written_so : (store_in new).output ≡ st.store.output
    written_so =
        ap (λ (q : Machine). q.streams.output) passed.rest ∙ ap (λ (q : Machine). q.streams.output) d.rest
        ∙ ap (λ (q : Store). q.output) (sym h.stands.memory.store)

    abbrev trace : List Entry
    trace = entry_of world f Control (births own_name (length ds) ++ done.items) ∷ st.trace

    mid_stands : Stands world meaning mid (record { top = inside f n turn rest; held = st.held; store = store_of mid.memory m.streams; trace = trace })
    mid_stands =
        subst (λ (q : Machine).
        Stands world meaning q (record { top = inside f n turn rest; held = st.held; store = store_of mid.memory m.streams; trace = trace }))
        (sym d.rest)
        (entered_stands world meaning m mid h.before st n b.now.number (min (m.top.turn + 1) (2 ^ 64 - 1)) turn rest trace c ds h.stands k.can k.at k.has d.kept
        d.types rows_mid k.turn h.closed (record { ready = refl; behind = λ is. absurd (none_begun f.begun h.closed is) })
        (λ j apart. d.others j (λ i lt. apart i (subst (λ (q : ℕ). i < q) k.count lt)))
        (λ i lt. stands_new world f.scene turn old mid objects c.first ds m.streams k.names k.has.objects rows_mid m.top i refl
        (each_mid i (subst (λ (q : ℕ). i < q) k.has.count lt))))

    new_stands : Stands world meaning new (record { top = inside f n turn rest; held = st.held; store = store_in new; trace = trace })
    new_stands =
        passed_stands world meaning mid new
        (record { top = inside f n turn rest; held = st.held; store = store_of mid.memory m.streams; trace = trace }) trace mid_stands refl h.closed
        (subst (λ (q : Machine). KeepToRooms q.image.code.now (reverse q.below.items) st.held) (sym d.rest) k.can.rooms) passed.rest passed.kept rows
        (λ j lt. passed.others j (λ i below is. omega (arith, lt, is)))

    entered : (after : State) × (step world st Control ≡ Running after) × (newest_items after.trace ≡ new.items) × Stands world meaning new after
    entered = (
      record { top = inside f n turn rest; held = st.held; store = store_in new; trace = trace },
      control_stays world st (todo.Enter n ds) rest Nothing (births own_name (length ds) ++ done.items) (store_in new) h.closed
          (ready_so world meaning m b st h)
          (too_many_not world.limits (created_after st.store.created ds) fits) ran refl
          (ap (λ (q : ℕ). limit_passed world.limits q (store_in new)) (depth_same f (inside f n turn rest) st.held refl)
          ∙ limit_within world.limits (depth_of f st.held) st.store (store_in new) written_so
          (subst (λ (q : ℕ). q ≤ world.limits.created) (sym created_so) fits) h.within),
      touches,
      new_stands,
    )

  entered_so : Answers world meaning (Ok None) new (step world st Control)
  entered_so = λ rows. entered rows

-- ---- too many bytes would be created
passes_over : (world : World) (st : State) (b : ℕ) (xs : List Decl) (ws : Todo) (number : ℕ) → st.top.begun ≡ None →
    ready_work st.top.todo ≡ todo.Enter b xs ∷ ws → created_after st.store.created xs ≡ number → world.limits.created < number →
    step world st Control ≡ Over Created number
passes_over world st b xs ws number closed ready reached lt =
    ap (λ (l : Option (Cause × ℕ)). within l (acted world st Control (run world.rows (does world st.top st.top.begun Control) st.store)))
    (ap (λ (e : Option Begun). if is_some e then None else block_passes world.limits st.store (ready_work st.top.todo)) closed
    ∙ ap (block_passes world.limits st.store) ready ∙ ap (too_many world.limits) reached ∙ too_many_so world.limits number lt)

-- ---- an object has no place
no_row : (world : World) (st : State) (b : ℕ) (xs : List Decl) (ws : Todo) → st.top.begun ≡ None → ready_work st.top.todo ≡ todo.Enter b xs ∷ ws →
    created_after st.store.created xs ≤ world.limits.created → run world.rows (control_act world st.top (todo.Enter b xs ∷ ws)) st.store ≡ Unplaced →
    step world st Control ≡ No_row
no_row world st b xs ws closed ready fits runs =
    ap (λ (l : Option (Cause × ℕ)). within l (acted world st Control (run world.rows (does world st.top st.top.begun Control) st.store)))
    (ap (λ (e : Option Begun). if is_some e then None else block_passes world.limits st.store (ready_work st.top.todo)) closed
    ∙ ap (block_passes world.limits st.store) ready ∙ too_many_not world.limits (created_after st.store.created xs) fits)
    ∙ ap (λ (e : Option Begun). acted world st Control (run world.rows (does world st.top e Control) st.store)) closed
    ∙ ap (λ (w : Todo). acted world st Control (run world.rows (control_act world st.top w) st.store)) ready
    ∙ ap (acted world st Control) runs
    ∙ ap (λ (e : Option Begun). within (allocation_passes world.limits st.store (pick_allocates world st.top e Control)) No_row) closed

birth_there : (xs : List Decl) (k : ℕ) (b : Birth) → option_map birth_in (slice_get xs k) ≡ Some b → (d : Decl) × (slice_get xs k ≡ Some d)
birth_there xs k b e = by (slice_get xs k) refl e
  where
    by : (o : Option Decl) → slice_get xs k ≡ o → option_map birth_in o ≡ Some b → (d : Decl) × (slice_get xs k ≡ Some d)
    by None is e = absurd (cc)
    by (Some d) is e = (d, is)

module _ (world : World) (f : Scene) (turn : ℕ) (old mid : Machine) (objects : List ObjectCode) (first : ℕ) (ds : List Decl) (io : Io)
    (names : new_name old ≡ auto_name world f turn) (same : map birth_of objects ≡ map birth_in ds) (rows : RowsStay mid.memory.rows world.rows) where
  abbrev here : ℕ → ObjName
  here = auto_name world f turn

  stops_from : (k j n : ℕ) (ts : List Decl) → n ≡ k + j → j < length ts → ((i : ℕ) (d : Decl) → slice_get ts i ≡ Some d → slice_get ds (k + i) ≡ Some d) →
      ((i : ℕ) → i < n → IsNew old objects first i mid) →
      ((d : Decl) → slice_get ds n ≡ Some d → (not (has_place (row_of world.rows (here n)) d.size d.align)
      || is_some ((born_first here (map birth_in ds) n (store_of old.memory io)).life (here n))) ≡ true) →
      StopsAt world f turn (map birth_in ds) (store_of old.memory io) k j ts
  stops_from k j n [] e lt tail each last = absurd (omega (arith, lt))
  stops_from k zero n (d ∷ ts) e lt tail each last =
      let at : n ≡ k = omega (arith, e) in
      let is : slice_get ds k ≡ Some d = subst (λ (i : ℕ). slice_get ds i ≡ Some d) (omega arith) (tail 0 d refl) in
      subst (λ (i : ℕ). (not (has_place (row_of world.rows (here i)) d.size d.align)
      || is_some ((born_first here (map birth_in ds) i (store_of old.memory io)).life (here i))) ≡ true) at
      (last d (subst (λ (i : ℕ). slice_get ds i ≡ Some d) (sym at) is))
  stops_from k (suc j) n (d ∷ ts) e lt tail each last =
      let is : slice_get ds k ≡ Some d = subst (λ (i : ℕ). slice_get ds i ≡ Some d) (omega arith) (tail 0 d refl) in
      let one = can_one world f turn old mid objects first ds io names same rows k d is (each k (omega (arith, e))) in (
        one.0,
        one.1,
        one.2,
        stops_from (suc k) j n ts (omega (arith, e)) (omega (arith, lt))
            (λ i c q. subst (λ (p : ℕ). slice_get ds p ≡ Some c) (omega arith) (tail (suc i) c q)) each last,
      )

  pub stops_so : (n : ℕ) (o : ObjectCode) → slice_get objects n ≡ Some o → AreNew old objects first n mid →
      ((x : ObjName) → row_of world.rows x ≡ row_of mid.memory.rows x) → cannot_create mid.memory (new_name old n) o.size o.align ≡ true →
      StopsAt world f turn (map birth_in ds) (store_of old.memory io) 0 n ds
  stops_so n o at d all cannot =
      let there = birth_there ds n (birth_of o) (sym (slice_get-map birth_in ds n) ∙ ap (λ (bs : List Birth). slice_get bs n) (sym same)
      ∙ slice_get-map birth_of objects n ∙ ap (option_map birth_of) at) in
      stops_from 0 n n ds (omega arith) (slice_get_within ds n there.0 there.1) (λ i e q. subst (λ (p : ℕ). slice_get ds p ≡ Some e) (omega arith) q) d.each
      (λ c is.
      let births = same_birth objects ds n o c same at is in
      ap (λ (s : Store). not (has_place (row_of world.rows (here n)) c.size c.align) || is_some (s.life (here n)))
      (ap (λ (bs : List Birth). born_first here bs n (store_of old.memory io)) (sym same)
      ∙ ap (λ (y : ℕ → ObjName). born_first y (map birth_of objects) n (store_of old.memory io)) (sym names) ∙ sym (d.store io))
      ∙ ap (λ (b : Birth). not (has_place (row_of world.rows (here n)) b.size b.align) || is_some ((store_of mid.memory io).life (here n))) (sym births)
      ∙ ap (λ (r : Option Row). not (has_place r o.size o.align) || is_some ((store_of mid.memory io).life (here n))) (all (here n))
      ∙ ap (λ (y : ℕ → ObjName). not (has_place (row_of mid.memory.rows (y n)) o.size o.align) || is_some ((store_of mid.memory io).life (y n))) (sym names)
      ∙ cannot_so mid.memory (new_name old n) o.size o.align io cannot)

unplaced_so : (world : World) (meaning : Option ℕ → Meaning) (m new : Machine) (b : Bor Block) (st : State) (c : BlockCode) →
    HasTaken world meaning (taking.Enter b) m st →
    (k : IsKnown world meaning m b.now.number (block_of (meaning m.top.function) b.now).number
    ((meaning m.top.function).decls (block_of (meaning m.top.function) b.now).number) st c) → reached_with (turned m b.now.number) c ≤ 2 ^ 26 →
    HasNoPlace (turned m b.now.number) (part_of m.image.code.now.tables.objects.items c.objects) c.first new →
    Answers world meaning (Err halt.Unplaced) new (step world st Control)
unplaced_so world meaning m new b st c h k small d = λ all.
    let mg = meaning m.top.function in
    let rest = todo_of mg m.work.now in
    let n = (block_of mg b.now).number in
    let ds = mg.decls n in
    let f = st.top in
    let turn = suc f.scene.turn in
    let old = turned m b.now.number in
    let objects = part_of m.image.code.now.tables.objects.items c.objects in
    let bs = map birth_in ds in
    let io = m.streams in
    let s = store_of m.memory io in
    let mid = d.middle in
    let same : (x : ObjName) → row_of world.rows x ≡ row_of mid.memory.rows x = λ x. all x ∙ ap (λ (q : Kept). row_of q.rows x) d.same in
    let rows : RowsStay mid.memory.rows world.rows = λ x r e. same x ∙ e in
    no_row world st n ds rest h.closed (ready_so world meaning m b st h) (omega (arith, k.reached, small, k.can.limit))
    (ap (λ (q : Store). run world.rows (control_act world f (todo.Enter n ds ∷ rest)) q) h.stands.memory.store
    ∙ stops world f.scene turn bs s 0 d.number ds (pass_all world f.scene turn 0 ds f.arguments)
    (stops_so world f.scene turn old mid objects c.first ds io k.names k.has.objects rows d.number d.object d.at d.before same d.cannot))

-- ---- all together
status_none : (world : World) (meaning : Option ℕ → Meaning) (new : Machine) (o : Outcome) (status : Option ℕ) → status ≡ None →
    Answers world meaning (Ok None) new o → Answers world meaning (Ok status) new o
status_none world meaning new o status is a = subst (λ (s : Option ℕ). Answers world meaning (Ok s) new o) (sym is) a

within_so : (world : World) (meaning : Option ℕ → Meaning) (m new : Machine) (b : Bor Block) (st : State) (c : BlockCode) (r : Result (Option ℕ) Halt) →
    HasTaken world meaning (taking.Enter b) m st →
    (k : IsKnown world meaning m b.now.number (block_of (meaning m.top.function) b.now).number
    ((meaning m.top.function).decls (block_of (meaning m.top.function) b.now).number) st c) → EntersWithin (turned m b.now.number) new c r →
    Answers world meaning r new (step world st Control)
within_so world meaning m new b st c (Ok status) h k e =
    status_none world meaning new (step world st Control) status e.0 (entered_so world meaning m new b st c h k e.1 (e.2, e.3, e.4))
within_so world meaning m new b st c (Err (halt.Over cause number)) h k e =
    let mg = meaning m.top.function in
    let n = (block_of mg b.now).number in
    passes_over world st n (mg.decls n) (todo_of mg m.work.now) number h.closed (ready_so world meaning m b st h) (k.reached ∙ sym e.1)
    (omega (arith, e.2, k.can.limit)) ∙ ap (λ (q : Cause). Over q number) (sym e.0)
within_so world meaning m new b st c (Err halt.Unplaced) h k e = unplaced_so world meaning m new b st c h k e.0 e.1
within_so world meaning m new b st c (Err halt.NoMemory) h k e = tt
within_so world meaning m new b st c (Err (halt.Raised event line clause)) h k e = absurd e

enters_so : (m new : Machine) (b : Bor Block) (r : Result (Option ℕ) Halt) (c : BlockCode) →
    slice_get m.image.code.now.tables.blocks.items (min (m.top.blocks + b.now.number) (2 ^ 32 - 1)) ≡ Some c →
    (CanBear (turned m b.now.number) c.first (length (part_of m.image.code.now.tables.objects.items c.objects)) →
    EntersWithin (turned m b.now.number) new c r) → AnswersStep (taking.Enter b) m new r
enters_so m new b r c at e = λ world meaning st h.
    let k = known world meaning m b st c h at in
    within_so world meaning m new b st c r h k (e k.bears)

enter_by : (m new : Machine) (b : Bor Block) (r : Result (Option ℕ) Halt) → Enters m b.now.number new r → AnswersStep (taking.Enter b) m new r
enter_by m new b (Err halt.NoMemory) e = λ world meaning st h. tt
enter_by m new b (Ok status) e = enters_so m new b (Ok status) e.0 e.1 e.2
enter_by m new b (Err (halt.Over cause number)) e = enters_so m new b (Err (halt.Over cause number)) e.0 e.1 e.2
enter_by m new b (Err halt.Unplaced) e = enters_so m new b (Err halt.Unplaced) e.0 e.1 e.2
enter_by m new b (Err (halt.Raised event line clause)) e = enters_so m new b (Err (halt.Raised event line clause)) e.0 e.1 e.2

pub enter_answers : (m new : Machine) (s : Step) (b : Bor Block) (number : ℕ) (r : Result (Option ℕ) Halt) → s ≡ taking.Enter b → number ≡ b.now.number →
    Enters m number new r → AnswersStep s m new r
enter_answers m new s b number r is same e =
    by_step s (taking.Enter b) m new r is (enter_by m new b r (subst (λ (n : ℕ). Enters m n new r) same e))

-- ---- the code: a block is entered
abbrev turned_to : Machine → (number turn : ℕ) → Machine
turned_to m number turn = record m { entered = number; top = record m.top { turn = turn } }

abbrev Bears : (old : Machine) → List ObjectCode → (first : ℕ) → (new : Machine) → Result (Unit {0}) Halt → Type 0
Bears old objects first new r = CanBear old first (length objects) → BearsAll old objects first new r

-- of the block of this number, and its objects
bears_there : (m mid : Machine) (number t u first : ℕ) (os ps : List ObjectCode) (r : Result (Unit {0}) Halt) → t ≡ u → os ≡ ps →
    Bears (turned_to m number t) os first mid r → Bears (turned_to m number u) ps first mid r
bears_there m mid number t u first os ps r is same d =
    subst (λ (xs : List ObjectCode). Bears (turned_to m number u) xs first mid r) same
    (subst (λ (k : ℕ). Bears (turned_to m number k) os first mid r) is d)

module _ (m mid : Machine) (number t reached : ℕ) (c : BlockCode) (os : List ObjectCode) (is : t ≡ min (m.top.turn + 1) (2 ^ 64 - 1))
    (at : slice_get m.image.code.now.tables.blocks.items (min (m.top.blocks + number) (2 ^ 32 - 1)) ≡ Some c)
    (there : os ≡ part_of m.image.code.now.tables.objects.items c.objects) (sum : reached ≡ min (m.memory.created + c.created) (2 ^ 62)) where
  pub enters_over : 2 ^ 26 < reached → mid.memory ≡ m.memory → Enters m number mid (Err (halt.Over Created reached))
  enters_over over same = (c, at, λ can. (refl, sum, over, same))

  pub enters_ok : (new : Machine) (ps : List ObjectCode) → reached ≤ 2 ^ 26 → Bears (turned_to m number t) os c.first mid (Ok tt) →
      ps ≡ with_arguments os c.arguments → PassesAll mid ps c.first new → Enters m number new (Ok None)
  enters_ok new ps small d taken passes = (
    c,
    at,
    λ can.
        let objects = part_of m.image.code.now.tables.objects.items c.objects in (
          refl,
          subst (λ (k : ℕ). k ≤ 2 ^ 26) sum small,
          mid,
          bears_there m mid number t (min (m.top.turn + 1) (2 ^ 64 - 1)) c.first os objects (Ok tt) is there d can,
          subst (λ (xs : List ObjectCode). PassesAll mid xs c.first new) (taken ∙ ap (λ (xs : List ObjectCode). with_arguments xs c.arguments) there) passes,
        ),
  )

  by_fault : (e : Halt) → reached ≤ 2 ^ 26 → Bears (turned_to m number t) os c.first mid (Err e) → Enters m number mid (Err e)
  by_fault halt.NoMemory small d = tt
  by_fault halt.Unplaced small d = (
    c,
    at,
    λ can. (
      subst (λ (k : ℕ). k ≤ 2 ^ 26) sum small,
      bears_there m mid number t (min (m.top.turn + 1) (2 ^ 64 - 1)) c.first os (part_of m.image.code.now.tables.objects.items c.objects)
          (Err halt.Unplaced) is there d
          can,
    ),
  )
  by_fault (halt.Over cause count) small d = (
    c,
    at,
    λ can. absurd (bears_there m mid number t (min (m.top.turn + 1) (2 ^ 64 - 1)) c.first os (part_of m.image.code.now.tables.objects.items c.objects)
        (Err (halt.Over cause count)) is there d can),
  )
  by_fault (halt.Raised event line clause) small d = (
    c,
    at,
    λ can. absurd (bears_there m mid number t (min (m.top.turn + 1) (2 ^ 64 - 1)) c.first os (part_of m.image.code.now.tables.objects.items c.objects)
        (Err (halt.Raised event line clause)) is there d can),
  )

  pub enters_not : (r : Result (Option ℕ) Halt) (y e : Halt) → r ≡ Err y → y ≡ e → reached ≤ 2 ^ 26 →
      Bears (turned_to m number t) os c.first mid (Err e) → Enters m number mid r
  enters_not r y e fails fault small d =
      subst (λ (q : Result (Option ℕ) Halt). Enters m number mid q) (sym (fails ∙ ap Err fault)) (by_fault e small d)

-- the bytes that are created by then, by the count of those so far
pub reached_so : (x a b y : ℕ) → x ≡ min (a + y) (2 ^ 62) → a ≡ b → x ≡ min (b + y) (2 ^ 62)
reached_so x a b y e f = e ∙ ap (λ (k : ℕ). min (k + y) (2 ^ 62)) f

-- What is answered to the body of a call of a library function.
use Rattle.std.proofs.Common.{
  ◌≡◌,
  ◌⊎◌,
  inl,
  inr,
  ℕ,
  suc,
  ◌≤◌,
  ◌^◌,
  Bool,
  true,
  false,
  refl,
  sym,
  ap,
  ap₂,
  ◌∙◌,
  subst,
  List,
  [],
  ◌∷◌,
  length,
  map,
  Option,
  Some,
  None,
  Result,
  Ok,
  Err,
}
use Rattle.std.specs.Prelude.{◌||◌, is_some}
use Rattle.ub_base.specs.declared.clause.Clause.{Clause}
use Rattle.ub_base.specs.declared.clause.Cause.{Cause}
use Rattle.ub_base.specs.declared.clause.Clause.TheVariants.{IncompatibleCall, InvalidPointer}
use Rattle.ub_base.specs.declared.names.Event.{Event}
use Rattle.ub_base.specs.declared.names.Item.{Item}
use Rattle.addr_map.specs.Rows.{row_of}
use Rattle.c_types.specs.declared.library.LibFunc.{LibFunc}
use Rattle.c_types.specs.Types.{CType}
use Rattle.c_typed.specs.declared.program.Program.{Program}
use Rattle.c_typed.specs.Order.{is_body}
use Rattle.mem_laws.specs.MoreRows.{Extends}
use Rattle.mem_spec.specs.Script.{Act, Ended, Outside, Raised, Script, Unplaced, require, run, ◌>>◌}
use Rattle.mem_spec.specs.Store.{Store}
use Rattle.mem_spec.specs.Streams.{Io}
use Rattle.mem_objects.specs.declared.value.Value.{Value as Kept_value}
use Rattle.mem_objects.specs.declared.value.Value.TheVariants as values
use Rattle.mem_objects.specs.Keeps.{Keeps}
use Rattle.mem_objects.specs.Made.{IsMade}
use Rattle.mem_objects.specs.Memory.{Kept}
use Rattle.mem_objects.specs.Pieces.{IsMadeValue}
use Rattle.libc_spec.specs.Library.{LibValue, heap_name, prov_in}
use Rattle.libc_arguments.specs.Answers.{ArgumentsMade}
use Rattle.libc_arguments.specs.Seen.{value_seen, values_seen}
use Rattle.c_model.specs.Libraries.{passed}
use Rattle.c_model.specs.Program.{Function}
use Rattle.c_model.specs.Runs.{Entry, Ends, Raises, State, depth_of, entry_of, library_of, limit_passed, step}
use Rattle.c_model.specs.Steps.{
  Begun,
  Ev,
  argument_types,
  at_node,
  call_by,
  call_through,
  called_by,
  event_act,
  event_of,
  first_type,
  function_of,
  function_type,
  library_act,
  target,
  values_of,
}
use Rattle.c_model.specs.Values.{Value, function_in, later_values}
use Rattle.c_model.specs.World.{World}
use Rattle.library_laws.specs.Calls.{CallsMoreRows, ComesToAct, HasLibrary, IsLibraryCall, LibraryCallSteps}
use Rattle.run_acts.specs.Calls.{AreFunctions}
use Rattle.run_values.specs.Views.{value_in}
use Rattle.run_control.specs.View.{Meaning}
use Rattle.run_layout.specs.declared.steps.Act.TheVariants as act
use Rattle.run_layout.specs.declared.steps.Due.{Due}
use Rattle.run_layout.specs.declared.steps.Expression.{Expression}
use Rattle.run_layout.specs.declared.steps.Operand.{Operand}
use Rattle.run_state.specs.declared.halt.Halt.{Halt}
use Rattle.run_state.specs.declared.machine.Machine.{Machine}
use Rattle.run_state.specs.declared.machine.Stage.{Stage}
use Rattle.run_answers.specs.declared.outcome.Outcome.{Outcome as Done_as}
use Rattle.run_answers.specs.declared.outcome.Outcome.TheVariants as outcome
use Rattle.run_answers.specs.declared.fault.Fault.{Fault}
use Rattle.run_answers.specs.declared.fault.Fault.TheVariants as fault
use Rattle.run_answers.specs.Calling.{CallsFound, CallsNumbered, RaisesOnly, Runs, RunsWhere, type_of_call}
use Rattle.run_answers.specs.Faults.{halt_by}
use Rattle.run_answers.specs.LibraryCalls.{Arguments, CallsLibrary, CanCall, HasCalled, are_call_sizes, call_in, types_seen}
use Rattle.run_answers.specs.Performs.{store_in}
use Rattle.run_answers.specs.declared.pick.Pick.{Pick}
use Rattle.run_answers.specs.declared.pick.Pick.TheVariants as pick
use Rattle.run_answers.specs.Answering.{newest_items}
use Rattle.run_answers.specs.Ending.{NotesIn, NotesWay}
use Rattle.run_answers.specs.Library.{
  AnswersCalled,
  AnswersLibrary,
  ArgumentsGive,
  ComesByCall,
  IsCallOfLibrary,
  LibraryStands,
  LibrarySteps,
  MayCallLibrary,
  TakesCall,
}
use Rattle.run_answers.specs.Picks.{event_at}
use Rattle.run_answers.specs.Taking.{Decides, FollowsEvent, IsFinished, IsPast, past_event, passed_stage, staged}
use Rattle.run_answers.proofs.Answered.{decides_so, noted_code, passes_so, raises_so, stage_past, staged_so}
use Rattle.run_machine.proofs.Callees.{agree_so, are_of_world, if_true}
use Rattle.run_answers.proofs.LibrarySteps.{SameBehind, choice_none, comes_to, output_within, same_behind}

-- ---- the values of the arguments
seen_passed : (m : Kept) (h : Kept_value) → value_seen h ≡ passed (value_in m h)
seen_passed m (values.Int z) = refl
seen_passed m (values.Ptr a p) = refl
seen_passed m (values.Func a) = refl
seen_passed m (values.Block b) = refl
seen_passed m values.Missing = refl
seen_passed m values.Nothing = refl

made_seen : (m : Kept) (h : Kept_value) → IsMadeValue m h → IsMade m (prov_in (value_seen h))
made_seen m (values.Int z) made = tt
made_seen m (values.Ptr a p) made = made
made_seen m (values.Func a) made = tt
made_seen m (values.Block b) made = tt
made_seen m values.Missing made = tt
made_seen m values.Nothing made = tt

record Taken (m : Machine) (os : List Operand) (vs : List Value) : Type 0 where
  values : List Kept_value
  given : Arguments m os values
  same : values_seen values ≡ map passed vs
  made : ArgumentsMade m.memory (values_seen values)

taken : (m : Machine) (os : List Operand) (vs : List Value) → ArgumentsGive m os vs → Taken m os vs
taken m [] [] g = record { values = []; given = tt; same = refl; made = tt }
taken m [] (v ∷ vs) g = absurd g
taken m (o ∷ os) [] g = absurd g
taken m (o ∷ os) (v ∷ vs) g =
    let rest = taken m os vs g.1 in
    let h = g.0.0 in
    record {
      values = h ∷ rest.values;
      given = (g.0.1, rest.given);
      same = ap₂ (λ (x : LibValue) (xs : List LibValue). x ∷ xs) (seen_passed m.memory h ∙ ap passed g.0.3) rest.same;
      made = (made_seen m.memory h g.0.2.made, rest.made);
    }

-- ---- the function that is called
none_of_library : (f : LibFunc) → library_of None ≡ Some f → ⊥
none_of_library f e = cc

some_library : (b : Bool) (l : Option LibFunc) (f : LibFunc) → l ≡ Some f → (b || is_some l) ≡ true
some_library true l f e = refl
some_library false l f e = ap is_some e

abbrev no_row : Act LibValue
no_row = Unplaced

raised_not : (c : Clause) → Raised c ≡ no_row → ⊥
raised_not c e = cc

outside_not : (c : Cause) (n : ℕ) → Outside c n ≡ no_row → ⊥
outside_not c n e = cc

ended_not : (n : ℕ) (js : List Item) (u : Store) → Ended n js u ≡ no_row → ⊥
ended_not n js u e = cc

true_not : (b : Bool) → b ≡ true → b ≡ false → ⊥
true_not b t f = cc (t, f)

module _ (stands : LibraryStands) (steps : LibrarySteps) (more : CallsMoreRows) (calls_step : LibraryCallSteps) (d : Due) (now start done : Machine)
    (p : Result Done_as Fault) (is : start ≡ past_event now)
    (calls : (number : ℕ) → d.act ≡ act.Call number → CallsNumbered number start (event_at now d.place) done p) where
  module _ (q : Result Done_as Fault) (same : p ≡ q) (world : World) (meaning : Option ℕ → Meaning) (m : Machine) (st : State) (e : Begun) (s : Stage)
      (laid : Expression) (t : MayCallLibrary world meaning m st e s laid d now) where
    abbrev past : Machine
    past = past_event now

    abbrev who : Event
    who = event_at past d.place

    abbrev call : IsCallOfLibrary world past st.top.scene e d
    call = t.call

    abbrev g : LibFunc
    g = call.function

    abbrev all : List Value
    all = values_of world st.top.scene e.given (suc d.place.node) call.body.operands

    abbrev os : List Operand
    os = call.code.arguments.items

    at : (z : Option Stage) × (now ≡ staged m z)
    at = staged_so m now s d s.straight t.goes

    past_is : past ≡ staged m (passed_stage at.0)
    past_is = ap past_event at.1

    calls_so : CallsNumbered call.number past who done q
    calls_so =
        subst (λ (r : Result Done_as Fault). CallsNumbered call.number past who done r) same
        (subst (λ (k : Machine). CallsNumbered call.number k (event_at now d.place) done p) is (calls call.number call.act))

    abbrev Found : Option CType → Option (ℕ × Function) → Type 0
    Found through found = CallsFound past os call.code.types who done q world.agree through found

    program_so : past.program.now ≡ m.program.now
    program_so = ap (λ (k : Machine). k.program.now) past_is

    found_first : Found (type_of_call call.code.ty) (function_of world.program.functions 0 (function_in (value_in past.memory call.designator.0)))
    found_first =
        calls_so call.code call.there world.program.functions world.agree call.designator.0
        (subst (λ (k : Program). length k.functions ≤ 2 ^ 32) (sym program_so) t.functions.few)
        (subst (λ (k : Program). AreFunctions k.functions world.program.functions) (sym program_so)
        (are_of_world world m.program.now t.stood.stands.program t.functions.blocks))
        (agree_so world m.program.now t.stood.stands.program) call.designator.1

    found_so : Found (function_type (target (first_type call.body.operands))) (called_by world all)
    found_so =
        subst (λ (v : Value). Found (function_type (target (first_type call.body.operands))) (function_of world.program.functions 0 (function_in v)))
        call.designator.3
        (subst (λ (o : Option CType). Found o (function_of world.program.functions 0 (function_in (value_in past.memory call.designator.0)))) call.typed
        found_first)

    abbrev whom : Event
    whom = event_of world st.top.scene d.place

    acts_by : event_act world st.top.scene e d.place (at_node 0 e.root d.place.node)
        ≡ call_through world whom (function_type (target (first_type call.body.operands))) (argument_types call.body.operands) all
    acts_by = ap (event_act world st.top.scene e d.place) call.body.node ∙ if_true (is_body d.place.kind) _ _ (ap is_body call.body.kind)

    -- either the definitions raise a clause, or the function is called
    pub record Raising : Type 0 where
      pub clause : Clause
      pub ran : run world.rows (event_act world st.top.scene e d.place (at_node 0 e.root d.place.node)) st.store ≡ Raised clause
      pub only : RaisesOnly clause past done q

    pub record Calling : Type 0 where
      is_call : IsLibraryCall world st.top.scene e d.place g (types_seen call.code.types) (later_values all)
      does : CallsLibrary past g os call.code.types who done q

    raising : (through : Option CType) → function_type (target (first_type call.body.operands)) ≡ through → (c : Clause)
        → run world.rows (call_through world whom through (argument_types call.body.operands) all) st.store ≡ Raised c → RaisesOnly c past done q
        → Raising
    raising through typed c ran only = record {
      clause = c;
      ran = ap (λ (x : Script Value). run world.rows x st.store) acts_by
          ∙ ap (λ (o : Option CType). run world.rows (call_through world whom o (argument_types call.body.operands) all) st.store) typed
          ∙ ran;
      only = only;
    }

    module _ (ty : CType) (typed : function_type (target (first_type call.body.operands)) ≡ Some ty) (found : ℕ × Function)
        (called : called_by world all ≡ Some found) where
      own : found.1.library ≡ Some g
      own = ap library_of (sym called) ∙ call.own

      callable : (is_some found.1.body || is_some found.1.library) ≡ true
      callable = some_library (is_some found.1.body) found.1.library g own

      other_raises : world.agree found.1.ty ty ≡ false
          → run world.rows (call_through world whom (Some ty) (argument_types call.body.operands) all) st.store ≡ Raised IncompatibleCall
      other_raises agrees =
          ap (λ (o : Option (ℕ × Function)). run world.rows (call_by world whom ty (argument_types call.body.operands) (later_values all) o) st.store) called
          ∙ ap (λ (b : Bool). run world.rows (require b InvalidPointer >> (require (world.agree found.1.ty ty) IncompatibleCall
          >> library_act world whom (argument_types call.body.operands) (later_values all) found.1.library)) st.store) callable
          ∙ ap (λ (b : Bool). run world.rows (require b IncompatibleCall
          >> library_act world whom (argument_types call.body.operands) (later_values all) found.1.library) st.store) agrees

      by_checks : (b : Bool) → (is_some found.1.body || is_some found.1.library) ≡ b → (agrees : Bool) → world.agree found.1.ty ty ≡ agrees
          → RunsWhere past os call.code.types who done q b agrees found.0 found.1 → Raising ⊎ Calling
      by_checks false callable_is agrees agrees_is only = absurd (true_not (is_some found.1.body || is_some found.1.library) callable callable_is)
      by_checks true callable_is false agrees_is only = inl (raising (Some ty) typed IncompatibleCall (other_raises agrees_is) only)
      by_checks true callable_is true agrees_is runs = inr (record {
        is_call = record {
          kind = call.body.kind;
          discarded = call.body.discarded;
          ty = call.body.ty;
          line = call.body.line;
          operands = call.body.operands;
          node = call.body.node;
          through = ty;
          typed = typed;
          number = found.0;
          called = found.1;
          calls = called;
          agrees = agrees_is;
          own = own;
          types = sym call.types;
          passes = refl;
        };
        does = subst (λ (l : Option LibFunc). Runs past os call.code.types who done q found.0 l) own runs;
      })

    leads : (through : Option CType) → function_type (target (first_type call.body.operands)) ≡ through → (found : Option (ℕ × Function))
        → called_by world all ≡ found → Found through found → Raising ⊎ Calling
    leads None typed found called only = inl (raising None typed InvalidPointer refl only)
    leads (Some ty) typed None called only = absurd (none_of_library g (ap library_of (sym called) ∙ call.own))
    leads (Some ty) typed (Some found) called runs =
        by_checks ty typed found called (is_some found.1.body || is_some found.1.library) refl (world.agree found.1.ty ty) refl runs

    pub led : Raising ⊎ Calling
    led = leads (function_type (target (first_type call.body.operands))) refl (called_by world all) refl found_so

    -- ---- the call
    args : Taken past os (later_values all)
    args = taken past os (later_values all) call.arguments

    abbrev hs : List Kept_value
    hs = args.values

    has : HasLibrary world
    has = record { library = t.stood.stands.program.library; created = t.functions.limits.0; output = t.functions.limits.1 }

    can_of : (z : Option Stage) → ArgumentsMade m.memory (values_seen hs) → CanCall (staged m z) g hs
    can_of z made = record {
      sound = t.stood.stands.memory.sound;
      tagged = t.stood.stands.memory.tagged;
      bare = t.stood.stands.memory.bare;
      high = t.stood.stands.memory.high;
      within = output_within world.limits (depth_of st.top st.held) (store_in m) t.functions.limits.1
          (ap (limit_passed world.limits (depth_of st.top st.held)) (sym t.stood.stands.memory.store) ∙ t.within);
      sizes = ap (λ (vs : List LibValue). are_call_sizes g vs) args.same ∙ call.sizes;
      made = made;
    }

    pub memory_is : past.memory ≡ m.memory
    memory_is = ap (λ (k : Machine). k.memory) past_is

    made_in_m : ArgumentsMade m.memory (values_seen hs)
    made_in_m = subst (λ (k : Kept). ArgumentsMade k (values_seen hs)) memory_is args.made

    can : CanCall past g hs
    can = subst (λ (k : Machine). CanCall k g hs) (sym past_is) (can_of (passed_stage at.0) made_in_m)

    module _ (c : Calling) where
      pub kept : Keeps m.memory done.memory
      kept = subst (λ (k : Kept). Keeps k done.memory) memory_is (c.does.kept hs args.given can)

      comes : (a : Act LibValue) → call_in past done g who (types_seen call.code.types) hs ≡ a → Extends done.memory.rows world.rows
          → (a ≡ Unplaced → row_of world.rows (heap_name who) ≡ row_of done.memory.rows (heap_name who))
          → ComesToAct world st e d.place g a (step world st (Ev d.place))
      comes a did extends placed =
          comes_to more calls_step world meaning m past done st e d.place g (types_seen call.code.types) hs (later_values all) t.stood.stands t.stood.begun
          (passed_stage at.0) past_is kept.rows extends made_in_m has c.is_call args.same t.within a did placed

      -- ---- it is done, and noted
      module _ (new : Machine) (f : IsFinished now.image.code.now d done new) where
        stage_done : (k : ℕ) × (done.top.stage ≡ Some (record s { cursor = k }))
        stage_done =
            let h = stage_past m past s d s.straight t.stage passes in
            (h.0, ap (λ (k : Machine). k.top.stage) c.does.changes.rest ∙ h.1)
          where
            passes : IsPast s.straight m s d past
            passes = passes_so m now s d s.straight refl t.stage t.end t.goes

        way : NotesWay s.straight done d.place f.noted
        way = subst (λ (z : Option Stage). NotesIn z done d.place f.noted) stage_done.1 f.notes

        same_code : f.noted.image.code.now ≡ now.image.code.now
        same_code = noted_code s.straight done f.noted d.place way ∙ ap (λ (k : Machine). k.image.code.now) c.does.changes.rest

        decides : Decides d.choice f.noted new
        decides = decides_so d.choice now.image.code.now f.noted new same_code f.decides

        behind : SameBehind done new
        behind = same_behind s.straight done f.noted new d.place d.choice (choice_none world m.image.code.now st.top.scene laid e d t.event call.body) way
            decides

        extends_done : Extends new.memory.rows world.rows → Extends done.memory.rows world.rows
        extends_done x = subst (λ (k : Kept). Extends k.rows world.rows) behind.memory x

        takes : (w : LibValue) → HasCalled past done g who (types_seen call.code.types) hs w → Extends new.memory.rows world.rows
            → TakesCall world meaning m st e s laid d g (types_seen call.code.types) hs w new
        takes w did extends = record {
          stood = t.stood;
          stage = t.stage;
          at = t.at;
          rooms = t.rooms;
          event = t.event;
          constants = t.constants;
          body = call.body;
          may = t.may;
          called = record {
            past = past;
            done = done;
            noted = f.noted;
            passes = passes_so m now s d s.straight refl t.stage t.end t.goes;
            can = can;
            changes = c.does.changes;
            does = did;
            rows = extends;
            notes = way;
            decides = decides;
          };
        }

        comes_by : (w : LibValue) → HasCalled past done g who (types_seen call.code.types) hs w → Extends new.memory.rows world.rows
            → ComesByCall world meaning m st e s laid d g new (step world st (Ev d.place))
        comes_by w did extends =
            let took = takes w did extends in
            let stepped = steps world meaning m new st e s laid d g (types_seen call.code.types) hs w (later_values all) took has c.is_call args.same
            t.within in
            record {
              types = types_seen call.code.types;
              values = hs;
              value = w;
              takes = took;
              steps = stepped;
              stands = stands world meaning m new st e s laid d g (types_seen call.code.types) hs w stepped.items took;
            }

        ended_so : (n : ℕ) → call_in past done g who (types_seen call.code.types) hs ≡ Ended n done.items (store_in done) → Extends new.memory.rows world.rows
            → (trace : List Entry) × (step world st (Ev d.place) ≡ Ends n new.streams.output trace) × (newest_items trace ≡ new.items)
        ended_so n did extends = (
          entry_of world st.top (Ev d.place) done.items ∷ st.trace,
          comes (Ended n done.items (store_in done)) did (extends_done extends) (λ none. absurd (ended_not n done.items (store_in done) none))
              ∙ ap (λ (io : Io). Ends n io.output (entry_of world st.top (Ev d.place) done.items ∷ st.trace)) (sym behind.streams),
          sym behind.items,
        )

  -- ---- by what was answered
  module _ (world : World) (meaning : Option ℕ → Meaning) (m : Machine) (st : State) (e : Begun) (s : Stage) (laid : Expression)
      (t : MayCallLibrary world meaning m st e s laid d now) where
    abbrev Answered : Result Pick Halt → Machine → Type 0
    Answered r new = AnswersCalled world meaning m st e s laid d t.call.function r new (step world st (Ev d.place))

    abbrev EitherOf : (q : Result Done_as Fault) → p ≡ q → Type 0
    EitherOf q same = Raising q same world meaning m st e s laid t ⊎ Calling q same world meaning m st e s laid t

    done_so : (same : p ≡ Ok outcome.Done) (new : Machine) (r : Result Pick Halt) → FollowsEvent now.image.code.now (event_at now d.place) None d done new r
        → EitherOf (Ok outcome.Done) same → Answered r new
    done_so same new r f (inl raised) = absurd raised.only
    done_so same new (Ok (pick.Event event completed ended)) f (inr c) =
        let did = c.does.does (hs (Ok outcome.Done) same world meaning m st e s laid t) (args (Ok outcome.Done) same world meaning m st e s laid t).given
        (can (Ok outcome.Done) same world meaning m st e s laid t) in
        subst (λ (o : Option ℕ). Answered (Ok (pick.Event event completed o)) new) (sym f.1)
        (λ extends. comes_by (Ok outcome.Done) same world meaning m st e s laid t c new f.2 did.0 did.1 extends)
    done_so same new (Ok (pick.Starts event)) f (inr c) = absurd f
    done_so same new (Ok (pick.Step ended)) f (inr c) = absurd f
    done_so same new (Err x) f (inr c) = subst (λ (h : Halt). Answered (Err h) new) (sym f) tt

    ended_by : (n : ℕ) (same : p ≡ Ok (outcome.End n)) (new : Machine) (r : Result Pick Halt)
        → FollowsEvent now.image.code.now (event_at now d.place) (Some n) d done new r → EitherOf (Ok (outcome.End n)) same → Answered r new
    ended_by n same new r f (inl raised) = absurd raised.only
    ended_by n same new (Ok (pick.Event event completed ended)) f (inr c) =
        let did = c.does.does (hs (Ok (outcome.End n)) same world meaning m st e s laid t) (args (Ok (outcome.End n)) same world meaning m st e s laid t).given
        (can (Ok (outcome.End n)) same world meaning m st e s laid t) in
        subst (λ (o : Option ℕ). Answered (Ok (pick.Event event completed o)) new) (sym f.1)
        (λ extends. ended_so (Ok (outcome.End n)) same world meaning m st e s laid t c new f.2 n did extends)
    ended_by n same new (Ok (pick.Starts event)) f (inr c) = absurd f
    ended_by n same new (Ok (pick.Step ended)) f (inr c) = absurd f
    ended_by n same new (Err x) f (inr c) = subst (λ (h : Halt). Answered (Err h) new) (sym f) tt

    started_by : (same : p ≡ Ok outcome.Started) → EitherOf (Ok outcome.Started) same → ⊥
    started_by same (inl raised) = raised.only
    started_by same (inr c) =
        c.does.does (hs (Ok outcome.Started) same world meaning m st e s laid t) (args (Ok outcome.Started) same world meaning m st e s laid t).given
        (can (Ok outcome.Started) same world meaning m st e s laid t)

    pub raised_by : (c : Clause) (same : p ≡ Err (fault.Raise c)) (r : Raising (Err (fault.Raise c)) same world meaning m st e s laid t)
        → (trace : List Entry) × (step world st (Ev d.place) ≡ Raises c trace)
    raised_by c same r = (
      entry_of world st.top (Ev d.place) [] ∷ st.trace,
      raises_so world st e d.place r.clause t.stood.begun r.ran
          ∙ ap (λ (k : Clause). Raises k (entry_of world st.top (Ev d.place) [] ∷ st.trace)) (sym r.only.0),
    )

    module _ (line : ℕ) where
      stopped_by : (x : Fault) (same : p ≡ Err x) → EitherOf (Err x) same → Answered (Err (halt_by (event_at now d.place) line x)) done
      stopped_by fault.NoMemory same either = tt
      stopped_by fault.Unplaced same (inl r) = absurd r.only
      stopped_by (fault.Over cause number) same (inl r) = absurd r.only
      stopped_by (fault.Raise c) same (inl r) = λ extends. raised_by c same r
      stopped_by (fault.Raise k) same (inr c) = λ extends. (
        entry_of world st.top (Ev d.place) [] ∷ st.trace,
        comes (Err (fault.Raise k)) same world meaning m st e s laid t c (Raised k)
            (c.does.does (hs (Err (fault.Raise k)) same world meaning m st e s laid t) (args (Err (fault.Raise k)) same world meaning m st e s laid t).given
            (can (Err (fault.Raise k)) same world meaning m st e s laid t)) extends (λ none. absurd (raised_not k none)),
      )
      stopped_by (fault.Over cause number) same (inr c) = λ extends.
          comes (Err (fault.Over cause number)) same world meaning m st e s laid t c (Outside cause number)
          (c.does.does (hs (Err (fault.Over cause number)) same world meaning m st e s laid t)
          (args (Err (fault.Over cause number)) same world meaning m st e s laid t).given
          (can (Err (fault.Over cause number)) same world meaning m st e s laid t)) extends (λ none. absurd (outside_not cause number none))
      stopped_by fault.Unplaced same (inr c) = λ extends placed.
          comes (Err fault.Unplaced) same world meaning m st e s laid t c Unplaced
          (c.does.does (hs (Err fault.Unplaced) same world meaning m st e s laid t) (args (Err fault.Unplaced) same world meaning m st e s laid t).given
          (can (Err fault.Unplaced) same world meaning m st e s laid t)) extends
          (λ none. subst (λ (w : Event). row_of world.rows (heap_name w) ≡ row_of done.memory.rows (heap_name w))
          (sym (ap (λ (k : Machine). event_at k d.place) (past_is (Err fault.Unplaced) same world meaning m st e s laid t))) placed)

  pub called_done : p ≡ Ok outcome.Done → (new : Machine) (r : Result Pick Halt) → FollowsEvent now.image.code.now (event_at now d.place) None d done new r
      → AnswersLibrary d now new r
  called_done same new r f = λ world meaning m st e s laid t.
      done_so world meaning m st e s laid t same new r f (led (Ok outcome.Done) same world meaning m st e s laid t)

  pub called_ended : (n : ℕ) → p ≡ Ok (outcome.End n) → (new : Machine) (r : Result Pick Halt)
      → FollowsEvent now.image.code.now (event_at now d.place) (Some n) d done new r → AnswersLibrary d now new r
  called_ended n same new r f = λ world meaning m st e s laid t.
      ended_by world meaning m st e s laid t n same new r f (led (Ok (outcome.End n)) same world meaning m st e s laid t)

  pub called_started : p ≡ Ok outcome.Started → (new : Machine) (r : Result Pick Halt) → AnswersLibrary d now new r
  called_started same new r = λ world meaning m st e s laid t.
      absurd (started_by world meaning m st e s laid t same (led (Ok outcome.Started) same world meaning m st e s laid t))

  pub called_stopped : (x : Fault) (line : ℕ) (h : Halt) → p ≡ Err x → h ≡ halt_by (event_at now d.place) line x → AnswersLibrary d now done (Err h)
  called_stopped x line h same halts = λ world meaning m st e s laid t.
      subst (λ (k : Halt). AnswersCalled world meaning m st e s laid d t.call.function (Err k) done (step world st (Ev d.place))) (sym halts)
      (stopped_by world meaning m st e s laid t line x same (led (Err x) same world meaning m st e s laid t))

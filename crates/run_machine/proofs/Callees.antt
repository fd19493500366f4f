-- What is answered to an event that is the body of a call: the frame of the function that the definitions call, or what they raise or pass.
use Rattle.std.proofs.Common.{
  ◌≡◌,
  ℕ,
  suc,
  ◌+◌,
  ◌-◌,
  ◌^◌,
  ◌<◌,
  ◌≤◌,
  ◌||◌,
  ◌⊎◌,
  inl,
  inr,
  min,
  Bool,
  true,
  false,
  if◌then◌else◌,
  refl,
  sym,
  ap,
  ◌∙◌,
  subst,
  arith,
  List,
  [],
  ◌∷◌,
  length,
  map,
  Option,
  Some,
  None,
  Result,
  Ok,
  Err,
  slice_get,
}
use Rattle.std.specs.Borrow.{Bor}
use Rattle.std.specs.Prelude.{◌==◌, is_some, nat_lt}
use Rattle.std.proofs.lemmas.Bool.Decides.{nat_tests}
use Rattle.ub_base.specs.declared.clause.Cause.{Cause}
use Rattle.ub_base.specs.declared.clause.Cause.TheVariants.{Depth}
use Rattle.ub_base.specs.declared.clause.Clause.{Clause}
use Rattle.ub_base.specs.declared.clause.Clause.TheVariants.{IncompatibleCall, InvalidPointer}
use Rattle.ub_base.specs.declared.names.Event.{Event}
use Rattle.ub_base.specs.declared.names.Item.{Item}
use Rattle.c_types.specs.declared.library.LibFunc.{LibFunc}
use Rattle.c_types.specs.declared.tags.Tag.{Tag}
use Rattle.c_types.specs.Types.{CType}
use Rattle.c_typed.specs.declared.program.Function.{Function as Typed}
use Rattle.c_typed.specs.declared.program.Program.{Program}
use Rattle.c_typed.specs.declared.statement.Block.{Block}
use Rattle.c_typed.specs.declared.statement.Body.{Body as Statements, out-Body}
use Rattle.c_typed.specs.declared.statement.Body.TheOpen as form
use Rattle.c_typed.specs.declared.statement.Body.TheOpen.{Body-F}
use Rattle.c_typed.specs.declared.statement.Entry.{Entry}
use Rattle.c_typed.specs.declared.statement.ForStart.{ForStart}
use Rattle.c_typed.specs.declared.tree.Place.{Place}
use Rattle.c_typed.specs.Order.{is_body}
use Rattle.mem_spec.specs.Script.{Raised, Script, require, run, ◌>>◌}
use Rattle.c_model.specs.Program.{Function, Stmt}
use Rattle.c_model.specs.Runs.{Over, Raises, State, canonical_pick, chosen_pick, depth_of, entry_of, library_of, step}
use Rattle.c_model.specs.Steps.{
  Begun,
  Control,
  Ev,
  argument_types,
  at_node,
  body_of,
  call_by,
  call_through,
  called_by,
  event_act,
  event_of,
  first_type,
  function_of,
  function_type,
  library_act,
  target,
  values_of,
}
use Rattle.c_model.specs.Values.{Value, function_address, function_in, later_values, value_at}
use Rattle.c_model.specs.World.{World}
use Rattle.program_view.specs.Laws.{TreesAreKept}
use Rattle.program_view.specs.Statements.{defined, definition}
use Rattle.program_view.specs.View as view
use Rattle.run_acts.specs.Calls.{AgreesAsCompatible, AreFunctions}
use Rattle.run_values.specs.Views.{value_in}
use Rattle.run_control.specs.View.{Meaning}
use Rattle.run_layout.specs.declared.steps.Act.TheVariants as act
use Rattle.run_layout.specs.declared.steps.Due.{Due}
use Rattle.run_layout.specs.declared.steps.Operand.{Operand}
use Rattle.run_layout.specs.Roots.{as_block, AreInBlocks, IsInBlock}
use Rattle.run_listing.specs.Along.{place_of}
use Rattle.run_listing.specs.Cursor.{StandsAtStart}
use Rattle.run_state.specs.declared.halt.Halt.{Halt}
use Rattle.run_state.specs.declared.machine.Machine.{Machine}
use Rattle.run_state.specs.declared.machine.Stage.{Stage}
use Rattle.run_state.specs.Meaning.{StandsProgram}
use Rattle.run_answers.specs.declared.outcome.Outcome.{Outcome as Done_as}
use Rattle.run_answers.specs.declared.outcome.Outcome.TheVariants as outcome
use Rattle.run_answers.specs.declared.fault.Fault.{Fault}
use Rattle.run_answers.specs.declared.fault.Fault.TheVariants as fault
use Rattle.run_answers.specs.Calling.{CallsFound, CallsNumbered, RaisesOnly, Runs, RunsWhere, type_of_call}
use Rattle.run_answers.specs.Faults.{halt_by}
use Rattle.run_answers.specs.Opens.{OpensFunction, StartsFunction}
use Rattle.run_answers.specs.declared.pick.Pick.{Pick}
use Rattle.run_answers.specs.declared.pick.Pick.TheVariants as pick
use Rattle.run_answers.specs.Answering.{Answers}
use Rattle.run_answers.specs.Picks.{top_of, Follows, TakesCanonical}
use Rattle.run_answers.specs.Starting.{
  AnswersCall,
  AnswersNextCall,
  AnswersStart,
  CallsFunction,
  ComesToStart,
  IsCall,
  IsCallOf,
  MayCall,
  MayCallNext,
  StartsCall,
  function_frame,
  started_state,
}
use Rattle.run_answers.specs.Taking.{at_next, past_event, passed_stage, staged, untouched}
use Rattle.run_answers.proofs.Answered.{passes_so, raises_so, staged_so}
use Rattle.run_answers.proofs.Called.{function_stands}
use Rattle.run_answers.proofs.Calling.{function_passes, function_steps}
use Rattle.run_machine.proofs.Onward.{at_ready, came_next, cleared_open, ev_place}

-- ---- the functions of the program
defined_by : (tags : List Tag) (z : Body-F Statements Entry ForStart Block) (x : Block) → as_block z ≡ Some x → is_some (defined tags z) ≡ true
defined_by tags (form.Block b) x is = refl
defined_by tags _ x is = absurd (cc)

has_body : (tags : List Tag) (b : Option Statements) → IsInBlock b → is_some (definition tags b) ≡ is_some b
has_body tags None in_block = refl
has_body tags (Some b) in_block = defined_by tags (out-Body b) in_block.0 in_block.1

are_viewed : (tags : List Tag) (fs : List Typed) → AreInBlocks fs → AreFunctions fs (map (view.function_of tags) fs)
are_viewed tags [] blocks = tt
are_viewed tags (f ∷ fs) blocks = (record { ty = refl; body = has_body tags f.body blocks.0; library = refl }, are_viewed tags fs blocks.1)

pub are_of_world : (world : World) (p : Program) → StandsProgram world p → AreInBlocks p.functions → AreFunctions p.functions world.program.functions
are_of_world world p stands blocks = subst (λ (fs : List Function). AreFunctions p.functions fs) (sym stands.functions) (are_viewed p.tags p.functions blocks)

pub agree_so : (world : World) (p : Program) → StandsProgram world p → AgreesAsCompatible world.agree
agree_so world p stands = subst (λ (k : CType → CType → Bool). AgreesAsCompatible k) (sym stands.agree) (λ f g. refl)

-- ---- the function that is found
record StandsAt (fs : List Function) (n first : ℕ) (f : Function) : Type 0 where
  at : ℕ
  is : n ≡ first + at
  there : slice_get fs at ≡ Some f

pair_same : (x y : ℕ × Function) → Some x ≡ Some y → x ≡ y
pair_same x y e = cc

stands_by : (g : Function) (fs : List Function) (k n : ℕ) (f : Function) (rest : Option (ℕ × Function)) (b : Bool) →
    (rest ≡ Some (n, f) → StandsAt fs n (suc k) f) → (if b then Some (k, g) else rest) ≡ Some (n, f) → StandsAt (g ∷ fs) n k f
stands_by g fs k n f rest true later e =
    let pair = pair_same (k, g) (n, f) e in
    let number : k ≡ n = ap (λ (x : ℕ × Function). x.0) pair in
    record { at = 0; is = omega (arith, number); there = ap (λ (x : ℕ × Function). Some x.1) pair }
stands_by g fs k n f rest false later e =
    let there = later e in
    let number = there.is in
    record { at = suc there.at; is = omega (arith, number); there = there.there }

stands_at : (fs : List Function) (k a n : ℕ) (f : Function) → function_of fs k a ≡ Some (n, f) → StandsAt fs n k f
stands_at [] k a n f is = absurd (cc)
stands_at (g ∷ fs) k a n f is = stands_by g fs k n f (function_of fs (suc k) a) (function_address k == a) (stands_at fs (suc k) a n f) is

found_there : (fs : List Function) (a n : ℕ) (f : Function) → function_of fs 0 a ≡ Some (n, f) → slice_get fs n ≡ Some f
found_there fs a n f is =
    let s = stands_at fs 0 a n f is in
    let same : n ≡ s.at = (let i = s.is in omega (arith, i)) in
    ap (slice_get fs) same ∙ s.there

-- a function that is none of the library, and can be called, is defined
record IsDefined (f : Function) : Type 0 where
  body : Stmt
  is : f.body ≡ Some body

is_defined : (f : Function) (b : Option Stmt) (l : Option LibFunc) → f.body ≡ b → l ≡ None → (is_some b || is_some l) ≡ true → IsDefined f
is_defined f (Some b) l is none callable = record { body = b; is = is }
is_defined f None None is none callable = absurd (cc)
is_defined f None (Some l) is none callable = absurd (cc)

some_same : {A : Type 0} (x y : A) → Some x ≡ Some y → x ≡ y
some_same x y e = cc

pub if_true : {A : Type 0} (b : Bool) (x y : A) → b ≡ true → (if b then x else y) ≡ x
if_true true x y is = refl
if_true false x y is = absurd (cc)

-- ---- by what the act left, from where the cursor has passed the event
module _ (trees : TreesAreKept) (starts : StandsAtStart) (d : Due) (now start done : Machine) (who : Event) (node : who.node ≡ d.place.node)
    (p : Result Done_as Fault) (is : start ≡ past_event now)
    (calls : (number : ℕ) → d.act ≡ act.Call number → CallsNumbered number start who done p) where
  module _ (q : Result Done_as Fault) (same : p ≡ q) (world : World) (meaning : Option ℕ → Meaning) (m : Machine) (st : State) (e : Begun) (s : Stage)
      (t : MayCall world meaning m st e s d now) where
    abbrev past : Machine
    past = past_event now

    abbrev call : IsCall world past st.top.scene e d
    call = t.event

    abbrev values : List Value
    values = values_of world st.top.scene e.given (suc d.place.node) call.operands

    abbrev passed : List Operand
    passed = call.code.arguments.items

    at : (z : Option Stage) × (now ≡ staged m z)
    at = staged_so m now s d s.straight t.goes

    past_is : past ≡ staged m (passed_stage at.0)
    past_is = ap past_event at.1

    program_so : past.program.now ≡ m.program.now
    program_so = ap (λ (k : Machine). k.program.now) past_is

    calls_so : CallsNumbered call.number past who done q
    calls_so =
        subst (λ (r : Result Done_as Fault). CallsNumbered call.number past who done r) same
        (subst (λ (k : Machine). CallsNumbered call.number k who done p) is (calls call.number call.act))

    -- the function that the definitions call
    abbrev Found : Option CType → Option (ℕ × Function) → Type 0
    Found through found = CallsFound past passed call.code.types who done q world.agree through found

    functions_so : AreFunctions past.program.now.functions world.program.functions
    functions_so =
        subst (λ (k : Program). AreFunctions k.functions world.program.functions) (sym program_so)
        (are_of_world world m.program.now t.stood.stands.program t.functions.blocks)

    few_so : length past.program.now.functions ≤ 2 ^ 32
    few_so = subst (λ (k : Program). length k.functions ≤ 2 ^ 32) (sym program_so) t.functions.few

    found_first : Found (type_of_call call.code.ty) (function_of world.program.functions 0 (function_in (value_in past.memory call.designator.0)))
    found_first =
        calls_so call.code call.there world.program.functions world.agree call.designator.0 few_so functions_so
        (agree_so world m.program.now t.stood.stands.program) call.designator.1

    found_so : Found (function_type (target (first_type call.operands))) (called_by world values)
    found_so =
        subst (λ (v : Value). Found (function_type (target (first_type call.operands))) (function_of world.program.functions 0 (function_in v)))
        call.designator.3
        (subst (λ (o : Option CType). Found o (function_of world.program.functions 0 (function_in (value_in past.memory call.designator.0)))) call.typed
        found_first)

    -- what the definitions do
    acts_by : event_act world st.top.scene e d.place (at_node 0 e.root d.place.node)
        ≡ call_through world (event_of world st.top.scene d.place) (function_type (target (first_type call.operands))) (argument_types call.operands) values
    acts_by =
        ap (event_act world st.top.scene e d.place) call.node
        ∙ if_true (is_body d.place.kind) _ _ (ap is_body call.body)

    -- either they raise a clause, or a function's frame starts
    pub record Raising : Type 0 where
      pub clause : Clause
      pub ran : run world.rows (event_act world st.top.scene e d.place (at_node 0 e.root d.place.node)) st.store ≡ Raised clause
      pub only : RaisesOnly clause past done q

    pub record Opening : Type 0 where
      pub number : ℕ
      pub body : Stmt
      pub has : body_of world (Some number) ≡ Some body
      pub is_call : IsCallOf world st.top.scene e d.place number body (later_values values)
      pub opens : OpensFunction past number passed who done q

    raising : (through : Option CType) → function_type (target (first_type call.operands)) ≡ through → (c : Clause) →
        run world.rows (call_through world (event_of world st.top.scene d.place) through (argument_types call.operands) values) st.store ≡ Raised c →
        RaisesOnly c past done q → Raising
    raising through typed c ran only = record {
      clause = c;
      ran = ap (λ (x : Script Value). run world.rows x st.store) acts_by
          ∙ ap (λ (o : Option CType). run world.rows (call_through world (event_of world st.top.scene d.place) o (argument_types call.operands) values)
          st.store) typed
          ∙ ran;
      only = only;
    }

    abbrev whom : Event
    whom = event_of world st.top.scene d.place

    call_raises : (ty : CType) (found : Option (ℕ × Function)) (c : Clause) → called_by world values ≡ found →
        run world.rows (call_by world whom ty (argument_types call.operands) (later_values values) found) st.store ≡ Raised c →
        run world.rows (call_through world whom (Some ty) (argument_types call.operands) values) st.store ≡ Raised c
    call_raises ty found c called ran =
        ap (λ (o : Option (ℕ × Function)). run world.rows (call_by world whom ty (argument_types call.operands) (later_values values) o) st.store) called
        ∙ ran

    module _ (ty : CType) (typed : function_type (target (first_type call.operands)) ≡ Some ty) (found : ℕ × Function)
        (called : called_by world values ≡ Some found) where
      -- where it can't be called
      none_raises : (is_some found.1.body || is_some found.1.library) ≡ false →
          run world.rows (call_by world whom ty (argument_types call.operands) (later_values values) (Some found)) st.store ≡ Raised InvalidPointer
      none_raises callable =
          ap (λ (b : Bool). run world.rows (require b InvalidPointer >> (require (world.agree found.1.ty ty) IncompatibleCall
          >> library_act world whom (argument_types call.operands) (later_values values) found.1.library)) st.store) callable

      -- where its type isn't compatible
      other_raises : (is_some found.1.body || is_some found.1.library) ≡ true → world.agree found.1.ty ty ≡ false →
          run world.rows (call_by world whom ty (argument_types call.operands) (later_values values) (Some found)) st.store ≡ Raised IncompatibleCall
      other_raises callable agrees =
          ap (λ (b : Bool). run world.rows (require b InvalidPointer >> (require (world.agree found.1.ty ty) IncompatibleCall
          >> library_act world whom (argument_types call.operands) (later_values values) found.1.library)) st.store) callable
          ∙ ap (λ (b : Bool). run world.rows (require b IncompatibleCall
          >> library_act world whom (argument_types call.operands) (later_values values) found.1.library) st.store) agrees

      library_none : found.1.library ≡ None
      library_none = ap library_of (sym called) ∙ call.own

      opening : (is_some found.1.body || is_some found.1.library) ≡ true → world.agree found.1.ty ty ≡ true →
          Runs past passed call.code.types who done q found.0 found.1.library → Opening
      opening callable agrees runs =
          let f = is_defined found.1 found.1.body found.1.library refl library_none callable in
          record {
            number = found.0;
            body = f.body;
            has = ap (λ (o : Option Function). body_in o) (found_there world.program.functions (function_in (value_at values 0)) found.0 found.1 called) ∙ f.is;
            is_call = record {
              kind = call.body;
              discarded = call.discarded;
              ty = call.ty;
              line = call.line;
              operands = call.operands;
              node = call.node;
              through = ty;
              typed = typed;
              called = found.1;
              calls = called;
              agrees = agrees;
              none = library_none;
              defines = f.is;
              passes = refl;
            };
            opens = subst (λ (l : Option LibFunc). Runs past passed call.code.types who done q found.0 l) library_none runs;
          }
        where
          body_in : Option Function → Option Stmt
          body_in None = None
          body_in (Some g) = g.body

      -- by what is checked of it
      by_checks : (callable : Bool) → (is_some found.1.body || is_some found.1.library) ≡ callable → (agrees : Bool) → world.agree found.1.ty ty ≡ agrees →
          RunsWhere past passed call.code.types who done q callable agrees found.0 found.1 → Raising ⊎ Opening
      by_checks false callable_is agrees agrees_is only =
          inl (raising (Some ty) typed InvalidPointer (call_raises ty (Some found) InvalidPointer called (none_raises callable_is)) only)
      by_checks true callable_is false agrees_is only =
          inl (raising (Some ty) typed IncompatibleCall (call_raises ty (Some found) IncompatibleCall called (other_raises callable_is agrees_is)) only)
      by_checks true callable_is true agrees_is runs = inr (opening callable_is agrees_is runs)

    leads : (through : Option CType) → function_type (target (first_type call.operands)) ≡ through → (found : Option (ℕ × Function)) →
        called_by world values ≡ found → Found through found → Raising ⊎ Opening
    leads None typed found called only = inl (raising None typed InvalidPointer refl only)
    leads (Some ty) typed None called only = inl (raising (Some ty) typed InvalidPointer (call_raises ty None InvalidPointer called refl) only)
    leads (Some ty) typed (Some found) called runs =
        by_checks ty typed found called (is_some found.1.body || is_some found.1.library) refl (world.agree found.1.ty ty) refl runs

    pub led : Raising ⊎ Opening
    led = leads (function_type (target (first_type call.operands))) refl (called_by world values) refl found_so

    -- ---- a frame has started
    began : st.top.begun ≡ Some e
    began = t.stood.begun

    depth_so : past.depth ≡ depth_of st.top st.held
    depth_so = ap (λ (k : Machine). k.depth) past_is ∙ t.stood.stands.depth

    room_so : past.top.base + past.top.rooms ≡ m.top.base + m.top.rooms
    room_so = ap (λ (k : Machine). k.top.base + k.top.rooms) past_is

    starts_call : (o : Opening) → StartsFunction past o.number passed who done →
        StartsCall world meaning m st e s d o.number o.body passed (later_values values) done
    starts_call o opens = record {
      stood = t.stood;
      stage = t.stage;
      rooms = t.rooms;
      few = subst (λ (n : ℕ). n + length passed < 2 ^ 64) room_so call.few;
      kind = call.body;
      has = o.has;
      past = past;
      passes = passes_so m now s d s.straight refl t.stage t.end t.goes;
      passed = call.arguments;
      who = who;
      node = node;
      starts = opens;
    }

    nothing_touched : (number : ℕ) → StartsFunction past number passed who done → [] ≡ done.items
    nothing_touched number opens =
        sym (ap (λ (k : Machine). k.items) opens.counted
        ∙ ap (λ (k : Machine). k.items) opens.opens.rest
        ∙ ap (λ (k : Machine). k.items) opens.rest
        ∙ ap (λ (k : Machine). k.items) past_is
        ∙ t.items)

    few_open : (number : ℕ) → StartsFunction past number passed who done → depth_of st.top st.held < world.limits.depth
    few_open number opens = (let lt = opens.few in let d = depth_so in let l = t.functions.depth in omega (arith, lt, d, l))

    comes : (o : Opening) → StartsFunction past o.number passed who done → ComesToStart world meaning done (step world st (Ev d.place))
    comes o opens = (
      started_state world st d.place (function_frame st.top.scene d.place.node o.number o.body (later_values values)),
      function_steps world st e d.place o.number o.body (later_values values) began o.is_call t.within (few_open o.number opens),
      nothing_touched o.number opens,
      function_stands trees starts world meaning m st e s d o.number o.body passed (later_values values) done (starts_call o opens),
    )

    -- with what was started
    function_called : (o : Opening) → StartsFunction past o.number passed who done →
        CallsFunction world meaning m st e s d.place done (step world st (Ev d.place))
    function_called o opens = record {
      due = d;
      place = refl;
      number = o.number;
      body = o.body;
      operands = passed;
      values = later_values values;
      is = o.is_call;
      starts = starts_call o opens;
      comes = function_steps world st e d.place o.number o.body (later_values values) began o.is_call t.within (few_open o.number opens);
    }

    -- ---- it is refused
    within_so : depth_of st.top st.held ≤ 100000
    within_so =
        (let l = t.functions.depth in
        let le = depth_within world.limits.depth (depth_of st.top st.held) _ _ t.within in
        omega (arith, l, le))
      where
        depth_within : {A : Type 0} (limit depth : ℕ) (x : A) (rest : Option A) → (if nat_lt limit depth then Some x else rest) ≡ None → depth ≤ limit
        depth_within {A} limit depth x rest none = by (nat_lt limit depth) refl none
          where
            by : (b : Bool) → nat_lt limit depth ≡ b → (if b then Some x else rest) ≡ None → depth ≤ limit
            by true is none = absurd (cc)
            by false is none = grind (arith, nat_tests, is)

    over_so : (o : Opening) (cause : Cause) (reached : ℕ) → cause ≡ Depth → reached ≡ min (past.depth + 1) (2 ^ 64 - 1) → 100000 ≤ past.depth →
        step world st (Ev d.place) ≡ Over cause reached
    over_so o cause reached cause_is reached_is many =
        let le : world.limits.depth ≤ depth_of st.top st.held = (let d = depth_so in let l = t.functions.depth in omega (arith, many, d, l)) in
        let number : 1 + depth_of st.top st.held ≡ reached =
        (let d = depth_so in let w = within_so in omega (arith, reached_is, d, w)) in
        function_passes world st e d.place o.number o.body (later_values values) began o.is_call le
        ∙ ap (λ (n : ℕ). Over Depth n) number
        ∙ ap (λ (c : Cause). Over c reached) (sym cause_is)

    raises : (r : Raising) (c : Clause) → c ≡ r.clause →
        step world st (Ev d.place) ≡ Raises c (entry_of world st.top (Ev d.place) [] ∷ st.trace)
    raises r c same_clause =
        raises_so world st e d.place r.clause began r.ran
        ∙ ap (λ (x : Clause). Raises x (entry_of world st.top (Ev d.place) [] ∷ st.trace)) (sym same_clause)

  -- ---- by what was answered
  pub call_started : p ≡ Ok outcome.Started → (event : Event) → AnswersCall d now done (Ok (pick.Starts event))
  call_started same event = λ world meaning m st e s t.
      by world meaning m st e s t (led (Ok outcome.Started) same world meaning m st e s t)
    where
      by : (world : World) (meaning : Option ℕ → Meaning) (m : Machine) (st : State) (e : Begun) (s : Stage) (t : MayCall world meaning m st e s d now) →
          Raising (Ok outcome.Started) same world meaning m st e s t ⊎ Opening (Ok outcome.Started) same world meaning m st e s t →
          AnswersStart world meaning (CallsFunction world meaning m st e s d.place done (step world st (Ev d.place))) (Ok (pick.Starts event)) done
          (step world st (Ev d.place))
      by world meaning m st e s t (inl r) = absurd r.only
      by world meaning m st e s t (inr o) = (
        comes (Ok outcome.Started) same world meaning m st e s t o o.opens,
        function_called (Ok outcome.Started) same world meaning m st e s t o o.opens,
      )

  pub call_done : (new : Machine) (r : Result Pick Halt) → p ≡ Ok outcome.Done → AnswersCall d now new r
  call_done new r same = λ world meaning m st e s t. absurd (by world meaning m st e s t (led (Ok outcome.Done) same world meaning m st e s t))
    where
      by : (world : World) (meaning : Option ℕ → Meaning) (m : Machine) (st : State) (e : Begun) (s : Stage) (t : MayCall world meaning m st e s d now) →
          Raising (Ok outcome.Done) same world meaning m st e s t ⊎ Opening (Ok outcome.Done) same world meaning m st e s t → ⊥
      by world meaning m st e s t (inl r) = r.only
      by world meaning m st e s t (inr o) = o.opens

  pub call_ended : (new : Machine) (r : Result Pick Halt) (n : ℕ) → p ≡ Ok (outcome.End n) → AnswersCall d now new r
  call_ended new r n same = λ world meaning m st e s t. absurd (by world meaning m st e s t (led (Ok (outcome.End n)) same world meaning m st e s t))
    where
      by : (world : World) (meaning : Option ℕ → Meaning) (m : Machine) (st : State) (e : Begun) (s : Stage) (t : MayCall world meaning m st e s d now) →
          Raising (Ok (outcome.End n)) same world meaning m st e s t ⊎ Opening (Ok (outcome.End n)) same world meaning m st e s t → ⊥
      by world meaning m st e s t (inl r) = r.only
      by world meaning m st e s t (inr o) = o.opens

  module _ (world : World) (meaning : Option ℕ → Meaning) (m : Machine) (st : State) (e : Begun) (s : Stage) (t : MayCall world meaning m st e s d now)
      (line : ℕ) where
    stops : (x : Fault) (same : p ≡ Err x) →
        Raising (Err x) same world meaning m st e s t ⊎ Opening (Err x) same world meaning m st e s t →
        Answers world meaning (Err (halt_by who line x)) done (step world st (Ev d.place))
    stops fault.NoMemory same either = tt
    stops fault.Unplaced same (inl r) = absurd r.only
    stops fault.Unplaced same (inr o) = absurd o.opens
    stops (fault.Raise c) same (inl r) =
        (entry_of world st.top (Ev d.place) [] ∷ st.trace, raises (Err (fault.Raise c)) same world meaning m st e s t r c r.only.0)
    stops (fault.Raise c) same (inr o) = absurd o.opens
    stops (fault.Over cause reached) same (inl r) = absurd r.only
    stops (fault.Over cause reached) same (inr o) =
        over_so (Err (fault.Over cause reached)) same world meaning m st e s t o cause reached o.opens.0 o.opens.1 o.opens.2

  pub call_stopped : (x : Fault) (line : ℕ) (h : Halt) → p ≡ Err x → h ≡ halt_by who line x → AnswersCall d now done (Err h)
  call_stopped x line h same halts = λ world meaning m st e s t.
      subst (λ (g : Halt). Answers world meaning (Err g) done (step world st (Ev d.place))) (sym halts)
      (stops world meaning m st e s t line x same (led (Err x) same world meaning m st e s t))

-- ---- the next event along the canonical way
-- the machine has gone on to it, and may call
pub record Comes (world : World) (meaning : Option ℕ → Meaning) (old : Machine) (is : List Item) (st : State) (e : Begun) (s : Stage) (due : Bor Due)
    (mid : Machine) (u : Place) : Type 0 where
  pub same : due.now.place ≡ u
  pub may : MayCall world meaning (untouched old) st e s due.now (record mid { items = is })

pub comes_next : (old mid : Machine) (is : List Item) (next : Option (Bor Due)) (due : Bor Due) → Follows old mid next → next ≡ Some due → is ≡ [] →
    TakesCanonical old (place_of next) → (world : World) (meaning : Option ℕ → Meaning) (st : State) (e : Begun) (s : Stage) (u : Place) →
    MayCallNext world meaning old st e s → canonical_pick world st.top st.top.begun ≡ Ev u → Comes world meaning old is st e s due mid u
comes_next old mid is next due f some none canonical world meaning st e s u asks picks =
    let came = came_next old mid s due old.top.stage (top_of old) asks.straight asks.stage refl (subst (λ (o : Option (Bor Due)). Follows old mid o) some f) in
    let now : record mid { items = is } ≡ at_next old s came.count =
    ap (λ (k : List Item). record mid { items = k }) none ∙ ap (λ (k : Machine). record k { items = [] }) came.is in
    record {
      same = ev_place due.now.place u
          (ap (λ (o : Option (Bor Due)). chosen_pick world (place_of o)) (sym some) ∙ canonical world meaning st asks.stood.stands ∙ picks);
      may = subst (MayCall world meaning (untouched old) st e s due.now) (sym now)
          (record {
            stood = cleared_open world meaning old st e asks.stood;
            within = asks.within;
            items = refl;
            stage = asks.stage;
            end = asks.end;
            rooms = asks.rooms;
            functions = asks.functions;
            event = asks.each (came.count, due) came.comes;
            goes = at_ready old s due came.count s.straight asks.straight came.comes;
          });
    }

pub next_calls : (old mid new : Machine) (is : List Item) (next : Option (Bor Due)) (due : Bor Due) (r : Result Pick Halt) → Follows old mid next →
    next ≡ Some due → is ≡ [] → TakesCanonical old (place_of next) → AnswersCall due.now (record mid { items = is }) new r → AnswersNextCall old new r
next_calls old mid new is next due r f some none canonical answers = λ world meaning st e s u asks picks.
    let c = comes_next old mid is next due f some none canonical world meaning st e s u asks picks in
    subst (λ (v : Place).
    AnswersStart world meaning (CallsFunction world meaning (untouched old) st e s v new (step world st (Ev v))) r new (step world st (Ev v))) c.same
    (answers world meaning (untouched old) st e s c.may)

pub none_call : (old new : Machine) (next : Option (Bor Due)) (r : Result Pick Halt) → next ≡ None → TakesCanonical old (place_of next) →
    AnswersNextCall old new r
none_call old new next r none canonical = λ world meaning st e s u asks picks.
    let control : Control ≡ Ev u =
    ap (λ (o : Option (Bor Due)). chosen_pick world (place_of o)) (sym none) ∙ canonical world meaning st asks.stood.stands ∙ picks in
    absurd (cc)

-- What is answered to an event that isn't a body: the definitions' event.
use Rattle.std.proofs.Common.{
  ◌≡◌,
  ℕ,
  zero,
  suc,
  ◌+◌,
  ◌-◌,
  ◌^◌,
  ◌<◌,
  min,
  Bool,
  true,
  false,
  if◌then◌else◌,
  refl,
  sym,
  ap,
  ◌∙◌,
  subst,
  arith,
  List,
  [],
  ◌∷◌,
  take,
  drop,
  Option,
  Some,
  None,
  Result,
  Ok,
  Err,
  slice_get,
}
use Rattle.ub_base.specs.declared.clause.Clause.{Clause}
use Rattle.ub_base.specs.declared.names.Event.{Event}
use Rattle.addr_map.specs.declared.map.Row.{Row}
use Rattle.c_typed.specs.declared.tree.Place.{Place}
use Rattle.mem_spec.specs.Script.{Raised, Script, run}
use Rattle.mem_objects.specs.Keeps.{RowsStay}
use Rattle.mem_objects.specs.Memory.{store_of}
use Rattle.c_model.specs.Completions.{completed_by}
use Rattle.c_model.specs.Program.{tree_of}
use Rattle.c_model.specs.Runs.{Outcome, Raises, Running, State, acted, entry_of, step}
use Rattle.c_model.specs.Steps.{Begun, Ev, at_node, does, event_act, event_of, is_done, taken_by, with_given}
use Rattle.c_model.specs.Values.{Value}
use Rattle.c_model.specs.World.{World}
use Rattle.run_control.specs.View.{Meaning}
use Rattle.run_layout.specs.declared.steps.Due.{Due}
use Rattle.run_layout.specs.declared.steps.Expression.{Expression}
use Rattle.run_layout.specs.declared.whole.Code.{Code}
use Rattle.run_state.specs.declared.halt.Halt.{Halt}
use Rattle.run_state.specs.declared.machine.Machine.{Machine}
use Rattle.run_state.specs.declared.machine.Stage.{Stage}
use Rattle.run_state.specs.Stands.{Stands}
use Rattle.run_answers.specs.declared.outcome.Outcome.{Outcome as Done_as}
use Rattle.run_answers.specs.declared.outcome.Outcome.TheVariants as outcome
use Rattle.run_answers.specs.declared.fault.Fault.{Fault}
use Rattle.run_answers.specs.declared.fault.Fault.TheVariants as fault
use Rattle.run_answers.specs.Acts.{is_body_act, script_in, AreGiven}
use Rattle.run_answers.specs.Faults.{halt_by}
use Rattle.run_answers.specs.Performs.{gives_value, store_in, CanPerform, ChangesOnly, IsDone, Performs}
use Rattle.run_answers.specs.Ways.{Chooses}
use Rattle.run_answers.specs.declared.pick.Pick.{Pick}
use Rattle.run_answers.specs.declared.pick.Pick.TheVariants as pick
use Rattle.run_answers.specs.Answering.{Answers}
use Rattle.run_answers.specs.Completing.{CompletesAfter, CompletesEvent, CompletesPick, EventCompletes}
use Rattle.run_answers.specs.Ending.{Notes, NotesIn, NotesWay}
use Rattle.run_answers.specs.Picks.{at_cursor, event_at}
use Rattle.run_answers.specs.Taking.{AnswersEvent, AnswersTaken, Decides, DecidesBy, EventComes, EventStands, EventSteps, FollowsEvent, IsAt, IsPast, IsTaken}
use Rattle.run_answers.specs.Taking.{MayTake, TakesEvent, after_event, past_event, passed_stage, staged, store_after}
use Rattle.run_answers.proofs.Taken.{event_seen}

-- ---- the cursor
taken_within : {A : Type 0} (k : ℕ) (xs : List A) (n : ℕ) (x : A) → slice_get (take k xs) n ≡ Some x → n < k
taken_within zero xs n x e = absurd (cc)
taken_within (suc k) [] n x e = absurd (cc)
taken_within (suc k) (y ∷ ys) zero x e = omega arith
taken_within (suc k) (y ∷ ys) (suc n) x e = (let lt = taken_within k ys n x e in omega (arith, lt))

one_on : (c n end : ℕ) → n < end - c → end < 2 ^ 64 → min (min (c + n) (2 ^ 64 - 1) + 1) (2 ^ 64 - 1) ≡ suc (c + n)
one_on c n end lt few = omega (arith, lt, few)

pub passes_so : (m now : Machine) (s : Stage) (d : Due) (straight : Bool) → s.straight ≡ straight → m.top.stage ≡ Some s → s.end < 2 ^ 64 →
    IsAt straight m s d now → IsPast straight m s d (past_event now)
passes_so m now s d true is stage few at =
    let n = at.1.0 in
    let c = min (s.cursor + n) (2 ^ 64 - 1) in
    let lt = taken_within (s.end - s.cursor) (drop s.cursor m.image.code.now.listing.items) n _ at.4.0 in (
      at.0,
      at.1,
      at.2,
      at.3,
      at.4,
      ap past_event at.5
          ∙ ap (λ (b : Bool). staged m (Some (if b then record s { cursor = min (c + 1) (2 ^ 64 - 1) } else record s { cursor = c }))) is
          ∙ ap (at_cursor m s) (one_on s.cursor n s.end lt few),
    )
passes_so m now s d false is stage few at =
    ap past_event at
    ∙ ap (λ (z : Option Stage). staged m (passed_stage z)) stage
    ∙ ap (λ (b : Bool). staged m (Some (if b then record s { cursor = min (s.cursor + 1) (2 ^ 64 - 1) } else s))) is
    ∙ ap (staged m) (sym stage)

-- it is the machine with another cursor
pub staged_so : (m now : Machine) (s : Stage) (d : Due) (straight : Bool) → IsAt straight m s d now → (z : Option Stage) × (now ≡ staged m z)
staged_so m now s d true at = (Some (record s { cursor = min (s.cursor + at.1.0) (2 ^ 64 - 1) }), at.5)
staged_so m now s d false at = (m.top.stage, at)

-- the stage behind it
pub stage_past : (m past : Machine) (s : Stage) (d : Due) (straight : Bool) → m.top.stage ≡ Some s → IsPast straight m s d past →
    (k : ℕ) × (past.top.stage ≡ Some (record s { cursor = k }))
stage_past m past s d true stage p = (suc (s.cursor + p.1.0), ap (λ (k : Machine). k.top.stage) p.5)
stage_past m past s d false stage p = (s.cursor, ap (λ (k : Machine). k.top.stage) p ∙ stage)

-- ---- what was noted and decided
pub noted_code : (straight : Bool) (done noted : Machine) (u : Place) → NotesWay straight done u noted → noted.image.code.now ≡ done.image.code.now
noted_code true done noted u n = ap (λ (k : Machine). k.image.code.now) n
noted_code false done noted u n = ap (λ (k : Machine). k.image.code.now) n.rest

pub decides_so : (o : Option ℕ) (code : Code) (noted new : Machine) → noted.image.code.now ≡ code → DecidesBy code o noted new → Decides o noted new
decides_so None code noted new is d = d
decides_so (Some n) code noted new is d = subst (λ (c : Code). Chooses c n noted new) (sym is) d

-- ---- what the definitions raise
pub raises_so : (world : World) (st : State) (e : Begun) (u : Place) (c : Clause) → st.top.begun ≡ Some e →
    run world.rows (event_act world st.top.scene e u (at_node 0 e.root u.node)) st.store ≡ Raised c →
    step world st (Ev u) ≡ Raises c (entry_of world st.top (Ev u) [] ∷ st.trace)
raises_so world st e u c begun ran =
    ap (λ (b : Option Begun). acted world st (Ev u) (run world.rows (does world st.top b (Ev u)) st.store)) begun
    ∙ ap (acted world st (Ev u)) ran

module _ (steps : EventSteps) (world : World) (meaning : Option ℕ → Meaning) (m : Machine) (st : State) (e : Begun) (s : Stage)
    (laid : Expression) (d : Due) (now : Machine) (t : MayTake world meaning m st e s laid d now) where
  abbrev past : Machine
  past = past_event now

  abbrev who : Event
  who = event_at now d.place

  pub at : (z : Option Stage) × (now ≡ staged m z)
  at = staged_so m now s d s.straight t.goes

  passes : IsPast s.straight m s d past
  passes = passes_so m now s d s.straight refl t.stage t.end t.goes

  seen : who ≡ event_of world st.top.scene d.place
  seen = event_seen world meaning m now st d.place t.stood.stands (ap (λ (k : Machine). k.top.frame) at.1) (ap (λ (k : Machine). k.top.turn) at.1)

  pub given : AreGiven past who d.act
  given = subst (λ (w : Event). AreGiven past w d.act) (sym seen) t.act.given

  can_of : (z : Option Stage) → CanPerform world.rows (staged m z)
  can_of z = record {
    can = record { sound = t.stood.stands.memory.sound; tagged = t.stood.stands.memory.tagged; items = t.items };
    extends = t.extends;
    tables = record { places = t.stood.stands.tables.places; vias = t.stood.stands.tables.vias; fillings = t.stood.stands.tables.fillings };
    constants = t.constants;
  }

  pub can : CanPerform world.rows past
  can = subst (λ (k : Machine). CanPerform world.rows (past_event k)) (sym at.1) (can_of (passed_stage at.0))

  -- ---- it is done
  module _ (done noted new : Machine) (v : Value) (does_so : IsDone world.rows past done who d.act v)
      (changes : ChangesOnly past done d.place.node d.act) (effect : gives_value d.act ≡ false → done.values ≡ past.values)
      (notes : Notes done d.place noted) (decides : DecidesBy now.image.code.now d.choice noted new) (rows : RowsStay new.memory.rows world.rows) where
    stage_done : (k : ℕ) × (done.top.stage ≡ Some (record s { cursor = k }))
    stage_done =
        let p = stage_past m past s d s.straight t.stage passes in
        (p.0, ap (λ (k : Machine). k.top.stage) changes.rest ∙ p.1)

    way : NotesWay s.straight done d.place noted
    way = subst (λ (z : Option Stage). NotesIn z done d.place noted) stage_done.1 notes

    same_code : noted.image.code.now ≡ now.image.code.now
    same_code = noted_code s.straight done noted d.place way ∙ ap (λ (k : Machine). k.image.code.now) changes.rest

    taken : IsTaken world m s d v new
    taken = record {
      past = past;
      done = done;
      noted = noted;
      passes = passes;
      changes = changes;
      does = does_so;
      rows = rows;
      effect = effect;
      notes = way;
      decides = decides_so d.choice now.image.code.now noted new same_code decides;
    }

    takes : TakesEvent world meaning m st e s laid d v new
    takes = record {
      stood = t.stood;
      stage = t.stage;
      at = t.at;
      rooms = t.rooms;
      event = t.event;
      constants = t.constants;
      plain = t.plain;
      may = t.may;
      taken = taken;
    }

    -- so the machine and the definitions go on
    abbrev Comes : Type 0
    Comes = (due : Due) × (w : Value) × (due.place ≡ d.place) × TakesEvent world meaning m st e s laid due w new
        × (step world st (Ev d.place) ≡ Running (after_event world st e d.place w new.items (store_after new)))

    comes : Comes
    unfolding takes taken
    comes = (d, v, refl, takes, steps world meaning m new st e s laid d v takes t.act t.within)

  -- what it completes is what the definitions say, along the canonical way
  pub completes_done : EventCompletes → (done new : Machine) → ((v : Value) × IsDone world.rows past done who d.act v) →
      ChangesOnly past done d.place.node d.act → (gives_value d.act ≡ false → done.values ≡ past.values) → s.straight ≡ true → (r : Result Pick Halt) →
      FollowsEvent now.image.code.now who None d done new r → CompletesPick d new r → CompletesAfter world r d.place new (step world st (Ev d.place))
  unfolding takes taken
  completes_done completes done new did changes effect straight (Ok (pick.Event event completed None)) f noted = λ rows later is first begun.
      let v = did.0 in
      let took = takes done f.2.noted new v did.1 changes effect f.2.notes f.2.decides rows in
      let next = after_event world st e d.place v new.items (store_after new) in
      let ran : Running next ≡ Running later = sym (steps world meaning m new st e s laid d v took t.act t.within) ∙ is in
      let same : next ≡ later = cc in
      let both : Some (with_given e d.place v) ≡ Some first = ap (λ (z : State). z.top.begun) same ∙ begun in
      let it : with_given e d.place v ≡ first = cc in
      completes world meaning m new st e s laid d v took straight completed noted
      ∙ ap (λ (z : Begun). completed_by (tree_of z.root) (taken_by world st.top.scene z) (is_done z) d.place.node) it
      ∙ ap (λ (z : State). completed_by (tree_of first.root) (taken_by world z.top.scene first) (is_done first) d.place.node) same
  completes_done completes done new did changes effect straight (Ok (pick.Event event completed (Some status))) f noted = tt
  completes_done completes done new did changes effect straight (Ok (pick.Starts event)) f noted = tt
  completes_done completes done new did changes effect straight (Ok (pick.Step ended)) f noted = tt
  completes_done completes done new did changes effect straight (Err x) f noted = tt

  pub performed : (status : Option ℕ) → status ≡ None → (done new : Machine) → ((v : Value) × IsDone world.rows past done who d.act v) →
      ChangesOnly past done d.place.node d.act → (gives_value d.act ≡ false → done.values ≡ past.values) → (r : Result Pick Halt) →
      FollowsEvent now.image.code.now who status d done new r → AnswersTaken world meaning m st e s laid d.place r new (step world st (Ev d.place))
  performed status none done new did changes effect (Ok (pick.Event event completed ended)) f =
      subst (λ (o : Option ℕ). AnswersTaken world meaning m st e s laid d.place (Ok (pick.Event event completed o)) new (step world st (Ev d.place)))
      (sym (f.1 ∙ none))
      (λ rows. comes done f.2.noted new did.0 did.1 changes effect f.2.notes f.2.decides rows)
  performed status none done new did changes effect (Ok (pick.Starts event)) f = absurd f
  performed status none done new did changes effect (Ok (pick.Step ended)) f = absurd f
  performed status none done new did changes effect (Err x) f =
      subst (λ (h : Halt). AnswersTaken world meaning m st e s laid d.place (Err h) new (step world st (Ev d.place))) (sym f) tt

  -- ---- or its clause is raised
  raised : (c : Clause) → run world.rows (script_in world.rows past who d.act) (store_in past) ≡ Raised c →
      step world st (Ev d.place) ≡ Raises c (entry_of world st.top (Ev d.place) [] ∷ st.trace)
  raised c ran =
      let act_here = event_act world st.top.scene e d.place (at_node 0 e.root d.place.node) in
      raises_so world st e d.place c t.stood.begun
      (ap (run world.rows act_here) t.stood.stands.memory.store
      ∙ ap (λ (k : Machine). run world.rows act_here (store_of k.memory k.streams)) (sym (ap past_event at.1))
      ∙ ap (λ (p : Script Value). run world.rows p (store_in past)) (sym t.act.same)
      ∙ ap (λ (w : Event). run world.rows (script_in world.rows past w d.act) (store_in past)) (sym seen)
      ∙ ran)

  pub stopped : (done : Machine) (line : ℕ) (x : Fault) → Performs world.rows past done who d.act (Err x) →
      Answers world meaning (Err (halt_by who line x)) done (step world st (Ev d.place))
  stopped done line (fault.Raise c) p = (entry_of world st.top (Ev d.place) [] ∷ st.trace, raised c p)
  stopped done line (fault.Over cause number) p = absurd p
  stopped done line fault.Unplaced p = absurd p
  stopped done line fault.NoMemory p = tt

-- ---- what is taken so comes to that state
pub event_comes : EventStands → EventComes
event_comes stands world meaning old new st e s laid u o taken = λ rows.
    let t = taken rows in
    let v = t.1 in (
      after_event world st e u v new.items (store_after new),
      t.4,
      refl,
      subst (λ (w : Place). Stands world meaning new (after_event world st e w v new.items (store_after new))) t.2
          (stands world meaning old new st e s laid t.0 v t.3).stands,
    )

-- ---- what the act did, from where the cursor has passed it
abbrev pub Did : Machine → Due → Machine → Machine → Result Done_as Fault → Type 0
Did now d start done p =
    ((rows : List Row) → CanPerform rows start → AreGiven start (event_at now d.place) d.act → is_body_act d.act ≡ false
    → Performs rows start done (event_at now d.place) d.act p)
    × (is_body_act d.act ≡ false → ChangesOnly start done d.place.node d.act)
    × (is_body_act d.act ≡ false → gives_value d.act ≡ false → done.values ≡ start.values)

pub did_so : (now : Machine) (d : Due) (start done : Machine) (p q : Result Done_as Fault) → start ≡ past_event now → p ≡ q → Did now d start done p →
    Did now d (past_event now) done q
did_so now d start done p q is same did =
    subst (λ (k : Machine). Did now d k done q) is (subst (λ (r : Result Done_as Fault). Did now d start done r) same did)

module _ (steps : EventSteps) (d : Due) (now start done new : Machine) (p : Result Done_as Fault) (r : Result Pick Halt)
    (is : start ≡ past_event now) (did : Did now d start done p) where
  pub taken_done : p ≡ Ok outcome.Done → FollowsEvent now.image.code.now (event_at now d.place) None d done new r → AnswersEvent d now new r
  taken_done same f = λ world meaning m st e s laid t.
      let so = did_so now d start done p (Ok outcome.Done) is same did in
      performed steps world meaning m st e s laid d now t None refl done new
      (so.0 world.rows (can steps world meaning m st e s laid d now t) (given steps world meaning m st e s laid d now t) t.act.no_body)
      (so.1 t.act.no_body) (so.2 t.act.no_body) r f

  pub completed_done : EventCompletes → p ≡ Ok outcome.Done → FollowsEvent now.image.code.now (event_at now d.place) None d done new r → CompletesPick d new r
      → CompletesEvent d now new r
  completed_done completes same f noted = λ world meaning m st e s laid t straight.
      let so = did_so now d start done p (Ok outcome.Done) is same did in
      completes_done steps world meaning m st e s laid d now t completes done new
      (so.0 world.rows (can steps world meaning m st e s laid d now t) (given steps world meaning m st e s laid d now t) t.act.no_body)
      (so.1 t.act.no_body) (so.2 t.act.no_body) straight r f noted

  -- nothing is said of another pick
  pub completed_else : ((world : World) (u : Place) (o : Outcome) → CompletesAfter world r u new o) → CompletesEvent d now new r
  completed_else none = λ world meaning m st e s laid t straight. none world d.place (step world st (Ev d.place))

  pub completed_ended : (n : ℕ) → p ≡ Ok (outcome.End n) → CompletesEvent d now new r
  completed_ended n same = λ world meaning m st e s laid t straight.
      let so = did_so now d start done p (Ok (outcome.End n)) is same did in
      absurd (so.0 world.rows (can steps world meaning m st e s laid d now t) (given steps world meaning m st e s laid d now t) t.act.no_body)

  pub taken_started : p ≡ Ok outcome.Started → AnswersEvent d now new r
  taken_started same = λ world meaning m st e s laid t.
      let so = did_so now d start done p (Ok outcome.Started) is same did in
      absurd (so.0 world.rows (can steps world meaning m st e s laid d now t) (given steps world meaning m st e s laid d now t) t.act.no_body)

  pub taken_ended : (n : ℕ) → p ≡ Ok (outcome.End n) → AnswersEvent d now new r
  taken_ended n same = λ world meaning m st e s laid t.
      let so = did_so now d start done p (Ok (outcome.End n)) is same did in
      absurd (so.0 world.rows (can steps world meaning m st e s laid d now t) (given steps world meaning m st e s laid d now t) t.act.no_body)

  pub taken_stopped : (x : Fault) (line : ℕ) (h : Halt) → p ≡ Err x → h ≡ halt_by (event_at now d.place) line x → AnswersEvent d now done (Err h)
  taken_stopped x line h same halts = λ world meaning m st e s laid t.
      let so = did_so now d start done p (Err x) is same did in
      subst (λ (g : Halt). Answers world meaning (Err g) done (step world st (Ev d.place))) (sym halts)
      (stopped steps world meaning m st e s laid d now t done line x
      (so.0 world.rows (can steps world meaning m st e s laid d now t) (given steps world meaning m st e s laid d now t) t.act.no_body))

-- Each canonical pick of a machine along a run comes to the definitions' step, and the machine is along the run behind it.
use Rattle.std.proofs.Common.{◌≡◌, ◌<◌, ◌^◌, ℕ, suc, arith, refl, sym, ap, ◌∙◌, subst, List, [], ◌∷◌, ◌⊎◌, inl, inr, Option, Some, None, Result, Ok, Err}
use Rattle.std.specs.Prelude.{IfOk}
use Rattle.ub_base.specs.declared.clause.Clause.{Clause}
use Rattle.ub_base.specs.declared.names.Event.{Event}
use Rattle.ub_base.specs.declared.names.Frame.{Frame}
use Rattle.ub_base.specs.declared.names.Item.{Item}
use Rattle.c_types.specs.declared.library.LibFunc.{LibFunc}
use Rattle.c_typed.specs.declared.program.Program.{Program}
use Rattle.c_typed.specs.declared.tree.Place.{Place}
use Rattle.c_model.specs.Completions.{Incomplete}
use Rattle.c_model.specs.Libraries.{result}
use Rattle.c_model.specs.Runs.{Entry, Raises, Running, State, canonical_pick, entry_of, step}
use Rattle.c_model.specs.Steps.{Begun, Control, Ev, Pick as Model_pick, event_of, with_given}
use Rattle.c_model.specs.World.{World}
use Rattle.run_statements.specs.declared.numbers.Numbers.{Numbers}
use Rattle.run_control.specs.View.{Meaning}
use Rattle.run_layout.specs.declared.nodes.NodeInfo.{NodeInfo}
use Rattle.run_layout.specs.declared.steps.Expression.{Expression as Laid}
use Rattle.run_state.specs.declared.halt.Halt.{Halt}
use Rattle.run_state.specs.declared.halt.Halt.TheVariants as halt
use Rattle.run_state.specs.declared.machine.Machine.{Machine}
use Rattle.run_state.specs.declared.machine.Stage.{Stage}
use Rattle.run_answers.specs.declared.pick.Completed.{Completed}
use Rattle.run_answers.specs.declared.pick.Pick.{Pick}
use Rattle.run_answers.specs.declared.pick.Pick.TheVariants as pick
use Rattle.run_answers.specs.Answering.{newest_items}
use Rattle.run_answers.specs.Completing.{CompletesIn, completed_seen}
use Rattle.run_answers.specs.Library.{MayCallLibraryNext}
use Rattle.run_answers.specs.Picks.{IsPick}
use Rattle.run_answers.specs.Starting.{MayCallNext, MayStartNext, numbered}
use Rattle.run_answers.specs.Taking.{MayTakeNext}
use Rattle.code_view.specs.Numbering.{meaning_of}
use Rattle.value_facts.specs.Sources.{StepsPlaced}
use Rattle.value_facts.specs.Unresulted.{StepsUnresulted}
use Rattle.argument_laws.specs.Arguments.{StepsKeepArguments}
use Rattle.run_laws.specs.Going.{IsGoing}
use Rattle.pick_laws.specs.Picks.{CallComes, Comes, ComesOfLibrary, ControlComes, EventComes, GoesFrom, InitializerComes, LibraryComes}
use Rattle.canonical_laws.specs.Asked.{EventIsAsked, IsEventNext, MayPickNext, call, initializer, library, plain}
use Rattle.canonical_laws.specs.Held.{StepsHoldOneMore}
use Rattle.canonical_laws.specs.Idle.{CallLeavesNone, EventLeavesNone, InitializerLeavesNone, IsIdle, LibraryLeavesNone, StepStaysIdle}
use Rattle.canonical_laws.specs.Along.{AnswersAll, HasRowsOf, IsAlong}
use Rattle.canonical_laws.specs.Completes.{completed_at, completed_in}
use Rattle.canonical_laws.specs.Comes.{AlongComes, ComesAlong, ControlMay, Starts}
use Rattle.canonical_laws.specs.Listed.{HasItems, TellsNewest}
use Rattle.canonical_laws.proofs.Listed.{goes_listed, same_listed}
use Rattle.canonical_laws.proofs.Steps.{control_goes, same_state, step_ends, step_raises, step_trace}

-- the laws of the picks
pub record Laws : Type 0 where
  pub control : ControlComes
  pub events : EventComes
  pub libraries : LibraryComes
  pub initializers : InitializerComes
  pub calls : CallComes
  pub may : ControlMay
  pub asked : EventIsAsked
  pub held : StepsHoldOneMore
  pub step_idle : StepStaysIdle
  pub event_idle : EventLeavesNone
  pub library_idle : LibraryLeavesNone
  pub initializer_idle : InitializerLeavesNone
  pub call_idle : CallLeavesNone
  pub placed : StepsPlaced
  pub unresulted : StepsUnresulted
  pub arguments : StepsKeepArguments

module _ (laws : Laws) (world : World) (p : Program) (numbers : Numbers) (old new : Machine) (st : State) (n : ℕ)
    (a : IsAlong world p numbers old st n) (h : HasRowsOf world.rows old new) (few : suc n < 2 ^ 32) where
  from : GoesFrom world p numbers old st n new
  from = record { going = a.going; rows = h.behind.rows; few = few }

  -- ---- the machine is along the run behind the pick
  along_at : (m : Machine) (after : State) (q : Model_pick) → step world st q ≡ Running after → IsGoing world p numbers m after (suc n) → IsIdle m
      → IsAlong world p numbers m after (suc n)
  along_at m after q steps going idle = record {
    going = going;
    small = a.small;
    placed = laws.placed world st after q a.small a.placed steps;
    unresulted = laws.unresulted world st after q a.unresulted steps;
    arguments = laws.arguments world p st after q a.arguments steps;
    idle = idle;
    held = omega (arith, laws.held world st after q steps, a.held);
  }

  -- ---- what tells an entry
  abbrev tells_control : (is : List Item) (trace : List Entry) → trace ≡ entry_of world st.top Control is ∷ st.trace → newest_items trace ≡ new.items
      → TellsNewest world None new.items st.trace trace
  tells_control is trace t items =
      (entry_of world st.top Control is, t, record { event_is = refl; items_are = inl (sym items ∙ ap newest_items t) })

  abbrev tells_event : (u : Place) (event : Event) (is : List Item) (trace : List Entry) → event ≡ event_of world st.top.scene u
      → trace ≡ entry_of world st.top (Ev u) is ∷ st.trace → HasItems new.items (newest_items trace) → TellsNewest world (Some event) new.items st.trace trace
  tells_event u event is trace e t items = (
    entry_of world st.top (Ev u) is,
    t,
    record { event_is = ap Some e; items_are = subst (λ (z : List Entry). HasItems new.items (newest_items z)) t items },
  )

  -- ---- what it completes
  completes_open : (u : Place) (completed : Completed) (after : State) (first : Begun) → after.top.begun ≡ Some first → CompletesIn world completed u after
      → completed_seen completed ≡ completed_at world after (Some u)
  completes_open u completed after first q says = says first q ∙ sym (ap (λ b. completed_in world after.top b u) q)

  completes_none : (u : Place) (after : State) → after.top.begun ≡ None → Incomplete ≡ completed_at world after (Some u)
  completes_none u after q = sym (ap (λ b. completed_in world after.top b u) q)

  raised_at : (q : Model_pick) (clause : Clause) (trace : List Entry) → step world st q ≡ Raises clause trace
      → (e : Entry) × (step world st q ≡ Raises clause (e ∷ st.trace))
  raised_at q clause trace is = (entry_of world st.top q [], is ∙ ap (Raises clause) (step_raises world st q clause trace is))

  -- ---- a control step
  by_control : (r : Result Pick Halt) → AnswersAll old new r → canonical_pick world st.top st.top.begun ≡ Control
      → IfOk r (IsPick world st Control) → Comes world p numbers n new r (step world st Control) → ComesAlong world p numbers st n new r (step world st Control)
  by_control (Ok (pick.Step None)) x is of c =
      let g = control_goes world st c.0 c.1 in (
        c.0,
        c.1,
        record {
          tells = tells_control g.0 c.0.trace g.1.0 c.2;
          completes = refl;
          along = along_at new c.0 Control c.1 c.3 (laws.step_idle world p numbers old new st n a.going a.unresulted a.idle x.keeps);
          listed = goes_listed world (meaning_of p numbers old.image.code.now) old st c.0 a.going.stands g.1.1;
        },
      )
  by_control (Ok (pick.Step (Some status))) x is of c =
      let e = step_ends world st Control status new.streams.output c.0 c.1 in (c.0, c.1, tells_control e.0 c.0 e.1 c.2)
  by_control (Ok (pick.Starts event)) x is of c = absurd of
  by_control (Ok (pick.Event event completed status)) x is of c = absurd of
  by_control (Err (halt.Raised event line clause)) x is of c = raised_at Control clause c.0 c.1
  by_control (Err (halt.Over cause number)) x is of c = c
  by_control (Err halt.Unplaced) x is of c = tt
  by_control (Err halt.NoMemory) x is of c = tt

  -- ---- an event
  module _ (u : Place) (is : canonical_pick world st.top st.top.begun ≡ Ev u) (e : Begun) (s : Stage) (laid : Laid) (firsts : List ℕ)
      (nodes : List NodeInfo) where
    abbrev meaning : Option ℕ → Meaning
    meaning = meaning_of p numbers old.image.code.now

    -- one that isn't a body
    by_plain : (r : Result Pick Halt) → AnswersAll old new r → IfOk r (IsPick world st (Ev u)) → MayTakeNext world meaning old st e s laid
        → Comes world p numbers n new r (step world st (Ev u)) → ComesAlong world p numbers st n new r (step world st (Ev u))
    by_plain (Ok (pick.Event event completed None)) x of may c =
        let t = x.events world meaning st e s laid u may is h.behind.rows in
        let k = step_trace world st (Ev u) c.0 c.1 in
        let same = same_state c.0 _ (sym c.1 ∙ t.4) in (
          c.0,
          c.1,
          record {
            tells = tells_event u event k.0 c.0.trace of k.1 (inl (sym c.2));
            completes = completes_open u completed c.0 (with_given e u t.1) (ap (λ (z : State). z.top.begun) same)
                (x.completes world meaning st e s laid u may is h.behind.rows c.0 c.1);
            along = along_at new c.0 (Ev u) c.1 c.3
                (λ own. laws.event_idle world meaning old new st e s laid u event completed x.events may is h.behind.rows);
            listed = same_listed st c.0 (ap (λ (z : State). z.top.scene.path) same);
          },
        )
    by_plain (Ok (pick.Event event completed (Some status))) x of may c = absurd (x.events world meaning st e s laid u may is)
    by_plain (Ok (pick.Starts event)) x of may c = absurd (x.events world meaning st e s laid u may is)
    by_plain (Ok (pick.Step status)) x of may c = absurd of
    by_plain (Err (halt.Raised event line clause)) x of may c = raised_at (Ev u) clause c.0 c.1
    by_plain (Err (halt.Over cause number)) x of may c = c
    by_plain (Err halt.Unplaced) x of may c = tt
    by_plain (Err halt.NoMemory) x of may c = tt

    -- the body of a call of a function of the library
    by_library : (f : LibFunc) (r : Result Pick Halt) → AnswersAll old new r → IfOk r (IsPick world st (Ev u))
        → MayCallLibraryNext world meaning old st e s laid → ComesOfLibrary world p numbers n new f r (step world st (Ev u))
        → ComesAlong world p numbers st n new r (step world st (Ev u))
    by_library f (Ok (pick.Event event completed None)) x of may c =
        let t = x.libraries world meaning st e s laid u may is in
        let w = t.answers h.behind in
        let k = step_trace world st (Ev u) c.0 c.1 in
        let same = same_state c.0 _ (sym c.1 ∙ w.steps.steps) in (
          c.0,
          c.1,
          record {
            tells = tells_event u event k.0 c.0.trace of k.1 (inr (f, c.2));
            completes = completes_open u completed c.0 (with_given e t.due.place (result w.value)) (ap (λ (z : State). z.top.begun) same)
                (x.completes_libraries world meaning st e s laid u may is h.behind c.0 c.1);
            along = along_at new c.0 (Ev u) c.1 c.3
                (λ own. laws.library_idle world meaning old new st e s laid u event completed x.libraries may is h.behind);
            listed = same_listed st c.0 (ap (λ (z : State). z.top.scene.path) same);
          },
        )
    by_library f (Ok (pick.Event event completed (Some status))) x of may c =
        let k = step_ends world st (Ev u) status new.streams.output c.0 c.1 in (c.0, c.1, tells_event u event k.0 c.0 of k.1 (inl (sym c.2)))
    by_library f (Ok (pick.Starts event)) x of may c = absurd c
    by_library f (Ok (pick.Step status)) x of may c = absurd c
    by_library f (Err (halt.Raised event line clause)) x of may c = raised_at (Ev u) clause c.0 c.1
    by_library f (Err (halt.Over cause number)) x of may c = c
    by_library f (Err halt.Unplaced) x of may c = tt
    by_library f (Err halt.NoMemory) x of may c = tt

    by_some_library : (r : Result Pick Halt) → AnswersAll old new r → IfOk r (IsPick world st (Ev u)) → MayCallLibraryNext world meaning old st e s laid
        → ((r ≡ Err halt.NoMemory) ⊎ ((f : LibFunc) × ComesOfLibrary world p numbers n new f r (step world st (Ev u))))
        → ComesAlong world p numbers st n new r (step world st (Ev u))
    by_some_library r x of may (inl none) =
        subst (λ (z : Result Pick Halt). ComesAlong world p numbers st n new z (step world st (Ev u))) (sym none) tt
    by_some_library r x of may (inr c) = by_library c.0 r x of may c.1

    -- a body that starts a frame
    starts_so : (event : Event) (after : State) → step world st (Ev u) ≡ Running after → event ≡ event_of world st.top.scene u
        → newest_items after.trace ≡ new.items → after.top.scene.path ≡ (st.top.scene.turn, u.node) ∷ st.top.scene.path → after.top.begun ≡ None
        → new.left ≡ None
        → ((frame : Frame) → frame.0 ≡ world.number after.top.scene.path → IsGoing world p numbers (numbered new frame) after (suc n))
        → Starts world p numbers st n new event after
    starts_so event after steps of items path unbegun none goes =
        let k = step_trace world st (Ev u) after steps in record {
          tells = tells_event u event k.0 after.trace of k.1 (inl (sym items));
          completes = completes_none u after unbegun;
          frame = ap (λ (z : Event). z.frame.0) of;
          path = path ∙ sym (ap (λ (z : Event). (z.turn, z.node) ∷ st.top.scene.path) of);
          along = λ number same. along_at (numbered new number) after (Ev u) steps (goes number same) (λ own. none);
        }

    by_initializer : (r : Result Pick Halt) → AnswersAll old new r → IfOk r (IsPick world st (Ev u)) → MayStartNext world meaning old st e s
        → Comes world p numbers n new r (step world st (Ev u)) → ComesAlong world p numbers st n new r (step world st (Ev u))
    by_initializer (Ok (pick.Starts event)) x of may c =
        let t = x.bodies world meaning st e s u may is in
        let same = same_state c.0 _ (sym c.1 ∙ t.1.comes) in (
          c.0,
          c.1,
          starts_so event c.0 c.1 of c.2 (ap (λ (z : State). z.top.scene.path) same) (ap (λ (z : State). z.top.begun) same)
              (laws.initializer_idle world meaning old new st e s u event x.bodies may is) c.3,
        )
    by_initializer (Ok (pick.Event event completed status)) x of may c = absurd (x.bodies world meaning st e s u may is)
    by_initializer (Ok (pick.Step status)) x of may c = absurd of
    by_initializer (Err (halt.Raised event line clause)) x of may c = raised_at (Ev u) clause c.0 c.1
    by_initializer (Err (halt.Over cause number)) x of may c = c
    by_initializer (Err halt.Unplaced) x of may c = tt
    by_initializer (Err halt.NoMemory) x of may c = tt

    by_call : (r : Result Pick Halt) → AnswersAll old new r → IfOk r (IsPick world st (Ev u)) → MayCallNext world meaning old st e s
        → Comes world p numbers n new r (step world st (Ev u)) → ComesAlong world p numbers st n new r (step world st (Ev u))
    by_call (Ok (pick.Starts event)) x of may c =
        let t = x.calls world meaning st e s u may is in
        let same = same_state c.0 _ (sym c.1 ∙ t.1.comes) in (
          c.0,
          c.1,
          starts_so event c.0 c.1 of c.2 (ap (λ (z : State). z.top.scene.path) same) (ap (λ (z : State). z.top.begun) same)
              (laws.call_idle world meaning old new st e s u event x.calls may is) c.3,
        )
    by_call (Ok (pick.Event event completed status)) x of may c = absurd (x.calls world meaning st e s u may is)
    by_call (Ok (pick.Step status)) x of may c = absurd of
    by_call (Err (halt.Raised event line clause)) x of may c = raised_at (Ev u) clause c.0 c.1
    by_call (Err (halt.Over cause number)) x of may c = c
    by_call (Err halt.Unplaced) x of may c = tt
    by_call (Err halt.NoMemory) x of may c = tt

  -- whichever kind of event it is
  by_event : (u : Place) (q : IsEventNext world (meaning_of p numbers old.image.code.now) old st u)
      → MayPickNext world (meaning_of p numbers old.image.code.now) old st q.expression q.stage q.laid u → canonical_pick world st.top st.top.begun ≡ Ev u
      → (r : Result Pick Halt) → AnswersAll old new r → IfOk r (IsPick world st (Ev u)) → ComesAlong world p numbers st n new r (step world st (Ev u))
  by_event u q (plain b may) is r x of =
      by_plain u is q.expression q.stage q.laid q.firsts q.nodes r x of may
      (laws.events world p numbers old new st n q.expression q.stage q.laid q.firsts q.nodes u r x.events from may q.clear is)
  by_event u q (initializer b may) is r x of =
      by_initializer u is q.expression q.stage q.laid q.firsts q.nodes r x of may
      (laws.initializers world p numbers old new st n q.expression q.stage u r x.bodies from may is)
  by_event u q (call b may) is r x of =
      by_call u is q.expression q.stage q.laid q.firsts q.nodes r x of may
      (laws.calls world p numbers old new st n q.expression q.stage u r x.calls from may is)
  by_event u q (library b may) is r x of =
      by_some_library u is q.expression q.stage q.laid q.firsts q.nodes r x of may
      (laws.libraries world p numbers old new st n q.expression q.stage q.laid u r x.libraries from h.behind may is)

  by_pick : (q : Model_pick) → canonical_pick world st.top st.top.begun ≡ q → (r : Result Pick Halt) → AnswersAll old new r
      → IfOk r (IsPick world st q) → ComesAlong world p numbers st n new r (step world st q)
  by_pick Control is r x of =
      by_control r x is of
      (laws.control world p numbers old new st n r x.steps x.keeps from (laws.may world p numbers old st n a h.apart is))
  by_pick (Ev u) is r x of =
      let q = laws.asked world p numbers old st n u
      (record {
        going = a.going;
        small = a.small;
        placed = a.placed;
        unresulted = a.unresulted;
        idle = a.idle;
        held = a.held;
        few = few;
        extends = h.before;
      }) is in by_event u q q.may is r x of

pub along_comes : Laws → AlongComes
along_comes laws world p numbers old new st n r a x h few =
    by_pick laws world p numbers old new st n a h few (canonical_pick world st.top st.top.begun) refl r x
    (x.takes world (meaning_of p numbers old.image.code.now) st a.going.stands)

-- What is answered to an event that is a body: the frame that the definitions start.
use Rattle.std.proofs.Common.{◌≡◌, ℕ, refl, sym, ap, ◌∙◌, subst, List, [], Option, Some, None, Result, Ok, Err}
use Rattle.std.specs.Borrow.{Bor}
use Rattle.ub_base.specs.declared.names.Event.{Event}
use Rattle.ub_base.specs.declared.names.Item.{Item}
use Rattle.c_typed.specs.declared.tree.Place.{Place}
use Rattle.c_model.specs.Runs.{Outcome, State, canonical_pick, chosen_pick, step}
use Rattle.c_model.specs.Steps.{Begun, Control, Ev}
use Rattle.c_model.specs.World.{World}
use Rattle.program_view.specs.Laws.{TreesAreKept}
use Rattle.run_control.specs.View.{Meaning}
use Rattle.run_layout.specs.declared.steps.Act.{Act}
use Rattle.run_layout.specs.declared.steps.Due.{Due}
use Rattle.run_listing.specs.Along.{place_of}
use Rattle.run_listing.specs.Cursor.{StandsAtStart}
use Rattle.run_state.specs.declared.halt.Halt.{Halt}
use Rattle.run_state.specs.declared.machine.Machine.{Machine}
use Rattle.run_state.specs.declared.machine.Stage.{Stage}
use Rattle.run_answers.specs.declared.outcome.Outcome.{Outcome as Done_as}
use Rattle.run_answers.specs.declared.outcome.Outcome.TheVariants as outcome
use Rattle.run_answers.specs.declared.fault.Fault.{Fault}
use Rattle.run_answers.specs.declared.fault.Fault.TheVariants as fault
use Rattle.run_answers.specs.Faults.{halt_by}
use Rattle.run_answers.specs.Opens.{Opens, OpensInitializer}
use Rattle.run_answers.specs.declared.pick.Pick.{Pick}
use Rattle.run_answers.specs.declared.pick.Pick.TheVariants as pick
use Rattle.run_answers.specs.Answering.{Answers}
use Rattle.run_answers.specs.Picks.{top_of, Follows, TakesCanonical}
use Rattle.run_answers.specs.Starting.{AnswersBody, AnswersNextBody, AnswersStart, MayStart, MayStartNext, StartsIsolated}
use Rattle.run_answers.specs.Taking.{at_next, past_event, untouched}
use Rattle.run_answers.proofs.Answered.{passes_so}
use Rattle.run_machine.proofs.Onward.{at_ready, came_next, cleared_open, ev_place}
use Rattle.run_answers.proofs.Started.{initializer_started, initializer_steps_to}
use Rattle.run_answers.proofs.Waiting.{waits_there}

stops_so : (world : World) (meaning : Option ℕ → Meaning) (old new : Machine) (number line : ℕ) (who : Event) (o : Outcome) (x : Fault) →
    OpensInitializer old number who new (Err x) → Answers world meaning (Err (halt_by who line x)) new o
stops_so world meaning old new number line who o fault.NoMemory h = tt
stops_so world meaning old new number line who o fault.Unplaced h = absurd h
stops_so world meaning old new number line who o (fault.Raise clause) h = absurd h
stops_so world meaning old new number line who o (fault.Over cause reached) h = absurd h

-- ---- by what the act left, from where the cursor has passed the event
module _ (trees : TreesAreKept) (starts : StandsAtStart) (d : Due) (now start done : Machine) (who : Event) (node : who.node ≡ d.place.node)
    (p : Result Done_as Fault) (is : start ≡ past_event now) (opens : Opens start d.act who done p) where
  module _ (q : Result Done_as Fault) (same : p ≡ q) (world : World) (meaning : Option ℕ → Meaning) (m : Machine) (st : State) (e : Begun) (s : Stage)
      (t : MayStart world meaning m st e s d now) where
    pub opens_so : OpensInitializer (past_event now) t.event.number who done q
    opens_so =
        subst (λ (r : Result Done_as Fault). OpensInitializer (past_event now) t.event.number who done r) same
        (subst (λ (k : Machine). OpensInitializer k t.event.number who done p) is
        (subst (λ (a : Act). Opens start a who done p) t.event.act opens))

  pub body_started : p ≡ Ok outcome.Started → (event : Event) → AnswersBody d now done (Ok (pick.Starts event))
  body_started same event = λ world meaning m st e s t.
      let passes = passes_so m now s d s.straight refl t.stage t.end t.goes in
      let starts_so = opens_so (Ok outcome.Started) same world meaning m st e s t in
      let waits = waits_there trees starts world meaning m (past_event now) st e s d t.stood t.stage t.rooms passes in (
        initializer_started world meaning m (past_event now) st e s d t.stood waits t.few t.event who node done starts_so t.within t.items,
        record {
          due = d;
          place = refl;
          is = t.event;
          past = past_event now;
          passes = passes;
          who = who;
          node = node;
          starts = starts_so;
          comes = initializer_steps_to world meaning m (past_event now) st e s d t.stood waits t.few t.event t.within;
        },
      )

  pub body_done : (new : Machine) (r : Result Pick Halt) → p ≡ Ok outcome.Done → AnswersBody d now new r
  body_done new r same = λ world meaning m st e s t. absurd (opens_so (Ok outcome.Done) same world meaning m st e s t)

  pub body_ended : (new : Machine) (r : Result Pick Halt) (n : ℕ) → p ≡ Ok (outcome.End n) → AnswersBody d now new r
  body_ended new r n same = λ world meaning m st e s t. absurd (opens_so (Ok (outcome.End n)) same world meaning m st e s t)

  pub body_stopped : (x : Fault) (line : ℕ) (h : Halt) → p ≡ Err x → h ≡ halt_by who line x → AnswersBody d now done (Err h)
  body_stopped x line h same halts = λ world meaning m st e s t.
      subst (λ (g : Halt). Answers world meaning (Err g) done (step world st (Ev d.place))) (sym halts)
      (stops_so world meaning (past_event now) done t.event.number line who (step world st (Ev d.place)) x
      (opens_so (Err x) same world meaning m st e s t))

-- ---- the next event along the canonical way
-- the machine has gone on to it, and may start its frame
pub record Comes (world : World) (meaning : Option ℕ → Meaning) (old : Machine) (is : List Item) (st : State) (e : Begun) (s : Stage) (due : Bor Due)
    (mid : Machine) (u : Place) : Type 0 where
  pub same : due.now.place ≡ u
  pub may : MayStart world meaning (untouched old) st e s due.now (record mid { items = is })

pub comes : (old mid : Machine) (is : List Item) (next : Option (Bor Due)) (due : Bor Due) → Follows old mid next → next ≡ Some due → is ≡ [] →
    TakesCanonical old (place_of next) → (world : World) (meaning : Option ℕ → Meaning) (st : State) (e : Begun) (s : Stage) (u : Place) →
    MayStartNext world meaning old st e s → canonical_pick world st.top st.top.begun ≡ Ev u → Comes world meaning old is st e s due mid u
comes old mid is next due f some none canonical world meaning st e s u asks picks =
    let came = came_next old mid s due old.top.stage (top_of old) asks.straight asks.stage refl (subst (λ (o : Option (Bor Due)). Follows old mid o) some f) in
    let now : record mid { items = is } ≡ at_next old s came.count =
    ap (λ (k : List Item). record mid { items = k }) none ∙ ap (λ (k : Machine). record k { items = [] }) came.is in
    record {
      same = ev_place due.now.place u
          (ap (λ (o : Option (Bor Due)). chosen_pick world (place_of o)) (sym some) ∙ canonical world meaning st asks.stood.stands ∙ picks);
      may = subst (MayStart world meaning (untouched old) st e s due.now) (sym now)
          (record {
            stood = cleared_open world meaning old st e asks.stood;
            within = asks.within;
            items = refl;
            stage = asks.stage;
            end = asks.end;
            rooms = asks.rooms;
            few = asks.few;
            event = asks.each (came.count, due) came.comes;
            goes = at_ready old s due came.count s.straight asks.straight came.comes;
          });
    }

pub next_bodies : (old mid new : Machine) (is : List Item) (next : Option (Bor Due)) (due : Bor Due) (r : Result Pick Halt) → Follows old mid next →
    next ≡ Some due → is ≡ [] → TakesCanonical old (place_of next) → AnswersBody due.now (record mid { items = is }) new r → AnswersNextBody old new r
next_bodies old mid new is next due r f some none canonical answers = λ world meaning st e s u asks picks.
    let c = comes old mid is next due f some none canonical world meaning st e s u asks picks in
    subst (λ (v : Place).
    AnswersStart world meaning (StartsIsolated world (untouched old) st e s v new (step world st (Ev v))) r new (step world st (Ev v))) c.same
    (answers world meaning (untouched old) st e s c.may)

pub none_body : (old new : Machine) (next : Option (Bor Due)) (r : Result Pick Halt) → next ≡ None → TakesCanonical old (place_of next) →
    AnswersNextBody old new r
none_body old new next r none canonical = λ world meaning st e s u asks picks.
    let control : Control ≡ Ev u =
    ap (λ (o : Option (Bor Due)). chosen_pick world (place_of o)) (sym none) ∙ canonical world meaning st asks.stood.stands ∙ picks in
    absurd (cc)

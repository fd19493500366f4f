-- The next event along the canonical way is the body of a call of a library function.
use Rattle.std.proofs.Common.{◌≡◌, ℕ, refl, sym, ap, ◌∙◌, subst, List, [], Option, Some, None, Result, Ok, Err}
use Rattle.std.specs.Borrow.{Bor}
use Rattle.ub_base.specs.declared.names.Item.{Item}
use Rattle.c_typed.specs.declared.tree.Place.{Place}
use Rattle.c_model.specs.Runs.{Outcome, State, canonical_pick, chosen_pick, step}
use Rattle.c_model.specs.Steps.{Begun, Control, Ev, MayPick}
use Rattle.c_model.specs.World.{World}
use Rattle.run_control.specs.View.{Meaning}
use Rattle.run_layout.specs.declared.steps.Due.{Due}
use Rattle.run_layout.specs.declared.steps.Expression.{Expression}
use Rattle.run_listing.specs.Along.{place_of}
use Rattle.run_state.specs.declared.halt.Halt.{Halt}
use Rattle.run_state.specs.declared.halt.Halt.TheVariants as halt
use Rattle.run_state.specs.declared.machine.Machine.{Machine}
use Rattle.run_state.specs.declared.machine.Stage.{Stage}
use Rattle.run_answers.specs.declared.pick.Pick.{Pick}
use Rattle.run_answers.specs.Library.{
  AnswersCalled,
  AnswersCalledNext,
  AnswersLibrary,
  AnswersNextLibrary,
  IsCalledNext,
  MayCallLibrary,
  MayCallLibraryNext,
  untouched,
}
use Rattle.run_answers.specs.LibraryCompletes.{CompletesCalled, CompletesLibrary, CompletesNextLibrary}
use Rattle.run_answers.specs.Picks.{Follows, NextIsPermitted, TakesCanonical, top_of}
use Rattle.run_answers.specs.Taking.{at_next}
use Rattle.run_machine.proofs.Onward.{at_ready, came_next, cleared_open, ev_place}

-- the machine has gone on to it, and may do it
pub record Comes (world : World) (meaning : Option ℕ → Meaning) (old : Machine) (is : List Item) (st : State) (e : Begun) (s : Stage) (laid : Expression)
    (due : Bor Due) (mid : Machine) (u : Place) : Type 0 where
  pub same : due.now.place ≡ u
  pub may : MayCallLibrary world meaning (untouched old) st e s laid due.now (record mid { items = is })

pub comes : NextIsPermitted → (old mid : Machine) (is : List Item) (next : Option (Bor Due)) (due : Bor Due) → Follows old mid next → next ≡ Some due → is ≡ []
    → TakesCanonical old (place_of next) → (world : World) (meaning : Option ℕ → Meaning) (st : State) (e : Begun) (s : Stage) (laid : Expression) (u : Place)
    → MayCallLibraryNext world meaning old st e s laid → canonical_pick world st.top st.top.begun ≡ Ev u → Comes world meaning old is st e s laid due mid u
comes permits old mid is next due f some none canonical world meaning st e s laid u asks picks =
    let came = came_next old mid s due old.top.stage (top_of old) asks.straight asks.stage refl (subst (λ (o : Option (Bor Due)). Follows old mid o) some f) in
    let ready = asks.each (came.count, due) came.comes in
    let now : record mid { items = is } ≡ at_next old s came.count =
    ap (λ (k : List Item). record mid { items = k }) none ∙ ap (λ (k : Machine). record k { items = [] }) came.is in
    let may : MayPick world st.top (Some e) (Ev due.now.place) =
    subst (λ (z : Option Begun). MayPick world st.top z (Ev due.now.place)) asks.stood.begun
    ((permits old s (came.count, due) asks.stage asks.straight came.comes world meaning st asks.stood.stands).0 refl) in
    record {
      same = ev_place due.now.place u
          (ap (λ (o : Option (Bor Due)). chosen_pick world (place_of o)) (sym some) ∙ canonical world meaning st asks.stood.stands ∙ picks);
      may = subst (MayCallLibrary world meaning (untouched old) st e s laid due.now) (sym now)
          (record {
            stood = cleared_open world meaning old st e asks.stood;
            within = asks.within;
            stage = asks.stage;
            end = asks.end;
            at = asks.at;
            rooms = asks.rooms;
            event = ready.event;
            constants = asks.constants;
            functions = asks.functions;
            may = may;
            call = ready.call;
            goes = at_ready old s due came.count s.straight asks.straight came.comes;
          });
    }

called_next : (world : World) (meaning : Option ℕ → Meaning) (old new : Machine) (st : State) (e : Begun) (s : Stage) (laid : Expression)
    (r : Result Pick Halt) (o : Outcome) (u : Place) → IsCalledNext world meaning old st e s laid r new o u
    → AnswersCalledNext world meaning old st e s laid r new o u
called_next world meaning old new st e s laid (Ok p) o u x = x
called_next world meaning old new st e s laid (Err (halt.Raised event line clause)) o u x = x
called_next world meaning old new st e s laid (Err (halt.Over cause number)) o u x = x
called_next world meaning old new st e s laid (Err halt.Unplaced) o u x = x
called_next world meaning old new st e s laid (Err halt.NoMemory) o u x = tt

pub next_library : NextIsPermitted → (old mid new : Machine) (is : List Item) (next : Option (Bor Due)) (due : Bor Due) (r : Result Pick Halt)
    → Follows old mid next → next ≡ Some due → is ≡ [] → TakesCanonical old (place_of next) → AnswersLibrary due.now (record mid { items = is }) new r
    → AnswersNextLibrary old new r
next_library permits old mid new is next due r f some none canonical answers = λ world meaning st e s laid u asks picks.
    let c = comes permits old mid is next due f some none canonical world meaning st e s laid u asks picks in
    called_next world meaning old new st e s laid r (step world st (Ev u)) u (record {
      due = due.now;
      is = c.same;
      function = c.may.call.function;
      answers = subst (λ (v : Place). AnswersCalled world meaning (untouched old) st e s laid due.now c.may.call.function r new (step world st (Ev v))) c.same
          (answers world meaning (untouched old) st e s laid c.may);
    })

pub next_completed : NextIsPermitted → (old mid new : Machine) (is : List Item) (next : Option (Bor Due)) (due : Bor Due) (r : Result Pick Halt)
    → Follows old mid next → next ≡ Some due → is ≡ [] → TakesCanonical old (place_of next) → CompletesLibrary due.now (record mid { items = is }) new r
    → CompletesNextLibrary old new r
next_completed permits old mid new is next due r f some none canonical completes = λ world meaning st e s laid u asks picks.
    let c = comes permits old mid is next due f some none canonical world meaning st e s laid u asks picks in
    subst (λ (v : Place). CompletesCalled world r v new (step world st (Ev v))) c.same
    (completes world meaning (untouched old) st e s laid c.may asks.straight)

-- ---- no event comes next
pub none_library : (old new : Machine) (next : Option (Bor Due)) (r : Result Pick Halt) → next ≡ None → TakesCanonical old (place_of next)
    → AnswersNextLibrary old new r
none_library old new next r none canonical = λ world meaning st e s laid u asks picks.
    let control : Control ≡ Ev u =
    ap (λ (o : Option (Bor Due)). chosen_pick world (place_of o)) (sym none) ∙ canonical world meaning st asks.stood.stands ∙ picks in
    absurd (cc)

pub none_completed : (old new : Machine) (next : Option (Bor Due)) (r : Result Pick Halt) → next ≡ None → TakesCanonical old (place_of next)
    → CompletesNextLibrary old new r
none_completed old new next r none canonical = λ world meaning st e s laid u asks picks.
    let control : Control ≡ Ev u =
    ap (λ (o : Option (Bor Due)). chosen_pick world (place_of o)) (sym none) ∙ canonical world meaning st asks.stood.stands ∙ picks in
    absurd (cc)

-- A clause is raised of the event that was taken, and of a node in its line.
use Rattle.std.proofs.Common.{◌≡◌, ℕ, refl, sym, ap, ◌∙◌, subst, Option, Some, None, Result, Ok, Err}
use Rattle.std.specs.Borrow.{Bor}
use Rattle.ub_base.specs.declared.names.Event.{Event}
use Rattle.c_typed.specs.declared.tree.Place.{Place}
use Rattle.c_model.specs.Runs.{State, chosen_pick, canonical_pick}
use Rattle.c_model.specs.Steps.{Control, Ev, event_of}
use Rattle.c_model.specs.World.{World}
use Rattle.run_control.specs.View.{Meaning}
use Rattle.run_layout.specs.declared.steps.Due.{Due}
use Rattle.run_layout.specs.declared.whole.Code.{Code}
use Rattle.run_answers.specs.declared.fault.Fault.{Fault}
use Rattle.run_answers.specs.declared.fault.Fault.TheVariants as fault
use Rattle.run_answers.specs.Faults.{halt_by}
use Rattle.run_listing.specs.Along.{place_of}
use Rattle.run_state.specs.declared.halt.Halt.{Halt}
use Rattle.run_state.specs.declared.halt.Halt.TheVariants as halt
use Rattle.run_state.specs.declared.machine.Machine.{Machine}
use Rattle.run_state.specs.Stands.{Stands}
use Rattle.run_answers.specs.declared.pick.Pick.{Pick}
use Rattle.run_answers.specs.Picks.{Follows, TakesCanonical, event_at, top_of}
use Rattle.run_answers.specs.Raising.{IsRaisedNext, RaisesAt, RaisesNext}
use Rattle.run_answers.specs.Taking.{FollowsEvent}
use Rattle.run_machine.proofs.Onward.{came_next, ev_place}
use Rattle.run_answers.proofs.Taken.{event_seen}

-- ---- an event that was performed
by_fault : (m : Machine) (d : Due) (f : Fault) → RaisesAt m d (Err (halt_by (event_at m d.place) d.line f))
by_fault m d (fault.Raise clause) = (refl, refl)
by_fault m d (fault.Over cause number) = tt
by_fault m d fault.Unplaced = tt
by_fault m d fault.NoMemory = tt

pub raised_by : (m : Machine) (d : Due) (f : Fault) (h : Halt) → h ≡ halt_by (event_at m d.place) d.line f → RaisesAt m d (Err h)
raised_by m d f h is = subst (λ (k : Halt). RaisesAt m d (Err k)) (sym is) (by_fault m d f)

-- what follows its act raises nothing
pub finished_raises : (m : Machine) (code : Code) (event : Event) (status : Option ℕ) (d : Due) (old new : Machine) (r : Result Pick Halt) →
    FollowsEvent code event status d old new r → RaisesAt m d r
finished_raises m code event status d old new (Ok p) f = tt
finished_raises m code event status d old new (Err h) f = subst (λ (k : Halt). RaisesAt m d (Err k)) (sym f) tt

-- ---- the canonical pick
raised_next : (old mid : Machine) (due : Bor Due) (next : Option (Bor Due)) (now : Machine) → Follows old mid next → next ≡ Some due →
    TakesCanonical old (place_of next) → now.top.frame ≡ old.top.frame → now.top.turn ≡ old.top.turn → (event : Event) (line : ℕ) →
    event ≡ event_at now due.now.place → line ≡ due.now.line → (world : World) (meaning : Option ℕ → Meaning) (st : State) (u : Place) →
    Stands world meaning old st → canonical_pick world st.top st.top.begun ≡ Ev u → IsRaisedNext world old st u event line
raised_next old mid due next now follows some canonical frame turn event line is at world meaning st u stands picks =
    let same : due.now.place ≡ u =
    ev_place due.now.place u (ap (λ (o : Option (Bor Due)). chosen_pick world (place_of o)) (sym some) ∙ canonical world meaning st stands ∙ picks) in
    record {
      due = due.now;
      place = same;
      event_is = is ∙ event_seen world meaning old now st due.now.place stands frame turn ∙ ap (λ (v : Place). event_of world st.top.scene v) same;
      line_is = at;
      next = λ s stage straight.
          let came = came_next old mid s due old.top.stage (top_of old) straight stage refl (subst (λ (o : Option (Bor Due)). Follows old mid o) some follows)
          in
          ((came.count, due), came.comes, refl);
    }

pub next_raises : (old mid : Machine) (due : Bor Due) (next : Option (Bor Due)) (now : Machine) (r : Result Pick Halt) → Follows old mid next →
    next ≡ Some due → TakesCanonical old (place_of next) → now.top.frame ≡ old.top.frame → now.top.turn ≡ old.top.turn → RaisesAt now due.now r →
    RaisesNext old r
next_raises old mid due next now (Ok p) follows some canonical frame turn raises = tt
next_raises old mid due next now (Err (halt.Raised event line clause)) follows some canonical frame turn raises =
    λ world meaning st u stands picks.
    raised_next old mid due next now follows some canonical frame turn event line raises.0 raises.1 world meaning st u stands picks
next_raises old mid due next now (Err (halt.Over cause number)) follows some canonical frame turn raises = tt
next_raises old mid due next now (Err halt.Unplaced) follows some canonical frame turn raises = tt
next_raises old mid due next now (Err halt.NoMemory) follows some canonical frame turn raises = tt

-- a control step is no event
pub none_raises : (old : Machine) (next : Option (Bor Due)) (r : Result Pick Halt) → next ≡ None → TakesCanonical old (place_of next) → RaisesNext old r
none_raises old next (Ok p) none canonical = tt
none_raises old next (Err (halt.Raised event line clause)) none canonical =
    λ world meaning st u stands picks.
    let control : Control ≡ Ev u = ap (λ (o : Option (Bor Due)). chosen_pick world (place_of o)) (sym none) ∙ canonical world meaning st stands ∙ picks in
    absurd (cc)
none_raises old next (Err (halt.Over cause number)) none canonical = tt
none_raises old next (Err halt.Unplaced) none canonical = tt
none_raises old next (Err halt.NoMemory) none canonical = tt

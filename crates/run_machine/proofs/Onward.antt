-- Along the canonical way the next event is taken as the definitions' event.
use Rattle.std.proofs.Common.{◌≡◌, ◌+◌, ◌-◌, ◌^◌, min, ℕ, Bool, true, false, refl, sym, ap, ◌∙◌, subst, List, [], Option, Some, None, Result}
use Rattle.std.proofs.lemmas.Option.{same_Some}
use Rattle.std.specs.Borrow.{Bor}
use Rattle.ub_base.specs.declared.names.Item.{Item}
use Rattle.c_typed.specs.declared.tree.Place.{Place}
use Rattle.c_model.specs.Runs.{State, chosen_pick, step, canonical_pick}
use Rattle.c_model.specs.Steps.{Begun, Control, Ev, MayPick}
use Rattle.c_model.specs.World.{World}
use Rattle.run_control.specs.View.{Meaning}
use Rattle.run_layout.specs.declared.steps.Due.{Due}
use Rattle.run_listing.specs.Along.{place_of}
use Rattle.run_state.specs.declared.halt.Halt.{Halt}
use Rattle.run_state.specs.declared.machine.Machine.{Machine}
use Rattle.run_state.specs.declared.machine.Stage.{Stage}
use Rattle.run_state.specs.declared.watch.Begun.{Begun as Shown}
use Rattle.run_answers.specs.declared.pick.Pick.{Pick}
use Rattle.run_answers.specs.Picks.{at_cursor, top_of, ByWay, ComesNext, Follows, FollowsIn, NextIsPermitted, TakesCanonical}
use Rattle.run_layout.specs.declared.steps.Expression.{Expression}
use Rattle.run_answers.specs.Completing.{CompletesAfter, CompletesEvent, CompletesNext}
use Rattle.run_answers.specs.Taking.{AnswersEvent, AnswersNext, AnswersTaken, IsAt, MayTake, MayTakeNext, StandsOpen, at_next, untouched}
use Rattle.run_answers.proofs.Still.{items_stand}

-- ---- what comes next, to which the machine has gone on
pub record CameNext (old : Machine) (s : Stage) (new : Machine) (due : Bor Due) : Type 0 where
  pub count : ℕ
  pub comes : ComesNext old s (Some (count, due))
  pub is : new ≡ at_cursor old s (min (s.cursor + count) (2 ^ 64 - 1))

along : (old new : Machine) (s : Stage) (b : Shown) (due : Bor Due) (straight : Bool) → straight ≡ true → top_of old ≡ Some b →
    ByWay straight old s b new (Some due) → CameNext old s new due
along old new s b due straight is top way =
    let w = subst (λ (t : Bool). ByWay t old s b new (Some due)) is way in
    record { count = w.0; comes = (b, top, w.1); is = w.2 }

pub came_next : (old new : Machine) (s : Stage) (due : Bor Due) (stage : Option Stage) (top : Option Shown) → s.straight ≡ true → stage ≡ Some s →
    top_of old ≡ top → FollowsIn old stage top new (Some due) → CameNext old s new due
came_next old new s due None top straight is at f = absurd (cc)
came_next old new s due (Some r) None straight is at f = absurd f
came_next old new s due (Some r) (Some b) straight is at f =
    along old new s b due s.straight straight at (subst (λ (z : Stage). ByWay z.straight old z b new (Some due)) (same_Some r s is) f)

-- ---- a machine that has touched nothing stands as before
pub cleared_open : (world : World) (meaning : Option ℕ → Meaning) (m : Machine) (st : State) (e : Begun) → StandsOpen world meaning m st e →
    StandsOpen world meaning (record m { items = [] }) st e
cleared_open world meaning m st e o = record {
  stands = items_stand world meaning m [] m.spare st o.stands;
  begun = o.begun;
  chosen = o.chosen;
  reached = o.reached;
  arguments = o.arguments;
  result = o.result;
  rooms = o.rooms;
  below = o.below;
}

pub ev_place : (u v : Place) → Ev u ≡ Ev v → u ≡ v
ev_place u v h = cc

pub at_ready : (old : Machine) (s : Stage) (due : Bor Due) (n : ℕ) (straight : Bool) → straight ≡ true → ComesNext old s (Some (n, due)) →
    IsAt straight (record old { items = [] }) s due.now (at_next old s n)
at_ready old s due n true is comes = (comes.0, (n, due), comes.1, refl, comes.2, refl)
at_ready old s due n false is comes = absurd (cc)

-- ---- the next event
-- the machine has gone on to it, and may take it
pub record Comes (world : World) (meaning : Option ℕ → Meaning) (old : Machine) (is : List Item) (st : State) (e : Begun) (s : Stage) (laid : Expression)
    (due : Bor Due) (mid : Machine) (u : Place) : Type 0 where
  pub same : due.now.place ≡ u
  pub may : MayTake world meaning (record old { items = [] }) st e s laid due.now (record mid { items = is })

pub comes : NextIsPermitted → (old mid : Machine) (is : List Item) (next : Option (Bor Due)) (due : Bor Due) → Follows old mid next → next ≡ Some due →
    is ≡ [] →
    TakesCanonical old (place_of next) → (world : World) (meaning : Option ℕ → Meaning) (st : State) (e : Begun) (s : Stage) (laid : Expression) (u : Place) →
    MayTakeNext world meaning old st e s laid → canonical_pick world st.top st.top.begun ≡ Ev u → Comes world meaning old is st e s laid due mid u
comes permits old mid is next due f some none canonical world meaning st e s laid u asks picks =
    let came = came_next old mid s due old.top.stage (top_of old) asks.straight asks.stage refl (subst (λ (o : Option (Bor Due)). Follows old mid o) some f) in
    let ready = asks.each (came.count, due) came.comes in
    let now : record mid { items = is } ≡ at_next old s came.count =
    ap (λ (k : List Item). record mid { items = k }) none ∙ ap (λ (k : Machine). record k { items = [] }) came.is in
    let may : MayPick world st.top (Some e) (Ev due.now.place) =
    subst (λ (z : Option Begun). MayPick world st.top z (Ev due.now.place)) asks.stood.begun
    ((permits old s (came.count, due) asks.stage asks.straight came.comes world meaning st asks.stood.stands).0 refl) in
    record {
      same = ev_place due.now.place u
          (ap (λ (o : Option (Bor Due)). chosen_pick world (place_of o)) (sym some) ∙ canonical world meaning st asks.stood.stands ∙ picks);
      may = subst (MayTake world meaning (record old { items = [] }) st e s laid due.now) (sym now)
          (record {
            stood = cleared_open world meaning old st e asks.stood;
            within = asks.within;
            items = refl;
            stage = asks.stage;
            end = asks.end;
            at = asks.at;
            rooms = asks.rooms;
            event = ready.event;
            constants = asks.constants;
            extends = asks.extends;
            plain = ready.plain;
            may = may;
            goes = at_ready old s due came.count s.straight asks.straight came.comes;
            act = ready.act;
          });
    }

pub next_answers : NextIsPermitted → (old mid new : Machine) (is : List Item) (next : Option (Bor Due)) (due : Bor Due) (r : Result Pick Halt) →
    Follows old mid next → next ≡ Some due → is ≡ [] → TakesCanonical old (place_of next) →
    AnswersEvent due.now (record mid { items = is }) new r → AnswersNext old new r
next_answers permits old mid new is next due r f some none canonical answers = λ world meaning st e s laid u asks picks.
    let c = comes permits old mid is next due f some none canonical world meaning st e s laid u asks picks in
    subst (λ (v : Place). AnswersTaken world meaning (untouched old) st e s laid v r new (step world st (Ev v))) c.same
    (answers world meaning (record old { items = [] }) st e s laid c.may)

pub next_completes : NextIsPermitted → (old mid new : Machine) (is : List Item) (next : Option (Bor Due)) (due : Bor Due) (r : Result Pick Halt) →
    Follows old mid next → next ≡ Some due → is ≡ [] → TakesCanonical old (place_of next) →
    CompletesEvent due.now (record mid { items = is }) new r → CompletesNext old new r
next_completes permits old mid new is next due r f some none canonical completes = λ world meaning st e s laid u asks picks.
    let c = comes permits old mid is next due f some none canonical world meaning st e s laid u asks picks in
    subst (λ (v : Place). CompletesAfter world r v new (step world st (Ev v))) c.same
    (completes world meaning (record old { items = [] }) st e s laid c.may asks.straight)

pub none_completes : (old new : Machine) (next : Option (Bor Due)) (r : Result Pick Halt) → next ≡ None → TakesCanonical old (place_of next) →
    CompletesNext old new r
none_completes old new next r none canonical = λ world meaning st e s laid u asks picks.
    let control : Control ≡ Ev u =
    ap (λ (o : Option (Bor Due)). chosen_pick world (place_of o)) (sym none) ∙ canonical world meaning st asks.stood.stands ∙ picks in
    absurd (cc)

pub none_next : (old new : Machine) (next : Option (Bor Due)) (r : Result Pick Halt) → next ≡ None → TakesCanonical old (place_of next) →
    AnswersNext old new r
none_next old new next r none canonical = λ world meaning st e s laid u asks picks.
    let control : Control ≡ Ev u =
    ap (λ (o : Option (Bor Due)). chosen_pick world (place_of o)) (sym none) ∙ canonical world meaning st asks.stood.stands ∙ picks in
    absurd (cc)

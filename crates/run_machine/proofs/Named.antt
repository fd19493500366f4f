-- An event that is named is taken from a machine that stands for what the one before stood for.
use Rattle.std.proofs.Common.{◌≡◌, ◌⊎◌, Bool, true, false, refl, sym, ap, ◌∙◌, subst, inl, inr, List, [], Some, Result, Err}
use Rattle.ub_base.specs.declared.names.Item.{Item}
use Rattle.c_typed.specs.declared.tree.Place.{Place}
use Rattle.run_layout.specs.declared.steps.Due.{Due}
use Rattle.run_listing.specs.Along.{IsListed}
use Rattle.run_state.specs.declared.halt.Halt.{Halt}
use Rattle.run_state.specs.declared.halt.Halt.TheVariants as halt
use Rattle.run_state.specs.declared.machine.Machine.{Machine}
use Rattle.run_state.specs.declared.machine.Stage.{Stage}
use Rattle.run_answers.specs.declared.pick.Pick.{Pick}
use Rattle.run_answers.specs.Library.{AnswersLibrary}
use Rattle.run_answers.specs.Picks.{LeavesWay, StraysIn, whole_part}
use Rattle.run_answers.specs.Raising.{RaisesAt}
use Rattle.run_answers.specs.Starting.{AnswersBody, AnswersCall}
use Rattle.run_answers.specs.Straying.{LeavesStanding, MovesTo, Reaches, TakesFrom, TakesSo}
use Rattle.run_answers.specs.Taking.{AnswersEvent, IsAt, at_next, untouched}
use Rattle.run_machine.proofs.Onward.{at_ready, cleared_open}

-- what is promised of an event to which a machine has gone on
pub record Promised (d : Due) (now new : Machine) (r : Result Pick Halt) : Type 0 where
  pub events : AnswersEvent d now new r
  pub bodies : AnswersBody d now new r
  pub calls : AnswersCall d now new r
  pub libraries : AnswersLibrary d now new r
  pub raised : RaisesAt now d r

module _ (law : LeavesStanding) (old mid new : Machine) (d : Due) (u : Place) (r : Result Pick Halt) (place : d.place ≡ u)
    (promised : Promised d (untouched mid) new r) where
  -- the cursor has moved to it
  by_cursor : (s : Stage) → old.top.stage ≡ Some s → MovesTo old s d mid → TakesFrom old u new r
  by_cursor s stage moves =
      let now : untouched mid ≡ at_next old s moves.count = ap (λ (m : Machine). untouched m) moves.moved in
      record {
        from = untouched old;
        now = untouched mid;
        stage = s;
        due = d;
        place = place;
        stands = λ world meaning st e o. cleared_open world meaning old st e o;
        open_so = stage;
        listed = λ off. absurd (let is = moves.straight in cc);
        untouched = refl;
        goes = subst (λ (m : Machine). IsAt s.straight (untouched old) s d m) (sym now)
            (subst (λ (x : Due). IsAt s.straight (untouched old) s x (at_next old s moves.count)) moves.is
            (at_ready old s moves.due moves.count s.straight moves.straight moves.comes));
        events = promised.events;
        bodies = promised.bodies;
        calls = promised.calls;
        libraries = promised.libraries;
        raised = promised.raised;
      }

  -- the canonical way is left with it
  by_leaving : (s : Stage) → old.top.stage ≡ Some s → s.straight ≡ true → IsListed (whole_part old s) d → LeavesWay old s mid → TakesFrom old u new r
  by_leaving s stage straight listed leaves = record {
    from = untouched mid;
    now = untouched mid;
    stage = record s { straight = false };
    due = d;
    place = place;
    stands = λ world meaning st e o. cleared_open world meaning mid st e (law world meaning old mid st e s o stage straight leaves);
    open_so = ap (λ (m : Machine). m.top.stage) leaves.rest;
    listed = λ off. subst (λ (m : Machine). IsListed (whole_part m s) d) (sym leaves.rest) listed;
    untouched = refl;
    goes = refl;
    events = promised.events;
    bodies = promised.bodies;
    calls = promised.calls;
    libraries = promised.libraries;
    raised = promised.raised;
  }

  -- it was left before
  by_done : (s : Stage) (straight : Bool) → s.straight ≡ straight → straight ≡ false → old.top.stage ≡ Some s → IsListed (whole_part old s) d →
      mid ≡ old → TakesFrom old u new r
  by_done s straight is off stage listed same = record {
    from = untouched old;
    now = untouched mid;
    stage = s;
    due = d;
    place = place;
    stands = λ world meaning st e o. cleared_open world meaning old st e o;
    open_so = stage;
    listed = λ h. listed;
    untouched = refl;
    goes = subst (λ (b : Bool). IsAt b (untouched old) s d (untouched mid)) (sym (is ∙ off)) (ap (λ (m : Machine). untouched m) same);
    events = promised.events;
    bodies = promised.bodies;
    calls = promised.calls;
    libraries = promised.libraries;
    raised = promised.raised;
  }

  off_cursor : (s : Stage) (straight : Bool) → s.straight ≡ straight → old.top.stage ≡ Some s → IsListed (whole_part old s) d →
      StraysIn straight old s mid true → TakesFrom old u new r
  off_cursor s true is stage listed strays = by_leaving s stage is listed strays
  off_cursor s false is stage listed strays = by_done s false is refl stage listed strays

  by_way : (s : Stage) → old.top.stage ≡ Some s → MovesTo old s d mid ⊎ (IsListed (whole_part old s) d × StraysIn s.straight old s mid true) →
      TakesFrom old u new r
  by_way s stage (inl moves) = by_cursor s stage moves
  by_way s stage (inr strays) = off_cursor s s.straight refl stage strays.0 strays.1

  pub taken_from : Reaches old d mid → TakesFrom old u new r
  taken_from reaches = by_way reaches.stage reaches.open_so reaches.way

-- the machine that is cleared has touched nothing
pub promised_of : (d : Due) (mid new : Machine) (is : List Item) (r : Result Pick Halt) → is ≡ [] → AnswersEvent d (record mid { items = is }) new r →
    AnswersBody d (record mid { items = is }) new r → AnswersCall d (record mid { items = is }) new r →
    AnswersLibrary d (record mid { items = is }) new r → RaisesAt (record mid { items = is }) d r → Promised d (untouched mid) new r
promised_of d mid new is r none events bodies calls libraries raised = record {
  events = subst (λ (k : List Item). AnswersEvent d (record mid { items = k }) new r) none events;
  bodies = subst (λ (k : List Item). AnswersBody d (record mid { items = k }) new r) none bodies;
  calls = subst (λ (k : List Item). AnswersCall d (record mid { items = k }) new r) none calls;
  libraries = subst (λ (k : List Item). AnswersLibrary d (record mid { items = k }) new r) none libraries;
  raised = subst (λ (k : List Item). RaisesAt (record mid { items = k }) d r) none raised;
}

-- memory may be wanted beside
pub taken_or_wanted : (old : Machine) (u : Place) (new : Machine) (h : Halt) → TakesFrom old u new (Err h) → TakesSo old u new (Err h)
taken_or_wanted old u new (halt.Raised event line clause) t = t
taken_or_wanted old u new (halt.Over cause number) t = t
taken_or_wanted old u new halt.Unplaced t = t
taken_or_wanted old u new halt.NoMemory t = tt

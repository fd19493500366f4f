-- Off the canonical way the canonical pick is taken as the definitions take it.
use Rattle.std.proofs.Common.{◌≡◌, ℕ, Bool, true, false, refl, sym, ap, ◌∙◌, subst, inl, inr, List, [], Option, Some, None, Result, Ok, Err, IfOk}
use Rattle.std.proofs.lemmas.Option.{same_Some}
use Rattle.std.specs.Borrow.{Bor}
use Rattle.std.specs.Option.{IfSome}
use Rattle.ub_base.specs.declared.names.Event.{Event}
use Rattle.ub_base.specs.declared.names.Item.{Item}
use Rattle.c_model.specs.Runs.{State, canonical_pick, chosen_pick}
use Rattle.c_model.specs.Steps.{Ev}
use Rattle.c_model.specs.World.{World}
use Rattle.run_control.specs.View.{Meaning}
use Rattle.run_layout.specs.declared.steps.Due.{Due}
use Rattle.run_listing.specs.Along.{IsListed, place_of}
use Rattle.run_state.specs.declared.halt.Halt.{Halt}
use Rattle.run_state.specs.declared.halt.Halt.TheVariants as halt
use Rattle.run_state.specs.declared.machine.Machine.{Machine}
use Rattle.run_state.specs.declared.machine.Stage.{Stage}
use Rattle.run_state.specs.declared.watch.Begun.{Begun as Shown}
use Rattle.run_state.specs.Stands.{Stands}
use Rattle.run_answers.specs.declared.pick.Pick.{Pick}
use Rattle.run_answers.specs.declared.pick.Pick.TheVariants as pick
use Rattle.run_answers.specs.Picks.{top_of, whole_part, ByWay, Follows, FollowsIn, IsOfEvent, IsStep, TakesCanonical}
use Rattle.run_answers.specs.Rows.{GrowsAt}
use Rattle.run_answers.specs.Taking.{IsAt, untouched}
use Rattle.run_machine.specs.Strayed.{GoesOnIn, GoesOnStrayed, IsControlNext, IsListedOff, TakesStrayed}
use Rattle.run_machine.proofs.Named.{Promised}
use Rattle.run_machine.proofs.Onward.{cleared_open}

-- ---- what comes next is listed
pub listed_off : {E : Type 0} (m : Machine) (s : Stage) (r : Result (Option (Bor Due)) E) → m.top.stage ≡ Some s
    → IfOk r (λ due. IfSome due (λ d. IsListed (whole_part m s) d.now)) → IfOk r (λ due. IfSome due (λ d. IsListedOff m d.now))
listed_off m s (Ok None) at h = tt
listed_off m s (Ok (Some d)) at h = λ t is off. subst (λ (z : Stage). IsListed (whole_part m z) d.now) (same_Some s t (sym at ∙ is)) h
listed_off m s (Err e) at h = tt

-- along the canonical way nothing is asked
pub along_way : (m : Machine) (s : Stage) (d : Due) → m.top.stage ≡ Some s → s.straight ≡ true → IsListedOff m d
along_way m s d at straight = λ t is off.
    let same : s.straight ≡ t.straight = ap (λ (z : Stage). z.straight) (same_Some s t (sym at ∙ is)) in
    absurd (cc)

-- ---- the machine has gone on to it as it stood
still : (straight : Bool) (old new : Machine) (s : Stage) (b : Shown) (due : Option (Bor Due)) → straight ≡ false → ByWay straight old s b new due → new ≡ old
still true old new s b due off way = absurd (cc)
still false old new s b due off way = way.1

stays : (old new : Machine) (s : Stage) (due : Option (Bor Due)) (stage : Option Stage) (top : Option Shown) → s.straight ≡ false → stage ≡ Some s
    → FollowsIn old stage top new due → new ≡ old
stays old new s due None top off at f = absurd (cc)
stays old new s due (Some r) None off at f = absurd f
stays old new s due (Some r) (Some b) off at f =
    still s.straight old new s b due off (subst (λ (z : Stage). ByWay z.straight old z b new due) (same_Some r s at) f)

-- so the event is taken from there
from_there : (old mid new : Machine) (s : Stage) (d : Due) (r : Result Pick Halt) → old.top.stage ≡ Some s → s.straight ≡ false
    → IsListed (whole_part old s) d → mid ≡ old
    → ((world : World) (meaning : Option ℕ → Meaning) (st : State) → Stands world meaning old st → canonical_pick world st.top st.top.begun ≡ Ev d.place)
    → Promised d (untouched mid) new r → GrowsAt d (untouched mid) new r → TakesStrayed old s new r
from_there old mid new s d r opened off listed same picks promised rows = record {
  place = d.place;
  is = picks;
  takes = record {
    from = untouched old;
    now = untouched mid;
    stage = s;
    due = d;
    place = refl;
    stands = λ world meaning st e o. cleared_open world meaning old st e o;
    open_so = opened;
    listed = λ h. listed;
    untouched = refl;
    goes = subst (λ (b : Bool). IsAt b (untouched old) s d (untouched mid)) (sym off) (ap (λ (m : Machine). untouched m) same);
    events = promised.events;
    bodies = promised.bodies;
    calls = promised.calls;
    libraries = promised.libraries;
    raised = promised.raised;
  };
  from = refl;
  stage = refl;
  rows = rows;
}

-- ---- what is answered
event_so : (old : Machine) (s : Stage) (new : Machine) (event : Event) (r : Result Pick Halt) → IfOk r (IsOfEvent event) → TakesStrayed old s new r
    → GoesOnIn old s new r
event_so old s new event (Ok (pick.Step status)) is t = absurd is
event_so old s new event (Ok (pick.Starts started)) is t = t
event_so old s new event (Ok (pick.Event taken completed status)) is t = t
event_so old s new event (Err (halt.Raised e line clause)) is t = inl t
event_so old s new event (Err (halt.Over cause number)) is t = inl t
event_so old s new event (Err halt.Unplaced) is t = inl t
event_so old s new event (Err halt.NoMemory) is t = tt

step_so : (old : Machine) (s : Stage) (new : Machine) (r : Result Pick Halt) → IfOk r IsStep → IsControlNext old → GoesOnIn old s new r
step_so old s new (Ok (pick.Step status)) is control = control
step_so old s new (Ok (pick.Starts started)) is control = absurd is
step_so old s new (Ok (pick.Event taken completed status)) is control = absurd is
step_so old s new (Err (halt.Raised e line clause)) is control = inr control
step_so old s new (Err (halt.Over cause number)) is control = inr control
step_so old s new (Err halt.Unplaced) is control = inr control
step_so old s new (Err halt.NoMemory) is control = tt

pub next_strayed : (old mid new : Machine) (is : List Item) (next : Option (Bor Due)) (due : Bor Due) (event : Event) (r : Result Pick Halt)
    → Follows old mid next → next ≡ Some due → is ≡ [] → TakesCanonical old (place_of next) → IfSome next (λ d. IsListedOff old d.now)
    → Promised due.now (untouched mid) new r → GrowsAt due.now (record mid { items = is }) new r → IfOk r (IsOfEvent event) → GoesOnStrayed old new r
next_strayed old mid new is next due event r f some none canonical listed promised rows taken = λ s opened off.
    event_so old s new event r taken
    (from_there old mid new s due.now r opened off
    (subst (λ (o : Option (Bor Due)). IfSome o (λ d. IsListedOff old d.now)) some listed s opened off)
    (stays old mid s next old.top.stage (top_of old) off opened f)
    (λ world meaning st stands. sym (canonical world meaning st stands) ∙ ap (λ (o : Option (Bor Due)). chosen_pick world (place_of o)) some)
    promised (subst (λ (k : List Item). GrowsAt due.now (record mid { items = k }) new r) none rows))

pub none_strayed : (old new : Machine) (next : Option (Bor Due)) (r : Result Pick Halt) → next ≡ None → TakesCanonical old (place_of next) → IfOk r IsStep
    → GoesOnStrayed old new r
none_strayed old new next r none canonical step = λ s opened off.
    step_so old s new r step
    (λ world meaning st stands. sym (canonical world meaning st stands) ∙ ap (λ (o : Option (Bor Due)). chosen_pick world (place_of o)) none)

-- there may be want of memory
pub wanted_strayed : (old new : Machine) (h : Halt) → h ≡ halt.NoMemory → GoesOnStrayed old new (Err h)
wanted_strayed old new h is = λ s opened off. subst (λ (k : Halt). GoesOnIn old s new (Err k)) (sym is) tt

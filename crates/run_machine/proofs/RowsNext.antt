-- Rows of objects stay where a body starts a frame, and along the canonical way.
use Rattle.std.proofs.Common.{◌≡◌, ◌⊎◌, inl, inr, ℕ, sym, ap, ◌∙◌, subst, List, [], Option, Some, None, Result, Ok, Err}
use Rattle.std.specs.Borrow.{Bor}
use Rattle.ub_base.specs.declared.names.Event.{Event}
use Rattle.ub_base.specs.declared.names.Item.{Item}
use Rattle.c_typed.specs.declared.tree.Place.{Place}
use Rattle.c_model.specs.Runs.{State, canonical_pick, chosen_pick}
use Rattle.c_model.specs.Steps.{Begun, Control, Ev}
use Rattle.c_model.specs.World.{World}
use Rattle.program_view.specs.Laws.{TreesAreKept}
use Rattle.run_control.specs.View.{Meaning}
use Rattle.run_layout.specs.declared.steps.Act.TheVariants as act
use Rattle.run_layout.specs.declared.steps.Due.{Due}
use Rattle.run_listing.specs.Along.{place_of}
use Rattle.run_listing.specs.Cursor.{StandsAtStart}
use Rattle.run_state.specs.declared.halt.Halt.{Halt}
use Rattle.run_state.specs.declared.halt.Halt.TheVariants as halt
use Rattle.run_state.specs.declared.machine.Machine.{Machine}
use Rattle.run_state.specs.declared.machine.Stage.{Stage}
use Rattle.run_state.specs.Stands.{Stands}
use Rattle.run_answers.specs.declared.outcome.Outcome.{Outcome as Done_as}
use Rattle.run_answers.specs.declared.outcome.Outcome.TheVariants as outcome
use Rattle.run_answers.specs.declared.fault.Fault.{Fault}
use Rattle.run_answers.specs.declared.fault.Fault.TheVariants as fault
use Rattle.run_answers.specs.Calling.{CallsNumbered}
use Rattle.run_answers.specs.Faults.{halt_by}
use Rattle.run_answers.specs.Opens.{Opens, OpensInitializer}
use Rattle.run_answers.specs.declared.pick.Pick.{Pick}
use Rattle.run_answers.specs.declared.pick.Pick.TheVariants as pick
use Rattle.run_answers.specs.Picks.{Follows, FollowsCanonical, NextIsPermitted, TakesCanonical, top_of}
use Rattle.run_answers.specs.Rows.{GrowsAt, GrowsByControl, GrowsNext, KeepsAnswered, KeepsRows}
use Rattle.run_answers.specs.Starting.{MayCall, MayStart}
use Rattle.run_answers.specs.Taking.{past_event, untouched}
use Rattle.run_answers.proofs.Answered.{staged_so}
use Rattle.run_machine.proofs.Bodies as started
use Rattle.run_machine.proofs.Callees as callees
use Rattle.run_answers.proofs.Finished.{control_first, no_event}
use Rattle.run_machine.proofs.LibraryNext as called
use Rattle.run_machine.proofs.Onward as onward
use Rattle.run_machine.proofs.RowsStand.{answered_then, rows_same, taken_then}
use Rattle.run_answers.proofs.Staying.{cleared_goes, cleared_stands, followed}

-- ---- the body of an isolated initializer
opened_memory : (past done : Machine) (number : ℕ) (who : Event) → OpensInitializer past number who done (Ok outcome.Started) → done.memory ≡ past.memory
opened_memory past done number who o = ap (λ (k : Machine). k.memory) o.rest

module _ (trees : TreesAreKept) (starts : StandsAtStart) (d : Due) (now start done : Machine) (who : Event) (node : who.node ≡ d.place.node)
    (p : Result Done_as Fault) (is : start ≡ past_event now) (opens : Opens start d.act who done p) where
  abbrev Bodies : Machine → Result Pick Halt → Type 0
  Bodies new r = (world : World) (meaning : Option ℕ → Meaning) (m : Machine) (st : State) (e : Begun) (s : Stage)
      → MayStart world meaning m st e s d now → KeepsAnswered m new r

  module _ (q : Result Done_as Fault) (same : p ≡ q) (world : World) (meaning : Option ℕ → Meaning) (m : Machine) (st : State) (e : Begun) (s : Stage)
      (t : MayStart world meaning m st e s d now) where
    opened : OpensInitializer (past_event now) t.event.number who done q
    opened = started.opens_so trees starts d now start done who node p is opens q same world meaning m st e s t

  pub body_done : (new : Machine) (r : Result Pick Halt) → p ≡ Ok outcome.Done → Bodies new r
  body_done new r same world meaning m st e s t = absurd (opened (Ok outcome.Done) same world meaning m st e s t)

  pub body_ended : (new : Machine) (r : Result Pick Halt) (n : ℕ) → p ≡ Ok (outcome.End n) → Bodies new r
  body_ended new r n same world meaning m st e s t = absurd (opened (Ok (outcome.End n)) same world meaning m st e s t)

  pub body_started : p ≡ Ok outcome.Started → (event : Event) → Bodies done (Ok (pick.Starts event))
  body_started same event world meaning m st e s t =
      rows_same m done (opened_memory (past_event now) done t.event.number who (opened (Ok outcome.Started) same world meaning m st e s t)
      ∙ ap (λ (k : Machine). k.memory) (staged_so m now s d s.straight t.goes).1)

  pub body_stopped : (x : Fault) (line : ℕ) (h : Halt) → p ≡ Err x → h ≡ halt_by who line x → Bodies done (Err h)
  body_stopped x line h same halts world meaning m st e s t =
      subst (λ (k : Halt). KeepsAnswered {A = Pick} m done (Err k)) (sym halts) (by x (opened (Err x) same world meaning m st e s t))
    where
      by : (x : Fault) → OpensInitializer (past_event now) t.event.number who done (Err x) → KeepsAnswered {A = Pick} m done (Err (halt_by who line x))
      by fault.NoMemory o = tt
      by fault.Unplaced o = absurd o
      by (fault.Raise clause) o = absurd o
      by (fault.Over cause reached) o = absurd o

-- ---- the body of a call of a function that the program defines
module _ (trees : TreesAreKept) (starts : StandsAtStart) (d : Due) (now start done : Machine) (who : Event) (node : who.node ≡ d.place.node)
    (p : Result Done_as Fault) (is : start ≡ past_event now)
    (calls : (number : ℕ) → d.act ≡ act.Call number → CallsNumbered number start who done p) where
  abbrev Calls : Machine → Result Pick Halt → Type 0
  Calls new r = (world : World) (meaning : Option ℕ → Meaning) (m : Machine) (st : State) (e : Begun) (s : Stage)
      → MayCall world meaning m st e s d now → KeepsAnswered m new r

  module _ (world : World) (meaning : Option ℕ → Meaning) (m : Machine) (st : State) (e : Begun) (s : Stage) (t : MayCall world meaning m st e s d now) where
    abbrev Either_at : (q : Result Done_as Fault) → p ≡ q → Type 0
    Either_at q same = callees.Raising trees starts d now start done who node p is calls q same world meaning m st e s t
        ⊎ callees.Opening trees starts d now start done who node p is calls q same world meaning m st e s t

    either : (q : Result Done_as Fault) (same : p ≡ q) → Either_at q same
    either q same = callees.led trees starts d now start done who node p is calls q same world meaning m st e s t

    memory_is : now.memory ≡ m.memory
    memory_is = ap (λ (k : Machine). k.memory) (staged_so m now s d s.straight t.goes).1

    none_done : (same : p ≡ Ok outcome.Done) → Either_at (Ok outcome.Done) same → ⊥
    none_done same (inl r) = r.only
    none_done same (inr o) = o.opens

    none_ended : (n : ℕ) (same : p ≡ Ok (outcome.End n)) → Either_at (Ok (outcome.End n)) same → ⊥
    none_ended n same (inl r) = r.only
    none_ended n same (inr o) = o.opens

    opens_rows : (same : p ≡ Ok outcome.Started) → Either_at (Ok outcome.Started) same → KeepsRows m done
    opens_rows same (inl r) = absurd r.only
    opens_rows same (inr o) =
        rows_same m done (ap (λ (k : Machine). k.memory) o.opens.counted ∙ ap (λ (k : Machine). k.memory) o.opens.opens.rest
        ∙ ap (λ (k : Machine). k.memory) o.opens.rest ∙ memory_is)

    stops_rows : (line : ℕ) (x : Fault) (same : p ≡ Err x) → Either_at (Err x) same → KeepsAnswered {A = Pick} m done (Err (halt_by who line x))
    stops_rows line fault.NoMemory same either = tt
    stops_rows line fault.Unplaced same (inl r) = absurd r.only
    stops_rows line fault.Unplaced same (inr o) = absurd o.opens
    stops_rows line (fault.Raise c) same (inl r) = rows_same m done (r.only.1 ∙ memory_is)
    stops_rows line (fault.Raise c) same (inr o) = absurd o.opens
    stops_rows line (fault.Over cause reached) same (inl r) = absurd r.only
    stops_rows line (fault.Over cause reached) same (inr o) = rows_same m done (o.opens.3 ∙ memory_is)

  pub call_done : (new : Machine) (r : Result Pick Halt) → p ≡ Ok outcome.Done → Calls new r
  call_done new r same world meaning m st e s t =
      absurd (none_done world meaning m st e s t same (either world meaning m st e s t (Ok outcome.Done) same))

  pub call_ended : (new : Machine) (r : Result Pick Halt) (n : ℕ) → p ≡ Ok (outcome.End n) → Calls new r
  call_ended new r n same world meaning m st e s t =
      absurd (none_ended world meaning m st e s t n same (either world meaning m st e s t (Ok (outcome.End n)) same))

  pub call_started : p ≡ Ok outcome.Started → (event : Event) → Calls done (Ok (pick.Starts event))
  call_started same event world meaning m st e s t =
      opens_rows world meaning m st e s t same (either world meaning m st e s t (Ok outcome.Started) same)

  pub call_stopped : (x : Fault) (line : ℕ) (h : Halt) → p ≡ Err x → h ≡ halt_by who line x → Calls done (Err h)
  call_stopped x line h same halts world meaning m st e s t =
      subst (λ (k : Halt). KeepsAnswered {A = Pick} m done (Err k)) (sym halts)
      (stops_rows world meaning m st e s t line x same (either world meaning m st e s t (Err x) same))

-- ---- along the canonical way
cleared : (old new : Machine) (r : Result Pick Halt) → KeepsAnswered (untouched old) new r → KeepsAnswered old new r
cleared old new r k = answered_then old (untouched old) new r (λ x row at. at) k

pub next_grows : NextIsPermitted → FollowsCanonical → (old mid new : Machine) (is : List Item) (next : Option (Bor Due)) (due : Bor Due)
    (r : Result Pick Halt) → Follows old mid next → next ≡ Some due → is ≡ [] → TakesCanonical old (place_of next) →
    GrowsAt due.now (record mid { items = is }) new r → GrowsNext old new r
next_grows permits follows old mid new is next due r f some none canonical grows = record {
  steps = λ world meaning st stands goes.
      let picks = follows old mid next f world meaning st stands in
      let event = ap (λ (o : Option (Bor Due)). chosen_pick world (place_of o)) (sym some) in
      absurd (no_event due.now.place (event ∙ picks ∙ control_first world st.top st.top.begun goes.control));
  events = λ world meaning st e s laid u asks picks.
      cleared old new r (grows.events world meaning (untouched old) st e s laid
      (onward.comes permits old mid is next due f some none canonical world meaning st e s laid u asks picks).may);
  libraries = λ world meaning st e s laid u asks picks.
      cleared old new r (grows.libraries world meaning (untouched old) st e s laid
      (called.comes permits old mid is next due f some none canonical world meaning st e s laid u asks picks).may);
  bodies = λ world meaning st e s u asks picks.
      cleared old new r (grows.bodies world meaning (untouched old) st e s
      (started.comes old mid is next due f some none canonical world meaning st e s u asks picks).may);
  calls = λ world meaning st e s u asks picks.
      cleared old new r (grows.calls world meaning (untouched old) st e s
      (callees.comes_next old mid is next due f some none canonical world meaning st e s u asks picks).may);
}

-- no event comes next
module _ (old mid new : Machine) (next : Option (Bor Due)) (is : List Item) (r : Result Pick Halt) (f : Follows old mid next) (none : next ≡ None)
    (empty : is ≡ []) (canonical : TakesCanonical old (place_of next)) where
  control_is : (world : World) (meaning : Option ℕ → Meaning) (st : State) (u : Place) → Stands world meaning old st →
      canonical_pick world st.top st.top.begun ≡ Ev u → Control ≡ Ev u
  control_is world meaning st u stands picks =
      ap (λ (o : Option (Bor Due)). chosen_pick world (place_of o)) (sym none) ∙ canonical world meaning st stands ∙ picks

  not_event : (u : Place) → Control ≡ Ev u → ⊥
  not_event u e = cc

  pub step_grows : GrowsByControl (record mid { items = is }) new r → GrowsNext old new r
  step_grows grows = record {
    steps = λ world meaning st stands goes.
        let same = followed old old.top.stage (top_of old) mid next f none in
        taken_then old (record mid { items = is }) new r (rows_same old mid (ap (λ (k : Machine). k.memory) same))
        (grows world meaning st (cleared_stands world meaning old mid is st same stands) (cleared_goes world old mid is st same goes) empty);
    events = λ world meaning st e s laid u asks picks. absurd (not_event u (control_is world meaning st u asks.stood.stands picks));
    libraries = λ world meaning st e s laid u asks picks. absurd (not_event u (control_is world meaning st u asks.stood.stands picks));
    bodies = λ world meaning st e s u asks picks. absurd (not_event u (control_is world meaning st u asks.stood.stands picks));
    calls = λ world meaning st e s u asks picks. absurd (not_event u (control_is world meaning st u asks.stood.stands picks));
  }

-- ---- want of memory
pub wanted_grows : (old new : Machine) (h : Halt) → h ≡ halt.NoMemory → GrowsNext old new (Err h)
wanted_grows old new h is = subst (λ (k : Halt). GrowsNext old new (Err k)) (sym is) (record {
  steps = λ world meaning st stands goes. tt;
  events = λ world meaning st e s laid u asks picks. tt;
  libraries = λ world meaning st e s laid u asks picks. tt;
  bodies = λ world meaning st e s u asks picks. tt;
  calls = λ world meaning st e s u asks picks. tt;
})

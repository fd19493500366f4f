-- Rows of objects stay where an event is taken.
use Rattle.std.proofs.Common.{◌≡◌, ◌⊎◌, inl, inr, ℕ, false, refl, sym, ap, ◌∙◌, subst, List, Option, Result, Ok, Err, OnErr}
use Rattle.ub_base.specs.declared.names.Event.{Event}
use Rattle.addr_map.specs.declared.map.Row.{Row}
use Rattle.mem_objects.specs.Keeps.{RowsStay}
use Rattle.c_model.specs.Runs.{State}
use Rattle.c_model.specs.Steps.{Begun}
use Rattle.c_model.specs.World.{World}
use Rattle.library_laws.specs.Calls.{CallsMoreRows, LibraryCallSteps}
use Rattle.run_control.specs.View.{Meaning}
use Rattle.run_layout.specs.declared.steps.Act.TheVariants as act
use Rattle.run_layout.specs.declared.steps.Due.{Due}
use Rattle.run_layout.specs.declared.steps.Expression.{Expression}
use Rattle.run_state.specs.declared.halt.Halt.{Halt}
use Rattle.run_state.specs.declared.halt.Halt.TheVariants as halt
use Rattle.run_state.specs.declared.machine.Machine.{Machine}
use Rattle.run_state.specs.declared.machine.Stage.{Stage}
use Rattle.run_answers.specs.declared.outcome.Outcome.{Outcome as Done_as}
use Rattle.run_answers.specs.declared.outcome.Outcome.TheVariants as outcome
use Rattle.run_answers.specs.declared.fault.Fault.{Fault}
use Rattle.run_answers.specs.declared.fault.Fault.TheVariants as fault
use Rattle.run_answers.specs.Acts.{is_body_act, AreGiven}
use Rattle.run_answers.specs.Calling.{CallsNumbered}
use Rattle.run_answers.specs.Faults.{halt_by}
use Rattle.run_answers.specs.Performs.{CanPerform}
use Rattle.run_answers.specs.declared.pick.Pick.{Pick}
use Rattle.run_answers.specs.declared.pick.Pick.TheVariants as pick
use Rattle.run_answers.specs.Library.{LibraryStands, LibrarySteps, MayCallLibrary}
use Rattle.run_answers.specs.Picks.{event_at}
use Rattle.run_answers.specs.Rows.{KeepsAnswered, KeepsMemory, KeepsRows}
use Rattle.run_answers.specs.Taking.{EventSteps, MayTake, past_event}
use Rattle.run_answers.proofs.Answered as answered
use Rattle.run_answers.proofs.Answered.{Did, did_so}
use Rattle.run_machine.proofs.LibraryTaken as library
use Rattle.run_machine.proofs.RowsStand.{rows_answered, rows_by, rows_same}

-- ---- behind the act memory stays
answered_by : (m done new : Machine) (r : Result Pick Halt) → KeepsRows m done → KeepsMemory done new r → KeepsAnswered m new r
answered_by m done new (Ok p) stay same = rows_by m new m.memory done.memory refl same stay
answered_by m done new (Err halt.NoMemory) stay same = tt
answered_by m done new (Err halt.Unplaced) stay same = absurd (cc)
answered_by m done new (Err (halt.Raised event line clause)) stay same = absurd (cc)
answered_by m done new (Err (halt.Over cause number)) stay same = absurd (cc)

-- ---- an event that isn't a body
abbrev Stay : Due → (now start done : Machine) → Result Done_as Fault → Type 0
Stay d now start done p =
    (rows : List Row) → CanPerform rows start → AreGiven start (event_at now d.place) d.act → is_body_act d.act ≡ false
    → OnErr p (RowsStay start.memory.rows done.memory.rows)

module _ (steps : EventSteps) (d : Due) (now start done new : Machine) (p : Result Done_as Fault) (r : Result Pick Halt)
    (is : start ≡ past_event now) (did : Did now d start done p) where
  pub rows_done : p ≡ Ok outcome.Done → KeepsMemory done new r → (world : World) (meaning : Option ℕ → Meaning) (m : Machine) (st : State) (e : Begun)
      (s : Stage) (laid : Expression) → MayTake world meaning m st e s laid d now → KeepsAnswered m new r
  rows_done same finished world meaning m st e s laid t =
      let so = did_so now d start done p (Ok outcome.Done) is same did in
      let does = so.0 world.rows (answered.can steps world meaning m st e s laid d now t) (answered.given steps world meaning m st e s laid d now t)
      t.act.no_body in
      answered_by m done new r
      (rows_by m done now.memory done.memory (ap (λ (k : Machine). k.memory) (answered.at steps world meaning m st e s laid d now t).1) refl
      does.1.kept.rows) finished

  pub rows_ended : (n : ℕ) → p ≡ Ok (outcome.End n) → (world : World) (meaning : Option ℕ → Meaning) (m : Machine) (st : State) (e : Begun)
      (s : Stage) (laid : Expression) → MayTake world meaning m st e s laid d now → KeepsAnswered m new r
  rows_ended n same world meaning m st e s laid t =
      let so = did_so now d start done p (Ok (outcome.End n)) is same did in
      absurd (so.0 world.rows (answered.can steps world meaning m st e s laid d now t) (answered.given steps world meaning m st e s laid d now t)
      t.act.no_body)

  pub rows_started : p ≡ Ok outcome.Started → (world : World) (meaning : Option ℕ → Meaning) (m : Machine) (st : State) (e : Begun)
      (s : Stage) (laid : Expression) → MayTake world meaning m st e s laid d now → KeepsAnswered m new r
  rows_started same world meaning m st e s laid t =
      let so = did_so now d start done p (Ok outcome.Started) is same did in
      absurd (so.0 world.rows (answered.can steps world meaning m st e s laid d now t) (answered.given steps world meaning m st e s laid d now t)
      t.act.no_body)

  -- its act isn't done
  pub rows_stopped : (x : Fault) (h : Halt) → p ≡ Err x → Stay d now start done p → (world : World) (meaning : Option ℕ → Meaning) (m : Machine)
      (st : State) (e : Begun) (s : Stage) (laid : Expression) → MayTake world meaning m st e s laid d now → KeepsAnswered {A = Pick} m done (Err h)
  rows_stopped x h same stay world meaning m st e s laid t =
      let stays : Stay d now (past_event now) done (Err x) =
      subst (λ (q : Result Done_as Fault). Stay d now (past_event now) done q) same (subst (λ (k : Machine). Stay d now k done p) is stay) in
      rows_answered {A = Pick} m done (Err h)
      (rows_by m done now.memory done.memory (ap (λ (k : Machine). k.memory) (answered.at steps world meaning m st e s laid d now t).1) refl
      (stays world.rows (answered.can steps world meaning m st e s laid d now t) (answered.given steps world meaning m st e s laid d now t)
      t.act.no_body))

-- ---- the body of a call of a library function
module _ (stands : LibraryStands) (steps : LibrarySteps) (more : CallsMoreRows) (calls_step : LibraryCallSteps) (d : Due) (now start done : Machine)
    (p : Result Done_as Fault) (is : start ≡ past_event now)
    (calls : (number : ℕ) → d.act ≡ act.Call number → CallsNumbered number start (event_at now d.place) done p) where
  module _ (world : World) (meaning : Option ℕ → Meaning) (m : Machine) (st : State) (e : Begun) (s : Stage) (laid : Expression)
      (t : MayCallLibrary world meaning m st e s laid d now) where
    abbrev Raises_at : (q : Result Done_as Fault) → p ≡ q → Type 0
    Raises_at q same = library.Raising stands steps more calls_step d now start done p is calls q same world meaning m st e s laid t

    abbrev Calls_at : (q : Result Done_as Fault) → p ≡ q → Type 0
    Calls_at q same = library.Calling stands steps more calls_step d now start done p is calls q same world meaning m st e s laid t

    either : (q : Result Done_as Fault) (same : p ≡ q) → Raises_at q same ⊎ Calls_at q same
    either q same = library.led stands steps more calls_step d now start done p is calls q same world meaning m st e s laid t

    rows_kept : (q : Result Done_as Fault) (same : p ≡ q) → Calls_at q same → KeepsRows m done
    rows_kept q same c = (library.kept stands steps more calls_step d now start done p is calls q same world meaning m st e s laid t c).rows

    by_done : (same : p ≡ Ok outcome.Done) → Raises_at (Ok outcome.Done) same ⊎ Calls_at (Ok outcome.Done) same → KeepsRows m done
    by_done same (inl x) = absurd x.only
    by_done same (inr c) = rows_kept (Ok outcome.Done) same c

    by_end : (n : ℕ) (same : p ≡ Ok (outcome.End n)) → Raises_at (Ok (outcome.End n)) same ⊎ Calls_at (Ok (outcome.End n)) same → KeepsRows m done
    by_end n same (inl x) = absurd x.only
    by_end n same (inr c) = rows_kept (Ok (outcome.End n)) same c

    by_start : (same : p ≡ Ok outcome.Started) → Raises_at (Ok outcome.Started) same ⊎ Calls_at (Ok outcome.Started) same → KeepsRows m done
    by_start same (inl x) = absurd x.only
    by_start same (inr c) = rows_kept (Ok outcome.Started) same c

    -- a call that raises a clause itself leaves the memory
    by_fault : (line : ℕ) (x : Fault) (same : p ≡ Err x) → Raises_at (Err x) same ⊎ Calls_at (Err x) same →
        KeepsAnswered {A = Pick} m done (Err (halt_by (event_at now d.place) line x))
    by_fault line fault.NoMemory same either = tt
    by_fault line fault.Unplaced same (inl x) = absurd x.only
    by_fault line fault.Unplaced same (inr c) = rows_kept (Err fault.Unplaced) same c
    by_fault line (fault.Over cause number) same (inl x) = absurd x.only
    by_fault line (fault.Over cause number) same (inr c) = rows_kept (Err (fault.Over cause number)) same c
    by_fault line (fault.Raise c) same (inl x) =
        rows_same m done (x.only.1
        ∙ library.memory_is stands steps more calls_step d now start done p is calls (Err (fault.Raise c)) same world meaning m st e s laid t)
    by_fault line (fault.Raise c) same (inr k) = rows_kept (Err (fault.Raise c)) same k

  abbrev Libraries : Machine → Result Pick Halt → Type 0
  Libraries new r = (world : World) (meaning : Option ℕ → Meaning) (m : Machine) (st : State) (e : Begun) (s : Stage) (laid : Expression)
      → MayCallLibrary world meaning m st e s laid d now → KeepsAnswered m new r

  pub called_done : p ≡ Ok outcome.Done → (new : Machine) (r : Result Pick Halt) → KeepsMemory done new r → Libraries new r
  called_done same new r finished world meaning m st e s laid t =
      answered_by m done new r
      (by_done world meaning m st e s laid t same (either world meaning m st e s laid t (Ok outcome.Done) same)) finished

  pub called_ended : (n : ℕ) → p ≡ Ok (outcome.End n) → (new : Machine) (r : Result Pick Halt) → KeepsMemory done new r → Libraries new r
  called_ended n same new r finished world meaning m st e s laid t =
      answered_by m done new r
      (by_end world meaning m st e s laid t n same (either world meaning m st e s laid t (Ok (outcome.End n)) same)) finished

  pub called_started : p ≡ Ok outcome.Started → (event : Event) → Libraries done (Ok (pick.Starts event))
  called_started same event world meaning m st e s laid t =
      by_start world meaning m st e s laid t same (either world meaning m st e s laid t (Ok outcome.Started) same)

  pub called_stopped : (x : Fault) (line : ℕ) (h : Halt) → p ≡ Err x → h ≡ halt_by (event_at now d.place) line x → Libraries done (Err h)
  called_stopped x line h same halts world meaning m st e s laid t =
      subst (λ (k : Halt). KeepsAnswered {A = Pick} m done (Err k)) (sym halts)
      (by_fault world meaning m st e s laid t line x same (either world meaning m st e s laid t (Err x) same))

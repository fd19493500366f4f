-- Nothing was written where a clause is raised or a limit is passed, by the calls of which a pick consists.
use Rattle.std.proofs.Common.{◌≡◌, ℕ, sym, ap, ◌∙◌, subst, Option, Result, Ok, Err}
use Rattle.std.specs.Prelude.{OnErr}
use Rattle.ub_base.specs.declared.names.Event.{Event}
use Rattle.run_layout.specs.declared.steps.Due.{Due}
use Rattle.run_layout.specs.declared.steps.ObjectCode.{ObjectCode}
use Rattle.run_layout.specs.declared.whole.Code.{Code}
use Rattle.run_state.specs.declared.halt.Halt.{Halt}
use Rattle.run_state.specs.declared.halt.Halt.TheVariants as halt
use Rattle.run_state.specs.declared.machine.Machine.{Machine}
use Rattle.run_answers.specs.declared.fault.Fault.{Fault}
use Rattle.run_answers.specs.declared.outcome.Outcome.{Outcome}
use Rattle.run_answers.specs.declared.pick.Pick.{Pick}
use Rattle.run_answers.specs.Entering.{CreatesOne}
use Rattle.run_answers.specs.Rows.{KeepsMemory}
use Rattle.run_answers.specs.Taking.{FollowsEvent, past_event}
use Rattle.run_machine.specs.Written.{KeepsStreams}

-- where the streams stay, whatever is answered
streams_by : (m n : Machine) (h : Halt) → n.streams ≡ m.streams → KeepsStreams {A = Pick} m n (Err h)
streams_by m n (halt.Raised event line clause) same = same
streams_by m n (halt.Over cause number) same = same
streams_by m n halt.Unplaced same = tt
streams_by m n halt.NoMemory same = tt

-- a machine with the same streams before
pub streams_then : {A : Type 0} (a b c : Machine) (r : Result A Halt) → b.streams ≡ a.streams → KeepsStreams b c r → KeepsStreams a c r
streams_then a b c (Ok x) first second = tt
streams_then a b c (Err (halt.Raised event line clause)) first second = second ∙ first
streams_then a b c (Err (halt.Over cause number)) first second = second ∙ first
streams_then a b c (Err halt.Unplaced) first second = tt
streams_then a b c (Err halt.NoMemory) first second = tt

-- where memory alone may be wanted
pub streams_none : {A : Type 0} (m n : Machine) (r : Result A Halt) → KeepsMemory m n r → KeepsStreams m n r
streams_none {A} m n (Ok x) is = tt
streams_none {A} m n (Err h) is = subst (λ (k : Halt). KeepsStreams {A = A} m n (Err k)) (sym is) tt

-- what is answered there is handed on
pub streams_err : (A B : Type 0) (m n : Machine) (h : Halt) → KeepsStreams {A = A} m n (Err h) → KeepsStreams {A = B} m n (Err h)
streams_err A B m n (halt.Raised event line clause) is = is
streams_err A B m n (halt.Over cause number) is = is
streams_err A B m n halt.Unplaced is = tt
streams_err A B m n halt.NoMemory is = tt

pub streams_handed : (a b n : Machine) (r : Result (Option ℕ) Halt) (y e : Halt) → r ≡ Err y → y ≡ e → b.streams ≡ a.streams
    → KeepsStreams {A = Unit {0}} b n (Err e) → KeepsStreams a n r
streams_handed a b n r y e fails fault first is =
    subst (λ (q : Result (Option ℕ) Halt). KeepsStreams a n q) (sym (fails ∙ ap Err fault))
    (streams_then {A = Option ℕ} a b n (Err e) first (streams_err (Unit {0}) (Option ℕ) b n e is))

-- ---- an object is created
one_created : (a m n : Machine) (o : ObjectCode) (first k : ℕ) (h : Halt) → CreatesOne m o first k n (Err h) → KeepsStreams {A = Unit {0}} a n (Err h)
one_created a m n o first k (halt.Raised event line clause) is = absurd is
one_created a m n o first k (halt.Over cause number) is = absurd is
one_created a m n o first k halt.Unplaced is = tt
one_created a m n o first k halt.NoMemory is = tt

pub created_streams : (a m n : Machine) (o : ObjectCode) (first k : ℕ) (r : Result (Unit {0}) Halt) (y e : Halt) → r ≡ Err y → y ≡ e
    → CreatesOne m o first k n (Err e) → KeepsStreams a n r
created_streams a m n o first k r y e fails fault is =
    subst (λ (q : Result (Unit {0}) Halt). KeepsStreams a n q) (sym (fails ∙ ap Err fault)) (one_created a m n o first k e is)

-- ---- an event
pub finished_streams : (a : Machine) (code : Code) (event : Event) (status : Option ℕ) (d : Due) (old new : Machine) (r : Result Pick Halt)
    → FollowsEvent code event status d old new r → KeepsStreams a new r
finished_streams a code event status d old new (Ok p) f = tt
finished_streams a code event status d old new (Err h) f = subst (λ (k : Halt). KeepsStreams {A = Pick} a new (Err k)) (sym f) tt

pub stopped_streams : (now start done : Machine) (p : Result Outcome Fault) (x : Fault) (h : Halt) → start ≡ past_event now → p ≡ Err x
    → OnErr p (done.streams ≡ start.streams) → KeepsStreams {A = Pick} now done (Err h)
stopped_streams now start done p x h is fails stay =
    streams_by now done h (subst (λ (q : Result Outcome Fault). OnErr q (done.streams ≡ start.streams)) fails stay
    ∙ ap (λ (k : Machine). k.streams) is)

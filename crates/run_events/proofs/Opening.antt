-- Only the body of an isolated initializer is said to open a frame.
use Rattle.std.proofs.Common.{◌≡◌, ℕ, refl, Result}
use Rattle.ub_base.specs.declared.names.Event.{Event}
use Rattle.run_layout.specs.declared.steps.Act.{Act}
use Rattle.run_layout.specs.declared.steps.Act.TheVariants as act
use Rattle.run_state.specs.declared.machine.Machine.{Machine}
use Rattle.run_answers.specs.declared.outcome.Outcome.{Outcome}
use Rattle.run_answers.specs.declared.fault.Fault.{Fault}
use Rattle.run_answers.specs.Opens.{Opens}

pub opens_none : (old new : Machine) (a : Act) (event : Event) (r : Result Outcome Fault) → ((n : ℕ) → a ≡ act.Initialize n → ⊥) → Opens old a event new r
opens_none old new (act.Store n place value) event r is_none = tt
opens_none old new (act.Fill object n) event r is_none = tt
opens_none old new (act.Load how ty place) event r is_none = tt
opens_none old new (act.Convert c o) event r is_none = tt
opens_none old new (act.Unary op o) event r is_none = tt
opens_none old new (act.Binary op kind x y) event r is_none = tt
opens_none old new (act.Move size subtract p i) event r is_none = tt
opens_none old new (act.Distance size x y) event r is_none = tt
opens_none old new (act.Related op pointers x y) event r is_none = tt
opens_none old new (act.Equal op x y) event r is_none = tt
opens_none old new (act.Member offset p) event r is_none = tt
opens_none old new (act.Part offset how o) event r is_none = tt
opens_none old new (act.Same o) event r is_none = tt
opens_none old new (act.Logical either x y) event r is_none = tt
opens_none old new (act.Selected test x y) event r is_none = tt
opens_none old new (act.Change c old_value ty place o room) event r is_none = tt
opens_none old new (act.Call n) event r is_none = tt
opens_none old new (act.Answer discarded) event r is_none = tt
opens_none old new (act.Initialize n) event r is_none = absurd (is_none n refl)
opens_none old new act.Nothing event r is_none = tt

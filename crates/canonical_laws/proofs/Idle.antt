-- The frame of an isolated initializer has no result in the machine.
use Rattle.std.proofs.Common.{◌≡◌, ◌∷◌, ℕ, List, [], length, Option, Some, None, Result, Ok, Err, refl, sym, ap, subst, ◌∙◌}
use Rattle.std.proofs.lemmas.Option.{same_Some}
use Rattle.c_typed.specs.declared.program.Program.{Program}
use Rattle.c_model.specs.Control as model
use Rattle.c_model.specs.Runs.{State}
use Rattle.c_model.specs.Steps.{Begun, Scene}
use Rattle.c_model.specs.World.{World}
use Rattle.mem_objects.specs.declared.value.Value.{Value as Kept_value}
use Rattle.run_control.specs.declared.work.Use.{Use}
use Rattle.run_control.specs.declared.work.Use.TheVariants as for_use
use Rattle.run_control.specs.View.{Meaning, use_of}
use Rattle.run_layout.specs.declared.steps.Operand.{Operand}
use Rattle.run_statements.specs.declared.numbers.Numbers.{Numbers}
use Rattle.run_state.specs.declared.machine.Machine.{Machine}
use Rattle.run_state.specs.declared.machine.Open.{Open}
use Rattle.run_state.specs.declared.machine.Stage.{Stage}
use Rattle.run_state.specs.Stands.{StandsBegun, StandsFrame}
use Rattle.run_answers.specs.declared.pick.Completed.{Completed}
use Rattle.run_answers.specs.Keeping.{EndsTop, KeepsFrames, KeepsStep, ResultAfter, ResultBehind, StaysClosed, begins, ends, machine_with, stays}
use Rattle.run_answers.specs.Taking.{EventStands}
use Rattle.code_view.specs.Numbering.{meaning_of}
use Rattle.value_facts.specs.Unresulted.{ResultIsLast}
use Rattle.control_laws.proofs.Laws.{top_frame}
use Rattle.run_laws.specs.Going.{IsGoing}
use Rattle.canonical_laws.specs.Idle.{CallLeavesNone, EventLeavesNone, InitializerLeavesNone, IsIdle, LibraryLeavesNone, StepStaysIdle}

-- ---- a full expression whose value has no use leaves the result as it was
unused_behind : (meaning : Meaning) (old : Machine) (o : Operand) (how : Use) (left : Option Kept_value) → use_of meaning how ≡ model.Unused
    → ResultBehind old o how left → left ≡ old.left
unused_behind meaning old o for_use.Result left is r = absurd (cc (is))
unused_behind meaning old o _ left is r = r

module _ (world : World) (meaning : Meaning) (old : Machine) (height : ℕ) (left : Option Kept_value) where
  unused_after : (stage : Option Stage) (f : Scene) (b : Option Begun) → StandsBegun world meaning old height old.top stage f b None
      → ((e : Begun) → b ≡ Some e → e.what ≡ model.Unused) → ResultAfter old stage left → left ≡ old.left
  unused_after None f b x what r = r
  unused_after (Some s) f None x what r = absurd x
  unused_after (Some s) f (Some e) x what r = unused_behind meaning old s.value old.top.how left (x.what ∙ what e refl) r

-- ---- a control step
module _ (world : World) (p : Program) (numbers : Numbers) (old new : Machine) (st : State) (n : ℕ) (g : IsGoing world p numbers old st n)
    (last : ResultIsLast st.top st.top.function) (idle : IsIdle old) where
  abbrev meaning : Option ℕ → Meaning
  meaning = meaning_of p numbers old.image.code.now

  frame : StandsFrame world (meaning old.top.function) old (length old.below.items) old.top old.work.now old.left st.top None
  frame = top_frame world meaning old st g.stands

  function_kept : KeepsFrames old new → new.top.function ≡ old.top.function
  function_kept k = ap (λ (m : Machine). m.top.function) k.rest

  -- the value of an isolated initializer has no use
  unused : (f : Option ℕ) → f ≡ None → ResultIsLast st.top f → (e : Begun) → st.top.begun ≡ Some e → e.what ≡ model.Unused
  unused None is r e begun = r.begun e begun
  unused (Some k) is r e begun = absurd (cc (is))

  stays_idle : StaysClosed old new → IsIdle new
  stays_idle k none =
      let before : old.top.function ≡ None = sym (function_kept k.keeps) ∙ none in
      unused_after world (meaning old.top.function) old (length old.below.items) new.left old.top.stage st.top.scene st.top.begun frame.begun
      (unused st.top.function (sym frame.function ∙ before) last) k.result ∙ idle before

  pub step_idle : KeepsStep old new → IsIdle new
  step_idle (stays k) = stays_idle k
  step_idle (begins b) = λ none. b.left ∙ idle (sym (function_kept b.keeps) ∙ none)
  step_idle (ends z) = λ none. ap (λ (m : Machine). m.left) z.rest

pub steps_stay_idle : StepStaysIdle
steps_stay_idle world p numbers old new st n g unresulted idle k = step_idle world p numbers old new st n g unresulted.0 idle k

-- ---- an event
pub events_leave_none : EventStands → EventLeavesNone
events_leave_none stands world meaning old new st e s laid u event completed answers may is rows =
    let taken = answers world meaning st e s laid u may is rows in
    (stands world meaning (record old { items = [] }) new st e s laid taken.0 taken.1 taken.3).result

pub libraries_leave_none : LibraryLeavesNone
libraries_leave_none world meaning old new st e s laid u event completed answers may is rows =
    let called = answers world meaning st e s laid u may is in
    (called.answers rows).stands.result

pub initializers_leave_none : InitializerLeavesNone
initializers_leave_none world meaning old new st e s u event answers may is = (answers world meaning st e s u may is).0.3.result

pub calls_leave_none : CallLeavesNone
calls_leave_none world meaning old new st e s u event answers may is = (answers world meaning st e s u may is).0.3.result

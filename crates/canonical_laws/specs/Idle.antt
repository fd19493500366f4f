-- The frame of an isolated initializer has no result in the machine (6.7.9p23).
use Rattle.std.specs.Prelude.{◌≡◌, ℕ, Option, None, Result, Ok}
use Rattle.ub_base.specs.declared.names.Event.{Event}
use Rattle.ub_base.specs.declared.names.Frame.{Frame}
use Rattle.c_typed.specs.declared.program.Program.{Program}
use Rattle.c_typed.specs.declared.tree.Place.{Place}
use Rattle.mem_laws.specs.MoreRows.{Extends}
use Rattle.mem_objects.specs.Keeps.{RowsStay}
use Rattle.c_model.specs.Runs.{State, canonical_pick}
use Rattle.c_model.specs.Steps.{Begun, Ev}
use Rattle.c_model.specs.World.{World}
use Rattle.run_control.specs.View.{Meaning}
use Rattle.run_layout.specs.declared.steps.Expression.{Expression as Laid}
use Rattle.run_statements.specs.declared.numbers.Numbers.{Numbers}
use Rattle.run_state.specs.declared.machine.Machine.{Machine}
use Rattle.run_state.specs.declared.machine.Stage.{Stage}
use Rattle.run_answers.specs.declared.pick.Completed.{Completed}
use Rattle.run_answers.specs.declared.pick.Pick.TheVariants as pick
use Rattle.run_answers.specs.Keeping.{KeepsStep}
use Rattle.run_answers.specs.Library.{AnswersNextLibrary, MayCallLibraryNext}
use Rattle.run_answers.specs.Starting.{AnswersNextBody, AnswersNextCall, MayCallNext, MayStartNext}
use Rattle.run_answers.specs.Taking.{AnswersNext, MayTakeNext}
use Rattle.value_facts.specs.Unresulted.{IsUnresulted}
use Rattle.run_laws.specs.Going.{IsGoing}

-- a machine whose top frame, if it is that of an isolated initializer, has no result
abbrev pub IsIdle : Machine → Type 0
IsIdle m = m.top.function ≡ None → m.left ≡ None

-- 1. A control step keeps it so.
abbrev pub StepStaysIdle : Type 0
StepStaysIdle = (world : World) (p : Program) (numbers : Numbers) (old new : Machine) (st : State) (n : ℕ) → IsGoing world p numbers old st n
    → IsUnresulted st → IsIdle old → KeepsStep old new → IsIdle new

-- 2. Behind an event no frame that is the top one has a result: an event that isn't a body, ..
abbrev pub EventLeavesNone : Type 0
EventLeavesNone =
    (world : World) (meaning : Option ℕ → Meaning) (old new : Machine) (st : State) (e : Begun) (s : Stage) (laid : Laid) (u : Place)
    (event : Event) (completed : Completed) → AnswersNext old new (Ok (pick.Event event completed None)) → MayTakeNext world meaning old st e s laid
    → canonical_pick world st.top st.top.begun ≡ Ev u → RowsStay new.memory.rows world.rows → new.left ≡ None

-- .. the body of a call of a function of the library, ..
abbrev pub LibraryLeavesNone : Type 0
LibraryLeavesNone =
    (world : World) (meaning : Option ℕ → Meaning) (old new : Machine) (st : State) (e : Begun) (s : Stage) (laid : Laid) (u : Place)
    (event : Event) (completed : Completed) → AnswersNextLibrary old new (Ok (pick.Event event completed None))
    → MayCallLibraryNext world meaning old st e s laid → canonical_pick world st.top st.top.begun ≡ Ev u → Extends new.memory.rows world.rows → new.left ≡ None

-- .. or a body that starts a frame.
abbrev pub InitializerLeavesNone : Type 0
InitializerLeavesNone =
    (world : World) (meaning : Option ℕ → Meaning) (old new : Machine) (st : State) (e : Begun) (s : Stage) (u : Place) (event : Event)
    → AnswersNextBody old new (Ok (pick.Starts event)) → MayStartNext world meaning old st e s → canonical_pick world st.top st.top.begun ≡ Ev u
    → new.left ≡ None

abbrev pub CallLeavesNone : Type 0
CallLeavesNone =
    (world : World) (meaning : Option ℕ → Meaning) (old new : Machine) (st : State) (e : Begun) (s : Stage) (u : Place) (event : Event)
    → AnswersNextCall old new (Ok (pick.Starts event)) → MayCallNext world meaning old st e s → canonical_pick world st.top st.top.begun ≡ Ev u
    → new.left ≡ None

-- What the body of a call of a library function completes, which is taken along the canonical way (own).
use Rattle.std.specs.Prelude.{◌≡◌, ℕ, true, List, Option, Some, None, Result, Ok, Err}
use Rattle.c_types.specs.declared.library.LibFunc.{LibFunc}
use Rattle.c_types.specs.Types.{CType}
use Rattle.c_typed.specs.declared.tree.Place.{Place}
use Rattle.mem_laws.specs.MoreRows.{Extends}
use Rattle.mem_objects.specs.declared.value.Value.{Value as Kept_value}
use Rattle.libc_spec.specs.Library.{LibValue}
use Rattle.c_model.specs.Completions.{completed_by}
use Rattle.c_model.specs.Libraries.{result}
use Rattle.c_model.specs.Program.{tree_of}
use Rattle.c_model.specs.Runs.{Outcome, Running, State, canonical_pick, step}
use Rattle.c_model.specs.Steps.{Begun, Ev, is_done, taken_by, with_given}
use Rattle.c_model.specs.World.{World}
use Rattle.run_control.specs.View.{Meaning}
use Rattle.run_layout.specs.declared.steps.Due.{Due}
use Rattle.run_layout.specs.declared.steps.Expression.{Expression}
use Rattle.run_state.specs.declared.halt.Halt.{Halt}
use Rattle.run_state.specs.declared.machine.Machine.{Machine}
use Rattle.run_state.specs.declared.machine.Stage.{Stage}
use Rattle.run_answers.specs.declared.pick.Completed.{Completed}
use Rattle.run_answers.specs.declared.pick.Pick.{Pick}
use Rattle.run_answers.specs.declared.pick.Pick.TheVariants as pick
use Rattle.run_answers.specs.Completing.{CompletesIn, CompletesNoted, completed_seen}
use Rattle.run_answers.specs.Library.{MayCallLibrary, MayCallLibraryNext, TakesCall}

-- What the code has noted of it is what the definitions say of it in the state behind it.
abbrev pub LibraryCompletes : Type 0
LibraryCompletes =
    (world : World) (meaning : Option ℕ → Meaning) (old new : Machine) (st : State) (e : Begun) (s : Stage) (laid : Expression) (d : Due) (f : LibFunc)
    (ts : List CType) (hs : List Kept_value) (w : LibValue) → TakesCall world meaning old st e s laid d f ts hs w new → s.straight ≡ true → (c : Completed)
    → CompletesNoted d new c
    → completed_seen c
    ≡ completed_by (tree_of e.root) (taken_by world st.top.scene (with_given e d.place (result w))) (is_done (with_given e d.place (result w))) d.place.node

-- the pick says so of the state that the definitions go on to, in a world whose rows extend those that the machine then has
abbrev pub CompletesCalled : World → Result Pick Halt → Place → (new : Machine) → Outcome → Type 0
CompletesCalled world (Ok (pick.Event event completed None)) u new o = Extends new.memory.rows world.rows → (st : State) → o ≡ Running st
    → CompletesIn world completed u st
CompletesCalled world (Ok (pick.Event event completed (Some status))) u new o = Unit {0}
CompletesCalled world (Ok (pick.Starts event)) u new o = Unit {0}
CompletesCalled world (Ok (pick.Step status)) u new o = Unit {0}
CompletesCalled world (Err halt) u new o = Unit {0}

-- such a body, to which the machine has gone on along the canonical way
abbrev pub CompletesLibrary : Due → (old new : Machine) → Result Pick Halt → Type 0
CompletesLibrary d old new r =
    (world : World) (meaning : Option ℕ → Meaning) (m : Machine) (st : State) (e : Begun) (s : Stage) (laid : Expression)
    → MayCallLibrary world meaning m st e s laid d old → s.straight ≡ true → CompletesCalled world r d.place new (step world st (Ev d.place))

-- .. and the one that comes next
abbrev pub CompletesNextLibrary : (old new : Machine) → Result Pick Halt → Type 0
CompletesNextLibrary old new r =
    (world : World) (meaning : Option ℕ → Meaning) (st : State) (e : Begun) (s : Stage) (laid : Expression) (u : Place)
    → MayCallLibraryNext world meaning old st e s laid → canonical_pick world st.top st.top.begun ≡ Ev u
    → CompletesCalled world r u new (step world st (Ev u))

-- Behind each pick along the canonical order the machine goes on (own).
use Rattle.std.specs.Prelude.{◌≡◌, ◌<◌, ◌^◌, ℕ, suc, List, Some}
use Rattle.ub_base.specs.declared.names.Frame.{Frame}
use Rattle.ub_base.specs.declared.names.Item.{Item}
use Rattle.c_types.specs.declared.library.LibFunc.{LibFunc}
use Rattle.c_types.specs.Types.{CType}
use Rattle.c_typed.specs.declared.program.Program.{Program}
use Rattle.c_typed.specs.declared.tree.Place.{Place}
use Rattle.libc_spec.specs.Library.{LibValue}
use Rattle.mem_objects.specs.declared.value.Value.{Value as Kept_value}
use Rattle.c_model.specs.Libraries.{result}
use Rattle.c_model.specs.Runs.{Running, State, canonical_pick, step}
use Rattle.c_model.specs.Steps.{Begun, Control, Ev, with_given}
use Rattle.c_model.specs.Values.{Value}
use Rattle.c_model.specs.World.{World}
use Rattle.run_layout.specs.declared.nodes.NodeInfo.{NodeInfo}
use Rattle.run_layout.specs.declared.steps.Due.{Due}
use Rattle.run_layout.specs.declared.steps.Expression.{Expression as Laid}
use Rattle.run_statements.specs.declared.numbers.Numbers.{Numbers}
use Rattle.run_state.specs.declared.machine.Machine.{Machine}
use Rattle.run_state.specs.declared.machine.Stage.{Stage}
use Rattle.run_state.specs.Stands.{Stands}
use Rattle.run_answers.specs.Answering.{IsWithin, MayGoOn}
use Rattle.run_answers.specs.Keeping.{KeepsStep}
use Rattle.run_answers.specs.Library.{TakesCall}
use Rattle.run_answers.specs.Starting.{CallsFunction, StartsIsolated, numbered}
use Rattle.run_answers.specs.Taking.{StandsOpen, TakesEvent, after_event, store_after}
use Rattle.code_view.specs.Numbering.{meaning_of}
use Rattle.run_laws.specs.Open.{IsOpen}
use Rattle.run_laws.specs.Going.{IsGoing}

-- 1. An event that isn't a body, of the full expression that is open.
abbrev pub EventGoesOn : Type 0
EventGoesOn =
    (world : World) (p : Program) (numbers : Numbers) (old new : Machine) (st : State) (n : ℕ) (e : Begun) (s : Stage) (laid : Laid) (firsts : List ℕ)
    (nodes : List NodeInfo) (d : Due) (v : Value) → IsGoing world p numbers old st n
    → IsOpen world (meaning_of p numbers old.image.code.now) old st e s laid firsts nodes
    → TakesEvent world (meaning_of p numbers old.image.code.now) old st e s laid d v new
    → step world st (Ev d.place) ≡ Running (after_event world st e d.place v new.items (store_after new))
    → IsWithin world (after_event world st e d.place v new.items (store_after new)) → suc n < 2 ^ 32
    → IsGoing world p numbers new (after_event world st e d.place v new.items (store_after new)) (suc n)

-- .. and the body of a call of a library function, which is done at once
abbrev pub LibraryGoesOn : Type 0
LibraryGoesOn =
    (world : World) (p : Program) (numbers : Numbers) (old new : Machine) (st : State) (n : ℕ) (e : Begun) (s : Stage) (laid : Laid) (d : Due)
    (f : LibFunc) (ts : List CType) (hs : List Kept_value) (w : LibValue) (is : List Item) → IsGoing world p numbers old st n
    → TakesCall world (meaning_of p numbers old.image.code.now) old st e s laid d f ts hs w new
    → StandsOpen world (meaning_of p numbers old.image.code.now) new (after_event world st e d.place (result w) is (store_after new))
    (with_given e d.place (result w)) → step world st (Ev d.place) ≡ Running (after_event world st e d.place (result w) is (store_after new))
    → IsWithin world (after_event world st e d.place (result w) is (store_after new)) → suc n < 2 ^ 32
    → IsGoing world p numbers new (after_event world st e d.place (result w) is (store_after new)) (suc n)

-- 2. A body that starts the frame of an isolated initializer, or of a function: so the machine goes on once the frame has the number that the world gives it.
abbrev pub InitializerGoesOn : Type 0
InitializerGoesOn =
    (world : World) (p : Program) (numbers : Numbers) (old new : Machine) (st after : State) (n : ℕ) (e : Begun) (s : Stage) (u : Place) (frame : Frame)
    → IsGoing world p numbers old st n → old.top.stage ≡ Some s → st.top.begun ≡ Some e → canonical_pick world st.top st.top.begun ≡ Ev u
    → step world st (Ev u) ≡ Running after → StartsIsolated world old st e s u new (Running after)
    → Stands world (meaning_of p numbers old.image.code.now) (numbered new frame) after → IsWithin world after → suc n < 2 ^ 32
    → IsGoing world p numbers (numbered new frame) after (suc n)

abbrev pub CallGoesOn : Type 0
CallGoesOn =
    (world : World) (p : Program) (numbers : Numbers) (old new : Machine) (st after : State) (n : ℕ) (e : Begun) (s : Stage) (u : Place) (frame : Frame)
    → IsGoing world p numbers old st n → st.top.begun ≡ Some e → canonical_pick world st.top st.top.begun ≡ Ev u
    → step world st (Ev u) ≡ Running after → CallsFunction world (meaning_of p numbers old.image.code.now) old st e s u new (Running after)
    → Stands world (meaning_of p numbers old.image.code.now) (numbered new frame) after → IsWithin world after → suc n < 2 ^ 32
    → IsGoing world p numbers (numbered new frame) after (suc n)

-- 3. A control step.
abbrev pub StepGoesOn : Type 0
StepGoesOn =
    (world : World) (p : Program) (numbers : Numbers) (old new : Machine) (st after : State) (n : ℕ) → IsGoing world p numbers old st n
    → MayGoOn world old st → KeepsStep old new → step world st Control ≡ Running after
    → Stands world (meaning_of p numbers old.image.code.now) new after → IsWithin world after → suc n < 2 ^ 32
    → IsGoing world p numbers new after (suc n)

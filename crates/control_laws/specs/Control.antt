-- What control steps ask of a machine along the canonical order of a run, and what picks ask of its open full expression (own).
use Rattle.std.specs.Prelude.{◌≡◌, ℕ, suc, List, [], ◌∷◌, length, Option, Some, None, slice_get}
use Rattle.c_types.specs.declared.ty.FuncTy.{out-FuncTy}
use Rattle.c_typed.specs.declared.program.Function.{Function}
use Rattle.c_typed.specs.declared.program.Program.{Program}
use Rattle.c_model.specs.Control.{Todo, Enter, ready_work}
use Rattle.c_model.specs.Program.{Decl}
use Rattle.c_model.specs.Runs.{State, canonical_pick}
use Rattle.c_model.specs.Steps.{Begun, Control, auto_name}
use Rattle.c_model.specs.Values.{Value}
use Rattle.c_model.specs.World.{World}
use Rattle.run_statements.specs.declared.numbers.Numbers.{Numbers}
use Rattle.run_layout.specs.declared.nodes.NodeInfo.{NodeInfo}
use Rattle.run_layout.specs.declared.steps.Expression.{Expression as Laid}
use Rattle.run_layout.specs.Initializers.{NumberInitializers}
use Rattle.run_state.specs.declared.machine.Machine.{Machine}
use Rattle.run_state.specs.declared.machine.Stage.{Stage}
use Rattle.run_answers.specs.Answering.{MayGoOn}
use Rattle.run_answers.specs.Passing.{TakesValue}
use Rattle.code_view.specs.Numbering.{meaning_of}
use Rattle.run_laws.specs.Open.{IsLawfulCode, IsOpen}
use Rattle.value_facts.specs.Small.{AreSmall, HasSmallBytes, ListsAreSmall}
use Rattle.run_laws.specs.Going.{IsGoing}

-- 1. What is asked beside that a machine is going.

-- Where a block is entered that has these objects: a frame whose body isn't entered yet has an argument for each parameter (6.5.2.2p4, 6.9.1p10), and
-- each is one that its object takes.
pub record HasArguments (world : World) (p : Program) (st : State) (ds : List Decl) : Type 0 where
  pub count : (n : ℕ) (f : Function) → st.top.scene.blocks ≡ [] → st.top.function ≡ Some n → slice_get p.functions n ≡ Some f
      → length st.top.arguments ≡ length (out-FuncTy f.ty).params
  pub takes : (k : ℕ) (d : Decl) (v : Value) → slice_get ds k ≡ Some d → slice_get st.top.arguments k ≡ Some v
      → TakesValue world.rows (auto_name world st.top.scene (suc st.top.scene.turn) k) d v

abbrev pub AsksOfEnter : World → Program → State → Todo → Type 0
AsksOfEnter world p st (Enter b ds ∷ rest) = HasArguments world p st ds
AsksOfEnter world p st todo = Unit {0}

pub record IsAtControl (world : World) (p : Program) (m : Machine) (st : State) : Type 0 where
  pub enters : st.top.begun ≡ None → AsksOfEnter world p st (ready_work st.top.todo)

-- 2. Where the control step is the canonical pick, the machine can take it.
abbrev pub ControlGoesOn : Type 0
ControlGoesOn = (world : World) (p : Program) (numbers : Numbers) (m : Machine) (st : State) (n : ℕ) → IsGoing world p numbers m st n
    → IsAtControl world p m st → canonical_pick world st.top st.top.begun ≡ Control → MayGoOn world m st

-- 3. A full expression that is open in the top frame is open as picks ask it, where the frame has no result yet, the code is that of a lawful program, its
-- trees too, and values, bytes and lists are small.
pub record OpensSmall (m : Machine) (st : State) (e : Begun) : Type 0 where
  pub result : m.left ≡ None
  pub code : IsLawfulCode m.program.now m.image.code.now
  pub given : AreSmall e.given
  pub bytes : HasSmallBytes st.store
  pub lists : ListsAreSmall e.root

-- The full expression of this stage, as it is laid out by some nodes. Each isolated initializer in it has the number of the full expression of its own tree
-- (6.7.9p23).
pub record IsOpenAs (world : World) (p : Program) (numbers : Numbers) (m : Machine) (st : State) (e : Begun) (s : Stage) : Type 0 where
  pub laid : Laid
  pub firsts : List ℕ
  pub nodes : List NodeInfo
  pub open_so : IsOpen world (meaning_of p numbers m.image.code.now) m st e s laid firsts nodes
  pub initializers : NumberInitializers m.image.code.now nodes

abbrev pub OpenStandsSo : Type 0
OpenStandsSo = (world : World) (p : Program) (numbers : Numbers) (m : Machine) (st : State) (n : ℕ) (e : Begun) (s : Stage)
    → IsGoing world p numbers m st n → st.top.begun ≡ Some e → m.top.stage ≡ Some s → OpensSmall m st e
    → IsOpenAs world p numbers m st e s

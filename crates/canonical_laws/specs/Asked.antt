-- At each canonical pick that is an event of a machine that is going everything is there that picks ask, whichever kind of event it is (own).
use Rattle.std.specs.Prelude.{◌≡◌, ◌≤◌, ◌<◌, ◌^◌, ℕ, suc, false, List, length, Option, Some, slice_get}
use Rattle.ub_base.specs.declared.clause.Kind.TheVariants.{Body}
use Rattle.c_typed.specs.declared.program.Program.{Program}
use Rattle.c_typed.specs.declared.tree.Place.{Place}
use Rattle.c_typed.specs.Order.{is_body}
use Rattle.mem_laws.specs.MoreRows.{Extends}
use Rattle.c_model.specs.Runs.{State, canonical_pick}
use Rattle.c_model.specs.Steps.{Begun, Ev}
use Rattle.c_model.specs.World.{World}
use Rattle.run_control.specs.View.{Meaning}
use Rattle.run_layout.specs.declared.nodes.NodeInfo.{NodeInfo}
use Rattle.run_layout.specs.declared.steps.Expression.{Expression as Laid}
use Rattle.run_statements.specs.declared.numbers.Numbers.{Numbers}
use Rattle.run_state.specs.declared.machine.Machine.{Machine}
use Rattle.run_state.specs.declared.machine.Stage.{Stage}
use Rattle.run_answers.specs.Library.{MayCallLibraryNext}
use Rattle.run_answers.specs.Starting.{MayCallNext, MayStartNext}
use Rattle.run_answers.specs.Taking.{MayTakeNext, untouched}
use Rattle.code_view.specs.Numbering.{meaning_of}
use Rattle.value_facts.specs.Held.{HoldsOnly, KeepsSmall}
use Rattle.value_facts.specs.Sources.{IsPlaced}
use Rattle.value_facts.specs.Unresulted.{IsUnresulted}
use Rattle.run_laws.specs.Open.{IsOpen}
use Rattle.run_laws.specs.Going.{IsGoing}
use Rattle.canonical_laws.specs.Idle.{IsIdle}

-- 1. What is asked beside that a machine is going after so many picks: the world keeps values small, the state's values are placed, and a frame has its
-- result only at its end; no more frames are held than picks were taken; the world has the rows of the memory.
pub record IsAsked (world : World) (p : Program) (numbers : Numbers) (m : Machine) (st : State) (n : ℕ) : Type 0 where
  pub going : IsGoing world p numbers m st n
  pub small : KeepsSmall world
  pub placed : HoldsOnly (IsPlaced world) st
  pub unresulted : IsUnresulted st
  pub idle : IsIdle m
  pub held : length st.held ≤ n
  pub few : suc n < 2 ^ 32
  pub extends : Extends m.memory.rows world.rows

-- 2. The event of this place may be taken, of a full expression that is open: it isn't a body, or it is the body of an isolated initializer (6.7.9p23), or
-- that of a call (6.5.2.2p10), of a function of the program or of the library.
module _ (world : World) (meaning : Option ℕ → Meaning) (m : Machine) (st : State) (e : Begun) (s : Stage) (laid : Laid) where
  pub data MayPickNext (u : Place) : Type 0 where
    plain : is_body u.kind ≡ false → MayTakeNext world meaning m st e s laid → MayPickNext u
    initializer : u.kind ≡ Body → MayStartNext world meaning m st e s → MayPickNext u
    call : u.kind ≡ Body → MayCallNext world meaning m st e s → MayPickNext u
    library : u.kind ≡ Body → MayCallLibraryNext world meaning m st e s laid → MayPickNext u

-- 3. The full expression that is open in the top frame, as picks ask it, of the machine, and of the one that has touched nothing yet; and its event of this
-- place may be taken.
pub record IsEventNext (world : World) (meaning : Option ℕ → Meaning) (m : Machine) (st : State) (u : Place) : Type 0 where
  pub expression : Begun
  pub begun : st.top.begun ≡ Some expression
  pub stage : Stage
  pub staged : m.top.stage ≡ Some stage
  pub laid : Laid
  pub firsts : List ℕ
  pub nodes : List NodeInfo
  pub open_so : IsOpen world meaning m st expression stage laid firsts nodes
  pub clear : IsOpen world meaning (untouched m) st expression stage laid firsts nodes
  pub may : MayPickNext world meaning m st expression stage laid u

abbrev pub EventIsAsked : Type 0
EventIsAsked = (world : World) (p : Program) (numbers : Numbers) (m : Machine) (st : State) (n : ℕ) (u : Place) → IsAsked world p numbers m st n
    → canonical_pick world st.top st.top.begun ≡ Ev u → IsEventNext world (meaning_of p numbers m.image.code.now) m st u

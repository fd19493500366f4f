-- A full expression that is open in the top frame of a machine, over the code of a lawful program (own).
use Rattle.std.specs.Prelude.{◌≡◌, ℕ, List, Option, Some, slice_get}
use Rattle.ub_base.specs.declared.names.Item.{Item}
use Rattle.c_typed.specs.declared.program.Program.{Program}
use Rattle.c_typed.specs.Lawful.{IsLawful}
use Rattle.c_model.specs.Steps.{Begun}
use Rattle.c_model.specs.World.{World}
use Rattle.run_control.specs.View.{Meaning}
use Rattle.c_model.specs.Runs.{State}
use Rattle.run_layout.specs.declared.nodes.NodeInfo.{NodeInfo}
use Rattle.run_layout.specs.declared.steps.Expression.{Expression as Laid}
use Rattle.run_layout.specs.declared.whole.Code.{Code}
use Rattle.run_layout.specs.LaidOut.{LaidOutBy}
use Rattle.run_state.specs.declared.machine.Machine.{Machine}
use Rattle.run_state.specs.declared.machine.Stage.{Stage}
use Rattle.run_answers.specs.Taking.{AreLawful, StandsOpen}
use Rattle.code_view.specs.Known.{AreInOrder, IsLawfulTree}
use Rattle.code_view.specs.Named.{NamesAreOpen}
use Rattle.value_facts.specs.Small.{AreSmall, EndInTime, HasSmallBytes, ListsAreSmall}

-- the code of a lawful program: its full expressions are the program's in turn, the nodes of each are lawful, and so are its constants
pub record IsLawfulCode (p : Program) (code : Code) : Type 0 where
  pub lawful : IsLawful p
  pub order : AreInOrder p code
  pub trees : (n : ℕ) (laid : Laid) → slice_get code.expressions.items n ≡ Some laid → IsLawfulTree p laid.root.now
  pub constants : AreLawful p code

-- A machine stands for the state, with this full expression open, whose stage this is. It is laid out by these nodes in the code of a lawful program,
-- and the blocks are open that are round what it names. What was given, what the store holds, and what the expression's lists have is small.
pub record IsOpen (world : World) (meaning : Option ℕ → Meaning) (m : Machine) (st : State) (e : Begun) (s : Stage) (laid : Laid) (firsts : List ℕ)
    (nodes : List NodeInfo) : Type 0 where
  pub stood : StandsOpen world meaning m st e
  pub stage : m.top.stage ≡ Some s
  pub code : IsLawfulCode m.program.now m.image.code.now
  pub at : slice_get m.image.code.now.expressions.items s.expression ≡ Some laid
  pub lays : LaidOutBy firsts nodes m.image.code.now.tables m.image.code.now.listing.items laid
  pub names : NamesAreOpen m firsts st.top.scene.blocks laid.root.now
  pub ends : EndInTime world.rows
  pub small : AreSmall e.given
  pub bytes : HasSmallBytes st.store
  pub lists : ListsAreSmall e.root

-- the machine with another stage of its top frame, and other items that it has touched
abbrev pub aside : Machine → Option Stage → List Item → Machine
aside m stage items = record m { top = record m.top { stage = stage }; items = items }

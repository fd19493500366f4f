-- As a full expression begins, the machine stands as picks ask it (6.8p4).
use Rattle.std.specs.Prelude.{◌≡◌, ◌+◌, ◌≤◌, ℕ, List, [], length, reverse, Option, Some, None, slice_get}
use Rattle.c_typed.specs.declared.tree.Place.{Place}
use Rattle.c_model.specs.Runs.{State}
use Rattle.c_model.specs.Steps.{Begun}
use Rattle.c_model.specs.World.{World}
use Rattle.seq_order.specs.Marked.{taken_in}
use Rattle.run_control.specs.View.{Meaning}
use Rattle.run_layout.specs.declared.nodes.NodeInfo.{NodeInfo}
use Rattle.run_layout.specs.declared.steps.Expression.{Expression as Laid}
use Rattle.run_layout.specs.Chosen.{with_chosen}
use Rattle.run_layout.specs.InRange.{part_of}
use Rattle.run_layout.specs.LaidOut.{LaidOutBy}
use Rattle.run_state.specs.declared.machine.Machine.{Machine}
use Rattle.run_state.specs.declared.machine.Stage.{Stage}
use Rattle.run_state.specs.declared.watch.Begun.{Begun as Shown}
use Rattle.run_state.specs.Stands.{Stands}
use Rattle.run_answers.specs.Ending.{KeepToRooms}
use Rattle.run_answers.specs.Picks.{top_of}
use Rattle.code_view.specs.Named.{NamesAreOpen}
use Rattle.run_laws.specs.Open.{IsLawfulCode, IsOpen}
use Rattle.value_facts.specs.Small.{EndInTime, HasSmallBytes, ListsAreSmall}

-- What the beginning leaves in the machine, beside that it stands for the definitions' next state: this full expression is open in the top frame, with just
-- the choices that are made at once, and there are rooms for its values.
pub record HasBegun (m : Machine) (s : Stage) (laid : Laid) : Type 0 where
  pub stage : m.top.stage ≡ Some s
  pub at : slice_get m.image.code.now.expressions.items s.expression ≡ Some laid
  pub chosen : (b : Shown) → top_of m ≡ Some b
      → (k : ℕ) → taken_in b.taken k ≡ with_chosen (part_of m.image.code.now.tables.chosen.items laid.chosen) (taken_in []) k
  pub rooms : m.top.base + laid.rooms ≤ length m.values.items

-- The machine stands for a state in which a full expression has begun, with nothing given: its frame has handed on its arguments and has no result yet, and
-- the frames below keep their values in their rooms.
pub record HasJustBegun (world : World) (meaning : Option ℕ → Meaning) (m : Machine) (st : State) (e : Begun) (s : Stage) (laid : Laid) : Type 0 where
  pub stands : Stands world meaning m st
  pub begun : st.top.begun ≡ Some e
  pub given : (u : Place) → e.given u ≡ None
  pub has : HasBegun m s laid
  pub arguments : st.top.arguments ≡ []
  pub result : m.left ≡ None
  pub below : KeepToRooms m.image.code.now (reverse m.below.items) st.held

-- Over the code of a lawful program, with the blocks open that are round what it names, it then stands as picks ask it.
abbrev pub BeginsOpen : Type 0
BeginsOpen =
    (world : World) (meaning : Option ℕ → Meaning) (m : Machine) (st : State) (e : Begun) (s : Stage) (laid : Laid) (firsts : List ℕ)
    (nodes : List NodeInfo) → HasJustBegun world meaning m st e s laid → IsLawfulCode m.program.now m.image.code.now
    → LaidOutBy firsts nodes m.image.code.now.tables m.image.code.now.listing.items laid
    → NamesAreOpen m firsts st.top.scene.blocks laid.root.now → EndInTime world.rows → HasSmallBytes st.store → ListsAreSmall e.root
    → IsOpen world meaning m st e s laid firsts nodes

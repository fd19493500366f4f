-- What an event takes that may come next, and isn't a body, is given; so it can be taken (own).
use Rattle.std.specs.Prelude.{◌≡◌, ℕ, true, false, List, [], length, Option, Some, slice_get}
use Rattle.std.specs.Borrow.{Bor}
use Rattle.ub_base.specs.declared.names.Item.{Item}
use Rattle.c_typed.specs.declared.program.Program.{Program}
use Rattle.c_typed.specs.declared.tree.Place.{Place}
use Rattle.c_typed.specs.declared.tree.Typed.{Typed, out-Typed}
use Rattle.c_typed.specs.Order.{is_body}
use Rattle.c_model.specs.Runs.{State}
use Rattle.c_model.specs.Steps.{Begun, Ev, MayPick, Scene, values_of}
use Rattle.c_model.specs.Values.{Value}
use Rattle.c_model.specs.World.{World}
use Rattle.mem_laws.specs.MoreRows.{Extends}
use Rattle.program_view.specs.Trees.{expr_of, exprs_of}
use Rattle.run_control.specs.View.{Meaning}
use Rattle.run_layout.specs.declared.nodes.NodeInfo.{NodeInfo}
use Rattle.run_layout.specs.declared.steps.Due.{Due}
use Rattle.run_layout.specs.declared.steps.Expression.{Expression as Laid}
use Rattle.run_layout.specs.Numbered.{AreNodes}
use Rattle.run_listing.specs.Along.{IsListed}
use Rattle.run_state.specs.declared.machine.Machine.{Machine}
use Rattle.run_state.specs.declared.machine.Stage.{Stage}
use Rattle.run_answers.specs.Nodes.{head_of, IsNearBy, TakesGiven}
use Rattle.run_answers.specs.Answering.{IsWithin}
use Rattle.run_answers.specs.Picks.{whole_part, ComesNext}
use Rattle.run_answers.specs.Taking.{CanBeTaken, IsAt, MayTake, MayTakeNext}
use Rattle.run_laws.specs.Open.{aside, IsOpen}
use Rattle.code_view.specs.Known.{IsLawfulTree}
use Rattle.value_facts.specs.Small.{AreSmall, EndInTime}

-- 1. Each node of a lawful tree moves a pointer by fewer than 2^127 bytes, where the values that were given are small: an element has at most 2^40 bytes
-- (6.5.6p8).
abbrev pub MovesAreNear : Type 0
MovesAreNear =
    (p : Program) (world : World) (f : Scene) (given : Place → Option Value) (firsts : List ℕ) (root : Typed) (nodes : List NodeInfo) (i k : ℕ)
    (x : NodeInfo) → IsLawfulTree p root → AreNodes firsts root nodes → slice_get nodes i ≡ Some x → EndInTime world.rows → AreSmall given
    → IsNearBy (head_of (expr_of x.tree.now)) (values_of world f given k (exprs_of (out-Typed x.tree.now).children))

-- 2. What the event takes is given, wherever the cursor stands and whatever was touched.
abbrev pub OpenTakesGiven : Type 0
OpenTakesGiven =
    (world : World) (meaning : Option ℕ → Meaning) (m : Machine) (st : State) (e : Begun) (s : Stage) (laid : Laid) (firsts : List ℕ)
    (nodes : List NodeInfo) (stage : Option Stage) (items : List Item) (d : Due) (x : NodeInfo) → IsOpen world meaning m st e s laid firsts nodes
    → IsListed (whole_part m s) d → MayPick world st.top (Some e) (Ev d.place) → is_body d.place.kind ≡ false
    → slice_get nodes d.place.node ≡ Some x → TakesGiven world (aside m stage items) st.top.scene e firsts (length nodes) d.place x

-- So it can be taken.
abbrev pub OpenCanBeTaken : Type 0
OpenCanBeTaken =
    (world : World) (meaning : Option ℕ → Meaning) (m : Machine) (st : State) (e : Begun) (s : Stage) (laid : Laid) (firsts : List ℕ)
    (nodes : List NodeInfo) (stage : Option Stage) (items : List Item) (d : Due) → IsOpen world meaning m st e s laid firsts nodes
    → IsListed (whole_part m s) d → MayPick world st.top (Some e) (Ev d.place) → is_body d.place.kind ≡ false
    → CanBeTaken world m st e laid d (aside m stage items)

-- 3. Of a state within the limits, whose world extends the rows of the memory.
pub record IsReady (world : World) (m : Machine) (st : State) : Type 0 where
  pub within : IsWithin world st
  pub extends : Extends m.memory.rows world.rows

-- An event to which the machine has gone on may be taken, along the canonical way or off it.
abbrev pub OpenMayTake : Type 0
OpenMayTake =
    (world : World) (meaning : Option ℕ → Meaning) (m now : Machine) (st : State) (e : Begun) (s : Stage) (laid : Laid) (firsts : List ℕ)
    (nodes : List NodeInfo) (d : Due) → IsOpen world meaning m st e s laid firsts nodes → IsReady world m st → m.items ≡ []
    → IsListed (whole_part m s) d → MayPick world st.top (Some e) (Ev d.place) → is_body d.place.kind ≡ false → IsAt s.straight m s d now
    → MayTake world meaning m st e s laid d now

-- Along the canonical way the event that comes next may be taken, where that isn't a body.
abbrev pub OpenMayTakeNext : Type 0
OpenMayTakeNext =
    (world : World) (meaning : Option ℕ → Meaning) (m : Machine) (st : State) (e : Begun) (s : Stage) (laid : Laid) (firsts : List ℕ)
    (nodes : List NodeInfo) → IsOpen world meaning m st e s laid firsts nodes → IsReady world m st → s.straight ≡ true
    → ((next : ℕ × Bor Due) → ComesNext m s (Some next) → is_body next.1.now.place.kind ≡ false) → MayTakeNext world meaning m st e s laid

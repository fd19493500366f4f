-- The body of a call of a library function may be done, that comes next in a machine that stands so (7.21, 7.22, 7.24).
use Rattle.std.specs.Prelude.{◌≡◌, ℕ, suc, true, Bool, List, map, Option, Some, slice_get}
use Rattle.std.specs.Borrow.{Bor}
use Rattle.ub_base.specs.declared.names.Item.{Item}
use Rattle.c_types.specs.declared.library.LibFunc.{LibFunc}
use Rattle.c_types.specs.Types.{CType}
use Rattle.c_model.specs.Libraries.{passed}
use Rattle.c_model.specs.Program.{Call, expr, Exprs}
use Rattle.c_model.specs.Runs.{State, library_of}
use Rattle.c_model.specs.Steps.{Begun, Ev, MayPick, Scene, at_node, called_by, values_of}
use Rattle.c_model.specs.Values.{later_values}
use Rattle.c_model.specs.World.{World}
use Rattle.run_control.specs.View.{Meaning}
use Rattle.run_layout.specs.declared.nodes.NodeInfo.{NodeInfo}
use Rattle.run_layout.specs.declared.steps.Due.{Due}
use Rattle.run_layout.specs.declared.steps.Expression.{Expression as Laid}
use Rattle.run_listing.specs.Along.{IsListed}
use Rattle.run_state.specs.declared.machine.Machine.{Machine}
use Rattle.run_state.specs.declared.machine.Stage.{Stage}
use Rattle.run_answers.specs.LibraryCalls.{are_call_sizes}
use Rattle.run_answers.specs.Answering.{IsWithin}
use Rattle.run_answers.specs.Library.{HasFunctions, IsCallOfLibrary, MayCallLibraryNext}
use Rattle.run_answers.specs.Picks.{whole_part, ComesNext}
use Rattle.run_laws.specs.Calls.{HasPlaces, IsCallBody}
use Rattle.run_laws.specs.Open.{aside, IsOpen}

-- which function of the library is called at the node; the arguments that are numbers of bytes have 64 bits
pub record CallsLibrary (world : World) (f : Scene) (e : Begun) (d : Due) : Type 0 where
  pub function : LibFunc
  pub own : (discarded : Bool) (ty : CType) (line : ℕ) (operands : Exprs) → at_node 0 e.root d.place.node ≡ Some (expr (Call discarded) ty line operands)
      → library_of (called_by world (values_of world f e.given (suc d.place.node) operands)) ≡ Some function
  pub sizes : (discarded : Bool) (ty : CType) (line : ℕ) (operands : Exprs) → at_node 0 e.root d.place.node ≡ Some (expr (Call discarded) ty line operands)
      → are_call_sizes function (map passed (later_values (values_of world f e.given (suc d.place.node) operands))) ≡ true

-- Such an event that is listed, and may come next, is what run_machine asks, wherever the cursor stands and whatever was touched.
abbrev pub OpenIsLibraryCall : Type 0
OpenIsLibraryCall =
    (world : World) (meaning : Option ℕ → Meaning) (m : Machine) (st : State) (e : Begun) (s : Stage) (laid : Laid) (firsts : List ℕ)
    (nodes : List NodeInfo) (stage : Option Stage) (items : List Item) (d : Due) → IsOpen world meaning m st e s laid firsts nodes → HasPlaces m
    → IsListed (whole_part m s) d → MayPick world st.top (Some e) (Ev d.place) → IsCallBody nodes d → CallsLibrary world st.top.scene e d
    → IsCallOfLibrary world (aside m stage items) st.top.scene e d

-- So it may be done where it comes next along the canonical way.
abbrev pub OpenMayCallLibraryNext : Type 0
OpenMayCallLibraryNext =
    (world : World) (meaning : Option ℕ → Meaning) (m : Machine) (st : State) (e : Begun) (s : Stage) (laid : Laid) (firsts : List ℕ)
    (nodes : List NodeInfo) → IsOpen world meaning m st e s laid firsts nodes → IsWithin world st → s.straight ≡ true → HasPlaces m
    → HasFunctions world m.program.now
    → ((next : ℕ × Bor Due) → ComesNext m s (Some next) → IsCallBody nodes next.1.now × CallsLibrary world st.top.scene e next.1.now)
    → MayCallLibraryNext world meaning m st e s laid

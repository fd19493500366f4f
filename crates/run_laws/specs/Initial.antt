-- The body of an isolated initializer may start, that comes next in a machine that stands so (6.7.9p23).
use Rattle.std.specs.Prelude.{◌≡◌, ℕ, true, List, [], Option, Some, slice_get}
use Rattle.std.specs.Borrow.{Bor}
use Rattle.ub_base.specs.declared.clause.Kind.TheVariants.{Body}
use Rattle.c_typed.specs.declared.tree.Typed.{Typed}
use Rattle.c_model.specs.Runs.{State}
use Rattle.c_model.specs.Steps.{Begun}
use Rattle.c_model.specs.World.{World}
use Rattle.run_control.specs.View.{Meaning}
use Rattle.run_layout.specs.declared.nodes.NodeInfo.{NodeInfo}
use Rattle.run_layout.specs.declared.steps.Due.{Due}
use Rattle.run_layout.specs.declared.steps.Expression.{Expression as Laid}
use Rattle.run_layout.specs.Initializers.{IsIsolated, NumberInitializers}
use Rattle.run_listing.specs.Along.{IsListed}
use Rattle.run_state.specs.declared.machine.Machine.{Machine}
use Rattle.run_state.specs.declared.machine.Stage.{Stage}
use Rattle.run_answers.specs.Picks.{whole_part, ComesNext}
use Rattle.run_answers.specs.Starting.{IsInitializer, MayStart, MayStartNext}
use Rattle.run_answers.specs.Taking.{IsAt}
use Rattle.run_laws.specs.Given.{IsReady}
use Rattle.run_laws.specs.Open.{IsOpen}

-- the event is the body of an isolated initializer
pub record IsIsolatedBody (nodes : List NodeInfo) (d : Due) : Type 0 where
  pub node : NodeInfo
  pub tree : Typed
  pub there : slice_get nodes d.place.node ≡ Some node
  pub isolated : IsIsolated node tree
  pub body : d.place.kind ≡ Body

-- Such an event that is listed is what run_machine asks.
abbrev pub OpenIsInitializer : Type 0
OpenIsInitializer =
    (world : World) (meaning : Option ℕ → Meaning) (m : Machine) (st : State) (e : Begun) (s : Stage) (laid : Laid) (firsts : List ℕ)
    (nodes : List NodeInfo) (d : Due) → IsOpen world meaning m st e s laid firsts nodes → NumberInitializers m.image.code.now nodes
    → IsListed (whole_part m s) d → IsIsolatedBody nodes d → IsInitializer m.image.code.now e d

-- So it may start, where the machine has gone on to it, along the canonical way or off it.
abbrev pub OpenMayStart : Type 0
OpenMayStart =
    (world : World) (meaning : Option ℕ → Meaning) (m now : Machine) (st : State) (e : Begun) (s : Stage) (laid : Laid) (firsts : List ℕ)
    (nodes : List NodeInfo) (d : Due) → IsOpen world meaning m st e s laid firsts nodes → IsReady world m st → m.items ≡ []
    → NumberInitializers m.image.code.now nodes → IsListed (whole_part m s) d → IsIsolatedBody nodes d → IsAt s.straight m s d now
    → MayStart world meaning m st e s d now

-- And so it may where it comes next along the canonical way.
abbrev pub OpenMayStartNext : Type 0
OpenMayStartNext =
    (world : World) (meaning : Option ℕ → Meaning) (m : Machine) (st : State) (e : Begun) (s : Stage) (laid : Laid) (firsts : List ℕ)
    (nodes : List NodeInfo) → IsOpen world meaning m st e s laid firsts nodes → IsReady world m st → s.straight ≡ true
    → NumberInitializers m.image.code.now nodes → ((next : ℕ × Bor Due) → ComesNext m s (Some next) → IsIsolatedBody nodes next.1.now)
    → MayStartNext world meaning m st e s

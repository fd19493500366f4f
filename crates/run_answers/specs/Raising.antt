-- Of which event, and of a node in which line, a pick raises its clause (own).
use Rattle.std.specs.Prelude.{◌≡◌, ℕ, true, Option, Some, Result, Ok, Err}
use Rattle.std.specs.Borrow.{Bor}
use Rattle.ub_base.specs.declared.names.Event.{Event}
use Rattle.c_typed.specs.declared.tree.Place.{Place}
use Rattle.c_model.specs.Runs.{State, canonical_pick}
use Rattle.c_model.specs.Steps.{Ev, event_of}
use Rattle.c_model.specs.World.{World}
use Rattle.run_control.specs.View.{Meaning}
use Rattle.run_layout.specs.declared.steps.Due.{Due}
use Rattle.run_state.specs.declared.halt.Halt.{Halt}
use Rattle.run_state.specs.declared.halt.Halt.TheVariants as halt
use Rattle.run_state.specs.declared.machine.Machine.{Machine}
use Rattle.run_state.specs.declared.machine.Stage.{Stage}
use Rattle.run_state.specs.Stands.{Stands}
use Rattle.run_answers.specs.declared.pick.Pick.{Pick}
use Rattle.run_answers.specs.Picks.{ComesNext, event_at}

-- it is this one of the top frame, and the line is that of its entry
abbrev pub RaisesAt : Machine → Due → Result Pick Halt → Type 0
RaisesAt m d (Ok pick) = Unit {0}
RaisesAt m d (Err (halt.Raised event line clause)) = (event ≡ event_at m d.place) × (line ≡ d.line)
RaisesAt m d (Err (halt.Over cause number)) = Unit {0}
RaisesAt m d (Err halt.Unplaced) = Unit {0}
RaisesAt m d (Err halt.NoMemory) = Unit {0}

-- the canonical pick, an event, is the one that has raised, by its entry, which comes next in the listing
pub record IsRaisedNext (world : World) (m : Machine) (st : State) (u : Place) (event : Event) (line : ℕ) : Type 0 where
  pub due : Due
  pub place : due.place ≡ u
  pub event_is : event ≡ event_of world st.top.scene u
  pub line_is : line ≡ due.line
  pub next : (s : Stage) → m.top.stage ≡ Some s → s.straight ≡ true → (next : ℕ × Bor Due) × ComesNext m s (Some next) × (next.1.now ≡ due)

abbrev pub RaisesNext : Machine → Result Pick Halt → Type 0
RaisesNext m (Ok pick) = Unit {0}
RaisesNext m (Err (halt.Raised event line clause)) =
    (world : World) (meaning : Option ℕ → Meaning) (st : State) (u : Place) → Stands world meaning m st → canonical_pick world st.top st.top.begun ≡ Ev u
    → IsRaisedNext world m st u event line
RaisesNext m (Err (halt.Over cause number)) = Unit {0}
RaisesNext m (Err halt.Unplaced) = Unit {0}
RaisesNext m (Err halt.NoMemory) = Unit {0}

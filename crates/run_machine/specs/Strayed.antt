-- Off the canonical way, which an event that was named has left, the canonical pick is taken as the definitions take it (5.1.2.3p3, 6.5p3).
use Rattle.std.specs.Prelude.{◌≡◌, ◌⊎◌, ℕ, false, Option, Some, Result, Ok, Err}
use Rattle.c_typed.specs.declared.tree.Place.{Place}
use Rattle.c_model.specs.Runs.{State, canonical_pick}
use Rattle.c_model.specs.Steps.{Control, Ev}
use Rattle.c_model.specs.World.{World}
use Rattle.run_control.specs.View.{Meaning}
use Rattle.run_layout.specs.declared.steps.Due.{Due}
use Rattle.run_listing.specs.Along.{IsListed}
use Rattle.run_state.specs.declared.halt.Halt.{Halt}
use Rattle.run_state.specs.declared.halt.Halt.TheVariants as halt
use Rattle.run_state.specs.declared.machine.Machine.{Machine}
use Rattle.run_state.specs.declared.machine.Stage.{Stage}
use Rattle.run_state.specs.Stands.{Stands}
use Rattle.run_answers.specs.declared.pick.Pick.{Pick}
use Rattle.run_answers.specs.declared.pick.Pick.TheVariants as pick
use Rattle.run_answers.specs.Picks.{whole_part}
use Rattle.run_answers.specs.Rows.{GrowsAt}
use Rattle.run_answers.specs.Straying.{TakesFrom}
use Rattle.run_answers.specs.Taking.{untouched}

-- off the canonical way the event stands in the listing of the top frame's full expression
abbrev pub IsListedOff : Machine → Due → Type 0
IsListedOff m due = (s : Stage) → m.top.stage ≡ Some s → s.straight ≡ false → IsListed (whole_part m s) due

-- The event of this place is the canonical pick, of each state that the machine stands for, and it is taken as one that is named and permitted: from the
-- machine that has touched nothing yet, whose cursor stays where it is. Rows only come to those that are there.
pub record TakesStrayed (old : Machine) (s : Stage) (new : Machine) (r : Result Pick Halt) : Type 0 where
  pub place : Place
  pub is : (world : World) (meaning : Option ℕ → Meaning) (st : State) → Stands world meaning old st
      → canonical_pick world st.top st.top.begun ≡ Ev place
  pub takes : TakesFrom old place new r
  pub from : takes.from ≡ untouched old
  pub stage : takes.stage ≡ s
  pub rows : GrowsAt takes.due takes.now new r

-- the control step is the canonical pick; what it does is said wherever the machine stands
abbrev pub IsControlNext : Machine → Type 0
IsControlNext m =
    (world : World) (meaning : Option ℕ → Meaning) (st : State) → Stands world meaning m st → canonical_pick world st.top st.top.begun ≡ Control

-- where there is no want of memory
abbrev pub GoesOnIn : Machine → Stage → Machine → Result Pick Halt → Type 0
GoesOnIn old s new (Ok (pick.Step status)) = IsControlNext old
GoesOnIn old s new (Ok p) = TakesStrayed old s new (Ok p)
GoesOnIn old s new (Err halt.NoMemory) = Unit {0}
GoesOnIn old s new (Err e) = TakesStrayed old s new (Err e) ⊎ IsControlNext old

-- a canonical pick of a machine whose top frame's full expression has left the canonical way
abbrev pub GoesOnStrayed : Machine → Machine → Result Pick Halt → Type 0
GoesOnStrayed old new r = (s : Stage) → old.top.stage ≡ Some s → s.straight ≡ false → GoesOnIn old s new r

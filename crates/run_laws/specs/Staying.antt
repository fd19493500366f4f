-- Behind an event that isn't a body the machine stands as picks ask it again.
use Rattle.std.specs.Prelude.{◌≡◌, ◌≢◌, ◌≤◌, ℕ, List, length, Option, Some, slice_get}
use Rattle.c_model.specs.Runs.{State}
use Rattle.c_model.specs.Steps.{Begun, with_given}
use Rattle.c_model.specs.Values.{Value}
use Rattle.c_model.specs.World.{World}
use Rattle.run_control.specs.View.{Meaning}
use Rattle.run_layout.specs.declared.nodes.NodeInfo.{NodeInfo}
use Rattle.run_layout.specs.declared.steps.Due.{Due}
use Rattle.run_layout.specs.declared.steps.Expression.{Expression as Laid}
use Rattle.run_state.specs.declared.machine.Machine.{Machine}
use Rattle.run_state.specs.declared.machine.Stage.{Stage}
use Rattle.run_state.specs.declared.watch.Begun.{Begun as Shown}
use Rattle.run_answers.specs.Taking.{TakesEvent, after_event, store_after}
use Rattle.run_laws.specs.Open.{IsOpen}

-- the machine with the cursor of its top frame's full expression there; memory, values, what is chosen and noted, and what was touched may be others
abbrev pub moved_on : (old : Machine) → Stage → ℕ → (new : Machine) → Machine
moved_on old s cursor new = record old {
  memory = new.memory;
  top = record old.top { stage = Some (record s { cursor = cursor }) };
  begun = new.begun;
  strayed = new.strayed;
  values = new.values;
  items = new.items;
  spare = new.spare;
}

-- So it is behind an event: full expressions of the frames below stay as they are shown, and there are no fewer rooms.
pub record MovesOn (old : Machine) (s : Stage) (new : Machine) : Type 0 where
  pub cursor : ℕ
  pub rest : new ≡ moved_on old s cursor new
  pub begun : (j : ℕ) (b : Shown) → j ≢ length old.below.items → slice_get old.begun.items j ≡ Some b → slice_get new.begun.items j ≡ Some b
  pub values : length old.values.items ≤ length new.values.items

abbrev pub OpenStays : Type 0
OpenStays =
    (world : World) (meaning : Option ℕ → Meaning) (old new : Machine) (st : State) (e : Begun) (s : Stage) (laid : Laid) (firsts : List ℕ)
    (nodes : List NodeInfo) (d : Due) (v : Value) → IsOpen world meaning old st e s laid firsts nodes → TakesEvent world meaning old st e s laid d v new
    → (m : MovesOn old s new) × IsOpen world meaning new (after_event world st e d.place v new.items (store_after new)) (with_given e d.place v)
    (record s { cursor = m.cursor }) laid firsts nodes

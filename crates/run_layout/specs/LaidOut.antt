-- A full expression as it is laid out.
use Rattle.std.specs.Prelude.{◌≡◌, ◌≤◌, ◌<◌, ℕ, length, List, Some, slice_get}
use Rattle.run_layout.specs.declared.nodes.NodeInfo.{NodeInfo}
use Rattle.run_layout.specs.declared.steps.Expression.{Expression}
use Rattle.run_layout.specs.declared.steps.Listed.{Listed}
use Rattle.run_layout.specs.declared.tables.Tables.{Tables}
use Rattle.run_layout.specs.Resolved.{resolved}
use Rattle.run_layout.specs.Numbered.{AreNodes}
use Rattle.run_layout.specs.AtOnce.{chosen_of, Lists}
use Rattle.run_layout.specs.EventActs.{IsEntry}
use Rattle.run_layout.specs.Rooms.{IsRoomedBy}

-- it has rooms for its nodes; its listing is a part of these entries, each an event of one of its nodes, with the act of that node
pub record LaidOutBy (firsts : List ℕ) (nodes : List NodeInfo) (tables : Tables) (entries : List Listed) (e : Expression) : Type 0 where
  pub numbered : AreNodes firsts e.root.now nodes
  pub value : e.value ≡ resolved firsts e.root.now 0
  pub rooms : IsRoomedBy nodes e.rooms
  pub chosen : Lists tables.chosen.items e.chosen (chosen_of firsts e.root.now 0)
  pub order : e.first ≤ e.end
  pub within : e.end ≤ length entries
  pub each : (i : ℕ) (x : Listed) → e.first ≤ i → i < e.end → slice_get entries i ≡ Some x → IsEntry firsts tables nodes x

-- for some numbering of the objects of its function, and what is noted of its nodes
abbrev pub IsLaidOut : Tables → List Listed → Expression → Type 0
IsLaidOut tables entries e = (firsts : List ℕ) × (nodes : List NodeInfo) × LaidOutBy firsts nodes tables entries e

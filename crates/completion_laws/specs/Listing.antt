-- What an event completes, as the code of a full expression has it noted (own).
use Rattle.std.specs.Prelude.{◌≡◌, ℕ, suc, ◌≤◌, List, Some, None, slice_get, if◌then◌else◌}
use Rattle.c_typed.specs.declared.tree.Place.{Place}
use Rattle.c_typed.specs.Order.{Taken}
use Rattle.c_typed.specs.Tree as typed
use Rattle.c_model.specs.Completions.{Completed, Incomplete, completed_by}
use Rattle.c_model.specs.Program.{tree_of}
use Rattle.c_model.specs.Steps.{Begun, Scene, is_done, taken_by}
use Rattle.c_model.specs.World.{World}
use Rattle.run_layout.specs.declared.nodes.NodeInfo.{NodeInfo}
use Rattle.run_layout.specs.declared.steps.Due.{Due}
use Rattle.run_layout.specs.declared.steps.Expression.{Expression}
use Rattle.run_layout.specs.declared.steps.Listed.{Listed}
use Rattle.run_layout.specs.declared.steps.Listed.TheVariants as listed
use Rattle.run_layout.specs.declared.tables.Tables.{Tables}
use Rattle.run_layout.specs.LaidOut.{LaidOutBy}
use Rattle.run_listing.specs.Along.{part_of, events_of}
use Rattle.run_listing.specs.Cursor.{IsListed, StandsStraight}
use Rattle.completion_laws.specs.Completed.{with_above}

-- With the last event of a node all operands of the node above are complete where an event of that one is the first of those that are ahead.
abbrev pub completed_of : Due → List Place → Completed
completed_of d ahead = if d.completes then with_above d.parent ahead else Incomplete

-- The cursor stands straight behind an event that is listed of a full expression, which is laid out; so what the event completes is as the code has it.
abbrev pub CompletesListed : Type 0
CompletesListed =
    (world : World) (f : Scene) (entries : List Listed) (firsts : List ℕ) (nodes : List NodeInfo) (tables : Tables) (laid : Expression) (at : ℕ)
    (e : Begun) (taken : Taken) (d : Due) → LaidOutBy firsts nodes tables entries laid
    → typed.tree_of laid.root.now ≡ tree_of e.root → StandsStraight world f entries laid.first (suc at) laid.end e None
    → IsListed world f entries laid.first laid.end e taken → laid.first ≤ at → slice_get entries at ≡ Some (listed.Event d)
    → completed_by (tree_of e.root) (taken_by world f e) (is_done e) d.place.node ≡ completed_of d (events_of taken (part_of entries (suc at) laid.end))

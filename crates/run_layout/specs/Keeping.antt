-- The choices that are made by the tables of the code leave what is kept that of the definitions (own).
use Rattle.std.specs.Prelude.{◌≡◌, ℕ, ◌<◌, ◌≤◌, Bool, true, List, Option, Some, None, slice_get}
use Rattle.c_typed.specs.declared.tree.Place.{Place}
use Rattle.c_typed.specs.Order.{Taken, is_due}
use Rattle.c_model.specs.Program.{tree_of}
use Rattle.c_model.specs.Values.{Value, truth}
use Rattle.c_model.specs.World.{World}
use Rattle.c_model.specs.Steps.{Scene, Begun, with_given, taken_by}
use Rattle.elaborate.specs.Formed.{is_formed}
use Rattle.run_layout.specs.declared.nodes.NodeInfo.{NodeInfo}
use Rattle.run_layout.specs.declared.steps.Choice.{Choice}
use Rattle.run_layout.specs.declared.steps.Due.{Due}
use Rattle.run_layout.specs.declared.steps.Expression.{Expression}
use Rattle.run_layout.specs.declared.steps.Listed.{Listed}
use Rattle.run_layout.specs.declared.steps.Listed.TheVariants as listed
use Rattle.run_layout.specs.declared.tables.Tables.{Tables}
use Rattle.run_layout.specs.InRange.{part_of, way_of}
use Rattle.run_layout.specs.LaidOut.{LaidOutBy}
use Rattle.run_layout.specs.Chosen.{with_chosen, Views, IsKept, by_way}

-- the choice of this number
abbrev pub choice_of : Tables → Option ℕ → Option Choice
choice_of tables None = None
choice_of tables (Some n) = slice_get tables.choices.items n

-- what is kept once it is made, by the truth of its test
abbrev pub kept_by : Tables → Option Choice → Bool → Taken → Taken
kept_by tables None test kept = kept
kept_by tables (Some c) test kept =
    with_chosen (by_way c.node (way_of c test).operand (λ i. part_of tables.chosen.items (way_of c test).chosen)) kept

-- as a full expression that is laid out begins
abbrev pub KeepsAtBegin : Type 0
KeepsAtBegin =
    (world : World) (f : Scene) (firsts : List ℕ) (nodes : List NodeInfo) (tables : Tables) (entries : List Listed) (laid : Expression) (e : Begun)
    → LaidOutBy firsts nodes tables entries laid → Views world f firsts 0 laid.root.now e.root → is_formed (tree_of e.root) ≡ true
    → ((u : Place) → e.given u ≡ None) → IsKept world f e (with_chosen (part_of tables.chosen.items laid.chosen) (λ k. None))

-- and as an event that is listed of it has its value
abbrev pub KeepsAtEvent : Type 0
KeepsAtEvent =
    (world : World) (f : Scene) (firsts : List ℕ) (nodes : List NodeInfo) (tables : Tables) (entries : List Listed) (laid : Expression) (e : Begun)
    (kept : Taken) (i : ℕ) (d : Due) (v : Value)
    → LaidOutBy firsts nodes tables entries laid → Views world f firsts 0 laid.root.now e.root → is_formed (tree_of e.root) ≡ true → IsKept world f e kept
    → laid.first ≤ i → i < laid.end → slice_get entries i ≡ Some (listed.Event d) → is_due (tree_of e.root) (taken_by world f e) d.place ≡ true
    → e.given d.place ≡ None → IsKept world f (with_given e d.place v) (kept_by tables (choice_of tables d.choice) (truth v) kept)

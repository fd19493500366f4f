-- A typed program's full expressions as the model sees them.
use Rattle.std.specs.Prelude.{◌≡◌}
use Rattle.c_typed.specs.declared.tree.Typed.{Typed}
use Rattle.c_typed.specs.Tree as order
use Rattle.c_model.specs.Program.{tree_of}
use Rattle.program_view.specs.Trees.{expr_of}
use Rattle.quiet_trees.specs.Loads.{loads_of}
use Rattle.quiet_trees.specs.Quiet.{IsQuiet}
use Rattle.quiet_laws.specs.QuietEvents.{expr_loads}

-- the loads of the model's expression are those of the typed tree
abbrev pub LoadsAreKept : Type 0
LoadsAreKept = (t : Typed) → expr_loads (expr_of t) ≡ loads_of t

-- it is quiet where the tree is
abbrev pub QuietIsKept : Type 0
QuietIsKept = (t : Typed) → IsQuiet (order.tree_of t) (loads_of t) → IsQuiet (tree_of (expr_of t)) (expr_loads (expr_of t))

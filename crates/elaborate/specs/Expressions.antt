-- The full expressions of a program in the order of the text, the own tree of each listed initializer after the expression
-- that holds it (6.8p4, 6.7.9p23).
use Rattle.std.specs.Prelude.{List, [], ◌∷◌, ◌++◌, map, flat_map, Option, Some, None}
use Rattle.c_typed.specs.declared.tree.Node.{Node}
use Rattle.c_typed.specs.declared.tree.Node.TheOpen as shape
use Rattle.c_typed.specs.declared.tree.Node.TheOpen.{Node-F, Typed-F}
use Rattle.c_typed.specs.declared.tree.Typed.{Typed, para-Typed}
use Rattle.c_typed.specs.declared.statement.Body.{Body, fold-Body}
use Rattle.c_typed.specs.declared.statement.ForStart.{ForStart, fold-ForStart}
use Rattle.c_typed.specs.declared.statement.Block.{Block, fold-Block}
use Rattle.c_typed.specs.declared.statement.Entry.{Entry, fold-Entry}
use Rattle.c_typed.specs.declared.statement.Body.TheOpen as form
use Rattle.c_typed.specs.declared.statement.Body.TheOpen.{Body-F, ForStart-F, Block-F, Entry-F}
use Rattle.c_typed.specs.declared.program.Function.{Function}
use Rattle.c_typed.specs.declared.program.Program.{Program}
use Rattle.c_typed.specs.Tree.{Tree, tree_of}

abbrev pub node_own : Node-F (Node × List Typed) (Typed × List Typed) → List Typed
node_own (shape.Isolated t) = t.0 ∷ t.1
node_own _ = []

abbrev pub typed_own : Typed-F (Node × List Typed) (Typed × List Typed) → List Typed
typed_own t = t.node.1 ++ flat_map (λ child. child.1) t.children

-- the own trees of the listed initializers in a tree, in preorder
abbrev pub own_trees : Typed → List Typed
own_trees = para-Typed (List Typed) (List Typed) node_own typed_own

-- a full expression, and then those
abbrev pub full_trees : Typed → List Typed
full_trees t = t ∷ own_trees t

abbrev pub option_trees : Option Typed → List Typed
option_trees None = []
option_trees (Some t) = full_trees t

abbrev pub else_trees : Option (List Typed) → List Typed
else_trees None = []
else_trees (Some ts) = ts

abbrev pub body_step : Body-F (List Typed) (List Typed) (List Typed) (List Typed) → List Typed
body_step (form.Simple t) = option_trees t
body_step (form.Block ts) = ts
body_step (form.If t first second) = full_trees t ++ (first ++ else_trees second)
body_step (form.Switch t ts) = full_trees t ++ ts
body_step (form.While t ts) = full_trees t ++ ts
body_step (form.Do ts t) = ts ++ full_trees t
body_step (form.For start test step ts) = start ++ (option_trees test ++ (option_trees step ++ ts))
body_step (form.Goto label) = []
body_step form.Continue = []
body_step form.Break = []
body_step (form.Return t) = option_trees t
body_step (form.Label label ts) = ts
body_step (form.Case z ts) = ts
body_step (form.Default ts) = ts

abbrev pub start_step : ForStart-F (List Typed) (List Typed) (List Typed) (List Typed) → List Typed
start_step form.Empty = []
start_step (form.Value t) = full_trees t
start_step (form.Declared ts) = ts

abbrev pub block_step : Block-F (List Typed) (List Typed) (List Typed) (List Typed) → List Typed
block_step b = flat_map (λ ts. ts) b.entries

abbrev pub entry_step : Entry-F (List Typed) (List Typed) (List Typed) (List Typed) → List Typed
entry_step (form.Statement ts) = ts
entry_step (form.Initializer t) = full_trees t
entry_step (form.Declare decl) = []

abbrev pub body_trees : Body → List Typed
body_trees = fold-Body (List Typed) (List Typed) (List Typed) (List Typed) body_step entry_step start_step block_step

abbrev pub start_trees : ForStart → List Typed
start_trees = fold-ForStart (List Typed) (List Typed) (List Typed) (List Typed) body_step entry_step start_step block_step

abbrev pub block_trees : Block → List Typed
block_trees = fold-Block (List Typed) (List Typed) (List Typed) (List Typed) body_step entry_step start_step block_step

abbrev pub entry_trees : Entry → List Typed
entry_trees = fold-Entry (List Typed) (List Typed) (List Typed) (List Typed) body_step entry_step start_step block_step

abbrev pub defined_trees : Option Body → List Typed
defined_trees None = []
defined_trees (Some body) = body_trees body

abbrev pub function_trees : Function → List Typed
function_trees f = defined_trees f.body

-- those of all functions, as trees of the model
abbrev pub program_trees : Program → List Tree
program_trees p = map tree_of (flat_map function_trees p.functions)

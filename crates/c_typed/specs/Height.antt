-- How high typed trees and statements stand: the nodes on the longest way down, statements counted (own).
use Rattle.std.specs.Prelude.{ℕ, ◌+◌, max, List, [], ◌∷◌, map, Option, Some, None, slice_get}
use Rattle.c_typed.specs.declared.tree.Typed.{Typed, fold-Typed}
use Rattle.c_typed.specs.declared.tree.Node.TheOpen as shape
use Rattle.c_typed.specs.declared.tree.Node.TheOpen.{Node-F, Typed-F}
use Rattle.c_typed.specs.declared.statement.Body.{Body, fold-Body}
use Rattle.c_typed.specs.declared.statement.ForStart.{ForStart, fold-ForStart}
use Rattle.c_typed.specs.declared.statement.Block.{Block, fold-Block}
use Rattle.c_typed.specs.declared.statement.Entry.{Entry, fold-Entry}
use Rattle.c_typed.specs.declared.statement.Body.TheOpen as form
use Rattle.c_typed.specs.declared.statement.Body.TheOpen.{Body-F, ForStart-F, Block-F, Entry-F}
use Rattle.c_typed.specs.declared.program.Function.{Function}
use Rattle.c_typed.specs.declared.program.Program.{Program}

abbrev pub greatest : List ℕ → ℕ
greatest [] = 0
greatest (h ∷ hs) = max h (greatest hs)

-- a listed expression stands below its node
abbrev pub node_height : Node-F ℕ ℕ → ℕ
node_height (shape.Isolated h) = h
node_height _ = 0

abbrev pub typed_height : Typed-F ℕ ℕ → ℕ
typed_height t = 1 + max t.node (greatest t.children)

abbrev pub tree_height : Typed → ℕ
tree_height = fold-Typed ℕ ℕ node_height typed_height

abbrev pub option_height : Option Typed → ℕ
option_height None = 0
option_height (Some t) = tree_height t

abbrev pub else_height : Option ℕ → ℕ
else_height None = 0
else_height (Some h) = h

-- each statement counts one; a `for` with a declaration too, whose block isn't counted beside it
abbrev pub body_step : Body-F ℕ ℕ ℕ ℕ → ℕ
body_step (form.Simple t) = 1 + option_height t
body_step (form.Block h) = 1 + h
body_step (form.If t h k) = 1 + max (tree_height t) (max h (else_height k))
body_step (form.Switch t h) = 1 + max (tree_height t) h
body_step (form.While t h) = 1 + max (tree_height t) h
body_step (form.Do h t) = 1 + max (tree_height t) h
body_step (form.For start test step h) = 1 + max start (max (option_height test) (max (option_height step) h))
body_step (form.Goto label) = 1
body_step form.Continue = 1
body_step form.Break = 1
body_step (form.Return t) = 1 + option_height t
body_step (form.Label label h) = 1 + h
body_step (form.Case z h) = 1 + h
body_step (form.Default h) = 1 + h

abbrev pub start_step : ForStart-F ℕ ℕ ℕ ℕ → ℕ
start_step form.Empty = 0
start_step (form.Value t) = tree_height t
start_step (form.Declared h) = h

abbrev pub block_step : Block-F ℕ ℕ ℕ ℕ → ℕ
block_step b = greatest b.entries

-- a declaration without initializer counts nothing
abbrev pub entry_step : Entry-F ℕ ℕ ℕ ℕ → ℕ
entry_step (form.Statement h) = h
entry_step (form.Initializer t) = tree_height t
entry_step (form.Declare decl) = 0

abbrev pub body_height : Body → ℕ
body_height = fold-Body ℕ ℕ ℕ ℕ body_step entry_step start_step block_step

abbrev pub start_height : ForStart → ℕ
start_height = fold-ForStart ℕ ℕ ℕ ℕ body_step entry_step start_step block_step

abbrev pub block_height : Block → ℕ
block_height = fold-Block ℕ ℕ ℕ ℕ body_step entry_step start_step block_step

abbrev pub entry_height : Entry → ℕ
entry_height = fold-Entry ℕ ℕ ℕ ℕ body_step entry_step start_step block_step

abbrev pub bodies_height : Option Body → ℕ
bodies_height None = 0
bodies_height (Some body) = body_height body

abbrev pub function_height : Function → ℕ
function_height f = bodies_height f.body

abbrev pub program_height : Program → ℕ
program_height p = greatest (map function_height p.functions)

abbrev pub known_height : Option Function → ℕ
known_height None = 0
known_height (Some f) = function_height f

abbrev pub height_at : Program → ℕ → ℕ
height_at p k = known_height (slice_get p.functions k)

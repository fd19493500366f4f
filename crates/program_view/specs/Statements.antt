-- A typed body as the model's statement (6.8).
use Rattle.std.specs.Prelude.{ℕ, List, [], ◌∷◌, ◌++◌, map, Option, Some, None}
use Rattle.c_types.specs.declared.tags.Tag.{Tag}
use Rattle.c_types.specs.Types.{qualified_of}
use Rattle.c_typed.specs.declared.tree.Typed.{Typed}
use Rattle.c_typed.specs.declared.statement.Body.{Body, fold-Body, out-Body}
use Rattle.c_typed.specs.declared.statement.Block.{Block, fold-Block}
use Rattle.c_typed.specs.declared.statement.Entry.{Entry, fold-Entry}
use Rattle.c_typed.specs.declared.statement.ForStart.{ForStart, fold-ForStart}
use Rattle.c_typed.specs.declared.statement.Body.TheOpen as form
use Rattle.c_typed.specs.declared.statement.Body.TheOpen.{Body-F, ForStart-F, Block-F, Entry-F}
use Rattle.c_model.specs.Program as model
use Rattle.c_model.specs.Program.{Expr, Decl, Stmt, Stmts}
use Rattle.program_view.specs.Trees.{expr_of}
use Rattle.program_view.specs.Objects.{decl_of}

-- a block: its number in the order of the text, its objects, and its statements
pub record Inner : Type 0 where
  pub number : ℕ
  pub decls : List Decl
  pub statements : List Stmt

-- the rest of a `for` behind what it begins with
abbrev pub Loop : Type 0
Loop = (test step : Option Expr) → Stmt → Stmt

abbrev pub in_turn : List Stmt → Stmts
in_turn [] = model.end
in_turn (s ∷ ss) = model.and_then s (in_turn ss)

abbrev pub as_block : Inner → Stmt
as_block b = model.Block b.number b.decls (in_turn b.statements)

abbrev pub perhaps : Option Typed → Option Expr
perhaps None = None
perhaps (Some t) = Some (expr_of t)

abbrev pub simple : Option Expr → Stmt
simple None = model.Empty
simple (Some e) = model.Value e

abbrev pub chosen : Expr → Stmt → Option Stmt → Stmt
chosen e s None = model.If_only e s
chosen e s (Some other) = model.If e s other

abbrev pub returned : Option Expr → Stmt
returned None = model.Return_none
returned (Some e) = model.Return e

abbrev pub body_step : Body-F Stmt Stmt Loop Inner → Stmt
body_step (form.Simple t) = simple (perhaps t)
body_step (form.Block b) = as_block b
body_step (form.If t s other) = chosen (expr_of t) s other
body_step (form.Switch t s) = model.Switch (expr_of t) s
body_step (form.While t s) = model.While (expr_of t) s
body_step (form.Do s t) = model.Do s (expr_of t)
body_step (form.For start test step s) = start (perhaps test) (perhaps step) s
body_step (form.Goto k) = model.Goto k
body_step form.Continue = model.Continue
body_step form.Break = model.Break
body_step (form.Return t) = returned (perhaps t)
body_step (form.Label k s) = model.Label k s
body_step (form.Case z s) = model.Case z s
body_step (form.Default s) = model.Default s

-- a declaration there makes the loop a block (6.8.5p5, 6.8.5.3p1)
abbrev pub start_step : ForStart-F Stmt Stmt Loop Inner → Loop
start_step form.Empty test step s = model.For None test step s
start_step (form.Value t) test step s = model.For (Some (expr_of t)) test step s
start_step (form.Declared b) test step s = as_block (record b { statements = b.statements ++ model.For None test step s ∷ [] })

abbrev pub block_step : List Tag → Block-F Stmt Stmt Loop Inner → Inner
block_step tags b = record { number = b.number; decls = map (λ q. decl_of tags (qualified_of q)) b.objects; statements = b.entries }

abbrev pub entry_step : Entry-F Stmt Stmt Loop Inner → Stmt
entry_step (form.Statement s) = s
entry_step (form.Initializer t) = model.Value (expr_of t)
entry_step (form.Declare decl) = model.Declare decl

abbrev pub stmt_of : List Tag → Body → Stmt
stmt_of tags = fold-Body Stmt Stmt Loop Inner body_step entry_step start_step (block_step tags)

abbrev pub inner_of : List Tag → Block → Inner
inner_of tags = fold-Block Stmt Stmt Loop Inner body_step entry_step start_step (block_step tags)

abbrev pub entry_of : List Tag → Entry → Stmt
entry_of tags = fold-Entry Stmt Stmt Loop Inner body_step entry_step start_step (block_step tags)

abbrev pub loop_of : List Tag → ForStart → Loop
loop_of tags = fold-ForStart Stmt Stmt Loop Inner body_step entry_step start_step (block_step tags)

-- a function is defined by a block (6.9.1p1)
abbrev pub defined : List Tag → Body-F Body Entry ForStart Block → Option Stmt
defined tags (form.Block b) = Some (as_block (inner_of tags b))
defined tags _ = None

abbrev pub definition : List Tag → Option Body → Option Stmt
definition tags None = None
definition tags (Some b) = defined tags (out-Body b)

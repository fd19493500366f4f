-- A typed body as a statement of the model (6.8), by any view of its full expressions and of the objects of its blocks; and
-- which tree of control stands for it.
use Rattle.std.specs.Borrow.{Bor}
use Rattle.std.specs.Prelude.{◌≡◌, ℕ, List, [], ◌∷◌, ◌++◌, Option, Some, None, slice_get, map}
use Rattle.c_typed.specs.declared.tree.Typed.{Typed}
use Rattle.c_typed.specs.declared.statement.Body.{Body, fold-Body}
use Rattle.c_typed.specs.declared.statement.Block.{Block, fold-Block}
use Rattle.c_typed.specs.declared.statement.Entry.{Entry, fold-Entry}
use Rattle.c_typed.specs.declared.statement.ForStart.{ForStart, fold-ForStart}
use Rattle.c_typed.specs.declared.statement.Body.TheOpen as form
use Rattle.c_typed.specs.declared.statement.Body.TheOpen.{Body-F, ForStart-F, Block-F, Entry-F}
use Rattle.c_model.specs.Program as model
use Rattle.c_model.specs.Program.{Expr, Decl, Stmt}
use Rattle.run_control.specs.declared.statement.Statement.{Statement}
use Rattle.run_control.specs.declared.statement.Block.{Block as Inside}
use Rattle.run_control.specs.declared.statement.Switch.{Switch}
use Rattle.run_control.specs.declared.statement.Round.{Round}
use Rattle.run_control.specs.View.{Meaning, stmt_of, block_of, in_turn, root_if}
use Rattle.run_control.specs.Targets.{AllEqual, bodies, all_bodies}
use Rattle.run_statements.specs.declared.numbers.Numbers.{Numbers}

-- a block, by its number, and the statements in it
pub record Inner : Type 0 where
  pub number : ℕ
  pub statements : List Stmt

-- the rest of a `for` behind what it begins with
abbrev pub Loop : Type 0
Loop = (test step : Option Expr) → Stmt → Stmt

-- what a part of a statement that may be left out is seen as
abbrev pub seen_if : {A B : Type 0} → (A → B) → Option A → Option B
seen_if f None = None
seen_if f (Some x) = Some (f x)

abbrev pub simple : Option Expr → Stmt
simple None = model.Empty
simple (Some c) = model.Value c

abbrev pub chosen : Expr → Stmt → Option Stmt → Stmt
chosen c s None = model.If_only c s
chosen c s (Some other) = model.If c s other

abbrev pub returned : Option Expr → Stmt
returned None = model.Return_none
returned (Some c) = model.Return c

module _ (expr : Typed → Expr) (decls : ℕ → List Decl) where
  abbrev pub as_block : Inner → Stmt
  as_block b = model.Block b.number (decls b.number) (in_turn b.statements)

  abbrev pub body_step : Body-F Stmt Stmt Loop Inner → Stmt
  body_step (form.Simple t) = simple (seen_if expr t)
  body_step (form.Block b) = as_block b
  body_step (form.If t s other) = chosen (expr t) s other
  body_step (form.Switch t s) = model.Switch (expr t) s
  body_step (form.While t s) = model.While (expr t) s
  body_step (form.Do s t) = model.Do s (expr t)
  body_step (form.For start test step s) = start (seen_if expr test) (seen_if expr step) s
  body_step (form.Goto k) = model.Goto k
  body_step form.Continue = model.Continue
  body_step form.Break = model.Break
  body_step (form.Return t) = returned (seen_if expr t)
  body_step (form.Label k s) = model.Label k s
  body_step (form.Case z s) = model.Case z s
  body_step (form.Default s) = model.Default s

  -- a declaration there makes the loop a block (6.8.5p5)
  abbrev pub start_step : ForStart-F Stmt Stmt Loop Inner → Loop
  start_step form.Empty test step s = model.For None test step s
  start_step (form.Value t) test step s = model.For (Some (expr t)) test step s
  start_step (form.Declared b) test step s = as_block (record { number = b.number; statements = b.statements ++ model.For None test step s ∷ [] })

  abbrev pub block_step : Block-F Stmt Stmt Loop Inner → Inner
  block_step b = record { number = b.number; statements = b.entries }

  abbrev pub entry_step : Entry-F Stmt Stmt Loop Inner → Stmt
  entry_step (form.Statement s) = s
  entry_step (form.Initializer t) = model.Value (expr t)
  entry_step (form.Declare decl) = model.Declare decl

  abbrev pub body_of : Body → Stmt
  body_of = fold-Body Stmt Stmt Loop Inner body_step entry_step start_step block_step

  abbrev pub inner_of : Block → Inner
  inner_of = fold-Block Stmt Stmt Loop Inner body_step entry_step start_step block_step

  abbrev pub entry_of : Entry → Stmt
  entry_of = fold-Entry Stmt Stmt Loop Inner body_step entry_step start_step block_step

  abbrev pub loop_of : ForStart → Loop
  loop_of = fold-ForStart Stmt Stmt Loop Inner body_step entry_step start_step block_step

-- numbers stand for the full expressions and the bodies of `switch` statements that have them
pub record Stands (m : Meaning) (expr : Typed → Expr) (numbers : Numbers) : Type 0 where
  pub root : (n : ℕ) (r : Bor Typed) → slice_get numbers.roots.items n ≡ Some r → m.root n ≡ expr r.now
  pub body : (n : ℕ) (b : Bor Body) → slice_get numbers.switches.items n ≡ Some b → m.body n ≡ body_of expr m.decls b.now

-- what had a number has it still
abbrev pub Kept : {A : Type 0} → List A → List A → Type 0
Kept old new = (n : ℕ) (x : _) → slice_get old n ≡ Some x → slice_get new n ≡ Some x

abbrev pub Grows : Numbers → Numbers → Type 0
Grows old new = Kept old.roots.items new.roots.items × Kept old.switches.items new.switches.items

abbrev pub IsRoot : Numbers → Typed → ℕ → Type 0
IsRoot numbers t n = (m : Meaning) (expr : Typed → Expr) → Stands m expr numbers → m.root n ≡ expr t

abbrev pub IsRootIf : Numbers → Option Typed → Option ℕ → Type 0
IsRootIf numbers t n = (m : Meaning) (expr : Typed → Expr) → Stands m expr numbers → root_if m.root n ≡ seen_if expr t

abbrev pub IsSwitch : Numbers → Body → ℕ → Type 0
IsSwitch numbers b n = (m : Meaning) (expr : Typed → Expr) → Stands m expr numbers → m.body n ≡ body_of expr m.decls b

-- the statement is that of the body, and the numbers in it stand for the bodies of its `switch` statements
abbrev pub IsStatement : Numbers → Body → Statement → Type 0
IsStatement numbers b s = (m : Meaning) (expr : Typed → Expr) → Stands m expr numbers
    → (stmt_of m s ≡ body_of expr m.decls b) × AllEqual (bodies m s)

-- of a statement in a block
abbrev pub IsEntry : Numbers → Entry → Statement → Type 0
IsEntry numbers e s = (m : Meaning) (expr : Typed → Expr) → Stands m expr numbers
    → (stmt_of m s ≡ entry_of expr m.decls e) × AllEqual (bodies m s)

abbrev pub AreEntries : Numbers → Block → List Statement → Type 0
AreEntries numbers b ss = (m : Meaning) (expr : Typed → Expr) → Stands m expr numbers
    → (map (stmt_of m) ss ≡ (inner_of expr m.decls b).statements) × AllEqual (all_bodies m ss)

abbrev pub IsBlock : Numbers → Block → Inside → Type 0
IsBlock numbers b s = (m : Meaning) (expr : Typed → Expr) → Stands m expr numbers
    → ((block_of m s).number ≡ (inner_of expr m.decls b).number) × (map (stmt_of m) s.statements ≡ (inner_of expr m.decls b).statements)
    × AllEqual (all_bodies m s.statements)

-- an expression statement, or a `return`, with this root
abbrev pub IsSimple : Numbers → Option Typed → Statement → Type 0
IsSimple numbers t s = (m : Meaning) (expr : Typed → Expr) → Stands m expr numbers
    → (stmt_of m s ≡ simple (seen_if expr t)) × AllEqual (bodies m s)

abbrev pub IsReturned : Numbers → Option Typed → Statement → Type 0
IsReturned numbers t s = (m : Meaning) (expr : Typed → Expr) → Stands m expr numbers
    → (stmt_of m s ≡ returned (seen_if expr t)) × AllEqual (bodies m s)

-- a `switch` with this test
abbrev pub IsSelection : Numbers → ℕ → Body → Switch → Type 0
IsSelection numbers test b s = (s.test ≡ test) × ((m : Meaning) (expr : Typed → Expr) → Stands m expr numbers
    → (m.body s.number ≡ body_of expr m.decls b) × (stmt_of m s.body ≡ body_of expr m.decls b) × AllEqual (bodies m s.body))

-- a loop with this test and this step
abbrev pub IsRound : Numbers → (test step : Option Typed) → Body → Round → Type 0
IsRound numbers test step b r = (m : Meaning) (expr : Typed → Expr) → Stands m expr numbers
    → (root_if m.root r.test ≡ seen_if expr test) × (root_if m.root r.step ≡ seen_if expr step)
    × (stmt_of m r.body ≡ body_of expr m.decls b) × AllEqual (bodies m r.body)

-- Statements and work as the model sees them: a full expression by its number, and the objects of a block by its number.
use Rattle.std.specs.Prelude.{◌≡◌, ℕ, ℤ, Bool, true, false, List, [], ◌∷◌, Option, Some, None, map}
use Rattle.c_model.specs.Program as model
use Rattle.c_model.specs.Program.{Expr, Decl, Stmt, Stmts, end, and_then}
use Rattle.c_model.specs.Control as todo
use Rattle.c_model.specs.Control.{Todo, ready_work, work_after}
use Rattle.run_control.specs.declared.statement.Statement.{Statement, fold-Statement}
use Rattle.run_control.specs.declared.statement.Block.{Block, fold-Block}
use Rattle.run_control.specs.declared.statement.Switch.{Switch, fold-Switch}
use Rattle.run_control.specs.declared.statement.Again.{Again, fold-Again}
use Rattle.run_control.specs.declared.statement.Round.{Round, fold-Round}
use Rattle.run_control.specs.declared.statement.Statement.TheOpen as form
use Rattle.run_control.specs.declared.statement.Statement.TheOpen.{Statement-F, Block-F, Switch-F, Again-F, Round-F}
use Rattle.run_control.specs.declared.work.Work.{Work}
use Rattle.run_control.specs.declared.work.Work.TheVariants as work
use Rattle.run_control.specs.declared.work.Use.{Use}
use Rattle.run_control.specs.declared.work.Use.TheVariants as for_use
use Rattle.run_control.specs.declared.work.Step.{Step}
use Rattle.run_control.specs.declared.work.Step.TheVariants as step

-- a block, and a loop or `switch`, with what they hold
pub record Inner : Type 0 where
  pub number : ℕ
  pub statements : Stmts

pub record Tested : Type 0 where
  pub test : Expr
  pub body : Stmt

-- a `switch` is seen by its number
pub record Selects : Type 0 where
  pub number : ℕ
  pub test : Expr

pub record Rounds : Type 0 where
  pub test : Option Expr
  pub step : Option Expr
  pub body : Stmt

abbrev pub in_turn : List Stmt → Stmts
in_turn [] = end
in_turn (s ∷ ss) = and_then s (in_turn ss)

abbrev pub root_if : (ℕ → Expr) → Option ℕ → Option Expr
root_if root None = None
root_if root (Some n) = Some (root n)

-- what numbers stand for: the full expressions of the program, the objects of the function's blocks, and the bodies of
-- its `switch` statements
pub record Meaning : Type 0 where
  pub root : ℕ → Expr
  pub decls : ℕ → List Decl
  pub body : ℕ → Stmt

abbrev pub is_nothing : Todo → Bool
is_nothing [] = true
is_nothing (w ∷ ws) = false

-- of work that is made ready: it is that of the rest, or has a step
abbrev pub Ends : Bool → (ready rest : Todo) → Type 0
Ends true ready rest = ready ≡ ready_work rest
Ends false ready rest = is_nothing ready ≡ false

abbrev pub is_nil : {A : Type 0} → List A → Bool
is_nil [] = true
is_nil (x ∷ xs) = false

module _ (m : Meaning) where
  abbrev pub statement_step : Statement-F Stmt Tested Inner Rounds Selects → Stmt
  statement_step (form.Value n) = model.Value (m.root n)
  statement_step form.Empty = model.Empty
  statement_step (form.Declare d) = model.Declare d
  statement_step (form.Block b) = model.Block b.number (m.decls b.number) b.statements
  statement_step (form.If n s t) = model.If (m.root n) s t
  statement_step (form.IfOnly n s) = model.If_only (m.root n) s
  statement_step (form.Switch b) = model.Switch b.test (m.body b.number)
  statement_step (form.Do b) = model.Do b.body b.test
  statement_step (form.For start b) = model.For (root_if m.root start) b.test b.step b.body
  statement_step (form.Goto k) = model.Goto k
  statement_step form.Continue = model.Continue
  statement_step form.Break = model.Break
  statement_step (form.Return n) = model.Return (m.root n)
  statement_step form.ReturnNone = model.Return_none
  statement_step (form.Label k s) = model.Label k s
  statement_step (form.Case z s) = model.Case z s
  statement_step (form.Default s) = model.Default s

  abbrev pub block_step : Block-F Stmt Tested Inner Rounds Selects → Inner
  block_step b = record { number = b.number; statements = in_turn b.statements }

  abbrev pub switch_step : Switch-F Stmt Tested Inner Rounds Selects → Selects
  switch_step b = record { number = b.number; test = m.root b.test }

  abbrev pub again_step : Again-F Stmt Tested Inner Rounds Selects → Tested
  again_step b = record { test = m.root b.test; body = b.body }

  abbrev pub round_step : Round-F Stmt Tested Inner Rounds Selects → Rounds
  round_step b = record { test = root_if m.root b.test; step = root_if m.root b.step; body = b.body }

  abbrev pub stmt_of : Statement → Stmt
  stmt_of = fold-Statement Stmt Tested Inner Rounds Selects statement_step again_step block_step round_step switch_step

  abbrev pub again_of : Again → Tested
  again_of = fold-Again Stmt Tested Inner Rounds Selects statement_step again_step block_step round_step switch_step

  abbrev pub block_of : Block → Inner
  block_of = fold-Block Stmt Tested Inner Rounds Selects statement_step again_step block_step round_step switch_step

  abbrev pub round_of : Round → Rounds
  round_of = fold-Round Stmt Tested Inner Rounds Selects statement_step again_step block_step round_step switch_step

  abbrev pub switch_of : Switch → Selects
  switch_of = fold-Switch Stmt Tested Inner Rounds Selects statement_step again_step block_step round_step switch_step

  abbrev pub work_of : Work → todo.Work
  work_of (work.Enter b) = todo.Enter (block_of b.now).number (m.decls (block_of b.now).number)
  work_of (work.Leave b) = todo.Leave (block_of b.now).number (m.decls (block_of b.now).number)
  work_of (work.ToDo s) = todo.To_do (stmt_of s.now)
  work_of (work.Rest ss) = todo.Rest (in_turn (map stmt_of ss.now))
  work_of (work.Round b) = todo.Round (round_of b.now).test (round_of b.now).step (round_of b.now).body
  work_of (work.Again b) = todo.Again (again_of b.now).test (again_of b.now).body
  work_of (work.Test b) = todo.Test (round_of b.now).test (round_of b.now).step (round_of b.now).body
  work_of work.BreakHere = todo.Break_here
  work_of (work.Begin n) = todo.Begin (m.root n) todo.Unused

  abbrev pub todo_of : List Work → Todo
  todo_of = map work_of

  abbrev pub use_of : Use → todo.Use
  use_of for_use.Unused = todo.Unused
  use_of (for_use.Branch s t) = todo.To_branch (stmt_of s.now) (stmt_of t.now)
  use_of (for_use.Enter s) = todo.To_enter (stmt_of s.now)
  use_of (for_use.Select b) = todo.To_select (m.body (switch_of b.now).number)
  use_of (for_use.GoRound b) = todo.To_go_round (round_of b.now).test (round_of b.now).step (round_of b.now).body
  use_of (for_use.GoAgain b) = todo.To_go_again (again_of b.now).test (again_of b.now).body
  use_of for_use.Result = todo.Result

  abbrev pub step_of : Step → todo.Work
  step_of (step.Enter b) = todo.Enter (block_of b.now).number (m.decls (block_of b.now).number)
  step_of (step.Leave b) = todo.Leave (block_of b.now).number (m.decls (block_of b.now).number)
  step_of (step.Unwrite d) = todo.Unwrite d
  step_of (step.Begin n what) = todo.Begin (m.root n) (use_of what)
  step_of step.Nothing = todo.Nothing_to_do
  step_of (step.GoTo k) = todo.Go_to k
  step_of step.GoOut = todo.Go_out
  step_of step.GoOn = todo.Go_on
  step_of step.GoBack = todo.Go_back

  -- the control step that was made ready, before the rest
  abbrev pub readied : Option Step → Todo → Todo
  readied None rest = rest
  readied (Some s) rest = step_of s ∷ rest

  -- the control step of this work before what was left is the one made ready; without one the work was nothing to do
  abbrev pub ReadyFrom : Work → Option Step → (before after : List Work) → Type 0
  ReadyFrom w None before after = ready_work (todo_of (w ∷ before)) ≡ ready_work (todo_of after)
  ReadyFrom w (Some s) before after = step_of s ∷ todo_of after ≡ ready_work (todo_of (w ∷ before))

  -- the end of a block or of a `switch` is passed over; other work begins with a step
  abbrev pub IsEnd : Work → Bool → List Work → Type 0
  IsEnd w ends rest = Ends ends (ready_work (todo_of (w ∷ rest))) (todo_of rest)

  -- what is left to do after the full expression; of a `switch` nothing is said here
  abbrev pub after : Bool → ℤ → Use → Todo → Todo
  after truth z (for_use.Select b) rest = rest
  after truth z what rest = work_after truth z (use_of what) rest

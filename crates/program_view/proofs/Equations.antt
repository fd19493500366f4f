-- What each form of typed body is seen as.
use Rattle.std.proofs.Common.{◌≡◌, ℕ, ℤ, [], ◌∷◌, ◌++◌, List, map, Option, Some, None, sym, ap, ◌∙◌, rules}
use Rattle.c_types.specs.declared.tags.Tag.{Tag}
use Rattle.c_types.specs.Types.{qualified_of}
use Rattle.c_typed.specs.declared.tree.Typed.{Typed}
use Rattle.c_typed.specs.declared.statement.Body.{Body, out-Body, out-roll-Body}
use Rattle.c_typed.specs.declared.statement.Body.TheFolds as folds
use Rattle.c_typed.specs.declared.statement.Body.TheOpen as form
use Rattle.c_typed.specs.declared.statement.Body.TheVariants as body
use Rattle.c_typed.specs.declared.statement.Block.{Block}
use Rattle.c_typed.specs.declared.statement.Entry.TheVariants as entry
use Rattle.c_typed.specs.declared.statement.ForStart.{ForStart}
use Rattle.c_typed.specs.declared.statement.ForStart.TheVariants as start
use Rattle.c_model.specs.Program as model
use Rattle.c_model.specs.Program.{Expr, Stmt}
use Rattle.program_view.specs.Objects.{decl_of}
use Rattle.program_view.specs.Trees.{expr_of}
use Rattle.program_view.specs.Statements.{as_block, perhaps, simple, returned, stmt_of, inner_of, entry_of, loop_of, defined, definition}

module _ (tags : List Tag) where
  pub stmt-simple : (t : Option Typed) → stmt_of tags (body.Simple t) ≡ simple (perhaps t)
  stmt-simple t = search (rules, folds.the_lemmas)

  pub stmt-block : (b : Block) → stmt_of tags (body.Block b) ≡ as_block (inner_of tags b)
  stmt-block b = search (rules, folds.the_lemmas)

  pub stmt-if_only : (t : Typed) (x : Body) → stmt_of tags (body.If t x None) ≡ model.If_only (expr_of t) (stmt_of tags x)
  stmt-if_only t x = search (rules, folds.the_lemmas)

  pub stmt-if : (t : Typed) (x y : Body) → stmt_of tags (body.If t x (Some y)) ≡ model.If (expr_of t) (stmt_of tags x) (stmt_of tags y)
  stmt-if t x y = search (rules, folds.the_lemmas)

  pub stmt-switch : (t : Typed) (x : Body) → stmt_of tags (body.Switch t x) ≡ model.Switch (expr_of t) (stmt_of tags x)
  stmt-switch t x = search (rules, folds.the_lemmas)

  pub stmt-while : (t : Typed) (x : Body) → stmt_of tags (body.While t x) ≡ model.While (expr_of t) (stmt_of tags x)
  stmt-while t x = search (rules, folds.the_lemmas)

  pub stmt-do : (x : Body) (t : Typed) → stmt_of tags (body.Do x t) ≡ model.Do (stmt_of tags x) (expr_of t)
  stmt-do x t = search (rules, folds.the_lemmas)

  pub stmt-for : (s : ForStart) (test step : Option Typed) (x : Body) → stmt_of tags (body.For s test step x)
      ≡ loop_of tags s (perhaps test) (perhaps step) (stmt_of tags x)
  stmt-for s test step x = search (rules, folds.the_lemmas)

  pub stmt-goto : (k : ℕ) → stmt_of tags (body.Goto k) ≡ model.Goto k
  stmt-goto k = search (rules, folds.the_lemmas)

  pub stmt-continue : stmt_of tags body.Continue ≡ model.Continue
  stmt-continue = search (rules, folds.the_lemmas)

  pub stmt-break : stmt_of tags body.Break ≡ model.Break
  stmt-break = search (rules, folds.the_lemmas)

  pub stmt-return : (t : Option Typed) → stmt_of tags (body.Return t) ≡ returned (perhaps t)
  stmt-return t = search (rules, folds.the_lemmas)

  pub stmt-label : (k : ℕ) (x : Body) → stmt_of tags (body.Label k x) ≡ model.Label k (stmt_of tags x)
  stmt-label k x = search (rules, folds.the_lemmas)

  pub stmt-case : (z : ℤ) (x : Body) → stmt_of tags (body.Case z x) ≡ model.Case z (stmt_of tags x)
  stmt-case z x = search (rules, folds.the_lemmas)

  pub stmt-default : (x : Body) → stmt_of tags (body.Default x) ≡ model.Default (stmt_of tags x)
  stmt-default x = search (rules, folds.the_lemmas)

  pub loop-empty : (test step : Option Expr) (s : Stmt) → loop_of tags start.Empty test step s ≡ model.For None test step s
  loop-empty test step s = search (rules, folds.the_lemmas)

  pub loop-value : (t : Typed) (test step : Option Expr) (s : Stmt) → loop_of tags (start.Value t) test step s ≡ model.For (Some (expr_of t)) test step s
  loop-value t test step s = search (rules, folds.the_lemmas)

  pub loop-declared : (b : Block) (test step : Option Expr) (s : Stmt) → loop_of tags (start.Declared b) test step s
      ≡ as_block (record (inner_of tags b) { statements = (inner_of tags b).statements ++ model.For None test step s ∷ [] })
  loop-declared b test step s = search (rules, folds.the_lemmas)

  pub inner-is : (b : Block)
      → inner_of tags b ≡ record { number = b.number; decls = map (λ q. decl_of tags (qualified_of q)) b.objects; statements = map (entry_of tags) b.entries }
  inner-is b = search (rules, folds.the_lemmas)

  pub entry-statement : (x : Body) → entry_of tags (entry.Statement x) ≡ stmt_of tags x
  entry-statement x = search (rules, folds.the_lemmas)

  pub entry-initializer : (t : Typed) → entry_of tags (entry.Initializer t) ≡ model.Value (expr_of t)
  entry-initializer t = search (rules, folds.the_lemmas)

  pub entry-declare : (d : ℕ) → entry_of tags (entry.Declare d) ≡ model.Declare d
  entry-declare d = search (rules, folds.the_lemmas)

  pub definition-block : (b : Block) → definition tags (Some (body.Block b)) ≡ Some (as_block (inner_of tags b))
  definition-block b = ap (λ y. defined tags (out-Body y)) (sym (body.rolls-Block b)) ∙ ap (defined tags) (out-roll-Body (form.Block b))

-- Function values that parse to a depth: each reads what the parser's function does.
use Rattle.std.specs.Prelude.{ℕ, Result}
use Rattle.std.specs.declared.alloc.Global.{Global}
use denote.Ref.{MutBor}
use Rattle.c_ast.specs.declared.expression.Expr.{Expr}
use Rattle.c_ast.specs.declared.declaration.Declarator.{Declarator}
use Rattle.c_ast.specs.declared.declaration.Specs.{Specs}
use Rattle.c_ast.specs.declared.statement.Stmt.{Stmt}
use Rattle.c_ast.specs.Input.{Input}
use Rattle.parse_spec.specs.Nested.{expr, declarator, specs}
use Rattle.parse_spec.specs.Statements.{statement}
use Rattle.parse_cursor.specs.Places.{mode_of, allowed_in}
use Rattle.parse_cursor.specs.Reads.{Reads}
use Rattle.parse_cursor.specs.declared.place.Mode.{Mode}
use Rattle.parse_cursor.specs.declared.place.Place.{Place}
use Rattle.parse_cursor.specs.declared.refusal.Refusal.{Refusal}

pub record NestsExpr (depth : ℕ) (pre : Global → MutBor Input → ℕ → ℕ → Type 0)
    (post : Global → MutBor Input → ℕ → ℕ → Result Expr Refusal → MutBor Input → Type 0) : Type 0 where
  pub callable : (alloc : Global) (old : MutBor Input) (least : ℕ) → pre alloc old depth least
  pub reads : (alloc : Global) (old new : MutBor Input) (least : ℕ) (r : Result Expr Refusal) → post alloc old depth least r new
      → Reads (expr depth least old.now) r new.now

pub record NestsDeclarator (depth : ℕ) (pre : Global → MutBor Input → ℕ → Mode → Type 0)
    (post : Global → MutBor Input → ℕ → Mode → Result Declarator Refusal → MutBor Input → Type 0) : Type 0 where
  pub callable : (alloc : Global) (old : MutBor Input) (mode : Mode) → pre alloc old depth mode
  pub reads : (alloc : Global) (old new : MutBor Input) (mode : Mode) (r : Result Declarator Refusal) → post alloc old depth mode r new
      → Reads (declarator depth (mode_of mode) old.now) r new.now

pub record NestsSpecs (depth : ℕ) (pre : Global → MutBor Input → ℕ → Place → Type 0)
    (post : Global → MutBor Input → ℕ → Place → Result Specs Refusal → MutBor Input → Type 0) : Type 0 where
  pub callable : (alloc : Global) (old : MutBor Input) (place : Place) → pre alloc old depth place
  pub reads : (alloc : Global) (old new : MutBor Input) (place : Place) (r : Result Specs Refusal) → post alloc old depth place r new
      → Reads (specs depth (allowed_in place) old.now) r new.now

pub record NestsStmt (depth : ℕ) (pre : Global → MutBor Input → ℕ → Type 0)
    (post : Global → MutBor Input → ℕ → Result Stmt Refusal → MutBor Input → Type 0) : Type 0 where
  pub callable : (alloc : Global) (old : MutBor Input) → pre alloc old depth
  pub reads : (alloc : Global) (old new : MutBor Input) (r : Result Stmt Refusal) → post alloc old depth r new
      → Reads (statement depth old.now) r new.now

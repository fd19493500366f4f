-- Expressions, statements and programs whose constants are small (own).
use Rattle.std.specs.Prelude.{◌≡◌, ◌<◌, ◌^◌, ℕ, [], ◌∷◌, Option, Some, None, slice_get, unsigned_abs}
use Rattle.std.specs.List.{All}
use Rattle.c_model.specs.Control.{Todo, Work, Use, Unused, To_branch, To_enter, To_select, To_go_round, To_go_again, Result}
use Rattle.c_model.specs.Control.{Begin, To_do, Rest, Round, Again, Test}
use Rattle.c_model.specs.Program.{Expr, expr, Exprs, none, more, Function, Head, Number, Listed, Isolated, Program}
use Rattle.c_model.specs.Program.{Stmt, Value, Block, If, If_only, Switch, Do, For, Return, Label, Case, Default, Stmts, end, and_then}
use Rattle.value_facts.specs.Small.{AreSmallFillings}

abbrev mutual
  -- each number, and each list that an object is filled with, those of isolated initializers too (6.4.4, 6.7.9)
  pub IsSmallExpr : Expr → Type 0
  IsSmallExpr (expr h ty line es) = IsSmallHead h × AreSmallExprs es

  pub AreSmallExprs : Exprs → Type 0
  AreSmallExprs none = Unit {0}
  AreSmallExprs (more e es) = IsSmallExpr e × AreSmallExprs es

  pub IsSmallHead : Head → Type 0
  IsSmallHead (Number z) = unsigned_abs z < 2 ^ 64
  IsSmallHead (Listed slot fillings) = AreSmallFillings fillings
  IsSmallHead (Isolated e) = IsSmallExpr e
  IsSmallHead h = Unit {0}

module _ (P : Expr → Type 0) where
  abbrev pub Perhaps : Option Expr → Type 0
  Perhaps None = Unit {0}
  Perhaps (Some e) = P e

  abbrev mutual
    -- each full expression of a statement (6.8p4)
    pub EachOf : Stmt → Type 0
    EachOf (Value e) = P e
    EachOf (Block number ds ss) = EachIn ss
    EachOf (If e s t) = P e × (EachOf s × EachOf t)
    EachOf (If_only e s) = P e × EachOf s
    EachOf (Switch e s) = P e × EachOf s
    EachOf (Do s e) = EachOf s × P e
    EachOf (For start test step s) = Perhaps start × (Perhaps test × (Perhaps step × EachOf s))
    EachOf (Return e) = P e
    EachOf (Label k s) = EachOf s
    EachOf (Case z s) = EachOf s
    EachOf (Default s) = EachOf s
    EachOf s = Unit {0}

    pub EachIn : Stmts → Type 0
    EachIn end = Unit {0}
    EachIn (and_then s ss) = EachOf s × EachIn ss

  -- each full expression of what follows another one
  abbrev pub EachBehind : Use → Type 0
  EachBehind Unused = Unit {0}
  EachBehind (To_branch s t) = EachOf s × EachOf t
  EachBehind (To_enter s) = EachOf s
  EachBehind (To_select s) = EachOf s
  EachBehind (To_go_round test step s) = Perhaps test × (Perhaps step × EachOf s)
  EachBehind (To_go_again e s) = P e × EachOf s
  EachBehind Result = Unit {0}

  abbrev pub EachOfWork : Work → Type 0
  EachOfWork (Begin e what) = P e × EachBehind what
  EachOfWork (To_do s) = EachOf s
  EachOfWork (Rest ss) = EachIn ss
  EachOfWork (Round test step s) = Perhaps test × (Perhaps step × EachOf s)
  EachOfWork (Again e s) = P e × EachOf s
  EachOfWork (Test test step s) = Perhaps test × (Perhaps step × EachOf s)
  EachOfWork w = Unit {0}

  -- each full expression of what is left to do in a frame
  abbrev pub EachLeft : Todo → Type 0
  EachLeft [] = Unit {0}
  EachLeft (w ∷ ws) = EachOfWork w × EachLeft ws

-- a program: the bodies of its functions, and what fills the objects that stand before the first pick
pub record HasSmallConstants (p : Program) : Type 0 where
  pub functions : (n : ℕ) (fun : Function) (s : Stmt) → slice_get p.functions n ≡ Some fun → fun.body ≡ Some s → EachOf IsSmallExpr s
  pub standing : All (λ o. AreSmallFillings o.fillings) p.standing

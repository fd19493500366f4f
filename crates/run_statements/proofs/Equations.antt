-- What each form of statement and of typed body is seen as.
use Rattle.std.proofs.Common.{◌≡◌, ℕ, ℤ, [], ◌∷◌, ◌++◌, List, map, Option, Some, None, sym, ap, ◌∙◌, rules}
use Rattle.c_typed.specs.declared.tree.Typed.{Typed}
use Rattle.c_typed.specs.declared.statement.Body.{Body}
use Rattle.c_typed.specs.declared.statement.Body.TheVariants as body
use Rattle.c_typed.specs.declared.statement.Body.TheFolds as typed
use Rattle.c_typed.specs.declared.statement.Block.{Block as TypedBlock}
use Rattle.c_typed.specs.declared.statement.ForStart.{ForStart}
use Rattle.c_typed.specs.declared.statement.ForStart.TheVariants as start
use Rattle.c_typed.specs.declared.statement.Entry.TheVariants as entry
use Rattle.c_model.specs.Program as model
use Rattle.c_model.specs.Program.{Expr, Decl, Stmt}
use Rattle.run_control.specs.declared.statement.Statement.{Statement, roll-Statement, para-roll-Statement, map-Statement}
use Rattle.run_control.specs.declared.statement.Statement.TheOpen as form
use Rattle.run_control.specs.declared.statement.Statement.TheOpen.{Statement-F}
use Rattle.run_control.specs.declared.statement.Statement.TheFolds.{the_lemmas}
use Rattle.run_control.specs.declared.statement.Statement.TheVariants as statement
use Rattle.run_control.specs.declared.statement.Block.{Block}
use Rattle.run_control.specs.declared.statement.Switch.{Switch}
use Rattle.run_control.specs.declared.statement.Again.{Again}
use Rattle.run_control.specs.declared.statement.Round.{Round}
use Rattle.run_control.specs.View.{Meaning, stmt_of, block_of, root_if}
use Rattle.run_control.specs.Targets.{Bodies, bodies, again_pairs, block_pairs, round_pairs, switch_pairs, statement_bodies}
use Rattle.run_control.specs.Targets.{again_bodies, block_bodies, round_bodies, switch_bodies}
use Rattle.run_statements.specs.Bodies.{body_of, inner_of, entry_of, loop_of, seen_if, as_block}

-- one layer of the bodies in a statement
rolled : (m : Meaning) (layer : Statement-F Statement Again Block Round Switch) → bodies m (roll-Statement layer)
    ≡ statement_bodies m (map-Statement Statement Again Block Round Switch (Statement × Bodies) (Again × Bodies) (Block × Bodies) (Round
    × Bodies) (Switch × Bodies)
    (λ y. (y, bodies m y)) (λ y. (y, again_pairs m y)) (λ y. (y, block_pairs m y)) (λ y. (y, round_pairs m y)) (λ y. (y, switch_pairs m y)) layer)
rolled m layer =
    para-roll-Statement Bodies Bodies Bodies Bodies Bodies (statement_bodies m) (again_bodies m) (block_bodies m) (round_bodies m) (switch_bodies m) layer

pub bodies-value : (m : Meaning) (n : ℕ) → bodies m (statement.Value n) ≡ []
bodies-value m n = ap (bodies m) (sym (statement.rolls-Value n)) ∙ rolled m (form.Value n)

pub bodies-empty : (m : Meaning) → bodies m statement.Empty ≡ []
bodies-empty m = ap (bodies m) (sym statement.rolls-Empty) ∙ rolled m form.Empty

pub bodies-declare : (m : Meaning) (d : ℕ) → bodies m (statement.Declare d) ≡ []
bodies-declare m d = ap (bodies m) (sym (statement.rolls-Declare d)) ∙ rolled m (form.Declare d)

pub bodies-goto : (m : Meaning) (k : ℕ) → bodies m (statement.Goto k) ≡ []
bodies-goto m k = ap (bodies m) (sym (statement.rolls-Goto k)) ∙ rolled m (form.Goto k)

pub bodies-continue : (m : Meaning) → bodies m statement.Continue ≡ []
bodies-continue m = ap (bodies m) (sym statement.rolls-Continue) ∙ rolled m form.Continue

pub bodies-break : (m : Meaning) → bodies m statement.Break ≡ []
bodies-break m = ap (bodies m) (sym statement.rolls-Break) ∙ rolled m form.Break

pub bodies-return : (m : Meaning) (n : ℕ) → bodies m (statement.Return n) ≡ []
bodies-return m n = ap (bodies m) (sym (statement.rolls-Return n)) ∙ rolled m (form.Return n)

pub bodies-return_none : (m : Meaning) → bodies m statement.ReturnNone ≡ []
bodies-return_none m = ap (bodies m) (sym statement.rolls-ReturnNone) ∙ rolled m form.ReturnNone

pub stmt-value : (m : Meaning) (n : ℕ) → stmt_of m (statement.Value n) ≡ model.Value (m.root n)
stmt-value m n = search (rules, the_lemmas)

pub stmt-empty : (m : Meaning) → stmt_of m statement.Empty ≡ model.Empty
stmt-empty m = search (rules, the_lemmas)

pub stmt-declare : (m : Meaning) (d : ℕ) → stmt_of m (statement.Declare d) ≡ model.Declare d
stmt-declare m d = search (rules, the_lemmas)

pub stmt-goto : (m : Meaning) (k : ℕ) → stmt_of m (statement.Goto k) ≡ model.Goto k
stmt-goto m k = search (rules, the_lemmas)

pub stmt-continue : (m : Meaning) → stmt_of m statement.Continue ≡ model.Continue
stmt-continue m = search (rules, the_lemmas)

pub stmt-break : (m : Meaning) → stmt_of m statement.Break ≡ model.Break
stmt-break m = search (rules, the_lemmas)

pub stmt-return : (m : Meaning) (n : ℕ) → stmt_of m (statement.Return n) ≡ model.Return (m.root n)
stmt-return m n = search (rules, the_lemmas)

pub stmt-return_none : (m : Meaning) → stmt_of m statement.ReturnNone ≡ model.Return_none
stmt-return_none m = search (rules, the_lemmas)

pub stmt-again : (m : Meaning) (a : Again) → stmt_of m (statement.Do a) ≡ model.Do (stmt_of m a.body) (m.root a.test)
stmt-again m a = search (rules, the_lemmas)

pub stmt-round : (m : Meaning) (start : Option ℕ) (r : Round) → stmt_of m (statement.For start r)
    ≡ model.For (root_if m.root start) (root_if m.root r.test) (root_if m.root r.step) (stmt_of m r.body)
stmt-round m start r = search (rules, the_lemmas)

pub block-number : (m : Meaning) (b : Block) → (block_of m b).number ≡ b.number
block-number m b = search (rules, the_lemmas)

module _ (e : Typed → Expr) (ds : ℕ → List Decl) where
  pub body-block : (b : TypedBlock) → body_of e ds (body.Block b) ≡ as_block e ds (inner_of e ds b)
  body-block b = search (rules, typed.the_lemmas)

  pub body-if_only : (t : Typed) (x : Body) → body_of e ds (body.If t x None) ≡ model.If_only (e t) (body_of e ds x)
  body-if_only t x = search (rules, typed.the_lemmas)

  pub body-if : (t : Typed) (x y : Body) → body_of e ds (body.If t x (Some y)) ≡ model.If (e t) (body_of e ds x) (body_of e ds y)
  body-if t x y = search (rules, typed.the_lemmas)

  pub body-switch : (t : Typed) (x : Body) → body_of e ds (body.Switch t x) ≡ model.Switch (e t) (body_of e ds x)
  body-switch t x = search (rules, typed.the_lemmas)

  pub body-while : (t : Typed) (x : Body) → body_of e ds (body.While t x) ≡ model.While (e t) (body_of e ds x)
  body-while t x = search (rules, typed.the_lemmas)

  pub body-do : (x : Body) (t : Typed) → body_of e ds (body.Do x t) ≡ model.Do (body_of e ds x) (e t)
  body-do x t = search (rules, typed.the_lemmas)

  pub body-for : (s : ForStart) (test step : Option Typed) (x : Body) → body_of e ds (body.For s test step x)
      ≡ loop_of e ds s (seen_if e test) (seen_if e step) (body_of e ds x)
  body-for s test step x = search (rules, typed.the_lemmas)

  pub loop-empty : (test step : Option Expr) (s : Stmt) → loop_of e ds start.Empty test step s ≡ model.For None test step s
  loop-empty test step s = search (rules, typed.the_lemmas)

  pub loop-value : (t : Typed) (test step : Option Expr) (s : Stmt) → loop_of e ds (start.Value t) test step s ≡ model.For (Some (e t)) test step s
  loop-value t test step s = search (rules, typed.the_lemmas)

  pub loop-declared : (b : TypedBlock) (test step : Option Expr) (s : Stmt) → loop_of e ds (start.Declared b) test step s
      ≡ as_block e ds (record { number = (inner_of e ds b).number; statements = (inner_of e ds b).statements ++ model.For None test step s ∷ [] })
  loop-declared b test step s = search (rules, typed.the_lemmas)

  pub body-goto : (k : ℕ) → body_of e ds (body.Goto k) ≡ model.Goto k
  body-goto k = search (rules, typed.the_lemmas)

  pub body-continue : body_of e ds body.Continue ≡ model.Continue
  body-continue = search (rules, typed.the_lemmas)

  pub body-break : body_of e ds body.Break ≡ model.Break
  body-break = search (rules, typed.the_lemmas)

  pub body-label : (k : ℕ) (x : Body) → body_of e ds (body.Label k x) ≡ model.Label k (body_of e ds x)
  body-label k x = search (rules, typed.the_lemmas)

  pub body-case : (z : ℤ) (x : Body) → body_of e ds (body.Case z x) ≡ model.Case z (body_of e ds x)
  body-case z x = search (rules, typed.the_lemmas)

  pub body-default : (x : Body) → body_of e ds (body.Default x) ≡ model.Default (body_of e ds x)
  body-default x = search (rules, typed.the_lemmas)

  pub inner-number : (b : TypedBlock) → (inner_of e ds b).number ≡ b.number
  inner-number b = search (rules, typed.the_lemmas)

  pub inner-statements : (b : TypedBlock) → (inner_of e ds b).statements ≡ map (entry_of e ds) b.entries
  inner-statements b = search (rules, typed.the_lemmas)

  pub entry-statement : (x : Body) → entry_of e ds (entry.Statement x) ≡ body_of e ds x
  entry-statement x = search (rules, typed.the_lemmas)

  pub entry-initializer : (t : Typed) → entry_of e ds (entry.Initializer t) ≡ model.Value (e t)
  entry-initializer t = search (rules, typed.the_lemmas)

  pub entry-declare : (d : ℕ) → entry_of e ds (entry.Declare d) ≡ model.Declare d
  entry-declare d = search (rules, typed.the_lemmas)

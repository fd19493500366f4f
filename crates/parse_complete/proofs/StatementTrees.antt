-- The cases of a statement, and that what the parser makes is the case that the grammar names.
use Rattle.std.proofs.Common.{◌≡◌, ℕ, List, Option, Some, None, refl, sym, ap, ◌∙◌}
use mathlib.Core.Former.{this, arity}
use denote.Hole.Carrier.{hidden}
use Rattle.sqlite_items.specs.formers.items.Items.{the_former}
use Rattle.c_ast.specs.declared.declaration.Declaration.{Declaration}
use Rattle.c_ast.specs.declared.expression.Expr.{Expr}
use Rattle.c_ast.specs.declared.statement.Entry.{Entry}
use Rattle.c_ast.specs.declared.statement.Entry.TheVariants as entry
use Rattle.c_ast.specs.declared.statement.Entry.TheBlock as s
use Rattle.c_ast.specs.declared.statement.ForInit.{ForInit}
use Rattle.c_ast.specs.declared.statement.Stmt.{Stmt, roll-Stmt, roll-out-Stmt}
use Rattle.c_ast.specs.declared.statement.Stmt.TheVariants as stmt

pattern abbrev pub if_only : Expr → Stmt → Stmt
if_only e a = s.If' e tt (s.more_of-Stmt a s.end_of-Stmt) s.None'

pattern abbrev pub if_else : Expr → Stmt → Stmt → Stmt
if_else e a b = s.If' e tt (s.more_of-Stmt a s.end_of-Stmt) (s.Some' tt (s.more_of-Stmt b s.end_of-Stmt))

pattern abbrev pub switch_on : Expr → Stmt → Stmt
switch_on e a = s.Switch' e tt (s.more_of-Stmt a s.end_of-Stmt)

pattern abbrev pub while_do : Expr → Stmt → Stmt
while_do e a = s.While' e tt (s.more_of-Stmt a s.end_of-Stmt)

pattern abbrev pub do_while : Stmt → Expr → Stmt
do_while a e = s.Do' tt (s.more_of-Stmt a s.end_of-Stmt) e

pattern abbrev pub for_each : ForInit → Option Expr → Option Expr → Stmt → Stmt
for_each i test step a = s.For' i test step tt (s.more_of-Stmt a s.end_of-Stmt)

pattern abbrev pub label : ℕ → Stmt → Stmt
label n a = s.Label' n tt (s.more_of-Stmt a s.end_of-Stmt)

pattern abbrev pub case_of : ℕ → Expr → Stmt → Stmt
case_of n e a = s.Case' n e tt (s.more_of-Stmt a s.end_of-Stmt)

pattern abbrev pub default_of : ℕ → Stmt → Stmt
default_of n a = s.Default' n tt (s.more_of-Stmt a s.end_of-Stmt)

abbrev pub entries_of : {n : _} → s.Row_of-Entry n → List Entry
entries_of {n} row = s.items-the_row-Entry n row

pub if_only_is : (e : Expr) (a : Stmt) → stmt.If e a None ≡ if_only e a
unfolding s.hidden-the_row-Stmt-1 s.shape-the_row-Stmt-1 hidden
if_only_is e a = refl

pub if_else_is : (e : Expr) (a b : Stmt) → stmt.If e a (Some b) ≡ if_else e a b
unfolding s.hidden-the_row-Stmt-1 s.shape-the_row-Stmt-1 hidden
if_else_is e a b = refl

pub switch_is : (e : Expr) (a : Stmt) → stmt.Switch e a ≡ switch_on e a
unfolding s.hidden-the_row-Stmt-1 s.shape-the_row-Stmt-1 hidden
switch_is e a = refl

pub while_is : (e : Expr) (a : Stmt) → stmt.While e a ≡ while_do e a
unfolding s.hidden-the_row-Stmt-1 s.shape-the_row-Stmt-1 hidden
while_is e a = refl

pub do_is : (a : Stmt) (e : Expr) → stmt.Do a e ≡ do_while a e
unfolding s.hidden-the_row-Stmt-1 s.shape-the_row-Stmt-1 hidden
do_is a e = refl

pub for_is : (i : ForInit) (test step : Option Expr) (a : Stmt) → stmt.For i test step a ≡ for_each i test step a
unfolding s.hidden-the_row-Stmt-1 s.shape-the_row-Stmt-1 hidden
for_is i test step a = refl

pub label_is : (n : ℕ) (a : Stmt) → stmt.Label n a ≡ label n a
unfolding s.hidden-the_row-Stmt-1 s.shape-the_row-Stmt-1 hidden
label_is n a = refl

pub case_is : (n : ℕ) (e : Expr) (a : Stmt) → stmt.Case n e a ≡ case_of n e a
unfolding s.hidden-the_row-Stmt-1 s.shape-the_row-Stmt-1 hidden
case_is n e a = refl

pub default_is : (n : ℕ) (a : Stmt) → stmt.Default n a ≡ default_of n a
unfolding s.hidden-the_row-Stmt-1 s.shape-the_row-Stmt-1 hidden
default_is n a = refl

pub block_is : (n : List (Unit {0})) (row : s.Row_of-Entry (arity (the_former (this {0})) n)) → stmt.Block (entries_of row) ≡ s.Block' n row
block_is n row = ap stmt.Block (sym (s.items_shown-the_row-Entry-0 n row)) ∙ (sym (stmt.rolls-Block (s.shown-the_row-Entry-0 n row))
    ∙ (ap roll-Stmt (sym (stmt.outs-Block' n row)) ∙ roll-out-Stmt (s.Block' n row)))

pub statement_is : (a : Stmt) → entry.Statement a ≡ s.Statement a
statement_is a = refl

pub declaration_is : (d : Declaration) → entry.Declaration d ≡ s.Declaration d
declaration_is d = refl

pub entry_assertion_is : (e : Expr) (n : ℕ) → entry.Assertion e n ≡ s.Assertion e n
entry_assertion_is e n = refl

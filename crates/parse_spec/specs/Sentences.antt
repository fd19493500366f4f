-- Sentences with their trees, and some that are none, by the function.
use Rattle.std.specs.Prelude.{◌≡◌, ℕ, ◌+◌, List, [], ◌∷◌, ◌++◌, length, Option, Some, None, codes, false}
use Rattle.c_lex.specs.TokenText.{TokenText}
use Rattle.c_lex.specs.declared.token.Token.{Token}
use Rattle.c_lex.specs.declared.token.TokenKind.{TokenKind}
use Rattle.c_lex.specs.declared.token.TokenKind.TheVariants as token
use Rattle.c_lex.specs.declared.token.Word.{Word as AWord}
use Rattle.c_lex.specs.declared.token.Word.TheVariants as w
use Rattle.c_lex.specs.declared.token.Mark.{Mark as AMark}
use Rattle.c_lex.specs.declared.token.Mark.TheVariants as m
use Rattle.c_ast.specs.declared.declaration.Base.TheVariants as base
use Rattle.c_ast.specs.declared.declaration.Declarator.{Declarator}
use Rattle.c_ast.specs.declared.declaration.Declarator.TheVariants as d
use Rattle.c_ast.specs.declared.declaration.Designator.TheVariants as designator
use Rattle.c_ast.specs.declared.declaration.Init.{Init}
use Rattle.c_ast.specs.declared.declaration.Init.TheVariants as init
use Rattle.c_ast.specs.declared.declaration.Specs.{Specs}
use Rattle.c_ast.specs.declared.expression.BinaryOp.TheVariants as b
use Rattle.c_ast.specs.declared.expression.UnaryOp.TheVariants as u
use Rattle.c_ast.specs.declared.expression.Expr.{Expr}
use Rattle.c_ast.specs.declared.expression.ExprNode.TheVariants as node
use Rattle.c_ast.specs.declared.statement.Entry.TheVariants as entry
use Rattle.c_ast.specs.declared.statement.Stmt.{Stmt}
use Rattle.c_ast.specs.declared.statement.Stmt.TheVariants as stmt
use Rattle.c_ast.specs.declared.statement.Unit.{Unit as TheUnit}
use Rattle.c_ast.specs.declared.statement.UnitEntry.{UnitEntry}
use Rattle.c_ast.specs.declared.statement.UnitEntry.TheVariants as unit
use Rattle.parse_spec.specs.Expressions.{made}
use Rattle.parse_spec.specs.Units.{tree_of}

-- tokens with how they are spelled, one directly behind the other
abbrev pub Spelled : Type 0
Spelled = List (TokenKind × List ℕ)

abbrev pub tokens_from : ℕ → Spelled → List Token
tokens_from at [] = []
tokens_from at (x ∷ xs) = record { kind = x.0; start = at; end = at + length x.1; line = 1 } ∷ tokens_from (at + length x.1) xs

abbrev pub source_of : Spelled → List ℕ
source_of [] = []
source_of (x ∷ xs) = x.1 ++ source_of xs

abbrev pub text_of : Spelled → TokenText
text_of all = record { source = source_of all; list = tokens_from 0 all }

-- Marks and keywords are read by their kinds alone, so that one byte stands for each here.
abbrev pub mark : AMark → TokenKind × List ℕ
mark p = (token.Punct p, codes "?")

abbrev pub word : AWord → TokenKind × List ℕ
word a = (token.Keyword a, codes "w")

abbrev pub name : List ℕ → TokenKind × List ℕ
name text = (token.Name, text)

abbrev pub number : TokenKind × List ℕ
number = (token.Number, codes "1")

abbrev pub named : ℕ → Expr
named n = made n (node.Name n)

abbrev pub ident : ℕ → Declarator
ident n = d.Ident (Some n)

abbrev pub plain : AWord → Specs
plain a = record { words = a ∷ []; base = base.Plain }

-- a declaration of one declarator with an initializer
abbrev pub declared_as : Specs → Declarator → Option Init → UnitEntry
declared_as s p i = unit.Declaration (record { specs = s; parts = record { declarator = p; init = i } ∷ [] })

abbrev pub unit_of : List UnitEntry → Option TheUnit
unit_of all = Some (record { entries = all })

-- `int x = a - b - c;`
abbrev pub minus_minus : Spelled
minus_minus = word w.Int ∷ name (codes "x") ∷ mark m.Equal ∷ name (codes "a") ∷ mark m.Minus ∷ name (codes "b") ∷ mark m.Minus
    ∷ name (codes "c") ∷ mark m.Semicolon ∷ []

-- `int x = a + b * c;`
abbrev pub plus_star : Spelled
plus_star = word w.Int ∷ name (codes "x") ∷ mark m.Equal ∷ name (codes "a") ∷ mark m.Plus ∷ name (codes "b") ∷ mark m.Star
    ∷ name (codes "c") ∷ mark m.Semicolon ∷ []

-- `int x = a + b = c;`
abbrev pub sum_assigned : Spelled
sum_assigned = word w.Int ∷ name (codes "x") ∷ mark m.Equal ∷ name (codes "a") ∷ mark m.Plus ∷ name (codes "b") ∷ mark m.Equal
    ∷ name (codes "c") ∷ mark m.Semicolon ∷ []

-- `int x = (A)*b;`
abbrev pub bracketed : Spelled
bracketed = word w.Int ∷ name (codes "x") ∷ mark m.Equal ∷ mark m.OpenParen ∷ name (codes "A") ∷ mark m.CloseParen ∷ mark m.Star
    ∷ name (codes "b") ∷ mark m.Semicolon ∷ []

-- `typedef int A;`
abbrev pub typedef_a : Spelled
typedef_a = word w.Typedef ∷ word w.Int ∷ name (codes "A") ∷ mark m.Semicolon ∷ []

-- `A A; A x;`
abbrev pub hidden_a : Spelled
hidden_a = name (codes "A") ∷ name (codes "A") ∷ mark m.Semicolon ∷ name (codes "A") ∷ name (codes "x") ∷ mark m.Semicolon ∷ []

-- `void f(void) { int A; } A x;`
abbrev pub restored_a : Spelled
restored_a = word w.Void ∷ name (codes "f") ∷ mark m.OpenParen ∷ word w.Void ∷ mark m.CloseParen ∷ mark m.OpenBrace
    ∷ word w.Int ∷ name (codes "A") ∷ mark m.Semicolon ∷ mark m.CloseBrace ∷ name (codes "A") ∷ name (codes "x") ∷ mark m.Semicolon ∷ []

-- `void f(void) { if (a) if (b) goto x; else goto y; }`
abbrev pub dangling : Spelled
dangling = word w.Void ∷ name (codes "f") ∷ mark m.OpenParen ∷ word w.Void ∷ mark m.CloseParen ∷ mark m.OpenBrace
    ∷ word w.If ∷ mark m.OpenParen ∷ name (codes "a") ∷ mark m.CloseParen
    ∷ word w.If ∷ mark m.OpenParen ∷ name (codes "b") ∷ mark m.CloseParen
    ∷ word w.Goto ∷ name (codes "x") ∷ mark m.Semicolon
    ∷ word w.Else ∷ word w.Goto ∷ name (codes "y") ∷ mark m.Semicolon ∷ mark m.CloseBrace ∷ []

-- `int x = {.a[1].b = 1};`
abbrev pub designated : Spelled
designated = word w.Int ∷ name (codes "x") ∷ mark m.Equal ∷ mark m.OpenBrace ∷ mark m.Dot ∷ name (codes "a") ∷ mark m.OpenBracket
    ∷ number ∷ mark m.CloseBracket ∷ mark m.Dot ∷ name (codes "b") ∷ mark m.Equal ∷ number ∷ mark m.CloseBrace ∷ mark m.Semicolon ∷ []

-- `f(void)`, where `f` is this token
abbrev pub no_parameters : ℕ → Declarator
no_parameters n = d.Function (ident n) (record { specs = plain w.Void; declarator = d.Ident None } ∷ []) false

abbrev pub nested_if : Stmt
nested_if = stmt.If (named 8) (stmt.If (named 12) (stmt.Goto 15) (Some (stmt.Goto 19))) None

pub record ReadSentences : Type 0 where
  pub empty_file : tree_of (text_of []) ≡ unit_of []
  pub lone_semicolon : tree_of (text_of (mark m.Semicolon ∷ [])) ≡ unit_of (unit.Empty ∷ [])
  pub no_parenthesis : tree_of (text_of (mark m.CloseParen ∷ [])) ≡ None
  pub subtraction : tree_of (text_of minus_minus) ≡ unit_of (declared_as (plain w.Int) (ident 1)
      (Some (init.Single (made 3 (node.Binary b.Sub (made 3 (node.Binary b.Sub (named 3) (named 5))) (named 7))))) ∷ [])
  pub precedence : tree_of (text_of plus_star) ≡ unit_of (declared_as (plain w.Int) (ident 1)
      (Some (init.Single (made 3 (node.Binary b.Add (named 3) (made 5 (node.Binary b.Mul (named 5) (named 7))))))) ∷ [])
  pub assigned_sum : tree_of (text_of sum_assigned) ≡ None
  pub product : tree_of (text_of bracketed) ≡ unit_of (declared_as (plain w.Int) (ident 1)
      (Some (init.Single (made 3 (node.Binary b.Mul (named 4) (named 7))))) ∷ [])
  pub cast : tree_of (text_of (typedef_a ++ bracketed)) ≡ unit_of (
      declared_as (record { words = w.Typedef ∷ w.Int ∷ []; base = base.Plain }) (ident 2) None
      ∷ declared_as (plain w.Int) (ident 5) (Some (init.Single (made 7 (node.Cast
      (record { specs = record { words = []; base = base.Typedef 8 }; declarator = d.Ident None })
      (made 10 (node.Unary u.Deref (named 11))))))) ∷ [])
  pub dangling_else : tree_of (text_of dangling) ≡ unit_of (
      unit.Function (plain w.Void) (no_parameters 1) (entry.Statement nested_if ∷ []) ∷ [])
  pub designators : tree_of (text_of designated) ≡ unit_of (declared_as (plain w.Int) (ident 1)
      (Some (init.Braced 3 (record {
        designators = designator.Member 5 ∷ designator.Element (made 7 (node.Number 7)) ∷ designator.Member 10 ∷ [];
        init = init.Single (made 12 (node.Number 12));
      } ∷ []))) ∷ [])
  -- a typedef name is hidden from the end of the declarator on, and stands again behind the block
  pub hidden : tree_of (text_of (typedef_a ++ hidden_a)) ≡ None
  pub restored : tree_of (text_of (typedef_a ++ restored_a)) ≡ unit_of (
      declared_as (record { words = w.Typedef ∷ w.Int ∷ []; base = base.Plain }) (ident 2) None
      ∷ unit.Function (plain w.Void) (no_parameters 5)
      (entry.Declaration (record { specs = plain w.Int; parts = record { declarator = ident 11; init = None } ∷ [] }) ∷ [])
      ∷ declared_as (record { words = []; base = base.Typedef 14 }) (ident 15) None ∷ [])

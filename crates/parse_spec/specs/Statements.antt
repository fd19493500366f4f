-- Statements (6.8).
use Rattle.std.specs.Prelude.{ℕ, zero, suc, not, ◌&&◌, if◌then◌else◌, List, [], ◌∷◌, ◌++◌, Option, Some, None}
use Rattle.c_lex.specs.declared.token.TokenKind.{TokenKind}
use Rattle.c_lex.specs.declared.token.TokenKind.TheVariants as token
use Rattle.c_lex.specs.declared.token.Word.TheVariants as w
use Rattle.c_lex.specs.declared.token.Mark.{Mark as AMark}
use Rattle.c_lex.specs.declared.token.Mark.TheVariants as m
use Rattle.c_ast.specs.declared.expression.Expr.{Expr}
use Rattle.c_ast.specs.declared.statement.Entry.{Entry}
use Rattle.c_ast.specs.declared.statement.Entry.TheVariants as entry
use Rattle.c_ast.specs.declared.statement.ForInit.{ForInit}
use Rattle.c_ast.specs.declared.statement.ForInit.TheVariants as for-init
use Rattle.c_ast.specs.declared.statement.Stmt.{Stmt}
use Rattle.c_ast.specs.declared.statement.Stmt.TheVariants as stmt
use Rattle.c_ast.specs.Input.{kind}
use Rattle.c_grammar.specs.Operators as op
use Rattle.parse_spec.specs.Declarations.{assertion, declaration}
use Rattle.parse_spec.specs.Nested.{expr}
use Rattle.parse_spec.specs.Places.{begins_declaration, is_label}
use Rattle.parse_spec.specs.Steps.{Parser, ◌>>=◌, ◌>>◌, pure, refuse, turns, sees_word, take_token, eat, eat_word, expect, expect_word, identifier, scoped}

abbrev pub whole_expr : Parser Expr
whole_expr = λ i. expr (turns i) op.comma i

unfoldable pub in_parentheses : Parser Expr
in_parentheses = do
  expect m.OpenParen
  e ← whole_expr
  expect m.CloseParen
  pure e

-- an expression or none, and then this punctuator
unfoldable pub maybe_expr : AMark → Parser (Option Expr)
maybe_expr end = do
  none ← eat end
  if none then pure None else (do e ← whole_expr; expect end; pure (Some e))

abbrev pub for_value : Option Expr → ForInit
for_value (Some e) = for-init.Value e
for_value None = for-init.Empty

-- the first part of `for`, and its semicolon
unfoldable pub for_init : Parser ForInit
for_init = λ i.
    (if begins_declaration i then (do d ← declaration; pure (for-init.Declared d))
    else (do e ← maybe_expr m.Semicolon; pure (for_value e))) i

unfoldable pub simple_stmt : Parser Stmt
simple_stmt = do
  e ← maybe_expr m.Semicolon
  pure (stmt.Simple e)

-- a statement that holds no other
abbrev pub plain_by : ℕ → Option TokenKind → Parser Stmt
plain_by at (Some (token.Keyword w.Goto)) = take_token >> (do n ← identifier; expect m.Semicolon; pure (stmt.Goto n))
plain_by at (Some (token.Keyword w.Continue)) = take_token >> (do expect m.Semicolon; pure (stmt.Continue at))
plain_by at (Some (token.Keyword w.Break)) = take_token >> (do expect m.Semicolon; pure (stmt.Break at))
plain_by at (Some (token.Keyword w.Return)) = take_token >> (do e ← maybe_expr m.Semicolon; pure (stmt.Return at e))
plain_by at _ = simple_stmt

unfoldable pub plain_stmt : Parser Stmt
plain_stmt = λ i. plain_by i.at (kind i) i

-- the value of a `case` and the colon
unfoldable pub case_value : Parser Expr
case_value = do
  e ← (λ i. expr (turns i) op.conditional i)
  expect m.Colon
  pure e

module _ (stmt_in : Parser Stmt) where
  -- an `else` goes with the nearest `if` (6.8.4.1p3)
  unfoldable pub else_part : Parser (Option Stmt)
  else_part = do
    more ← eat_word w.Else
    if more then (do a ← scoped stmt_in; pure (Some a)) else pure None

  -- after `if`
  unfoldable pub if_stmt : Parser Stmt
  if_stmt = do
    e ← in_parentheses
    body ← scoped stmt_in
    other ← else_part
    pure (stmt.If e body other)

  unfoldable pub switch_stmt : Parser Stmt
  switch_stmt = do
    e ← in_parentheses
    body ← scoped stmt_in
    pure (stmt.Switch e body)

  unfoldable pub while_stmt : Parser Stmt
  while_stmt = do
    e ← in_parentheses
    body ← scoped stmt_in
    pure (stmt.While e body)

  unfoldable pub do_stmt : Parser Stmt
  do_stmt = do
    body ← scoped stmt_in
    expect_word w.While
    e ← in_parentheses
    expect m.Semicolon
    pure (stmt.Do body e)

  unfoldable pub for_stmt : Parser Stmt
  for_stmt = do
    expect m.OpenParen
    first ← for_init
    test ← maybe_expr m.Semicolon
    step ← maybe_expr m.CloseParen
    body ← scoped stmt_in
    pure (stmt.For first test step body)

  unfoldable pub label_stmt : ℕ → Parser Stmt
  label_stmt n = do
    expect m.Colon
    body ← stmt_in
    pure (stmt.Label n body)

  unfoldable pub case_stmt : ℕ → Parser Stmt
  case_stmt at = do
    e ← case_value
    body ← stmt_in
    pure (stmt.Case at e body)

  unfoldable pub default_stmt : ℕ → Parser Stmt
  default_stmt at = do
    expect m.Colon
    body ← stmt_in
    pure (stmt.Default at body)

  -- one block item (6.8.2)
  unfoldable pub one_entry : Parser Entry
  one_entry = λ i.
      (if sees_word w.StaticAssert i then (do p ← assertion; pure (entry.Assertion p.0 p.1))
      else (if begins_declaration i && not (is_label i) then (do d ← declaration; pure (entry.Declaration d))
      else (do a ← stmt_in; pure (entry.Statement a)))) i

  -- the block items and the closing brace
  unfoldable pub entries_from : ℕ → List Entry → Parser (List Entry)
  entries_from zero found = refuse
  entries_from (suc n) found = do
    done ← eat m.CloseBrace
    if done then pure found else (do a ← one_entry; entries_from n (found ++ a ∷ []))

  unfoldable pub entries : Parser (List Entry)
  entries = λ i. entries_from (turns i) [] i

  -- after the opening brace
  unfoldable pub block : Parser Stmt
  block = do
    all ← scoped entries
    pure (stmt.Block all)

  -- What is declared in a selection or an iteration statement ends with it (6.8.4p3, 6.8.5p5).
  abbrev pub unlabelled_by : ℕ → Option TokenKind → Parser Stmt
  unlabelled_by at (Some (token.Punct m.OpenBrace)) = take_token >> block
  unlabelled_by at (Some (token.Keyword w.Case)) = take_token >> case_stmt at
  unlabelled_by at (Some (token.Keyword w.Default)) = take_token >> default_stmt at
  unlabelled_by at (Some (token.Keyword w.If)) = scoped (take_token >> if_stmt)
  unlabelled_by at (Some (token.Keyword w.Switch)) = scoped (take_token >> switch_stmt)
  unlabelled_by at (Some (token.Keyword w.While)) = scoped (take_token >> while_stmt)
  unlabelled_by at (Some (token.Keyword w.Do)) = scoped (take_token >> do_stmt)
  unlabelled_by at (Some (token.Keyword w.For)) = scoped (take_token >> for_stmt)
  unlabelled_by at _ = plain_stmt

  unfoldable pub one_stmt : Parser Stmt
  one_stmt = λ i. (if is_label i then (do n ← identifier; label_stmt n) else unlabelled_by i.at (kind i)) i

-- a statement, in which others nest no deeper than the number
unfoldable pub statement : ℕ → Parser Stmt
statement zero = refuse
statement (suc depth) = one_stmt (statement depth)

-- after the opening brace of a function's body
unfoldable pub body : Parser (List Entry)
body = λ i. entries (statement (turns i)) i

-- A part of the rules that is a function of its own here.
use Rattle.c_lex.specs.declared.token.TokenKind.{TokenKind}
use Rattle.c_lex.specs.declared.token.TokenKind.TheVariants as token
use Rattle.c_lex.specs.declared.token.Word.TheVariants as w
use Rattle.c_ast.specs.declared.statement.Stmt.{Stmt}
use Rattle.std.specs.Prelude.{Option, Some}
use Rattle.parse_spec.specs.Statements.{if_stmt, switch_stmt, while_stmt, do_stmt, for_stmt}
use Rattle.parse_spec.specs.Steps.{Parser}

-- a selection or an iteration statement behind its first keyword (6.8.4, 6.8.5)
abbrev pub held_by : Parser Stmt → Option TokenKind → Parser Stmt
held_by stmt_in (Some (token.Keyword w.If)) = if_stmt stmt_in
held_by stmt_in (Some (token.Keyword w.Switch)) = switch_stmt stmt_in
held_by stmt_in (Some (token.Keyword w.Do)) = do_stmt stmt_in
held_by stmt_in (Some (token.Keyword w.For)) = for_stmt stmt_in
held_by stmt_in _ = while_stmt stmt_in

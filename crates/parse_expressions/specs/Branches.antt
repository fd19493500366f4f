-- What stands behind the `?` of a conditional expression (6.5.15).
use Rattle.std.specs.Prelude.{ℕ}
use Rattle.c_lex.specs.declared.token.Mark.TheVariants as m
use Rattle.c_ast.specs.declared.expression.Expr.{Expr}
use Rattle.c_grammar.specs.Operators as op
use Rattle.parse_spec.specs.Steps.{Parser, ◌>>=◌, pure}
use Rattle.parse_nodes.specs.Behind.{followed}

abbrev pub yes_branch : (ℕ → Parser Expr) → Parser Expr
yes_branch expr = expr op.comma >>= followed m.Colon

abbrev pub branches : (ℕ → Parser Expr) → Parser (Expr × Expr)
branches expr = do
  a ← yes_branch expr
  b ← expr op.conditional
  pure (a, b)

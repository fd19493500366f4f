-- Expressions, declarators and specifiers, which nest in one another no deeper than the first number.
use Rattle.std.specs.Prelude.{ℕ, zero, suc, Bool}
use Rattle.c_lex.specs.declared.token.Word.{Word as AWord}
use Rattle.c_ast.specs.declared.declaration.Declarator.{Declarator}
use Rattle.c_ast.specs.declared.declaration.Specs.{Specs}
use Rattle.c_ast.specs.declared.expression.Expr.{Expr}
use Rattle.c_grammar.specs.Grammar.{Mode}
use Rattle.parse_spec.specs.Declarators.{one_declarator}
use Rattle.parse_spec.specs.Expressions.{level}
use Rattle.parse_spec.specs.Specifiers.{specifiers}
use Rattle.parse_spec.specs.Steps.{Parser, refuse}

unfoldable mutual
  pub expr : ℕ → ℕ → Parser Expr
  expr zero least = refuse
  expr (suc depth) least = level (expr depth) (declarator depth) (specs depth) least

  pub declarator : ℕ → Mode → Parser Declarator
  declarator zero mode = refuse
  declarator (suc depth) mode = one_declarator (expr depth) (declarator depth) (specs depth) mode

  pub specs : ℕ → (AWord → Bool) → Parser Specs
  specs zero allowed = refuse
  specs (suc depth) allowed = specifiers (expr depth) (declarator depth) (specs depth) allowed

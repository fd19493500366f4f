-- A scope that ends leaves the declarations that stood before it.
use Rattle.std.specs.Prelude.{◌≡◌, ℕ, Bool, Some}
use Rattle.c_lex.specs.declared.token.Word.{Word}
use Rattle.c_ast.specs.declared.statement.Stmt.{Stmt}
use Rattle.c_ast.specs.Input.{Input}
use Rattle.c_grammar.specs.Grammar.{Mode}
use Rattle.parse_spec.specs.Declarations as declarations
use Rattle.parse_spec.specs.Nested.{expr, declarator, specs}
use Rattle.parse_spec.specs.Scopes.{OnlyAdds, Ends}
use Rattle.parse_spec.specs.Statements.{statement}
use Rattle.parse_spec.specs.Steps.{scoped}
use Rattle.parse_spec.specs.Units.{whole_unit}

pub record ScopesEnd : Type 0 where
  pub expressions : (depth least : ℕ) → OnlyAdds (expr depth least)
  pub declarators : (depth : ℕ) (mode : Mode) → OnlyAdds (declarator depth mode)
  pub specifiers : (depth : ℕ) (allowed : Word → Bool) → OnlyAdds (specs depth allowed)
  pub declaration : OnlyAdds declarations.declaration
  pub statements : (depth : ℕ) → OnlyAdds (statement depth)
  pub units : OnlyAdds whole_unit
  -- behind a statement that is a block of its own
  pub blocks : (depth : ℕ) (i j : Input) (a : Stmt) → scoped (statement depth) i ≡ Some (a, j) → Ends i j

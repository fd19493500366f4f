-- Declarations (6.7).
use Rattle.std.specs.Prelude.{ℕ, zero, suc, Bool, if◌then◌else◌, List, [], ◌∷◌, ◌++◌, Option, Some, None}
use Rattle.c_lex.specs.declared.token.Mark.TheVariants as m
use Rattle.c_ast.specs.declared.declaration.Declaration.{Declaration}
use Rattle.c_ast.specs.declared.declaration.Declarator.{Declarator}
use Rattle.c_ast.specs.declared.declaration.Init.{Init}
use Rattle.c_ast.specs.declared.declaration.Part.{Part}
use Rattle.c_ast.specs.declared.declaration.Specs.{Specs}
use Rattle.c_ast.specs.declared.expression.Expr.{Expr}
use Rattle.c_grammar.specs.Grammar.{Named, name_of}
use Rattle.c_grammar.specs.Rules.{is_declaration_word, declares_typedef}
use Rattle.parse_spec.specs.Initializers.{initializer}
use Rattle.parse_spec.specs.Nested.{expr, declarator, specs}
use Rattle.parse_spec.specs.Specifiers as specifiers
use Rattle.parse_spec.specs.Steps.{Parser, ◌>>=◌, ◌>>◌, pure, refuse, turns, eat, expect, declares}

-- a static assertion (6.7.10)
unfoldable pub assertion : Parser (Expr × ℕ)
assertion = λ i. specifiers.assertion (expr (turns i)) (declarator (turns i)) (specs (turns i)) i

unfoldable pub declaration_specs : Parser Specs
declaration_specs = λ i. specs (turns i) is_declaration_word i

-- a declarator with its name, which is in scope from its end on (6.2.1p7)
unfoldable pub named_declarator : Bool → Parser Declarator
named_declarator typedef = do
  d ← (λ i. declarator (turns i) Named i)
  declares typedef (name_of d)
  pure d

unfoldable pub maybe_init : Parser (Option Init)
maybe_init = do
  more ← eat m.Equal
  if more then (do i ← (λ j. initializer (turns j) j); pure (Some i)) else pure None

unfoldable pub part_of : Declarator → Parser Part
part_of d = do
  i ← maybe_init
  pure (record { declarator = d; init = i })

-- the parts behind the first ones, and the semicolon
unfoldable pub parts_from : Bool → ℕ → List Part → Parser (List Part)
parts_from typedef zero found = refuse
parts_from typedef (suc n) found = do
  more ← eat m.Comma
  if more then (do d ← named_declarator typedef; p ← part_of d; parts_from typedef n (found ++ p ∷ []))
      else (do expect m.Semicolon; pure found)

-- the rest of a declaration behind its first declarator
unfoldable pub more_parts : Bool → Declarator → Parser (List Part)
more_parts typedef first = do
  p ← part_of first
  (λ i. parts_from typedef (turns i) (p ∷ []) i)

unfoldable pub maybe_parts : Bool → Parser (List Part)
maybe_parts typedef = do
  none ← eat m.Semicolon
  if none then pure [] else (do first ← named_declarator typedef; more_parts typedef first)

-- a declaration that is no static assertion
unfoldable pub declaration : Parser Declaration
declaration = do
  s ← declaration_specs
  all ← maybe_parts (declares_typedef s.words)
  pure (record { specs = s; parts = all })

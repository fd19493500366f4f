-- Parts of the rules of declarators and specifiers.
use Rattle.std.specs.Prelude.{ℕ, ◌==◌, Bool, false, if◌then◌else◌, List, ◌++◌, Some}
use Rattle.c_lex.specs.declared.token.Word.{Word as AWord}
use Rattle.c_lex.specs.declared.token.Word.TheVariants as w
use Rattle.c_lex.specs.declared.token.Mark.TheVariants as m
use Rattle.c_ast.specs.declared.declaration.Base.{Base}
use Rattle.c_ast.specs.declared.declaration.Declarator.{Declarator}
use Rattle.c_ast.specs.declared.declaration.Declarator.TheVariants as d
use Rattle.c_ast.specs.declared.declaration.MemberEntry.{MemberEntry}
use Rattle.c_ast.specs.declared.declaration.MemberEntry.TheVariants as member-entry
use Rattle.c_ast.specs.declared.declaration.Param.{Param}
use Rattle.c_ast.specs.declared.declaration.Specs.{Specs}
use Rattle.c_ast.specs.declared.expression.Expr.{Expr}
use Rattle.c_grammar.specs.Operators as op
use Rattle.c_grammar.specs.Grammar.{Mode, Either, name_of}
use Rattle.c_grammar.specs.Rules.{is_qualified_word}
use Rattle.parse_spec.specs.Specifiers.{specs_of}
use Rattle.parse_spec.specs.Steps.{Parser, ◌>>=◌, ◌>>◌, pure, refuse, expect, expect_word, words, declares, apart, prototype}

-- ---- declarators

-- a parameter's declarator, whose name is in scope behind it
abbrev pub parameter_declarator : (Mode → Parser Declarator) → Parser Declarator
parameter_declarator declarator = do
  p ← declarator Either
  declares false (name_of p)
  pure p

-- the size of an array and the closing bracket
abbrev pub array_size : (ℕ → Parser Expr) → Parser Expr
array_size expr = do
  e ← apart (expr op.assignment)
  expect m.CloseBracket
  pure e

abbrev pub sized : (ℕ → Parser Expr) → Declarator → Parser Declarator
sized expr inner = do
  e ← array_size expr
  pure (d.Array inner (Some e))

-- the parameters and the closing parenthesis
abbrev pub closed_prototype : Bool → Parser (List Param × Bool) → Parser (List Param × Bool)
closed_prototype own parameters = do
  p ← prototype own parameters
  expect m.CloseParen
  pure p

-- ---- specifiers

-- the condition of a static assertion, up to the comma
abbrev pub condition : (ℕ → Parser Expr) → Parser Expr
condition expr = do
  expect_word w.StaticAssert
  expect m.OpenParen
  e ← expr op.conditional
  expect m.Comma
  pure e

abbrev pub member_assertion : Parser (Expr × ℕ) → Parser MemberEntry
member_assertion assertion = do
  p ← assertion
  pure (member-entry.Assertion p.0 p.1)

abbrev pub fields : ((AWord → Bool) → Parser Specs) → Parser (List Declarator) → Parser MemberEntry
fields specs names = do
  s ← specs is_qualified_word
  ds ← names
  pure (member-entry.Fields s ds)

-- these keywords and those that follow
abbrev pub words_behind : (AWord → Bool) → List AWord → Parser (List AWord)
words_behind allowed before = do
  behind ← words allowed
  pure (before ++ behind)

abbrev pub specs_behind : (AWord → Bool) → List AWord → Base → Parser Specs
specs_behind allowed before b = do
  all ← words_behind allowed before
  pure (specs_of all b)

-- at least one token was taken since the first
abbrev pub taken : ℕ → Parser (Unit {0})
taken first = λ i. (if i.at == first then refuse else pure tt) i

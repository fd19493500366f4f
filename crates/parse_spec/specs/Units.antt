-- Translation units (6.9): what the parser answers for a list of tokens.
use Rattle.std.specs.Prelude.{ℕ, zero, suc, Bool, true, false, if◌then◌else◌, List, [], ◌∷◌, ◌++◌, Option, Some, None}
use Rattle.c_lex.specs.TokenText.{TokenText}
use Rattle.c_lex.specs.declared.token.TokenKind.{TokenKind}
use Rattle.c_lex.specs.declared.token.Word.TheVariants as w
use Rattle.c_lex.specs.declared.token.Mark.TheVariants as m
use Rattle.c_ast.specs.declared.declaration.Specs.{Specs}
use Rattle.c_ast.specs.declared.statement.Entry.{Entry}
use Rattle.c_ast.specs.declared.statement.Unit.{Unit as TheUnit}
use Rattle.c_ast.specs.declared.statement.UnitEntry.{UnitEntry}
use Rattle.c_ast.specs.declared.statement.UnitEntry.TheVariants as unit
use Rattle.c_ast.specs.Input.{kind, start_of}
use Rattle.c_grammar.specs.Rules.{declares_typedef}
use Rattle.parse_spec.specs.Declarations.{assertion, declaration_specs, named_declarator, more_parts}
use Rattle.parse_spec.specs.Statements.{body}
use Rattle.parse_spec.specs.Steps.{Outcome, Parser, ◌>>=◌, ◌>>◌, pure, refuse, turns, sees_word, eat, in_prototype, without_prototype}

-- a function's body, after the opening brace: what its parameters declare is in scope there (6.2.1p4)
abbrev pub function_body : Parser (List Entry)
function_body = in_prototype body

-- no parameters are kept from before
abbrev pub afresh : Parser (Unit {0})
afresh = λ i. Some (tt, without_prototype i)

-- the rest of a declaration or a function definition behind its specifiers
unfoldable pub declared_as : Specs → Parser UnitEntry
declared_as s = do
  afresh
  d ← named_declarator (declares_typedef s.words)
  brace ← eat m.OpenBrace
  if brace then (do all ← function_body; pure (unit.Function s d all))
      else (do all ← more_parts (declares_typedef s.words) d; pure (unit.Declaration (record { specs = s; parts = all })))

-- a declaration or a function definition
unfoldable pub declared : Parser UnitEntry
declared = do
  s ← declaration_specs
  none ← eat m.Semicolon
  if none then pure (unit.Declaration (record { specs = s; parts = [] })) else declared_as s

unfoldable pub unit_entry : Parser UnitEntry
unit_entry = do
  empty ← eat m.Semicolon
  if empty then pure unit.Empty
      else (λ i. (if sees_word w.StaticAssert i then (do p ← assertion; pure (unit.Assertion p.0 p.1)) else declared) i)

abbrev pub unit_of : List UnitEntry → TheUnit
unit_of all = record { entries = all }

abbrev pub is_end : Option TokenKind → Bool
is_end None = true
is_end (Some found) = false

unfoldable pub entries_from : ℕ → List UnitEntry → Parser TheUnit
entries_from zero found = refuse
entries_from (suc n) found = λ i.
    (if is_end (kind i) then pure (unit_of found) else (do a ← unit_entry; entries_from n (found ++ a ∷ []))) i

unfoldable pub whole_unit : Parser TheUnit
whole_unit = λ i. entries_from (turns i) [] i

abbrev pub read_of : {A : Type 0} → Outcome A → Option A
read_of (Some p) = Some p.0
read_of None = None

-- the syntax tree of the tokens
unfoldable pub tree_of : TokenText → Option TheUnit
tree_of tokens = read_of (whole_unit (start_of tokens))

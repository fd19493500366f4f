-- Specifiers, and the structures, unions and enumerations among them (6.7.2).
use Rattle.std.specs.Prelude.{ℕ, zero, suc, ◌==◌, Bool, true, false, if◌then◌else◌, List, [], ◌∷◌, ◌++◌, Option, Some, None}
use Rattle.c_lex.specs.declared.token.TokenKind.{TokenKind}
use Rattle.c_lex.specs.declared.token.TokenKind.TheVariants as token
use Rattle.c_lex.specs.declared.token.Word.{Word as AWord}
use Rattle.c_lex.specs.declared.token.Word.TheVariants as w
use Rattle.c_lex.specs.declared.token.Mark.TheVariants as m
use Rattle.c_ast.specs.declared.declaration.Base.{Base}
use Rattle.c_ast.specs.declared.declaration.Base.TheVariants as base
use Rattle.c_ast.specs.declared.declaration.Declarator.{Declarator}
use Rattle.c_ast.specs.declared.declaration.Enumerator.{Enumerator, roll-Enumerator}
use Rattle.c_ast.specs.declared.declaration.MemberEntry.{MemberEntry}
use Rattle.c_ast.specs.declared.declaration.MemberEntry.TheVariants as member-entry
use Rattle.c_ast.specs.declared.declaration.Specs.{Specs}
use Rattle.c_ast.specs.declared.expression.Expr.{Expr}
use Rattle.c_ast.specs.Input.{kind, next, is_typedef}
use Rattle.c_grammar.specs.Operators as op
use Rattle.c_grammar.specs.Grammar.{Mode, Named}
use Rattle.c_grammar.specs.Rules.{is_qualified_word, has_type_word}
use Rattle.parse_spec.specs.Steps.{
  Parser,
  ◌>>=◌,
  ◌>>◌,
  pure,
  refuse,
  turns,
  sees_word,
  take_token,
  eat,
  expect,
  expect_word,
  identifier,
  maybe_identifier,
  strings,
  words,
  declares,
}

abbrev pub specs_of : List AWord → Base → Specs
specs_of all b = record { words = all; base = b }

-- the message of a static assertion, the parenthesis and the semicolon
unfoldable pub message : Parser ℕ
message = λ i. (do strings; expect m.CloseParen; expect m.Semicolon; pure i.at) i

module _ (expr : ℕ → Parser Expr) (declarator : Mode → Parser Declarator) (specs : (AWord → Bool) → Parser Specs) where
  -- a static assertion (6.7.10): its condition, and the first string literal of its message
  unfoldable pub assertion : Parser (Expr × ℕ)
  assertion = do
    expect_word w.StaticAssert
    expect m.OpenParen
    e ← expr op.conditional
    expect m.Comma
    n ← message
    pure (e, n)

  unfoldable pub names_from : ℕ → List Declarator → Parser (List Declarator)
  names_from zero found = refuse
  names_from (suc n) found = do
    d ← declarator Named
    more ← eat m.Comma
    if more then names_from n (found ++ d ∷ []) else pure (found ++ d ∷ [])

  -- the declarators of members, or none, and the semicolon
  unfoldable pub member_names : Parser (List Declarator)
  member_names = do
    none ← eat m.Semicolon
    if none then pure [] else (do ds ← (λ i. names_from (turns i) [] i); expect m.Semicolon; pure ds)

  unfoldable pub one_member : Parser MemberEntry
  one_member = λ i.
      (if sees_word w.StaticAssert i then (do p ← assertion; pure (member-entry.Assertion p.0 p.1))
      else (do s ← specs is_qualified_word; ds ← member_names; pure (member-entry.Fields s ds))) i

  -- after the opening brace: at least one, and the closing brace
  unfoldable pub members_from : ℕ → List MemberEntry → Parser (List MemberEntry)
  members_from zero found = refuse
  members_from (suc n) found = do
    a ← one_member
    done ← eat m.CloseBrace
    if done then pure (found ++ a ∷ []) else members_from n (found ++ a ∷ [])

  -- a tag without a list stands alone
  abbrev pub tagged_by : Bool → Option ℕ → Bool → Parser Base
  tagged_by union tag true = do all ← (λ i. members_from (turns i) [] i); pure (base.Tagged union tag (Some all))
  tagged_by union (Some n) false = pure (base.Tagged union (Some n) None)
  tagged_by union None false = refuse

  -- after `struct` or `union`
  unfoldable pub tagged : Bool → Parser Base
  tagged union = do
    tag ← maybe_identifier
    more ← eat m.OpenBrace
    tagged_by union tag more

  unfoldable pub enumerator_value : Parser (Option Expr)
  enumerator_value = do
    more ← eat m.Equal
    if more then (do e ← expr op.conditional; pure (Some e)) else pure None

  -- an enumeration constant is in scope behind its enumerator (6.2.1p7)
  unfoldable pub one_enumerator : Parser Enumerator
  one_enumerator = do
    n ← identifier
    v ← enumerator_value
    declares false (Some n)
    pure (roll-Enumerator (record { name = n; value = v }))

  -- after the opening brace: at least one, maybe a comma, and the closing brace
  unfoldable pub enumerators_from : ℕ → List Enumerator → Parser (List Enumerator)
  enumerators_from zero found = refuse
  enumerators_from (suc n) found = do
    a ← one_enumerator
    more ← eat m.Comma
    if more then (do done ← eat m.CloseBrace; if done then pure (found ++ a ∷ []) else enumerators_from n (found ++ a ∷ []))
        else (do expect m.CloseBrace; pure (found ++ a ∷ []))

  abbrev pub enumerated_by : Option ℕ → Bool → Parser Base
  enumerated_by tag true = do all ← (λ i. enumerators_from (turns i) [] i); pure (base.Enumerated tag (Some all))
  enumerated_by (Some n) false = pure (base.Enumerated (Some n) None)
  enumerated_by None false = refuse

  -- after `enum`
  unfoldable pub enumerated : Parser Base
  enumerated = do
    tag ← maybe_identifier
    more ← eat m.OpenBrace
    enumerated_by tag more

  -- behind a type specifier no name is a typedef name (6.7.8p3)
  abbrev pub name_base : Bool → Parser Base
  name_base true = pure base.Plain
  name_base false = λ i. (if is_typedef i then (λ j. Some (base.Typedef j.at, next j)) else pure base.Plain) i

  abbrev pub base_by : Bool → Option TokenKind → Parser Base
  base_by typed (Some (token.Keyword w.Struct)) = take_token >> tagged false
  base_by typed (Some (token.Keyword w.Union)) = take_token >> tagged true
  base_by typed (Some (token.Keyword w.Enum)) = take_token >> enumerated
  base_by typed (Some token.Name) = name_base typed
  base_by typed _ = pure base.Plain

  -- the specifier that is no keyword, if one comes next
  unfoldable pub specifier_base : Bool → Parser Base
  specifier_base typed = λ i. base_by typed (kind i) i

  abbrev pub specifiers_behind : (AWord → Bool) → ℕ → List AWord → Base → Parser Specs
  specifiers_behind allowed first before b = λ i.
      (if i.at == first then refuse else (do behind ← words allowed; pure (specs_of (before ++ behind) b))) i

  -- at least one specifier
  unfoldable pub specifiers : (AWord → Bool) → Parser Specs
  specifiers allowed = λ i. (do before ← words allowed; b ← specifier_base (has_type_word before); specifiers_behind allowed i.at before b) i

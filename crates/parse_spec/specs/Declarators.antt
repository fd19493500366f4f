-- Declarators (6.7.6) and abstract declarators (6.7.7).
use Rattle.std.specs.Prelude.{ℕ, zero, suc, Bool, true, false, if◌then◌else◌, List, [], ◌∷◌, ◌++◌, Option, Some, None}
use Rattle.c_lex.specs.declared.token.TokenKind.{TokenKind}
use Rattle.c_lex.specs.declared.token.TokenKind.TheVariants as token
use Rattle.c_lex.specs.declared.token.Word.{Word as AWord}
use Rattle.c_lex.specs.declared.token.Mark.TheVariants as m
use Rattle.c_ast.specs.declared.declaration.Base.TheBlock.{Ident}
use Rattle.c_ast.specs.declared.declaration.Declarator.{Declarator}
use Rattle.c_ast.specs.declared.declaration.Declarator.TheVariants as d
use Rattle.c_ast.specs.declared.declaration.Param.{Param}
use Rattle.c_ast.specs.declared.declaration.Specs.{Specs}
use Rattle.c_ast.specs.declared.expression.Expr.{Expr}
use Rattle.c_ast.specs.Input.{kind, next}
use Rattle.c_grammar.specs.Operators as op
use Rattle.c_grammar.specs.Grammar.{Mode, Named, Abstract, Either, name_of}
use Rattle.c_grammar.specs.Rules.{is_declaration_word, is_qualifier}
use Rattle.parse_spec.specs.Places.{opens_parameters, opens_suffix}
use Rattle.parse_spec.specs.Steps.{Parser, ◌>>=◌, ◌>>◌, pure, refuse, turns, sees, take_token, eat, expect, words, declares, apart, prototype}

-- the parameters that follow are those of the function that the declarator names
abbrev pub is_own_name : Declarator → Bool
is_own_name (Ident (Some n)) = true
is_own_name _ = false

abbrev pub no_parameters : List Param × Bool
no_parameters = ([], false)

abbrev pub nameless : Mode → Parser Declarator
nameless Named = refuse
nameless _ = pure (d.Ident None)

abbrev pub named : Mode → Parser Declarator
named Abstract = pure (d.Ident None)
named _ = λ i. Some (d.Ident (Some i.at), next i)

module _ (expr : ℕ → Parser Expr) (declarator : Mode → Parser Declarator) (specs : (AWord → Bool) → Parser Specs) where
  unfoldable pub one_parameter : Parser Param
  one_parameter = do
    s ← specs is_declaration_word
    p ← declarator Either
    declares false (name_of p)
    pure (record { specs = s; declarator = p })

  -- the parameters, and whether an ellipsis follows them
  unfoldable pub parameters_from : ℕ → List Param → Parser (List Param × Bool)
  parameters_from zero found = refuse
  parameters_from (suc n) found = do
    p ← one_parameter
    more ← eat m.Comma
    if more then (do ellipsis ← eat m.Ellipsis; if ellipsis then pure (found ++ p ∷ [], true) else parameters_from n (found ++ p ∷ []))
        else pure (found ++ p ∷ [], false)

  unfoldable pub parameters : Parser (List Param × Bool)
  parameters = λ i. (if sees m.CloseParen i then pure no_parameters else parameters_from (turns i) []) i

  -- after the opening bracket
  unfoldable pub array_suffix : Declarator → Parser Declarator
  array_suffix inner = do
    none ← eat m.CloseBracket
    if none then pure (d.Array inner None)
        else (do e ← apart (expr op.assignment); expect m.CloseBracket; pure (d.Array inner (Some e)))

  -- after the opening parenthesis
  unfoldable pub function_suffix : Declarator → Parser Declarator
  function_suffix inner = do
    p ← prototype (is_own_name inner) parameters
    expect m.CloseParen
    pure (d.Function inner p.0 p.1)

  unfoldable pub one_suffix : Declarator → Parser Declarator
  one_suffix inner = do
    bracket ← eat m.OpenBracket
    if bracket then array_suffix inner else (take_token >> function_suffix inner)

  unfoldable pub suffixes_from : ℕ → Declarator → Parser Declarator
  suffixes_from zero inner = refuse
  suffixes_from (suc n) inner = λ i. (if opens_suffix (kind i) then (one_suffix inner >>= suffixes_from n) else pure inner) i

  unfoldable pub suffixes : Declarator → Parser Declarator
  suffixes inner = λ i. suffixes_from (turns i) inner i

  -- after the opening parenthesis
  unfoldable pub nested : Mode → Parser Declarator
  nested mode = do
    inner ← declarator mode
    expect m.CloseParen
    pure inner

  abbrev pub innermost_by : Mode → Option TokenKind → Parser Declarator
  innermost_by mode (Some token.Name) = named mode
  innermost_by mode (Some (token.Punct m.OpenParen)) = λ i.
      (if opens_parameters mode i then nameless mode else (take_token >> nested mode)) i
  innermost_by mode _ = nameless mode

  unfoldable pub innermost : Mode → Parser Declarator
  innermost mode = λ i. innermost_by mode (kind i) i

  -- after the star
  unfoldable pub pointed : Mode → Parser Declarator
  pointed mode = do
    qualifiers ← words is_qualifier
    inner ← declarator mode
    pure (d.Pointer qualifiers inner)

  unfoldable pub one_declarator : Mode → Parser Declarator
  one_declarator mode = do
    star ← eat m.Star
    if star then pointed mode else (do inner ← innermost mode; suffixes inner)

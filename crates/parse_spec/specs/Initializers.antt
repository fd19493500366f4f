-- Initializers (6.7.9).
use Rattle.std.specs.Prelude.{ℕ, zero, suc, if◌then◌else◌, List, [], ◌∷◌, ◌++◌}
use Rattle.c_lex.specs.declared.token.Mark.TheVariants as m
use Rattle.c_ast.specs.declared.declaration.Designator.{Designator}
use Rattle.c_ast.specs.declared.declaration.Designator.TheVariants as designator
use Rattle.c_ast.specs.declared.declaration.Init.{Init}
use Rattle.c_ast.specs.declared.declaration.Init.TheVariants as init
use Rattle.c_ast.specs.declared.declaration.InitEntry.{InitEntry}
use Rattle.c_ast.specs.Input.{kind}
use Rattle.c_grammar.specs.Operators as op
use Rattle.parse_spec.specs.Nested.{expr}
use Rattle.parse_spec.specs.Places.{opens_designator}
use Rattle.parse_spec.specs.Steps.{Parser, ◌>>=◌, ◌>>◌, pure, refuse, turns, eat, expect, identifier}

unfoldable pub one_designator : Parser Designator
one_designator = do
  dot ← eat m.Dot
  if dot then (do n ← identifier; pure (designator.Member n))
      else (do expect m.OpenBracket; e ← (λ i. expr (turns i) op.conditional i); expect m.CloseBracket; pure (designator.Element e))

-- at least one designator, and the `=` behind them
unfoldable pub designators_from : ℕ → List Designator → Parser (List Designator)
designators_from zero found = refuse
designators_from (suc n) found = do
  d ← one_designator
  (λ i. (if opens_designator (kind i) then designators_from n (found ++ d ∷ []) else (do expect m.Equal; pure (found ++ d ∷ []))) i)

abbrev pub no_designators : List Designator
no_designators = []

unfoldable pub designation : Parser (List Designator)
designation = λ i. (if opens_designator (kind i) then designators_from (turns i) [] else pure no_designators) i

abbrev pub entry_of : List Designator → Init → InitEntry
entry_of ds i = record { designators = ds; init = i }

module _ (initializer : Parser Init) where
  -- after the opening brace: at least one entry, maybe a comma, and the closing brace
  unfoldable pub entries_from : ℕ → List InitEntry → Parser (List InitEntry)
  entries_from zero found = refuse
  entries_from (suc n) found = do
    ds ← designation
    i ← initializer
    more ← eat m.Comma
    if more then (do done ← eat m.CloseBrace; if done then pure (found ++ entry_of ds i ∷ []) else entries_from n (found ++ entry_of ds i ∷ []))
        else (do expect m.CloseBrace; pure (found ++ entry_of ds i ∷ []))

  unfoldable pub initializer_at : ℕ → Parser Init
  initializer_at at = do
    brace ← eat m.OpenBrace
    if brace then (do all ← (λ i. entries_from (turns i) [] i); pure (init.Braced at all))
        else (do e ← (λ i. expr (turns i) op.assignment i); pure (init.Single e))

  unfoldable pub one_initializer : Parser Init
  one_initializer = λ i. initializer_at i.at i

-- an initializer, in which others nest no deeper than the number
unfoldable pub initializer : ℕ → Parser Init
initializer zero = refuse
initializer (suc depth) = one_initializer (initializer depth)

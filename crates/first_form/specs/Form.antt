-- A text of the first form (6.4, 6.5.5, 6.5.6, 6.8.6, 6.9).
use Rattle.std.specs.Prelude.{ℕ, List}
use Rattle.first_form.specs.Tokens.{Lexes}
use Rattle.first_form.specs.Grammar.{Spells}
use Rattle.first_form.specs.declared.token.Token.{Token}
use Rattle.first_form.specs.declared.tree.ReturnUnit.{ReturnUnit}

-- the text is the tokens of this unit
abbrev pub IsFirstForm : List ℕ → ReturnUnit → Type 0
IsFirstForm text unit = (tokens : List Token) × Lexes text tokens × Spells text tokens unit

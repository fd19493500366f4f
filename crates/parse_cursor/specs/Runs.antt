-- Runs of tokens.
use Rattle.std.specs.Prelude.{◌≡◌, ℕ, ◌+◌, ◌<◌, Some}
use Rattle.c_lex.specs.TokenText.{kind_at}
use Rattle.c_lex.specs.declared.token.TokenKind.TheVariants as token
use Rattle.c_ast.specs.Input.{Input}

-- this many adjacent string literals (6.4.5p5)
pub record AreStringsTo (count : ℕ) (s t : Input) : Type 0 where
  pub to : t ≡ record s { at = s.at + count }
  pub literals : (k : ℕ) → k < count → kind_at s.tokens (s.at + k) ≡ Some token.StringLit

-- A text with its tokens.
use Rattle.std.specs.Prelude.{ℕ, ◌≤◌, ◌<◌, ◌^◌, List, [], ◌∷◌, length, slice_get, slice_range, Option, Some, None}
use Rattle.std.specs.Option.{option_map}
use Rattle.c_lex.specs.declared.token.Token.{Token}
use Rattle.c_lex.specs.declared.token.TokenKind.{TokenKind}

pub record TokenText : Type 0 where
  pub source : List ℕ
  pub list : List Token

-- each token has a byte or more, and lies behind the one before it, up to this end
abbrev pub SpansRise : ℕ → ℕ → List Token → Type 0
SpansRise at end [] = at ≤ end
SpansRise at end (t ∷ ts) = (at ≤ t.start) × (t.start < t.end) × SpansRise t.end end ts

-- the spans are slices of the text, in order
pub record AreSpans (source : List ℕ) (list : List Token) : Type 0 where
  pub small : length source ≤ 2 ^ 20
  pub rise : SpansRise 0 (length source) list

abbrev pub kind_at : TokenText → ℕ → Option TokenKind
kind_at t at = option_map (λ token. token.kind) (slice_get t.list at)

abbrev pub line_at : TokenText → ℕ → Option ℕ
line_at t at = option_map (λ token. token.line) (slice_get t.list at)

abbrev pub span_text : List ℕ → Option Token → List ℕ
span_text source None = []
span_text source (Some token) = slice_range source token.start token.end

-- how a token is spelled
abbrev pub text_at : TokenText → ℕ → List ℕ
text_at t at = span_text t.source (slice_get t.list at)

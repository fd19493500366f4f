-- Tokens by the first one with the same text.
use Rattle.std.specs.Prelude.{◌≡◌, ◌≢◌, ℕ, ◌≤◌, ◌<◌, List, length, slice_index, Option, Some, None}
use Rattle.c_lex.specs.TokenText.{TokenText, text_at}

-- the first token with this text
pub record IsFirst (t : TokenText) (text : List ℕ) (n : ℕ) : Type 0 where
  pub same : text_at t n ≡ text
  pub first : (k : ℕ) → k < n → text_at t k ≢ text

-- each token's number among them
pub record IsSpelling (t : TokenText) (spelled : List ℕ) : Type 0 where
  pub whole : length spelled ≡ length t.list
  pub firsts : (k : ℕ) → k < length spelled → IsFirst t (text_at t k) (slice_index spelled k)
  pub within : (k : ℕ) → k < length spelled → slice_index spelled k ≤ k

-- the first of the tokens before this end with a text, or that none has it
abbrev pub IsFirstBefore : TokenText → ℕ → List ℕ → Option ℕ → Type 0
IsFirstBefore t end text None = (k : ℕ) → k < end → text_at t k ≢ text
IsFirstBefore t end text (Some n) = (n < end) × IsFirst t text n

-- String literals that stand one after the other (6.4.5p5).
use Rattle.std.specs.Prelude.{ℕ, ◌+◌, Bool, true, false, if◌then◌else◌, List, [], ◌∷◌, Option, Some, None}
use Rattle.c_lex.specs.declared.token.Token.{Token}
use Rattle.c_lex.specs.declared.token.TokenKind.{TokenKind}
use Rattle.c_lex.specs.declared.token.TokenKind.TheVariants.{StringLit}

abbrev pub is_string_kind : TokenKind → Bool
is_string_kind StringLit = true
is_string_kind _ = false

abbrev pub is_string : Option TokenKind → Bool
is_string None = false
is_string (Some kind) = is_string_kind kind

-- how many a list of tokens begins with
abbrev pub strings_of : List Token → ℕ
strings_of [] = 0
strings_of (t ∷ ts) = if is_string_kind t.kind then strings_of ts + 1 else 0

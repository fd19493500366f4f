-- What is left to be read of the tokens, and which names are in scope there.
use Rattle.std.specs.Prelude.{ℕ, ◌+◌, Bool, false, if◌then◌else◌, List, [], ◌∷◌, ◌++◌, length, nat_lt, Option}
use Rattle.std.specs.Str.{bytes_eq}
use Rattle.c_lex.specs.TokenText.{TokenText, kind_at, text_at}
use Rattle.c_lex.specs.declared.token.TokenKind.{TokenKind}

-- The tokens and the number of the next one; the declarations in scope, the newest last, each by the number of the token
-- that is the declared name, and whether that is a typedef name (6.2.1); and the parameters of the function declarator
-- that was read last.
pub record Input : Type 0 where
  pub tokens : TokenText
  pub at : ℕ
  pub names : List (ℕ × Bool)
  pub prototype : List (ℕ × Bool)

abbrev pub start_of : TokenText → Input
start_of tokens = record { tokens = tokens; at = 0; names = []; prototype = [] }

-- the kind of the next token, if there is one
unfoldable pub kind : Input → Option TokenKind
kind i = kind_at i.tokens i.at

unfoldable pub next : Input → Input
next i = record i { at = if nat_lt i.at (length i.tokens.list) then i.at + 1 else i.at }

-- what the newest of these declarations of a text says, and else what was found before
abbrev pub lookup : TokenText → List ℕ → Bool → List (ℕ × Bool) → Bool
lookup tokens text found [] = found
lookup tokens text found (x ∷ xs) = lookup tokens text (if bytes_eq (text_at tokens x.0) text then x.1 else found) xs

-- the next token, a name, is a typedef name
unfoldable pub is_typedef : Input → Bool
is_typedef i = lookup i.tokens (text_at i.tokens i.at) false i.names

-- the name that the token with this number spells is declared
unfoldable pub declared : ℕ → Bool → Input → Input
declared at typedef i = record i { names = i.names ++ (at, typedef) ∷ [] }

-- the declarations of the outer scope again
unfoldable pub back_to : Input → Input → Input
back_to outer i = record i { names = outer.names }

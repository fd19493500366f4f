-- Declarations as they stand in scope, the newest last (6.2.1).
use Rattle.std.specs.Prelude.{◌≡◌, ℕ, ◌<◌, ◌==◌, Bool, false, if◌then◌else◌, List, [], ◌∷◌, ◌++◌, length, take, drop, nat_lt, slice_index_or}
use Rattle.c_lex.specs.TokenText.{TokenText, text_at}
use Rattle.c_ast.specs.Input.{Input, declared, lookup}
use Rattle.parse_cursor.specs.declared.scope.Declared.{Declared}
use Rattle.parse_cursor.specs.declared.scope.Named.{Named}

-- the token that is the declared name, and whether it is a typedef name
abbrev pub said : Declared → ℕ × Bool
said d = (d.at, d.typedef)

abbrev pub said_of : Named → ℕ × Bool
said_of n = said n.declared

-- the declared name is a token of the text
abbrev pub IsWithin : TokenText → Declared → Type 0
IsWithin t d = d.at < length t.list

-- names are numbers, and these are the numbers of tokens
pub record InScope : Type 0 where
  pub count : ℕ
  pub names : List Named

-- what the newest of these declarations of a name says, and else what was found before
unfoldable pub newest : ℕ → Bool → List Named → Bool
newest name found [] = found
newest name found (x ∷ xs) = newest name (if x.name == name then x.declared.typedef else found) xs

abbrev pub is_typedef_in : InScope → ℕ → Bool
is_typedef_in d name = if nat_lt name d.count then newest name false d.names else false

-- one declaration more, which hides what the name was before (6.2.1p4)
abbrev pub with_name : Declared → ℕ → InScope → InScope
with_name declared name d = record d {
  names = d.names ++ (record { declared = declared; name = name; hidden = is_typedef_in d name }) ∷ [];
}

-- the scope of all but the first of them has ended
abbrev pub first_names : ℕ → InScope → InScope
first_names count d = record d { names = take count d.names }

-- For each name what its newest declaration says, and in each declaration what it hides.
pub record AreKnown (typedefs : List Bool) (names : List Named) : Type 0 where
  pub now : (name : ℕ) → name < length typedefs → slice_index_or typedefs name false ≡ newest name false names
  pub before : (k : ℕ) (x : Named) → k < length names
      → (slice_index_or names k x).hidden ≡ is_typedef_in (record { count = length typedefs; names = take k names }) (slice_index_or names k x).name

-- ---- the same of the input

-- the token with this number spells what is a typedef name
abbrev pub names_typedef : ℕ → Input → Bool
names_typedef at i = lookup i.tokens (text_at i.tokens at) false i.names

-- the name that the token with this number spells is declared; a number of no token spells none
abbrev pub declared_at : ℕ → Bool → Input → Input
declared_at at typedef i = if nat_lt at (length i.tokens.list) then declared at typedef i else i

-- only the first of the declarations are in scope
abbrev pub closed_at : ℕ → Input → Input
closed_at count i = record i { names = take count i.names }

abbrev pub with_prototype : List (ℕ × Bool) → Input → Input
with_prototype names i = record i { prototype = names }

-- parameters end: they are all but the first declarations, and are kept or those that were kept before
abbrev pub left_at : ℕ → Bool → List (ℕ × Bool) → Input → Input
left_at count own saved i = record i {
  names = take count i.names;
  prototype = if own then drop count i.names else saved;
}

-- String literals by number (6.4.5p6), which the definition of typing names by their first tokens.
use Rattle.std.specs.Prelude.{◌≡◌, ℕ, List, map, Option, Some}
use Rattle.type_scope.specs.declared.state.State.{State}

-- the bytes of the literals, in the order of their numbers
abbrev pub literal_bytes : State → List (List ℕ)
literal_bytes s = map (λ literal. literal.bytes) (s.literals).items

-- The tokens name the literals, in the order of their numbers: each has the bytes of the literal that begins at its token, by a reading
-- of the text.
abbrev pub HasLiterals : (ℕ → Option (List ℕ)) → List ℕ → State → Type 0
HasLiterals bytes_at names s = map bytes_at names ≡ map (λ bytes. Some bytes) (literal_bytes s)

-- The characters of constants and literals (6.4.4.4, 6.4.5), without universal character names.
use Rattle.std.specs.Prelude.{ℕ, zero, suc, ◌+◌, ◌==◌, nat_le, List, [], ◌∷◌, length, take, drop, min, Option, Some, None, if◌then◌else◌}
use Rattle.std.specs.List.{prefix_len}
use Rattle.std.specs.Option.{option_map}
use Rattle.std.specs.Char.{is_digit}
use Rattle.c_lit.specs.Digits.{value_from}
use Rattle.c_lit.specs.declared.character.Character.{Character}

-- simple-escape-sequence: what the byte behind the backslash stands for (5.2.2, 6.4.4.4p3)
abbrev pub simple_escape : ℕ → Option ℕ
simple_escape b =
    if b == 39 then Some 39 else
    (if b == 34 then Some 34 else
    (if b == 63 then Some 63 else
    (if b == 92 then Some 92 else
    (if b == 97 then Some 7 else
    (if b == 98 then Some 8 else
    (if b == 102 then Some 12 else
    (if b == 110 then Some 10 else
    (if b == 114 then Some 13 else
    (if b == 116 then Some 9 else
    (if b == 118 then Some 11 else
    None))))))))))

abbrev pub simple : Option ℕ → Option Character
simple None = None
simple (Some n) = Some (record { value = n; len = 2 })

-- an escape of digits stands for a value of unsigned char (6.4.4.4p9)
abbrev pub held : List ℕ → ℕ → ℕ → Option Character
held digits radix n = if nat_le (value_from radix 0 digits) 255 then Some (record { value = value_from radix 0 digits; len = n }) else None

-- octal-escape-sequence: up to three digits
abbrev pub octal_of : List ℕ → ℕ → Option Character
octal_of tail n = held (take n tail) 8 (n + 1)

abbrev pub octal : List ℕ → Option Character
octal tail = octal_of tail (min (prefix_len (λ b. is_digit b 8) tail) 3)

-- hexadecimal-escape-sequence: all digits that follow, at least one
abbrev pub hexadecimal_of : List ℕ → ℕ → Option Character
hexadecimal_of behind n = if n == 0 then None else held (take n behind) 16 (n + 2)

abbrev pub hexadecimal : List ℕ → Option Character
hexadecimal behind = hexadecimal_of behind (prefix_len (λ b. is_digit b 16) behind)

-- an escape sequence, behind its backslash
abbrev pub escape : List ℕ → Option Character
escape [] = None
escape (b ∷ bs) =
    if is_digit b 8 then octal (b ∷ bs) else
    (if b == 120 then hexadecimal bs else simple (simple_escape b))

-- c-char or s-char
abbrev pub character : ℕ → List ℕ → Option Character
character b tail = if b == 92 then escape tail else Some (record { value = b; len = 1 })

-- a character, and those behind it
abbrev pub before : (List ℕ → Option (List ℕ)) → List ℕ → Option Character → Option (List ℕ)
before behind rest None = None
before behind rest (Some c) = option_map (λ cs. c.value ∷ cs) (behind (drop c.len rest))

-- so many characters at most
abbrev pub characters_from : ℕ → List ℕ → Option (List ℕ)
characters_from zero rest = Some []
characters_from (suc n) [] = Some []
characters_from (suc n) (b ∷ bs) = before (characters_from n) (b ∷ bs) (character b bs)

-- c-char-sequence or s-char-sequence: no text has more characters than bytes
abbrev pub characters : List ℕ → Option (List ℕ)
characters text = characters_from (length text) text

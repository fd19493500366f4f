-- Character constants and string literals (6.4.4.4, 6.4.5), without prefix.
use Rattle.std.specs.Prelude.{
  ◌≡◌,
  ℕ,
  ◌-◌,
  ℤ,
  pos,
  ◌-ℤ◌,
  Bool,
  false,
  not,
  ◌&&◌,
  ◌||◌,
  ◌==◌,
  nat_lt,
  List,
  [],
  ◌∷◌,
  ◌++◌,
  length,
  take,
  drop,
  Option,
  Some,
  None,
  Result,
  Ok,
  Err,
  if◌then◌else◌,
}
use Rattle.c_lit.specs.Characters.{character, characters}
use Rattle.c_lit.specs.declared.character.Character.{Character}
use Rattle.c_lit.specs.declared.fault.LitFault.{LitFault}
use Rattle.c_lit.specs.declared.fault.LitFault.TheVariants.{BadEscape, BadSuffix}

-- What may stand between the quotes: a backslash takes the next byte with it, and no line feed and no
-- bare quote stands there.
abbrev pub is_body : ℕ → Bool → List ℕ → Bool
is_body quote escaped [] = not escaped
is_body quote escaped (b ∷ bs) =
    if (b == 10) || (not escaped && (b == quote)) then false else is_body quote (not escaped && (b == 92)) bs

-- a quote, what stands between, and a quote
abbrev pub last_is : ℕ → List ℕ → Bool
last_is quote [] = false
last_is quote (b ∷ bs) = b == quote

abbrev pub body_behind : ℕ → List ℕ → Option (List ℕ)
body_behind quote tail =
    if last_is quote (drop (length tail - 1) tail) && is_body quote false (take (length tail - 1) tail) then Some (take (length tail - 1) tail) else None

abbrev pub body_of : ℕ → List ℕ → Option (List ℕ)
body_of quote [] = None
body_of quote (b ∷ bs) = if b == quote then body_behind quote bs else None

-- the value of a byte as a `char`, which is signed
abbrev pub char_int : ℕ → ℤ
char_int n = if nat_lt n 128 then pos n else (pos n -ℤ pos 256)

abbrev pub whole : ℕ → Option Character → Option ℕ
whole n None = None
whole n (Some c) = if c.len == n then Some c.value else None

-- exactly one character
abbrev pub only_character : List ℕ → Option ℕ
only_character [] = None
only_character (b ∷ bs) = whole (length (b ∷ bs)) (character b bs)

abbrev pub char_result : Option ℕ → Result ℤ LitFault
char_result None = Err BadEscape
char_result (Some n) = Ok (char_int n)

abbrev pub char_of_body : Option (List ℕ) → Result ℤ LitFault
char_of_body None = Err BadSuffix
char_of_body (Some body) = char_result (only_character body)

-- the value of a character constant, or why the text has none
abbrev pub char_value : List ℕ → Result ℤ LitFault
char_value text = char_of_body (body_of 39 text)

abbrev pub string_result : Option (List ℕ) → Result (List ℕ) LitFault
string_result None = Err BadEscape
string_result (Some bytes) = Ok bytes

abbrev pub string_of_body : Option (List ℕ) → Result (List ℕ) LitFault
string_of_body None = Err BadSuffix
string_of_body (Some body) = string_result (characters body)

-- the bytes of a string literal without the zero that ends it, or why the text has none
abbrev pub string_value : List ℕ → Result (List ℕ) LitFault
string_value text = string_of_body (body_of 34 text)

-- the characters of these bytes were added
pub record GainsCharacters (old new body : List ℕ) : Type 0 where
  pub bytes : List ℕ
  pub is : characters body ≡ Some bytes
  pub new_is : new ≡ old ++ bytes

-- the bytes of the literal were added
pub record IsAppended (old new text : List ℕ) : Type 0 where
  pub bytes : List ℕ
  pub is : string_value text ≡ Ok bytes
  pub new_is : new ≡ old ++ bytes

-- What may stand at the front of a text (6.4), a rule a record: its bytes, and those behind them.
use Rattle.std.specs.Prelude.{◌≡◌, ◌⊎◌, ℕ, ◌+◌, ◌*◌, ◌-◌, ◌<◌, ◌≤◌, Bool, true, false, ◌||◌, ◌&&◌, ◌==◌, List, [], ◌∷◌, ◌++◌, length, codes, ⊤}
use Rattle.std.specs.Char.{is_ascii_digit, is_digit}
use Rattle.c_lex.specs.Bytes.{is_blank, is_in_line, is_name_byte, is_quote, begins, begins_name}
use Rattle.c_lex.specs.Marks.{IsMark}
use Rattle.c_lex.specs.Runs.{IsBody, goes_on}
use Rattle.c_lex.specs.Words.{word_text}
use Rattle.c_lex.specs.declared.token.Mark.{Mark}
use Rattle.c_lex.specs.declared.token.TokenKind.{TokenKind}
use Rattle.c_lex.specs.declared.token.TokenKind.TheVariants.{Name, Keyword, Number, CharLit, StringLit, Punct}
use Rattle.c_lex.specs.declared.token.Word.{Word}

-- each byte is of the class
abbrev pub Each : (ℕ → Bool) → List ℕ → Type 0
Each p [] = ⊤
Each p (b ∷ bs) = (p b ≡ true) × Each p bs

-- the text doesn't go on with a byte of the class
abbrev pub Stops : (ℕ → Bool) → List ℕ → Type 0
Stops p [] = ⊤
Stops p (b ∷ bs) = p b ≡ false

-- all the bytes of the class at the front
pub record IsRun (p : ℕ → Bool) (part rest : List ℕ) : Type 0 where
  pub each : Each p part
  pub stops : Stops p rest

-- ---- white space and comments

-- white space that ends no line
pub record IsBlanks (part rest : List ℕ) : Type 0 where
  pub some : 0 < length part
  pub run : IsRun is_blank part rest

-- what stands in a comment behind its opening, up to its last slash: a star stands last, and none before a slash (6.4.9p1)
abbrev pub IsInside : Bool → List ℕ → Type 0
IsInside true [] = ⊤
IsInside false [] = ⊥
IsInside starred (b ∷ bs) = (starred ≡ true → b ≡ 47 → ⊥) × IsInside (b == 42) bs

-- `/*`, what it holds, and `*/`
pub record IsBlockComment (part : List ℕ) : Type 0 where
  pub inside : List ℕ
  pub spelled : part ≡ 47 ∷ 42 ∷ (inside ++ 47 ∷ [])
  pub is_inside : IsInside false inside

-- `/*` that no `*/` closes
pub record IsOpenComment (text : List ℕ) : Type 0 where
  pub behind : List ℕ
  pub spelled : text ≡ 47 ∷ 42 ∷ behind
  pub never : (inside after : List ℕ) → behind ≡ inside ++ 47 ∷ after → IsInside false inside → ⊥

-- `//` and the rest of the line (6.4.9p2)
pub record IsLineComment (part rest : List ℕ) : Type 0 where
  pub body : List ℕ
  pub spelled : part ≡ 47 ∷ 47 ∷ body
  pub run : IsRun is_in_line body rest

-- ---- tokens

-- an identifier or a keyword: a letter or an underscore, and all the letters, digits and underscores behind it (6.4.2.1)
pub record IsName (part rest : List ℕ) : Type 0 where
  pub first : ℕ
  pub others : List ℕ
  pub spelled : part ≡ first ∷ others
  pub begins_so : begins_name first ≡ true
  pub run : IsRun is_name_byte others rest

-- the prefix of a wide or Unicode literal before its quote, which the profile doesn't have (6.4.4.4, 6.4.5)
abbrev pub IsPrefix : List ℕ → Type 0
IsPrefix part = (part ≡ codes "L") ⊎ ((part ≡ codes "u") ⊎ ((part ≡ codes "U") ⊎ (part ≡ codes "u8")))

abbrev pub IsPrefixed : List ℕ → List ℕ → Type 0
IsPrefixed part rest = IsPrefix part × (begins is_quote rest ≡ true)

-- a keyword is spelled as it is, and a name as no keyword (6.4.1)
abbrev pub IsWord : List ℕ → TokenKind → Type 0
IsWord part Name = (word : Word) → part ≡ word_text word → ⊥
IsWord part (Keyword word) = part ≡ word_text word
IsWord part Number = ⊥
IsWord part CharLit = ⊥
IsWord part StringLit = ⊥
IsWord part (Punct mark) = ⊥

-- each byte goes on with a preprocessing number behind the one before it, and what is left doesn't (6.4.8)
abbrev pub NumberGoes : ℕ → List ℕ → List ℕ → Type 0
NumberGoes last [] rest = Stops (goes_on last) rest
NumberGoes last (b ∷ bs) rest = (goes_on last b ≡ true) × NumberGoes b bs rest

-- a digit, or a period before one
abbrev pub BeginsNumber : ℕ → List ℕ → Type 0
BeginsNumber first behind = (is_ascii_digit first || ((first == 46) && begins is_ascii_digit behind)) ≡ true

-- the longest preprocessing number
pub record IsNumber (part rest : List ℕ) : Type 0 where
  pub first : ℕ
  pub others : List ℕ
  pub spelled : part ≡ first ∷ others
  pub begins_so : BeginsNumber first (others ++ rest)
  pub goes : NumberGoes first others rest

-- unsigned-suffix, and long-suffix or long-long-suffix
abbrev pub IsUnsigned : List ℕ → Type 0
IsUnsigned text = (text ≡ codes "u") ⊎ (text ≡ codes "U")

abbrev pub IsLong : List ℕ → Type 0
IsLong text = (text ≡ codes "l") ⊎ ((text ≡ codes "L") ⊎ ((text ≡ codes "ll") ⊎ (text ≡ codes "LL")))

-- integer-suffix, or nothing (6.4.4.1)
abbrev pub IsSuffix : List ℕ → Type 0
IsSuffix text = (text ≡ []) ⊎ (IsUnsigned text ⊎ (IsLong text ⊎ ((first : List ℕ) × ((second : List ℕ) × (text ≡ first ++ second)
    × ((IsUnsigned first × IsLong second) ⊎ (IsLong first × IsUnsigned second))))))

-- digits of the radix, at least one, and a suffix or nothing
pub record HasDigits (radix : ℕ) (text : List ℕ) : Type 0 where
  pub digits : List ℕ
  pub suffix : List ℕ
  pub spelled : text ≡ digits ++ suffix
  pub some : 0 < length digits
  pub each : Each (λ b. is_digit b radix) digits
  pub is_suffix : IsSuffix suffix

-- integer-constant: hexadecimal digits behind `0x`, octal digits from `0` on, or decimal digits from another one on (6.4.4.1)
abbrev pub IsInteger : List ℕ → Type 0
IsInteger text =
    ((digits : List ℕ) × (((text ≡ 48 ∷ 120 ∷ digits) ⊎ (text ≡ 48 ∷ 88 ∷ digits)) × HasDigits 16 digits))
    ⊎ (((begins (λ b. b == 48) text ≡ true) × HasDigits 8 text) ⊎ ((begins (λ b. b == 48) text ≡ false) × HasDigits 10 text))

-- a character constant or a string literal: a quote, its body, and a quote (6.4.4.4, 6.4.5)
pub record IsLiteral (quote : ℕ) (part : List ℕ) : Type 0 where
  pub body : List ℕ
  pub spelled : part ≡ quote ∷ (body ++ quote ∷ [])
  pub is_body : IsBody quote false body

-- a quote that no body closes
pub record IsOpen (quote : ℕ) (text : List ℕ) : Type 0 where
  pub behind : List ℕ
  pub spelled : text ≡ quote ∷ behind
  pub never : (body after : List ℕ) → behind ≡ body ++ quote ∷ after → IsBody quote false body → ⊥

-- ---- punctuators

-- a comment begins
abbrev pub BeginsComment : List ℕ → Type 0
BeginsComment text = (behind : List ℕ) × ((text ≡ 47 ∷ 47 ∷ behind) ⊎ (text ≡ 47 ∷ 42 ∷ behind))

-- a number begins with a period
abbrev pub BeginsFraction : List ℕ → Type 0
BeginsFraction text = (digit : ℕ) × ((behind : List ℕ) × (text ≡ 46 ∷ digit ∷ behind) × (is_ascii_digit digit ≡ true))

-- the longest spelling of a punctuator, where neither a comment nor a number begins (6.4p4, 6.4.6)
pub record IsPunctuator (mark : Mark) (part rest : List ℕ) : Type 0 where
  pub spelled : IsMark mark part
  pub longest : (other : Mark) (spelling after : List ℕ) → IsMark other spelling → part ++ rest ≡ spelling ++ after → length spelling ≤ length part
  pub no_comment : BeginsComment (part ++ rest) → ⊥
  pub no_fraction : BeginsFraction (part ++ rest) → ⊥

-- ---- lines that begin with `#`

-- `#`, and the line behind it
pub record IsLine (part line rest : List ℕ) : Type 0 where
  pub spelled : part ≡ 35 ∷ line
  pub run : IsRun is_in_line line rest

-- a pragma (6.10.6), or the definition of a macro that a preprocessor tells behind its work (6.10.3)
abbrev pub IsPassedWord : List ℕ → Type 0
IsPassedWord word = (word ≡ codes "pragma") ⊎ ((word ≡ codes "define") ⊎ (word ≡ codes "undef"))

-- such a word stands first in the line, as a whole
pub record IsPassedLine (line : List ℕ) : Type 0 where
  pub blanks : List ℕ
  pub word : List ℕ
  pub more : List ℕ
  pub spelled : line ≡ blanks ++ (word ++ more)
  pub is_word : IsPassedWord word
  pub each : Each is_blank blanks
  pub whole : Stops is_name_byte more

-- `line` as a whole word before the digits, or nothing
abbrev pub IsLineWord : List ℕ → List ℕ → List ℕ → Type 0
IsLineWord word gap digits = ((word ≡ []) × (gap ≡ [])) ⊎ ((word ≡ codes "line") × Stops is_name_byte (gap ++ digits))

-- a string between quotes, with white space and digits behind it, or nothing
abbrev pub is_further : ℕ → Bool
is_further b = is_blank b || is_ascii_digit b

pub record IsMarkerString (text : List ℕ) : Type 0 where
  pub body : List ℕ
  pub behind : List ℕ
  pub spelled : text ≡ 34 ∷ (body ++ 34 ∷ behind)
  pub is_body : IsBody 34 false body
  pub each : Each is_further behind

abbrev pub IsMarkerTail : List ℕ → Type 0
IsMarkerTail text = (text ≡ []) ⊎ IsMarkerString text

-- the number that decimal digits spell, behind a number
abbrev pub decimal_from : ℕ → List ℕ → ℕ
decimal_from n [] = n
decimal_from n (d ∷ ds) = decimal_from (10 * n + (d - 48)) ds

-- a marker: the number of the next line, at most 2147483647, behind `line` or nothing, and a string or nothing (6.10.4, own)
pub record IsMarkerLine (line : List ℕ) (number : ℕ) : Type 0 where
  pub blanks : List ℕ
  pub word : List ℕ
  pub gap : List ℕ
  pub digits : List ℕ
  pub space : List ℕ
  pub tail : List ℕ
  pub spelled : line ≡ blanks ++ (word ++ (gap ++ (digits ++ (space ++ tail))))
  pub are_blanks : Each is_blank blanks
  pub is_word : IsLineWord word gap digits
  pub are_gap : IsRun is_blank gap digits
  pub some : 0 < length digits
  pub are_digits : IsRun is_ascii_digit digits (space ++ tail)
  pub are_space : IsRun is_blank space tail
  pub is_tail : IsMarkerTail tail
  pub is_number : number ≡ decimal_from 0 digits
  pub within : number ≤ 2147483647

-- a marker, with the line feed that ends its line where the text goes on
pub record IsMarker (part rest : List ℕ) (number : ℕ) : Type 0 where
  pub line : List ℕ
  pub feed : List ℕ
  pub spelled : part ≡ 35 ∷ (line ++ feed)
  pub each : Each is_in_line line
  pub ends : ((feed ≡ []) × (rest ≡ [])) ⊎ (feed ≡ 10 ∷ [])
  pub is_marker : IsMarkerLine line number

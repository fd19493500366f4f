-- The tokens of a text of the first form (6.4).
use Rattle.std.specs.Prelude.{◌≡◌, ◌≢◌, ℕ, ◌+◌, ◌≤◌, Bool, true, false, List, [], ◌∷◌, ◌++◌, length, codes, decimal, count_by, ◌==◌, ◌-◌}
use Rattle.std.specs.Prelude.{◌<◌, drop, Option, Some, None, Result, Ok, Err}
use Rattle.std.specs.List.{list_all}
use Rattle.first_form.specs.Bytes.{is_white, is_name_byte, is_number_byte, begins}
use Rattle.first_form.specs.declared.token.Token.{Token}
use Rattle.first_form.specs.declared.token.TokenKind.{TokenKind}
use Rattle.first_form.specs.declared.token.TokenKind.TheVariants.{Name, Keyword, Number, Punct}
use Rattle.first_form.specs.declared.token.Word.{Word}
use Rattle.first_form.specs.declared.token.Word.TheVariants.{Int, Void, Return}
use Rattle.first_form.specs.declared.fault.FormFault.{FormFault}
use Rattle.first_form.specs.declared.fault.FormFault.TheVariants.{NotFirstForm, NoMemory}
use Rattle.first_form.specs.declared.token.Tokens.{Tokens}
use Rattle.first_form.specs.declared.token.Mark.{Mark}
use Rattle.first_form.specs.declared.token.Mark.TheVariants.{OpenParen, CloseParen, OpenBrace, CloseBrace, Semicolon, Plus, Minus, Star, Slash, Percent}

abbrev pub word_text : Word → List ℕ
word_text Int = codes "int"
word_text Void = codes "void"
word_text Return = codes "return"

abbrev pub mark_text : Mark → List ℕ
mark_text OpenParen = codes "("
mark_text CloseParen = codes ")"
mark_text OpenBrace = codes "{"
mark_text CloseBrace = codes "}"
mark_text Semicolon = codes ";"
mark_text Plus = codes "+"
mark_text Minus = codes "-"
mark_text Star = codes "*"
mark_text Slash = codes "/"
mark_text Percent = codes "%"

-- the decimal constant of an int: `0`, or digits that begin with 1 to 9
pub record IsConstant (text : List ℕ) (n : ℕ) : Type 0 where
  pub digits : text ≡ decimal n
  pub small : n ≤ 2147483647

-- the spellings of a kind
abbrev pub IsSpelling : TokenKind → List ℕ → Type 0
IsSpelling Name text = text ≡ codes "main"
IsSpelling (Keyword word) text = text ≡ word_text word
IsSpelling Number text = (n : ℕ) × IsConstant text n
IsSpelling (Punct mark) text = text ≡ mark_text mark

-- what would go on with a token, if it followed directly
abbrev pub goes_on : TokenKind → ℕ → Bool
goes_on Name = is_name_byte
goes_on (Keyword word) = is_name_byte
goes_on Number = is_number_byte
goes_on (Punct mark) = λ b. false

-- the spelling is a token of this kind before these bytes, and the longest one
pub record IsToken (kind : TokenKind) (spelling after : List ℕ) : Type 0 where
  pub spelled : IsSpelling kind spelling
  pub longest : begins (goes_on kind) after ≡ false

-- the next token of what is left of a text, behind white space
pub record IsNext (at first_line : ℕ) (rest : List ℕ) (token : Token) : Type 0 where
  pub blank : List ℕ
  pub spelling : List ℕ
  pub after : List ℕ
  pub text : rest ≡ blank ++ (spelling ++ after)
  pub white : list_all is_white blank ≡ true
  pub lexeme : IsToken token.kind spelling after
  pub start : token.start ≡ at + length blank
  pub end : token.end ≡ token.start + length spelling
  pub line : token.line ≡ first_line + count_by (λ b. b == 10) blank

-- What is left of a text, from a place and a line on, is the spellings of these tokens, with white space
-- before, between and after them.
abbrev pub LexesFrom : ℕ → ℕ → List ℕ → List Token → Type 0
LexesFrom at line rest [] = list_all is_white rest ≡ true
LexesFrom at line rest (token ∷ tokens) = (next : IsNext at line rest token) × LexesFrom token.end token.line next.after tokens

-- the text is the spellings of these tokens
abbrev pub Lexes : List ℕ → List Token → Type 0
Lexes text tokens = LexesFrom 0 1 text tokens

-- what the next token of what is left is: none at the end, or this one, or none that the first form has
abbrev pub GivesNext : ℕ → ℕ → List ℕ → Result (Option Token) FormFault → Type 0
GivesNext at line rest (Ok None) = list_all is_white rest ≡ true
GivesNext at line rest (Ok (Some token)) =
    (next : IsNext at line rest token) × (next.after ≡ drop (token.end - at) rest) × (at < token.end) × (token.end ≤ at + length rest)
GivesNext at line rest (Err fault) = (fault ≡ NotFirstForm) × (list_all is_white rest ≢ true) × ((token : Token) → IsNext at line rest token → ⊥)

-- these tokens are given, unless memory ran out
abbrev pub HasOnly : List Token → Result Tokens FormFault → Type 0
HasOnly tokens (Ok given) = given.list.items ≡ tokens
HasOnly tokens (Err fault) = fault ≡ NoMemory

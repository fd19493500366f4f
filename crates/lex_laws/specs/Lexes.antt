-- How a text is spelled, from left to right (6.4): its tokens, and what may stand between them.
use Rattle.std.specs.Prelude.{◌≡◌, ◌⊎◌, ℕ, ◌+◌, ◌<◌, ◌==◌, Bool, true, false, List, [], ◌∷◌, ◌++◌, length, count_by}
use Rattle.c_lex.specs.declared.token.LexFault.{LexFault}
use Rattle.c_lex.specs.declared.token.LexFault.TheVariants.{Stray, OpenLiteral, BadNumber, NoMemory}
use Rattle.c_lex.specs.declared.token.Token.{Token}
use Rattle.c_lex.specs.declared.token.TokenKind.{TokenKind}
use Rattle.c_lex.specs.declared.token.TokenKind.TheVariants.{Name, Keyword, Number, CharLit, StringLit, Punct}
use Rattle.lex_laws.specs.Fronts.{IsBlanks, IsBlockComment, IsInteger, IsLine, IsLineComment, IsLiteral, IsMarker, IsName, IsNumber, IsOpen, IsOpenComment}
use Rattle.lex_laws.specs.Fronts.{IsPassedLine, IsPrefixed, IsPunctuator, IsWord}

-- a token of this kind
abbrev pub IsToken : TokenKind → List ℕ → List ℕ → Type 0
IsToken Name part rest = IsName part rest × IsWord part Name × (IsPrefixed part rest → ⊥)
IsToken (Keyword word) part rest = IsName part rest × IsWord part (Keyword word) × (IsPrefixed part rest → ⊥)
IsToken Number part rest = IsNumber part rest × IsInteger part
IsToken CharLit part rest = IsLiteral 39 part
IsToken StringLit part rest = IsLiteral 34 part
IsToken (Punct mark) part rest = IsPunctuator mark part rest

-- what a text is made of
pub data Piece : Type 0 where
  Blanks : Piece
  LineFeed : Piece
  Comment : Piece
  PassedLine : Piece
  Marker : (number : ℕ) → Piece
  Spelled : (kind : TokenKind) → Piece

-- the piece stands at the front, before `rest`; a line may begin with `#` only where it is fresh: nothing but white space and
-- markers stands before it in its line
abbrev pub IsPiece : Bool → Piece → List ℕ → List ℕ → Type 0
IsPiece fresh Blanks part rest = IsBlanks part rest
IsPiece fresh LineFeed part rest = part ≡ 10 ∷ []
IsPiece fresh Comment part rest = IsBlockComment part ⊎ IsLineComment part rest
IsPiece fresh PassedLine part rest = (fresh ≡ true) × ((line : List ℕ) × (IsLine part line rest × IsPassedLine line))
IsPiece fresh (Marker number) part rest = (fresh ≡ true) × IsMarker part rest number
IsPiece fresh (Spelled kind) part rest = IsToken kind part rest

-- whether the line is fresh behind a piece
abbrev pub fresh_behind : Piece → Bool → Bool
fresh_behind Blanks fresh = fresh
fresh_behind LineFeed fresh = true
fresh_behind Comment fresh = false
fresh_behind PassedLine fresh = false
fresh_behind (Marker number) fresh = true
fresh_behind (Spelled kind) fresh = false

-- the line behind a piece: a line feed ends a line, and a marker gives the number of the next one
abbrev pub line_behind : Piece → List ℕ → ℕ → ℕ
line_behind Blanks part line = line
line_behind LineFeed part line = line + 1
line_behind Comment part line = line + count_by (λ b. b == 10) part
line_behind PassedLine part line = line
line_behind (Marker number) part line = number
line_behind (Spelled kind) part line = line

-- the token that a piece is, if it is one
abbrev pub token_of : Piece → List ℕ → ℕ → ℕ → List Token
token_of (Spelled kind) part at line = record { kind = kind; start = at; end = at + length part; line = line } ∷ []
token_of Blanks part at line = []
token_of LineFeed part at line = []
token_of Comment part at line = []
token_of PassedLine part at line = []
token_of (Marker number) part at line = []

-- the place that a lexer has come to, and what is left there
pub record Place : Type 0 where
  pub at : ℕ
  pub line : ℕ
  pub fresh : Bool
  pub rest : List ℕ

-- behind a piece
abbrev pub behind : Piece → List ℕ → Place → List ℕ → Place
behind piece part p rest = record {
  at = p.at + length part;
  line = line_behind piece part p.line;
  fresh = fresh_behind piece p.fresh;
  rest = rest;
}

-- pieces lead from a place to another, and these are the tokens among them
pub data Leads : Place → List Token → Place → Type 0 where
  stays : (p : Place) → Leads p [] p
  steps : (piece : Piece) (part rest : List ℕ) (p q : Place) (tokens : List Token) → p.rest ≡ part ++ rest → IsPiece p.fresh piece part rest
      → Leads (behind piece part p rest) tokens q → Leads p (token_of piece part p.at p.line ++ tokens) q

-- the front of a text, in its first line
abbrev pub start : List ℕ → Place
start text = record { at = 0; line = 1; fresh = true; rest = text }

-- the text is spelled by these tokens
abbrev pub Lexes : List ℕ → List Token → Type 0
Lexes text tokens = (q : Place) × (Leads (start text) tokens q × (q.rest ≡ []))

-- ---- where no piece stands

-- a literal or a comment that isn't closed
abbrev pub IsOpening : List ℕ → Type 0
IsOpening text = IsOpen 34 text ⊎ (IsOpen 39 text ⊎ IsOpenComment text)

-- the longest preprocessing number is no integer constant
pub record HasBadNumber (text : List ℕ) : Type 0 where
  pub part : List ℕ
  pub rest : List ℕ
  pub spelled : text ≡ part ++ rest
  pub is : IsNumber part rest
  pub not_integer : IsInteger part → ⊥

-- something is left, and neither a piece stands at the front nor one of these
pub record IsStray (fresh : Bool) (text : List ℕ) : Type 0 where
  pub some : 0 < length text
  pub no_piece : (piece : Piece) (part rest : List ℕ) → text ≡ part ++ rest → IsPiece fresh piece part rest → ⊥
  pub not_open : IsOpening text → ⊥
  pub no_number : HasBadNumber text → ⊥

-- the text fails so at a place to which pieces lead
abbrev pub IsFault : Place → LexFault → Type 0
IsFault p (Stray at) = (at ≡ p.at) × IsStray p.fresh p.rest
IsFault p (OpenLiteral at) = (at ≡ p.at) × IsOpening p.rest
IsFault p (BadNumber at) = (at ≡ p.at) × HasBadNumber p.rest
IsFault p NoMemory = ⊥

-- the text has this failing piece
abbrev pub FailsAt : List ℕ → LexFault → Type 0
FailsAt text fault = (p : Place) × ((tokens : List Token) × Leads (start text) tokens p × IsFault p fault)

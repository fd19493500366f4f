-- The sentence of a text of the first form: `int main(void) { return E; }` (6.5.5, 6.5.6, 6.8.6, 6.9).
use Rattle.std.specs.Prelude.{◌≡◌, ℕ, ◌≤◌, List, [], ◌∷◌, ◌++◌, length, map, slice_get, slice_range, Option, Some, None, Result, Ok, Err, MatchOption, ⊤}
use Rattle.first_form.specs.Tokens.{IsConstant}
use Rattle.first_form.specs.declared.token.Token.{Token}
use Rattle.first_form.specs.declared.token.TokenKind.{TokenKind}
use Rattle.first_form.specs.declared.token.TokenKind.TheVariants.{Name, Keyword, Number, Punct}
use Rattle.first_form.specs.declared.token.Word.TheVariants.{Int, Void, Return}
use Rattle.first_form.specs.declared.token.Mark.{Mark}
use Rattle.first_form.specs.declared.token.Mark.TheVariants.{OpenParen, CloseParen, OpenBrace, CloseBrace, Semicolon, Plus, Minus, Star, Slash, Percent}
use Rattle.first_form.specs.declared.tree.Operator.{Operator}
use Rattle.first_form.specs.declared.tree.Operator.TheVariants.{Add, Sub, Mul, Div, Rem}
use Rattle.first_form.specs.declared.tree.ReturnUnit.{ReturnUnit}
use Rattle.first_form.specs.declared.fault.FormFault.{FormFault}
use Rattle.first_form.specs.declared.fault.FormFault.TheVariants.{NoMemory}

abbrev pub op_mark : Operator → Mark
op_mark Add = Plus
op_mark Sub = Minus
op_mark Mul = Star
op_mark Div = Slash
op_mark Rem = Percent

-- one constant, or two with an operator between them
abbrev pub expression : Option Operator → List TokenKind
expression None = Number ∷ []
expression (Some op) = Number ∷ Punct (op_mark op) ∷ Number ∷ []

abbrev pub opening : List TokenKind
opening = Keyword Int ∷ Name ∷ Punct OpenParen ∷ Keyword Void ∷ Punct CloseParen ∷ Punct OpenBrace ∷ Keyword Return ∷ []

abbrev pub closing : List TokenKind
closing = Punct Semicolon ∷ Punct CloseBrace ∷ []

abbrev pub sentence : Option Operator → List TokenKind
sentence op = opening ++ (expression op ++ closing)

abbrev pub kinds : List Token → List TokenKind
kinds tokens = map (λ token. token.kind) tokens

-- the token at a place of the list spells this number
pub record IsNumberAt (text : List ℕ) (tokens : List Token) (place number : ℕ) : Type 0 where
  pub token : Token
  pub there : slice_get tokens place ≡ Some token
  pub forward : token.start ≤ token.end
  pub inside : token.end ≤ length text
  pub spelled : IsConstant (slice_range text token.start token.end) number

abbrev pub op_of : Option (Operator × ℕ) → Option Operator
op_of None = None
op_of (Some rest) = Some rest.0

-- the tokens are the sentence of this unit
pub record Spells (text : List ℕ) (tokens : List Token) (unit : ReturnUnit) : Type 0 where
  pub order : kinds tokens ≡ sentence (op_of unit.rest)
  pub left : IsNumberAt text tokens 7 unit.left
  pub line : unit.line ≡ left.token.line
  pub right : MatchOption unit.rest ⊤ (λ rest. IsNumberAt text tokens 9 rest.1)

-- this unit is given, unless memory ran out
abbrev pub HasOnly : ReturnUnit → Result ReturnUnit FormFault → Type 0
HasOnly unit (Ok given) = given ≡ unit
HasOnly unit (Err fault) = fault ≡ NoMemory

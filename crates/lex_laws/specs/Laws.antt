-- The lexer's function on lists is the relation, and the relation is determined.
use Rattle.std.specs.Prelude.{◌≡◌, ◌≢◌, ◌↔◌, ℕ, List, Ok, Err}
use Rattle.c_lex.specs.Tokens.{Lexed, lexed}
use Rattle.c_lex.specs.declared.token.LexFault.{LexFault}
use Rattle.c_lex.specs.declared.token.LexFault.TheVariants.{NoMemory}
use Rattle.c_lex.specs.declared.token.Token.{Token}
use Rattle.lex_laws.specs.Lexes.{FailsAt, Lexes}

abbrev pub given : List Token → Lexed
given tokens = Ok tokens

abbrev pub failed : LexFault → Lexed
failed fault = Err fault

-- the tokens of a text are those that spell it
abbrev pub IsLexed : Type 0
IsLexed = (text : List ℕ) (tokens : List Token) → lexed text ≡ given tokens ↔ Lexes text tokens

-- its fault is that of its failing piece
abbrev pub IsFailed : Type 0
IsFailed = (text : List ℕ) (fault : LexFault) → fault ≢ NoMemory → lexed text ≡ failed fault ↔ FailsAt text fault

-- a text has one list of tokens, or one failing piece, and never both
abbrev pub HasOneList : Type 0
HasOneList = (text : List ℕ) (a b : List Token) → Lexes text a → Lexes text b → a ≡ b

abbrev pub HasOneFault : Type 0
HasOneFault = (text : List ℕ) (a b : LexFault) → FailsAt text a → FailsAt text b → a ≡ b

abbrev pub HasNotBoth : Type 0
HasNotBoth = (text : List ℕ) (tokens : List Token) (fault : LexFault) → Lexes text tokens → FailsAt text fault → ⊥

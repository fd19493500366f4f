-- The answers to a text.
use Rattle.std.specs.Prelude.{◌≡◌, ℕ, ◌≤◌, ◌<◌, ◌-◌, ◌^◌, min, ℤ, List, Option, Some, None, Result, Ok, Err}
use Rattle.ub_base.specs.declared.clause.Clause.{Clause}
use Rattle.first_form.specs.Form.{IsFirstForm}
use Rattle.first_form.specs.declared.tree.ReturnUnit.{ReturnUnit}
use Rattle.audit_verdict.specs.Value.{value, exit_status}
use Rattle.audit_verdict.specs.declared.answer.Answer.{Answer}
use Rattle.audit_verdict.specs.declared.answer.Answer.TheVariants.{Clean, Undefined, NoMemory}
use Rattle.audit_verdict.specs.declared.answer.Refusal.{Refusal}
use Rattle.audit_verdict.specs.declared.answer.Refusal.TheVariants.{Stray, OpenLiteral, BadNumber, TooDeep, TooHigh, Syntax, NotTyped}
use Rattle.c_ast.specs.Nest.{nest_of}
use Rattle.c_ast.specs.declared.statement.Unit.{Unit as SyntaxTree}
use Rattle.c_grammar.specs.Grammar.{SpellsUnit}
use Rattle.c_lex.specs.TokenText.{TokenText}
use Rattle.c_lex.specs.Tokens.{lexed}
use Rattle.c_lex.specs.declared.token.Token.{Token}
use Rattle.c_lex.specs.declared.token.LexFault.{LexFault}
use Rattle.c_lex.specs.declared.token.LexFault.TheVariants.{Stray as StrayAt, OpenLiteral as OpenLiteralAt, BadNumber as BadNumberAt, NoMemory as LexMemory}
use Rattle.c_typed.specs.Height.{program_height}
use Rattle.c_typed.specs.Lawful.{IsLawful}
use Rattle.c_typed.specs.declared.program.Program.{Program}

abbrev pub judged : ℕ → Result ℤ Clause → Answer
judged line (Ok z) = Clean (exit_status z)
judged line (Err clause) = Undefined clause line

-- the answer to a unit: clean with its status, or the clause that its operator breaks
abbrev pub verdict : ReturnUnit → Answer
verdict unit = judged unit.line (value unit)

-- the text isn't of the first form
abbrev pub HasNoForm : List ℕ → Type 0
HasNoForm text = (unit : ReturnUnit) → IsFirstForm text unit → ⊥

-- the text is of the first form, and this is its verdict
pub record HasVerdict (text : List ℕ) (answer : Answer) : Type 0 where
  pub unit : ReturnUnit
  pub form : IsFirstForm text unit
  pub is : answer ≡ verdict unit

-- what a fault of the lexer refuses; want of memory refuses nothing
abbrev pub lex_refusal : LexFault → Option Refusal
lex_refusal (StrayAt at) = Some (Stray at)
lex_refusal (OpenLiteralAt at) = Some (OpenLiteral at)
lex_refusal (BadNumberAt at) = Some (BadNumber at)
lex_refusal LexMemory = None

-- the deepest nesting that is read, and the highest program that is run (own)
abbrev pub max_nest : ℕ
max_nest = 2000

abbrev pub max_height : ℕ
max_height = 1000

-- the text has these tokens, which don't nest too deep
abbrev pub HasTokens : Result (List Token) LexFault → Type 0
HasTokens tokens = (list : List Token) × (tokens ≡ Ok list) × (nest_of list ≤ max_nest)

abbrev pub AreTokens : List ℕ → TokenText → Type 0
AreTokens text tokens = (tokens.source ≡ text) × (lexed text ≡ Ok tokens.list) × (nest_of tokens.list ≤ max_nest)

-- its tokens spell a syntax tree, by the productions of Annex A
abbrev pub HasTree : List ℕ → Type 0
HasTree text = (tokens : TokenText) × AreTokens text tokens × ((unit : SyntaxTree) × SpellsUnit unit tokens)

-- they spell none
abbrev pub HasNoTree : List ℕ → Type 0
HasNoTree text = (tokens : TokenText) × AreTokens text tokens × ((unit : SyntaxTree) → SpellsUnit unit tokens → ⊥)

-- they spell one that is typed: a lawful program is made of it
pub record IsTyped (text : List ℕ) (program : Program) : Type 0 where
  pub tree : HasTree text
  pub lawful : IsLawful program

-- moreover that program isn't too high
pub record IsRunnable (text : List ℕ) (program : Program) : Type 0 where
  pub typed : IsTyped text program
  pub low : program_height program ≤ max_height

-- it is too high, by so much at least
pub record IsHigh (text : List ℕ) (count : ℕ) : Type 0 where
  pub program : Program
  pub typed : IsTyped text program
  pub is : count ≡ min (program_height program) (2 ^ 32 - 1)
  pub high : max_height < count

-- why a text is refused
abbrev pub Refuses : List ℕ → Refusal → Type 0
Refuses text (Stray at) = lexed text ≡ Err (StrayAt at)
Refuses text (OpenLiteral at) = lexed text ≡ Err (OpenLiteralAt at)
Refuses text (BadNumber at) = lexed text ≡ Err (BadNumberAt at)
Refuses text (TooDeep count) = (list : List Token) × (lexed text ≡ Ok list) × (count ≡ nest_of list) × (max_nest < count)
Refuses text (TooHigh count) = IsHigh text count
Refuses text (Syntax token line) = HasNoTree text
Refuses text (NotTyped line) = HasTree text

-- the tokens alone refuse the text
abbrev pub RefusesEarly : Result (List Token) LexFault → Refusal → Type 0
RefusesEarly tokens (Stray at) = tokens ≡ Err (StrayAt at)
RefusesEarly tokens (OpenLiteral at) = tokens ≡ Err (OpenLiteralAt at)
RefusesEarly tokens (BadNumber at) = tokens ≡ Err (BadNumberAt at)
RefusesEarly tokens (TooDeep count) = (list : List Token) × (tokens ≡ Ok list) × (count ≡ nest_of list) × (max_nest < count)
RefusesEarly tokens (TooHigh count) = ⊥
RefusesEarly tokens (Syntax token line) = ⊥
RefusesEarly tokens (NotTyped line) = ⊥

-- Constants and string literals (6.4.4, 6.4.5), and static assertions (6.7.10). The functions of constants are typing_spec's word for word.
use Rattle.std.specs.Prelude.{ℕ, zero, suc, ◌+◌, ◌==◌, ℤ, pos, unsigned_abs, Bool, true, false, if◌then◌else◌, List, [], ◌∷◌, ◌++◌, Option, Some, None}
use Rattle.std.specs.Prelude.{length, is_some, Result, Ok, Err}
use Rattle.c_lex.specs.TokenText.{TokenText, text_at}
use Rattle.c_lit.specs.Literals.{string_value}
use Rattle.c_lit.specs.declared.integer.IntLit.{IntLit}
use Rattle.c_lit.specs.declared.fault.LitFault.{LitFault}
use Rattle.c_types.specs.Types.{int, pointer}
use Rattle.c_types.specs.declared.kind.IntKind.TheVariants.{Int}
use Rattle.c_typed.specs.declared.tree.Node.TheOpen as shape
use Rattle.c_typed.specs.Lawful.{literal_type}
use Rattle.type_operands.specs.declared.operand.Form.{Form}
use Rattle.type_operands.specs.declared.operand.Form.TheVariants as form
use Rattle.type_operands.specs.Terms.{leaf, constant as constant_term, Expression, as_value, as_place}

-- 1. Constants.

-- an integer constant (6.4.4.1)
abbrev pub literal_in : ℕ → Result IntLit LitFault → Option Expression
literal_in line (Ok l) = Some (as_value (constant_term (pos l.value) (int l.kind) line))
literal_in line (Err fault) = None

-- a character constant, of type `int` (6.4.4.4p10)
abbrev pub character_in : ℕ → Result ℤ LitFault → Option Expression
character_in line (Ok z) = Some (as_value (constant_term z (int Int) line))
character_in line (Err fault) = None

-- a constant expression has a value (6.6p6)
abbrev pub is_value : Form → Bool
is_value form.Value = true
is_value _ = false

-- 2. String literals.

abbrev pub bytes_then : Result (List ℕ) LitFault → Option (List ℕ) → Option (List ℕ)
bytes_then (Ok a) (Some b) = Some (a ++ b)
bytes_then _ _ = None

-- the characters of so many string literals from a token on, and a zero (6.4.5p5, 6.4.5p6)
abbrev pub bytes_from : TokenText → ℕ → ℕ → Option (List ℕ)
bytes_from t zero at = Some (0 ∷ [])
bytes_from t (suc n) at = bytes_then (string_value (text_at t at)) (bytes_from t n (at + 1))

-- the literal of a number as an operand: an array of `char` with static storage (6.4.5p6)
abbrev pub string_literal : (number count line : ℕ) → Expression
string_literal number count line = as_place false (leaf (shape.Str number) (pointer false (literal_type count)) line)

abbrev pub strings_as : (number line : ℕ) → Option (List ℕ) → Option Expression
strings_as number line None = None
strings_as number line (Some bytes) = Some (string_literal number (length bytes) line)

-- 3. Static assertions.

abbrev pub is_zero : ℤ → Bool
is_zero z = unsigned_abs z == 0

-- the constant isn't 0, and the message is a string literal (6.7.10p2)
abbrev pub asserted : ℤ → Option (List ℕ) → Option (Unit {0})
asserted z message = if is_zero z then None else if is_some message then Some tt else None

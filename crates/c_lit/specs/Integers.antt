-- The values and types of integer constants (6.4.4.1).
use Rattle.std.specs.Prelude.{ℕ, pos, Bool, true, false, ◌==◌, List, [], ◌∷◌, find, Option, Some, None, Result, Ok, Err}
use Rattle.c_lex.specs.Integers.{Constant, integer_of}
use Rattle.c_lex.specs.declared.integer.Suffix.{Suffix}
use Rattle.c_lex.specs.declared.integer.Suffix.TheVariants.{Plain, Unsigned, Long, UnsignedLong, LongLong, UnsignedLongLong}
use Rattle.c_types.specs.Kinds.{holds}
use Rattle.c_types.specs.declared.kind.IntKind.{IntKind}
use Rattle.c_types.specs.declared.kind.IntKind.TheVariants.{Int, UInt, Long as LongInt, ULong, LLong, ULLong}
use Rattle.c_lit.specs.Digits.{value_from}
use Rattle.c_lit.specs.declared.integer.IntLit.{IntLit}
use Rattle.c_lit.specs.declared.fault.LitFault.{LitFault}
use Rattle.c_lit.specs.declared.fault.LitFault.TheVariants.{TooWide, BadSuffix}

-- the types of a constant, in order (the table of 6.4.4.1p5)
abbrev pub kinds_of : Bool → Suffix → List IntKind
kinds_of true Plain = Int ∷ LongInt ∷ LLong ∷ []
kinds_of false Plain = Int ∷ UInt ∷ LongInt ∷ ULong ∷ LLong ∷ ULLong ∷ []
kinds_of true Unsigned = UInt ∷ ULong ∷ ULLong ∷ []
kinds_of false Unsigned = UInt ∷ ULong ∷ ULLong ∷ []
kinds_of true Long = LongInt ∷ LLong ∷ []
kinds_of false Long = LongInt ∷ ULong ∷ LLong ∷ ULLong ∷ []
kinds_of true UnsignedLong = ULong ∷ ULLong ∷ []
kinds_of false UnsignedLong = ULong ∷ ULLong ∷ []
kinds_of true LongLong = LLong ∷ []
kinds_of false LongLong = LLong ∷ ULLong ∷ []
kinds_of true UnsignedLongLong = ULLong ∷ []
kinds_of false UnsignedLongLong = ULLong ∷ []

-- the first type of the list in which the value can be represented
abbrev pub typed : ℕ → Option IntKind → Result IntLit LitFault
typed n None = Err TooWide
typed n (Some k) = Ok (record { value = n; kind = k })

abbrev pub value_of : Option Constant → Result IntLit LitFault
value_of None = Err BadSuffix
value_of (Some c) =
    typed (value_from c.radix 0 c.digits) (find (λ kind. holds kind (pos (value_from c.radix 0 c.digits))) (kinds_of (c.radix == 10) c.suffix))

-- the value and the type of a constant, or why the text has none
abbrev pub int_value : List ℕ → Result IntLit LitFault
int_value text = value_of (integer_of text)

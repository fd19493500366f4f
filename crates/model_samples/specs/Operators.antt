-- Operators and conversions (6.3, 6.5.3.3, 6.5.5 to 6.5.15, 6.5.17). A constant and a conversion of one have no event: `return E;` takes
-- four picks and one for each event of E, and the first event is pick 3.
use Rattle.std.specs.Prelude.{◌≡◌, ℕ, ◌+◌, [], ◌∷◌, Some, pos}
use Rattle.ub_base.specs.declared.clause.Kind.TheVariants.{Val}
use Rattle.ub_base.specs.declared.clause.Clause.{Clause}
use Rattle.ub_base.specs.declared.clause.Clause.TheVariants.{Exceptional, DivideByZero, Unrepresentable, ShiftCount, LeftShift}
use Rattle.c_types.specs.declared.kind.IntKind.TheVariants as kind
use Rattle.c_types.specs.declared.kind.BinOp.{BinOp}
use Rattle.c_types.specs.declared.kind.BinOp.TheVariants as op
use Rattle.c_types.specs.Types as types
use Rattle.c_typed.specs.declared.tree.UnOp.TheVariants as unary
use Rattle.c_typed.specs.declared.tree.RelOp.TheVariants as relation
use Rattle.c_typed.specs.Order.{place}
use Rattle.mem_spec.specs.Streams.{silent}
use Rattle.c_model.specs.Program.{Bin, Un, And, Or, Cond, Comma, Expr, Return}
use Rattle.c_model.specs.FirstFinding.{Clean, Undefined}
use Rattle.model_samples.specs.Build.{int_type, node, constant, int, minus, x, get, binary, less, equal, not_equal, to_kind, found, returns, with_x}

-- an operator of unsigned int
abbrev pub unsigned : BinOp → Expr → Expr → Expr
unsigned o a b = node (Bin o kind.UInt) (types.int kind.UInt) (a ∷ b ∷ [])

-- `return E;` gives the status after so many events
abbrev pub Gives : Expr → (status events : ℕ) → Type 0
Gives e status events = found (returns e) ≡ Clean status silent (events + 4)

-- `return E;` is undefined at the first event, of this node
abbrev pub Breaks : Expr → Clause → ℕ → Type 0
Breaks e c n = found (returns e) ≡ Undefined c [] 2 (Some (place n Val)) 1 3

-- 2+3
abbrev pub plus : Type 0
plus = Gives (binary op.Add (int 2) (int 3)) 5 1

-- 5-7, and the status is modulo 256
abbrev pub less_than_nothing : Type 0
less_than_nothing = Gives (binary op.Sub (int 5) (int 7)) 254 1

-- 6*7
abbrev pub times : Type 0
times = Gives (binary op.Mul (int 6) (int 7)) 42 1

-- -7/2 is -3 (6.5.5p6)
abbrev pub quotient : Type 0
quotient = Gives (binary op.Div (minus 7) (int 2)) 253 1

-- -7%2 is -1 (6.5.5p6)
abbrev pub remainder : Type 0
remainder = Gives (binary op.Rem (minus 7) (int 2)) 255 1

-- 3<<4
abbrev pub shift_left : Type 0
shift_left = Gives (binary op.Shl (int 3) (int 4)) 48 1

-- 250>>3
abbrev pub shift_right : Type 0
shift_right = Gives (binary op.Shr (int 250) (int 3)) 31 1

-- 12&10
abbrev pub bits_and : Type 0
bits_and = Gives (binary op.BitAnd (int 12) (int 10)) 8 1

-- 12|3
abbrev pub bits_or : Type 0
bits_or = Gives (binary op.BitOr (int 12) (int 3)) 15 1

-- 12^10
abbrev pub bits_differ : Type 0
bits_differ = Gives (binary op.BitXor (int 12) (int 10)) 6 1

-- 2147483647+1
abbrev pub sum_too_great : Type 0
sum_too_great = Breaks (binary op.Add (int 2147483647) (int 1)) Exceptional 0

-- -2147483648-1
abbrev pub difference_too_small : Type 0
difference_too_small = Breaks (binary op.Sub (minus 2147483648) (int 1)) Exceptional 0

-- 65536*65536
abbrev pub product_too_great : Type 0
product_too_great = Breaks (binary op.Mul (int 65536) (int 65536)) Exceptional 0

-- 1/0
abbrev pub quotient_by_zero : Type 0
quotient_by_zero = Breaks (binary op.Div (int 1) (int 0)) DivideByZero 0

-- 1%0
abbrev pub remainder_by_zero : Type 0
remainder_by_zero = Breaks (binary op.Rem (int 1) (int 0)) DivideByZero 0

-- -2147483648/-1
abbrev pub quotient_too_great : Type 0
quotient_too_great = Breaks (binary op.Div (minus 2147483648) (minus 1)) Unrepresentable 0

-- -2147483648%-1
abbrev pub remainder_of_too_great : Type 0
remainder_of_too_great = Breaks (binary op.Rem (minus 2147483648) (minus 1)) Unrepresentable 0

-- 1<<32
abbrev pub count_too_great : Type 0
count_too_great = Breaks (binary op.Shl (int 1) (int 32)) ShiftCount 0

-- 1>>-1
abbrev pub count_below_zero : Type 0
count_below_zero = Breaks (binary op.Shr (int 1) (minus 1)) ShiftCount 0

-- -1<<1
abbrev pub shifts_below_zero : Type 0
shifts_below_zero = Breaks (binary op.Shl (minus 1) (int 1)) LeftShift 0

-- 1<<31
abbrev pub shifts_too_far : Type 0
shifts_too_far = Breaks (binary op.Shl (int 1) (int 31)) LeftShift 0

-- (int)(4294967295u+1u): unsigned sums wrap (6.2.5p9)
abbrev pub wraps : Type 0
wraps = Gives (to_kind kind.Int (unsigned op.Add (constant kind.UInt (pos 4294967295)) (constant kind.UInt (pos 1)))) 0 2

-- (int)(0u-1u>>24)
abbrev pub wraps_down : Type 0
wraps_down = Gives (to_kind kind.Int (unsigned op.Shr (unsigned op.Sub (constant kind.UInt (pos 0)) (constant kind.UInt (pos 1))) (int 24))) 255 3

-- -5
abbrev pub negated : Type 0
negated = Gives (node (Un (unary.Minus kind.Int)) int_type (int 5 ∷ [])) 251 1

-- -(-2147483648)
abbrev pub least_negated : Type 0
least_negated = Breaks (node (Un (unary.Minus kind.Int)) int_type (minus 2147483648 ∷ [])) Exceptional 0

-- ~0
abbrev pub complement : Type 0
complement = Gives (node (Un (unary.Complement kind.Int)) int_type (int 0 ∷ [])) 255 1

-- !0
abbrev pub not_zero : Type 0
not_zero = Gives (node (Un unary.Not) int_type (int 0 ∷ [])) 1 1

-- !5
abbrev pub not_five : Type 0
not_five = Gives (node (Un unary.Not) int_type (int 5 ∷ [])) 0 1

-- 1<2
abbrev pub is_less : Type 0
is_less = Gives (less relation.Less (int 1) (int 2)) 1 1

-- 1>2
abbrev pub is_greater : Type 0
is_greater = Gives (less relation.Greater (int 1) (int 2)) 0 1

-- 2<=2
abbrev pub at_most : Type 0
at_most = Gives (less relation.LessEq (int 2) (int 2)) 1 1

-- 1>=2
abbrev pub at_least : Type 0
at_least = Gives (less relation.GreaterEq (int 1) (int 2)) 0 1

-- 4==4
abbrev pub are_equal : Type 0
are_equal = Gives (equal (int 4) (int 4)) 1 1

-- 4!=4
abbrev pub are_different : Type 0
are_different = Gives (not_equal (int 4) (int 4)) 0 1

-- 0&&1/0: the second operand is not evaluated (6.5.13p4)
abbrev pub and_stops : Type 0
and_stops = Gives (node And int_type (int 0 ∷ binary op.Div (int 1) (int 0) ∷ [])) 0 1

-- 1&&2
abbrev pub and_both : Type 0
and_both = Gives (node And int_type (int 1 ∷ int 2 ∷ [])) 1 1

-- 1&&1/0
abbrev pub and_goes_on : Type 0
and_goes_on = Breaks (node And int_type (int 1 ∷ binary op.Div (int 1) (int 0) ∷ [])) DivideByZero 2

-- 1||1/0 (6.5.14p4)
abbrev pub or_stops : Type 0
or_stops = Gives (node Or int_type (int 1 ∷ binary op.Div (int 1) (int 0) ∷ [])) 1 1

-- 0||0
abbrev pub or_neither : Type 0
or_neither = Gives (node Or int_type (int 0 ∷ int 0 ∷ [])) 0 1

-- 0||1/0
abbrev pub or_goes_on : Type 0
or_goes_on = Breaks (node Or int_type (int 0 ∷ binary op.Div (int 1) (int 0) ∷ [])) DivideByZero 2

-- 1?4:1/0 (6.5.15p4)
abbrev pub takes_second : Type 0
takes_second = Gives (node Cond int_type (int 1 ∷ int 4 ∷ binary op.Div (int 1) (int 0) ∷ [])) 4 1

-- 0?1/0:5
abbrev pub takes_third : Type 0
takes_third = Gives (node Cond int_type (int 0 ∷ binary op.Div (int 1) (int 0) ∷ int 5 ∷ [])) 5 1

-- 0?1:1/0, whose third operand is node 3
abbrev pub takes_third_of : Type 0
takes_third_of = Breaks (node Cond int_type (int 0 ∷ int 1 ∷ binary op.Div (int 1) (int 0) ∷ [])) DivideByZero 3

-- (1+1,2): each operand is evaluated, the last is the value (6.5.17p2)
abbrev pub comma : Type 0
comma = Gives (node Comma int_type (binary op.Add (int 1) (int 1) ∷ int 2 ∷ [])) 2 2

-- (int)(_Bool)2 (6.3.1.2)
abbrev pub to_bool : Type 0
to_bool = Gives (to_kind kind.Int (to_kind kind.Bool (int 2))) 1 0

-- (int)(unsigned char)300 (6.3.1.3p2)
abbrev pub to_unsigned_char : Type 0
to_unsigned_char = Gives (to_kind kind.Int (to_kind kind.UChar (int 300))) 44 0

-- (int)(signed char)200 is -56 (6.3.1.3p3, own)
abbrev pub to_signed_char : Type 0
to_signed_char = Gives (to_kind kind.Int (to_kind kind.SChar (int 200))) 200 0

-- (int)(short)70000 is 4464
abbrev pub to_short : Type 0
to_short = Gives (to_kind kind.Int (to_kind kind.Short (int 70000))) 112 0

-- (int)(long)-1
abbrev pub to_long : Type 0
to_long = Gives (to_kind kind.Int (to_kind kind.Long (minus 1))) 255 0

-- int x=300;return (unsigned char)x;: a load, and two conversions
abbrev pub of_object : Type 0
of_object = found (with_x (int 300) (Return (to_kind kind.Int (to_kind kind.UChar (get x))) ∷ [])) ≡ Clean 44 silent 11

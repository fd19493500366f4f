-- The labels of a `switch` (6.8.4.2).
use Rattle.std.specs.Prelude.{ℕ, ℤ, unsigned_abs}
use Rattle.c_types.specs.declared.kind.IntKind.TheVariants.{ULong}
use Rattle.c_arith.specs.Operators.{conv}

-- the number that stands for the value of a label in the set of a `switch` (own)
abbrev pub number_of : ℤ → ℕ
number_of value = unsigned_abs (conv ULong value)

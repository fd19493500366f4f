-- The number that digits spell (6.4.4.1p4): the first digit is the most significant.
use Rattle.std.specs.Prelude.{ℕ, ◌+◌, ◌*◌, List, [], ◌∷◌}
use Rattle.std.specs.Char.{digit_value}

-- going on from the number that the digits before them spell
abbrev pub value_from : ℕ → ℕ → List ℕ → ℕ
value_from radix number [] = number
value_from radix number (d ∷ ds) = value_from radix (number * radix + digit_value d) ds

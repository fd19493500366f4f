-- Numbers only grow as digits follow, and no type holds 2 ^ 64.
use Rattle.std.proofs.Common.{◌≡◌, ℕ, suc, ◌+◌, ◌*◌, ◌<◌, ◌≤◌, List, [], ◌∷◌, length, drop, get_or, sym, ap, ◌∙◌, arith, drop-cons}
use Rattle.std.specs.Char.{digit_value}
use Rattle.c_lit.specs.Digits.{value_from}

grows : (radix n d : ℕ) → 0 < radix → n ≤ n * radix + d
grows radix n d some = grind arith

pub value_grows : (radix n : ℕ) (ds : List ℕ) → 0 < radix → n ≤ value_from radix n ds
value_grows radix n [] some = omega arith
value_grows radix n (d ∷ ds) some =
    let step = grows radix n (digit_value d) some in
    let rest = value_grows radix (n * radix + digit_value d) ds some in omega arith

-- where a digit passes a number, all digits do
pub passed : (radix n i most all : ℕ) (ds : List ℕ) → i < length ds → value_from radix n (drop i ds) ≡ all → 0 < radix
    → most ≤ n * radix + digit_value (get_or ds i 0) → most ≤ all
passed radix n i most all ds there is some past =
    let step = value_grows radix (n * radix + digit_value (get_or ds i 0)) (drop (suc i) ds) some in
    let same : value_from radix (n * radix + digit_value (get_or ds i 0)) (drop (suc i) ds) ≡ all =
    sym (ap (value_from radix n) (drop-cons ds i 0 there)) ∙ is in
    omega arith

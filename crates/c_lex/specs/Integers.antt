-- Integer constants (6.4.4.1): their digits, and what their suffix says.
use Rattle.std.specs.Prelude.{ℕ, Bool, true, false, ◌==◌, List, [], ◌∷◌, codes, take, drop, Option, Some, None, is_some, if◌then◌else◌}
use Rattle.std.specs.List.{prefix_len}
use Rattle.std.specs.Str.{bytes_eq}
use Rattle.std.specs.Char.{is_digit}
use Rattle.c_lex.specs.Bytes.{begins}
use Rattle.c_lex.specs.declared.integer.Suffix.{Suffix}
use Rattle.c_lex.specs.declared.integer.Suffix.TheVariants.{Plain, Unsigned, Long, UnsignedLong, LongLong, UnsignedLongLong}

-- the digits of a radix, and the suffix behind them
pub record Constant : Type 0 where
  pub radix : ℕ
  pub digits : List ℕ
  pub suffix : Suffix

-- integer-suffix, or nothing
abbrev pub suffix_of : List ℕ → Option Suffix
suffix_of text =
    if bytes_eq text [] then Some Plain else
    (if bytes_eq text (codes "u") then Some Unsigned else
    (if bytes_eq text (codes "U") then Some Unsigned else
    (if bytes_eq text (codes "l") then Some Long else
    (if bytes_eq text (codes "L") then Some Long else
    (if bytes_eq text (codes "ul") then Some UnsignedLong else
    (if bytes_eq text (codes "uL") then Some UnsignedLong else
    (if bytes_eq text (codes "Ul") then Some UnsignedLong else
    (if bytes_eq text (codes "UL") then Some UnsignedLong else
    (if bytes_eq text (codes "lu") then Some UnsignedLong else
    (if bytes_eq text (codes "lU") then Some UnsignedLong else
    (if bytes_eq text (codes "Lu") then Some UnsignedLong else
    (if bytes_eq text (codes "LU") then Some UnsignedLong else
    (if bytes_eq text (codes "ll") then Some LongLong else
    (if bytes_eq text (codes "LL") then Some LongLong else
    (if bytes_eq text (codes "ull") then Some UnsignedLongLong else
    (if bytes_eq text (codes "uLL") then Some UnsignedLongLong else
    (if bytes_eq text (codes "Ull") then Some UnsignedLongLong else
    (if bytes_eq text (codes "ULL") then Some UnsignedLongLong else
    (if bytes_eq text (codes "llu") then Some UnsignedLongLong else
    (if bytes_eq text (codes "llU") then Some UnsignedLongLong else
    (if bytes_eq text (codes "LLu") then Some UnsignedLongLong else
    (if bytes_eq text (codes "LLU") then Some UnsignedLongLong else
    None))))))))))))))))))))))

-- at least one digit, and behind them a suffix or nothing
abbrev pub with_suffix : ℕ → List ℕ → Option Suffix → Option Constant
with_suffix radix [] suffix = None
with_suffix radix (d ∷ ds) None = None
with_suffix radix (d ∷ ds) (Some suffix) = Some (record { radix = radix; digits = d ∷ ds; suffix = suffix })

-- all digits of the radix, and what stands behind them
abbrev pub digits_of : ℕ → List ℕ → Option Constant
digits_of radix text =
    with_suffix radix (take (prefix_len (λ b. is_digit b radix) text) text) (suffix_of (drop (prefix_len (λ b. is_digit b radix) text) text))

-- hexadecimal-prefix
abbrev pub is_hexadecimal : List ℕ → Bool
is_hexadecimal text = if bytes_eq text (codes "0x") then true else (if bytes_eq text (codes "0X") then true else false)

-- integer-constant: behind `0x` hexadecimal digits, from `0` on octal digits, else decimal digits
abbrev pub integer_of : List ℕ → Option Constant
integer_of text =
    if is_hexadecimal (take 2 text) then digits_of 16 (drop 2 text) else
    (if begins (λ b. b == 48) text then digits_of 8 text else digits_of 10 text)

abbrev pub is_integer : List ℕ → Bool
is_integer text = is_some (integer_of text)

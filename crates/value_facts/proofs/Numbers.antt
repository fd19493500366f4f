-- What operators give of integers below 2^64 in size is so too, and so is what bytes are the number of.
use Rattle.std.proofs.Common.{arith, ◌≡◌, ◌+◌, ◌*◌, ◌-◌, ◌/◌, ◌%◌, ◌<◌, ◌≤◌, ◌^◌, ℕ, zero, suc, ◌==◌, Bool, true, false, ◌&&◌, if◌then◌else◌, IsTrue}
use Rattle.std.proofs.Common.{List, [], ◌∷◌, length, refl, ap, subst, ◌∙◌, ℤ, pos, negsuc, unsigned_abs, Result, Ok, Err}
use Rattle.std.specs.Prelude.{nat_le, ◌-ℤ◌, ◌+ℤ◌, ◌*ℤ◌, neg_ℤ, int_le, int_lt, bit_and, bit_or, bit_xor}
use Rattle.std.specs.Int.{int_rem_euclid, int_div_euclid}
use Rattle.std.specs.Int.RustNames.{int_div, int_rem}
use Rattle.std.specs.List.{All}
use Rattle.std.proofs.lemmas.Bool.Decides.{nat_tests}
use Rattle.std.proofs.lemmas.Int.{ints}
use Rattle.std.proofs.lemmas.List.Elements.{All-head, All-tail}
use Rattle.std.proofs.lemmas.Nat.{and_le_l, or_lt, xor_lt}
use Rattle.ub_base.specs.declared.clause.Clause.{Clause}
use Rattle.ub_base.specs.declared.clause.Clause.TheVariants.{DivideByZero, Unrepresentable, ShiftCount, LeftShift, Exceptional}
use Rattle.c_types.specs.declared.kind.IntKind.{IntKind}
use Rattle.c_types.specs.declared.kind.IntKind.TheVariants.{Bool as Boolean, Char, SChar, UChar, Short, UShort, Int, UInt, Long, ULong, LLong, ULLong}
use Rattle.c_types.specs.declared.kind.BinOp.{BinOp}
use Rattle.c_types.specs.declared.kind.BinOp.TheVariants.{Add, Sub, Mul, Div, Rem, Shl, Shr, BitAnd, BitXor, BitOr}
use Rattle.c_types.specs.Kinds.{width, is_signed, greatest, holds}
use Rattle.c_arith.specs.Operators.{bits, complemented, conv, divided, fitted, is_count, is_operand, modulus, negated, is_bool, of_bits, shifted}
use Rattle.c_arith.specs.Operators.{shifted_left, shifted_right, truth, value, wrapped}
use Rattle.c_arith.proofs.Bounds.{held_small}
use Rattle.c_model.specs.Nodes.{operated}
use Rattle.mem_spec.specs.Acts.{number_of, value_of}
use Rattle.mem_spec.specs.Agreement.{bytes_of_kind}
use Rattle.mem_spec.specs.Store.{TaggedByte}
use Rattle.value_facts.specs.Small.{IsSmallByte}

-- ---- values of integer types
kind_modulus : (kind : IntKind) → modulus kind ≤ 2 ^ 64
kind_modulus Boolean = omega arith
kind_modulus Char = omega arith
kind_modulus SChar = omega arith
kind_modulus UChar = omega arith
kind_modulus Short = omega arith
kind_modulus UShort = omega arith
kind_modulus Int = omega arith
kind_modulus UInt = omega arith
kind_modulus Long = omega arith
kind_modulus ULong = omega arith
kind_modulus LLong = omega arith
kind_modulus ULLong = omega arith

modulus_pos : (kind : IntKind) → 0 < modulus kind
modulus_pos Boolean = omega arith
modulus_pos Char = omega arith
modulus_pos SChar = omega arith
modulus_pos UChar = omega arith
modulus_pos Short = omega arith
modulus_pos UShort = omega arith
modulus_pos Int = omega arith
modulus_pos UInt = omega arith
modulus_pos Long = omega arith
modulus_pos ULong = omega arith
modulus_pos LLong = omega arith
modulus_pos ULLong = omega arith

rest_below : (a m : ℕ) → 0 < m → a % m < m
rest_below a m h = grind (arith, h)

euclid_below : (z : ℤ) (m : ℕ) → 0 < m → unsigned_abs (int_rem_euclid z (pos m)) < m
euclid_below (pos a) m h = rest_below a m h
euclid_below (negsuc a) m h = omega (arith, h)

pub bits_below : (kind : IntKind) (z : ℤ) → bits kind z < modulus kind
bits_below kind z = euclid_below z (modulus kind) (modulus_pos kind)

less_abs : (n m : ℕ) → n < m → m ≤ 2 ^ 64 → 0 < n → unsigned_abs (pos n -ℤ pos m) < 2 ^ 64
less_abs n m h few some = grind (arith, ints, h, few, some)

-- a number that isn't above the greatest value of a kind is not 0
least_greatest : (kind : IntKind) → int_le (pos 0) (greatest kind) ≡ true
least_greatest Boolean = refl
least_greatest Char = refl
least_greatest SChar = refl
least_greatest UChar = refl
least_greatest Short = refl
least_greatest UShort = refl
least_greatest Int = refl
least_greatest UInt = refl
least_greatest Long = refl
least_greatest ULong = refl
least_greatest LLong = refl
least_greatest ULLong = refl

above_some : (kind : IntKind) (n : ℕ) → int_le (pos n) (greatest kind) ≡ false → 0 < n
above_some kind zero h = absurd (let l = least_greatest kind in cc)
above_some kind (suc n) h = omega arith

of_bits_small : (kind : IntKind) (n : ℕ) → n < modulus kind → unsigned_abs (of_bits kind n) < 2 ^ 64
of_bits_small kind n h = go (int_le (pos n) (greatest kind)) refl
  where
    go : (b : Bool) → int_le (pos n) (greatest kind) ≡ b → unsigned_abs (if b then pos n else pos n -ℤ pos (modulus kind)) < 2 ^ 64
    go true e = let few = kind_modulus kind in omega (arith, h, few)
    go false e = less_abs n (modulus kind) h (kind_modulus kind) (above_some kind n e)

truth_small : (z : ℤ) → unsigned_abs (truth z) < 2 ^ 64
truth_small z = go (unsigned_abs z == 0)
  where
    go : (b : Bool) → unsigned_abs (if b then pos 0 else pos 1) < 2 ^ 64
    go true = omega arith
    go false = omega arith

pub conv_small : (kind : IntKind) (z : ℤ) → unsigned_abs (conv kind z) < 2 ^ 64
conv_small kind z = go (is_bool kind)
  where
    go : (b : Bool) → unsigned_abs (if b then truth z else wrapped kind z) < 2 ^ 64
    go true = truth_small z
    go false = of_bits_small kind (bits kind z) (bits_below kind z)

-- the result of an operator, where it has one
abbrev pub IsSmallResult : Result ℤ Clause → Type 0
IsSmallResult (Ok z) = unsigned_abs z < 2 ^ 64
IsSmallResult (Err c) = Unit {0}

true_is : (b : Bool) → b ≡ true → IsTrue b
true_is b h = h

both_first : (a b : Bool) → (a && b) ≡ true → a ≡ true
both_first true b h = refl
both_first false b h = absurd (cc)

fitted_small : (c : Clause) (kind : IntKind) (z : ℤ) → IsSmallResult (fitted c kind z)
fitted_small c kind z = go (is_signed kind)
  where
    held : (b : Bool) → holds kind z ≡ b → IsSmallResult (if b then Ok z else Err c)
    held true e = held_small kind z (true_is (holds kind z) e)
    held false e = tt

    go : (b : Bool) → IsSmallResult (if b then (if holds kind z then Ok z else Err c) else Ok (int_rem_euclid z (pos (modulus kind))))
    go true = held (holds kind z) refl
    go false = let l = bits_below kind z in let m = kind_modulus kind in omega (arith, l, m)

divided_small : (kind : IntKind) (a b x : ℤ) → (holds kind (int_div a b) ≡ true → unsigned_abs x < 2 ^ 64) → IsSmallResult (divided kind a b x)
divided_small kind a b x h = go (unsigned_abs b == 0)
  where
    held : (c : Bool) → holds kind (int_div a b) ≡ c → IsSmallResult (if c then Ok x else Err Unrepresentable)
    held true e = h e
    held false e = tt

    go : (c : Bool) → IsSmallResult (if c then Err DivideByZero else (if holds kind (int_div a b) then Ok x else Err Unrepresentable))
    go true = tt
    go false = held (holds kind (int_div a b)) refl

pub quotient_le : (a b : ℕ) → a / b ≤ a
quotient_le a zero = omega arith
quotient_le a (suc b) = grind (arith)

rem_le : (a b : ℤ) → unsigned_abs (int_rem a b) ≤ unsigned_abs a
rem_le a b = grind (arith, ints)

euclid_le : (a : ℤ) (n : ℕ) → unsigned_abs (int_div_euclid a (pos n)) ≤ unsigned_abs a
euclid_le (pos a) n = quotient_le a n
euclid_le (negsuc a) n = let l = quotient_le a n in omega (arith, l)

shifted_small : (kind : IntKind) (count : ℤ) (r : Result ℤ Clause) → IsSmallResult r → IsSmallResult (shifted kind count r)
shifted_small kind count r h = go (is_count kind count)
  where
    go : (b : Bool) → IsSmallResult (if b then r else Err ShiftCount)
    go true = h
    go false = tt

left_shift_small : (kind : IntKind) (a count : ℤ) → IsSmallResult (shifted_left kind a count)
left_shift_small kind a count = go (int_lt a (pos 0))
  where
    go : (b : Bool) → IsSmallResult (if b then Err LeftShift else fitted LeftShift kind (a *ℤ pos (2 ^ unsigned_abs count)))
    go true = tt
    go false = fitted_small LeftShift kind (a *ℤ pos (2 ^ unsigned_abs count))

and_below : (kind : IntKind) (a b : ℕ) → a < modulus kind → b < modulus kind → bit_and a b < modulus kind
and_below kind a b h k = let l = and_le_l a b in omega (arith, h, l)

value_small : (op : BinOp) (kind : IntKind) (a b : ℤ) → unsigned_abs a < 2 ^ 64 → IsSmallResult (value op kind a b)
value_small Add kind a b h = fitted_small Exceptional kind (a +ℤ b)
value_small Sub kind a b h = fitted_small Exceptional kind (a -ℤ b)
value_small Mul kind a b h = fitted_small Exceptional kind (a *ℤ b)
value_small Div kind a b h = divided_small kind a b (int_div a b) (λ e. held_small kind (int_div a b) (true_is (holds kind (int_div a b)) e))
value_small Rem kind a b h = divided_small kind a b (int_rem a b) (λ e. let l = rem_le a b in omega (arith, l, h))
value_small Shl kind a b h = shifted_small kind b (shifted_left kind a b) (left_shift_small kind a b)
value_small Shr kind a b h =
    shifted_small kind b (Ok (shifted_right a b)) (let l = euclid_le a (2 ^ unsigned_abs b) in omega (arith, l, h))
value_small BitAnd kind a b h = of_bits_small kind (bit_and (bits kind a) (bits kind b))
    (and_below kind (bits kind a) (bits kind b) (bits_below kind a) (bits_below kind b))
value_small BitXor kind a b h = of_bits_small kind (bit_xor (bits kind a) (bits kind b))
    (xor_lt (width kind) (bits kind a) (bits kind b) (bits_below kind a) (bits_below kind b))
value_small BitOr kind a b h = of_bits_small kind (bit_or (bits kind a) (bits kind b))
    (or_lt (width kind) (bits kind a) (bits kind b) (bits_below kind a) (bits_below kind b))

pub operated_small : (op : BinOp) (kind : IntKind) (a b : ℤ) → IsSmallResult (operated op kind a b)
operated_small op kind a b = go (holds kind a && is_operand op kind b) refl
  where
    go : (c : Bool) → (holds kind a && is_operand op kind b) ≡ c → IsSmallResult (if c then value op kind a b else Ok (pos 0))
    go true e = value_small op kind a b (held_small kind a (true_is (holds kind a) (both_first (holds kind a) (is_operand op kind b) e)))
    go false e = omega arith

pub negated_small : (kind : IntKind) (a : ℤ) → IsSmallResult (negated kind a)
negated_small kind a = fitted_small Exceptional kind (neg_ℤ a)

pub complemented_small : (kind : IntKind) (a : ℤ) → unsigned_abs (complemented kind a) < 2 ^ 64
complemented_small kind a = of_bits_small kind (bits kind (negsuc 0 -ℤ a)) (bits_below kind (negsuc 0 -ℤ a))

-- ---- bytes
pub number_below : (bs : List TaggedByte) → All IsSmallByte bs → number_of bs < 256 ^ length bs
number_below [] h = omega arith
number_below (b ∷ bs) h =
    let first = All-head IsSmallByte b bs h in
    let rest = number_below bs (All-tail IsSmallByte b bs h) in
    let power : 256 ^ length (b ∷ bs) ≡ 256 * 256 ^ length bs = grind (arith) in
    omega (arith, first, rest, power)

power_at : (n k m : ℕ) → n ≡ k → 256 ^ k ≡ m → 256 ^ n ≡ m
power_at n k m h e = ap (λ (i : ℕ). 256 ^ i) h ∙ e

pub eight_below : (bs : List TaggedByte) → length bs ≡ 8 → All IsSmallByte bs → number_of bs < 2 ^ 64
eight_below bs l h = let n = number_below bs h in let p = power_at (length bs) 8 (2 ^ 64) l refl in omega (arith, n, p)

power_more : (n k : ℕ) → 256 ^ n ≤ 256 ^ (n + k)
power_more n zero = let e : n + 0 ≡ n = omega arith in let same : 256 ^ (n + 0) ≡ 256 ^ n = ap (λ (i : ℕ). 256 ^ i) e in omega (arith, same)
power_more n (suc k) =
    let below = power_more n k in
    let e : n + suc k ≡ suc (n + k) = omega arith in
    let same : 256 ^ (n + suc k) ≡ 256 * 256 ^ (n + k) = ap (λ (i : ℕ). 256 ^ i) e ∙ grind arith in
    omega (arith, below, same)

pub power_le : (n k : ℕ) → n ≤ k → 256 ^ n ≤ 256 ^ k
power_le n k h =
    let e : n + (k - n) ≡ k = omega (arith, h) in
    subst (λ (i : ℕ). 256 ^ n ≤ 256 ^ i) e (power_more n (k - n))

value_at_most : (n m : ℕ) (b : Bool) → n < m → m ≤ 2 ^ 64 → (b ≡ true → 0 < n) → unsigned_abs (if b then pos n -ℤ pos m else pos n) < 2 ^ 64
value_at_most n m true h k some = less_abs n m h k (some refl)
value_at_most n m false h k some = omega (arith, h, k)

some_above : (s : Bool) (half n : ℕ) → 0 < half → (s && nat_le half n) ≡ true → 0 < n
some_above true half n h e = grind (arith, nat_tests, h, e)
some_above false half n h e = absurd (cc)

kind_bits : (kind : IntKind) → (256 ^ bytes_of_kind kind ≡ 2 ^ (8 * bytes_of_kind kind)) × (2 ^ (8 * bytes_of_kind kind) ≤ 2 ^ 64)
    × (0 < 2 ^ (8 * bytes_of_kind kind - 1))
kind_bits Boolean = (refl, omega arith, omega arith)
kind_bits Char = (refl, omega arith, omega arith)
kind_bits SChar = (refl, omega arith, omega arith)
kind_bits UChar = (refl, omega arith, omega arith)
kind_bits Short = (refl, omega arith, omega arith)
kind_bits UShort = (refl, omega arith, omega arith)
kind_bits Int = (refl, omega arith, omega arith)
kind_bits UInt = (refl, omega arith, omega arith)
kind_bits Long = (refl, omega arith, omega arith)
kind_bits ULong = (refl, omega arith, omega arith)
kind_bits LLong = (refl, omega arith, omega arith)
kind_bits ULLong = (refl, omega arith, omega arith)

pub value_of_small : (kind : IntKind) (bs : List TaggedByte) → length bs ≤ bytes_of_kind kind → All IsSmallByte bs
    → unsigned_abs (value_of kind (number_of bs)) < 2 ^ 64
value_of_small kind bs l h =
    let k = kind_bits kind in
    let below = number_below bs h in
    let more : 256 ^ length bs ≤ 256 ^ bytes_of_kind kind = power_le (length bs) (bytes_of_kind kind) l in
    let first = k.0 in
    let n : number_of bs < 2 ^ (8 * bytes_of_kind kind) = omega (arith, below, more, first) in
    value_at_most (number_of bs) (2 ^ (8 * bytes_of_kind kind))
    (is_signed kind && nat_le (2 ^ (8 * bytes_of_kind kind - 1)) (number_of bs)) n k.1
    (λ e. some_above (is_signed kind) (2 ^ (8 * bytes_of_kind kind - 1)) (number_of bs) k.2 e)

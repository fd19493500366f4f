-- Tests of numbers by their order, and choices by tests.
use Rattle.std.proofs.Common.{◌≡◌, ℕ, ◌≤◌, ◌<◌, Bool, true, false, cond, not, refl, sym, arith, Some, None, Option}
use Rattle.std.specs.Prelude.{◌==◌, nat_lt, nat_le}
use Rattle.std.specs.Ordering.{nat_cmp, is_eq, is_le, is_lt}
use Rattle.std.specs.Cmp.{unsigned_ties}
use Rattle.std.proofs.lemmas.Bool.Decides.{nat_tests}

pub number_ties : (m n : ℕ) → is_eq (nat_cmp m n) ≡ (m == n)
number_ties m n = sym (unsigned_ties m n)

pub up_to_is : (m n : ℕ) → is_le (nat_cmp m n) ≡ nat_le m n
up_to_is m n = grind (arith, nat_tests)

pub not_above_is : (m n : ℕ) → not (is_lt (nat_cmp m n)) ≡ nat_le n m
not_above_is m n = grind (arith, nat_tests)

pub below_is : (m n : ℕ) → not (is_le (nat_cmp m n)) ≡ nat_lt n m
below_is m n = grind (arith, nat_tests)

pub le_true : (m n : ℕ) → nat_le m n ≡ true → m ≤ n
le_true m n h = grind (arith, nat_tests)

pub le_false : (m n : ℕ) → nat_le m n ≡ false → n < m
le_false m n h = grind (arith, nat_tests)

pub lt_true : (m n : ℕ) → nat_lt m n ≡ true → m < n
lt_true m n h = grind (arith, nat_tests)

pub lt_false : (m n : ℕ) → nat_lt m n ≡ false → n ≤ m
lt_false m n h = grind (arith, nat_tests)

pub eq_true : (m n : ℕ) → (m == n) ≡ true → m ≡ n
eq_true m n h = grind (arith, nat_tests)

-- nothing was found where the first isn't it and the others don't have it
pub none_parts : {X : Type 0} (b : Bool) (x : X) (o : Option X) → cond b (Some x) o ≡ None → (b ≡ false) × (o ≡ None)
none_parts true x o h = absurd (cc)
none_parts false x o h = (refl, h)

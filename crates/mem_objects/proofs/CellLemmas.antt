-- Cells as they are put.
use Rattle.std.proofs.Common.{
  ◌≡◌,
  ◌≢◌,
  ℕ,
  zero,
  suc,
  ◌+◌,
  ◌-◌,
  ◌<◌,
  ◌≤◌,
  Bool,
  true,
  false,
  ◌&&◌,
  refl,
  ap,
  ◌∙◌,
  arith,
  List,
  [],
  ◌∷◌,
  ◌++◌,
  length,
  set,
  replicate,
  take,
  get_or-set_same,
  get_or-set_other,
}
use Rattle.std.specs.Prelude.{nat_lt, nat_le, ◌==◌}
use Rattle.std.proofs.lemmas.Bool.Decides.{nat_tests}
use Rattle.mem_objects.specs.declared.cell.Cell.{Cell}
use Rattle.mem_objects.specs.declared.cell.Via.{Via}
use Rattle.mem_objects.specs.Cells.{no_cell, cell_at, cell_left, cell_put}

pub put_none : (old : List Cell) (from k : ℕ) (is_declared : Bool) (via : Via) (cs : List Cell) → cell_at old k ≡ cell_put old from 0 is_declared via cs k
put_none old from k is_declared via cs =
    let t : (nat_le from k && nat_lt k (from + 0)) ≡ false = grind (arith, nat_tests) in
    rw t refl

same_place : (k n : ℕ) → (k == n) ≡ true → k ≡ n
same_place k n e = grind (arith, nat_tests)

other_place : (k n : ℕ) → (k == n) ≡ false → k ≢ n
other_place k n e = grind (arith, nat_tests)

put_split : (b : Bool) (xs old cs : List Cell) (from at k : ℕ) (is_declared : Bool) (via : Via) (c : Cell) → (k == (from + at)) ≡ b → from + at < length xs →
    c ≡ cell_left is_declared via at (cell_at cs at) → cell_at xs k ≡ cell_put old from at is_declared via cs k →
    cell_at (set xs (from + at) c) k ≡ cell_put old from (at + 1) is_declared via cs k
put_split true xs old cs from at k is_declared via c same room is before =
    let e : k ≡ from + at = same_place k (from + at) same in
    let t : (nat_le from k && nat_lt k (from + (at + 1))) ≡ true = grind (arith, nat_tests) in
    let m : k - from ≡ at = omega (arith, e) in
    rw (t, m, e) (get_or-set_same xs (from + at) c no_cell room ∙ is)
put_split false xs old cs from at k is_declared via c other room is before =
    let ne : k ≢ from + at = other_place k (from + at) other in
    let t : (nat_le from k && nat_lt k (from + (at + 1))) ≡ (nat_le from k && nat_lt k (from + at)) = grind (arith, nat_tests) in
    rw t (get_or-set_other xs (from + at) k c no_cell ne ∙ before)

pub put_more : (xs old cs : List Cell) (from at : ℕ) (is_declared : Bool) (via : Via) (c : Cell) → from + at < length xs →
    c ≡ cell_left is_declared via at (cell_at cs at) → ((k : ℕ) → cell_at xs k ≡ cell_put old from at is_declared via cs k) →
    (k : ℕ) → cell_at (set xs (from + at) c) k ≡ cell_put old from (at + 1) is_declared via cs k
put_more xs old cs from at is_declared via c room is before k =
    put_split (k == (from + at)) xs old cs from at k is_declared via c refl room is (before k)

blank : (n k : ℕ) → cell_at (replicate n no_cell) k ≡ no_cell
blank zero k = refl
blank (suc n) zero = refl
blank (suc n) (suc k) = blank n k

pub behind_blank : (xs : List Cell) (n k : ℕ) → cell_at (xs ++ replicate n no_cell) k ≡ cell_at xs k
behind_blank [] n k = blank n k
behind_blank (x ∷ xs) n zero = refl
behind_blank (x ∷ xs) n (suc k) = behind_blank xs n k

take_long : (xs : List Cell) (n : ℕ) → length xs ≤ n → take n xs ≡ xs
take_long [] zero e = refl
take_long [] (suc n) e = refl
take_long (x ∷ xs) zero e = absurd (omega arith)
take_long (x ∷ xs) (suc n) e = ap (λ (ys : List Cell). x ∷ ys) (take_long xs n (omega arith))

pub longer : (xs ys : List Cell) (n m k : ℕ) → length xs ≤ n → ys ≡ take n xs ++ replicate m no_cell → cell_at ys k ≡ cell_at xs k
longer xs ys n m k e is = rw (is, take_long xs n e) (behind_blank xs m k)

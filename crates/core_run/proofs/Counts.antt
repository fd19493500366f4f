-- Counts that grow.
use Rattle.std.proofs.Common.{◌≡◌, ℕ, ◌+◌, refl, ap, arith}
use Rattle.std.specs.Prelude.{Option, Some, None}
use Rattle.core_run.specs.Told.{more}

pub more_zero : (o : Option ℕ) → more 0 o ≡ o
more_zero None = refl
more_zero (Some n) = let e : n + 0 ≡ n = omega arith in ap Some e

pub more_more : (k n : ℕ) (o : Option ℕ) → more k (more n o) ≡ more (n + k) o
more_more k n None = refl
more_more k n (Some m) = let e : (m + n) + k ≡ m + (n + k) = omega arith in ap Some e

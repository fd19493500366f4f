-- What holds of the value that a call gives, and the bytes of an address.
use Rattle.std.proofs.Common.{◌≡◌, ℕ, ◌<◌, ◌^◌, arith, ℤ, pos}
use Rattle.std.specs.Prelude.{Result, Ok, Err, IfOk}
use Rattle.mem_spec.specs.Bytes.{low_bits}

pub given_then : {V E : Type 0} (r : Result V E) (P Q : V → Type 0) → ((v : V) → P v → Q v) → IfOk r P → IfOk r Q
given_then (Ok v) P Q f p = f v p
given_then (Err e) P Q f p = tt

pub low_address : (z : ℤ) (a : ℕ) → z ≡ pos a → a < 2 ^ 64 → low_bits z ≡ a
low_address z a e lt = rw e (omega arith)

-- The bytes that hold a value (own: little-endian).
use Rattle.std.specs.Prelude.{ℕ, zero, suc, ◌/◌, ◌%◌, ◌^◌, List, [], ◌∷◌, Some, None, ℤ, pos, unsigned_abs}
use Rattle.std.specs.Int.{int_rem_euclid}
use Rattle.exposure.specs.declared.prov.Prov.{Prov}
use Rattle.mem_spec.specs.Store.{TaggedByte, written}

-- so many bytes of a number, the least first
abbrev pub number_bytes : ℕ → ℕ → List TaggedByte
number_bytes zero n = []
number_bytes (suc k) n = record { byte = written (n % 256) None; tag = None } ∷ number_bytes k (n / 256)

-- the pieces from this one on of a pointer
abbrev pub pointer_bytes : ℕ → ℕ → Prov → ℕ → List TaggedByte
pointer_bytes zero i prov n = []
pointer_bytes (suc k) i prov n = record { byte = written (n % 256) (Some (prov, i)); tag = None } ∷ pointer_bytes k (suc i) prov (n / 256)

-- a number modulo 2^64
abbrev pub low_bits : ℤ → ℕ
low_bits z = unsigned_abs (int_rem_euclid z (pos (2 ^ 64)))

-- Fixed places with offsets that no address passes the last one by (own).
use Rattle.std.specs.Prelude.{ℕ, ◌^◌, nat_lt, Bool, true, ◌&&◌, List, [], ◌∷◌, Option, Some, None}
use Rattle.c_typed.specs.declared.tree.Typed.{Typed}
use Rattle.c_typed.specs.declared.program.Program.{Program}
use Rattle.static_places.specs.Fixed.{Spot, fixed_place}

abbrev pub is_low : Option Spot → Bool
is_low None = true
is_low (Some spot) = nat_lt spot.1 (2 ^ 63)

-- no fixed place has an offset of 2^63 or more, as none has whose members lie in their objects, which have 2^40 bytes at most (own)
abbrev pub all_low : Program → ℕ → List Typed → Bool
all_low p function [] = true
all_low p function (t ∷ ts) = is_low (fixed_place p function t) && all_low p function ts

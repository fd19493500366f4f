-- How high types are, of how many they are made, and how much of it a declaration may ask for (own).
use Rattle.std.specs.Prelude.{ℕ, zero, suc, ◌+◌, ◌≤◌, max, nat_le, Bool, ◌&&◌, ◌↔◌, IsTrue, Option, Some, None}
use Rattle.c_types.specs.Types.{CType, Params, pointer, array, function, none, more, Signature}

abbrev mutual
  -- how many derivations stand one inside the other (6.2.5p20); a structure or union is taken by its tag
  pub height : CType → ℕ
  height (pointer c t) = suc (height t)
  height (array c t n) = suc (height t)
  height (function r ps v) = suc (max (height r) (heights ps))
  height _ = zero

  pub heights : Params → ℕ
  heights none = zero
  heights (more c t ps) = max (height t) (heights ps)

abbrev mutual
  -- how many types it is made of, itself one of them, each counted as often as it stands there
  pub parts : CType → ℕ
  parts (pointer c t) = suc (parts t)
  parts (array c t n) = suc (parts t)
  parts (function r ps v) = suc (parts r + all_parts ps)
  parts _ = 1

  pub all_parts : Params → ℕ
  all_parts none = zero
  all_parts (more c t ps) = parts t + all_parts ps

-- the greatest height, and the most parts, of a type that is declared
abbrev pub height_limit : ℕ
height_limit = 2000

abbrev pub parts_limit : ℕ
parts_limit = 4096

abbrev pub is_within : CType → Bool
is_within t = nat_le (height t) height_limit && nat_le (parts t) parts_limit

-- the type is within both limits
pub record IsWithin (t : CType) : Type 0 where
  pub low : height t ≤ height_limit
  pub few : parts t ≤ parts_limit

abbrev pub TestTells : Type 0
TestTells = (t : CType) → IsTrue (is_within t) ↔ IsWithin t

-- Counting down: what is left of a room for parts.
abbrev pub found : Option ℕ → (ℕ → Option ℕ) → Option ℕ
found None next = None
found (Some n) next = next n

abbrev pub one_less : ℕ → Option ℕ
one_less zero = None
one_less (suc n) = Some n

abbrev mutual
  -- behind a type of at most this height in this room
  pub room_behind : CType → ℕ → ℕ → Option ℕ
  room_behind (pointer c t) high room = found (one_less room) (λ left. found (one_less high) (λ below. room_behind t below left))
  room_behind (array c t n) high room = found (one_less room) (λ left. found (one_less high) (λ below. room_behind t below left))
  room_behind (function r ps v) high room =
      found (one_less room) (λ left. found (one_less high) (λ below. found (room_behind r below left) (λ rest. room_behind_all ps below rest)))
  room_behind _ high room = one_less room

  pub room_behind_all : Params → ℕ → ℕ → Option ℕ
  room_behind_all none high room = Some room
  room_behind_all (more c t ps) high room = found (room_behind t high room) (λ rest. room_behind_all ps high rest)

abbrev pub room_behind_function : Signature → ℕ → ℕ → Option ℕ
room_behind_function f below room = found (room_behind f.result below room) (λ rest. room_behind_all f.params below rest)

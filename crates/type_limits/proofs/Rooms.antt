-- What is left of a room tells the height and the number of parts.
use Rattle.std.proofs.Common.{
  ◌≡◌,
  ◌⊎◌,
  inl,
  inr,
  ℕ,
  zero,
  suc,
  ◌+◌,
  ◌≤◌,
  ◌<◌,
  max,
  nat_le,
  Bool,
  true,
  false,
  ◌&&◌,
  ◌↔◌,
  IsTrue,
  Option,
  Some,
  None,
  sym,
  arith,
}
use Rattle.std.proofs.lemmas.Bool.Decides.{nat_tests}
use Rattle.c_types.specs.Types.{CType, Params, void, int, enumeration, pointer, array, struct, union, function, none, more}
use Rattle.type_limits.specs.Limits.{
  height,
  heights,
  parts,
  all_parts,
  height_limit,
  parts_limit,
  is_within,
  IsWithin,
  found,
  one_less,
  room_behind,
  room_behind_all,
}

-- what such a rest says of a height and a number of parts
abbrev pub Tells : (high room tall many : ℕ) → Option ℕ → Type 0
Tells high room tall many None = (high < tall) ⊎ (room < many)
Tells high room tall many (Some rest) = (tall ≤ high) × (rest + many ≡ room)

leaf : (high room : ℕ) → Tells high room zero 1 (one_less room)
leaf high zero = inr (omega arith)
leaf high (suc room) = (omega arith, omega arith)

-- one derivation more
derived : (high room tall many : ℕ) (left : Option ℕ) → Tells high room tall many left → Tells (suc high) (suc room) (suc tall) (suc many) left
derived high room tall many None (inl h) = inl (omega (arith, h))
derived high room tall many None (inr h) = inr (omega (arith, h))
derived high room tall many (Some rest) h = (omega (arith, h.0), omega (arith, h.1))

-- two types side by side
behind : (high room tall many rest tall2 many2 : ℕ) (left : Option ℕ) → tall ≤ high → rest + many ≡ room → Tells high rest tall2 many2 left →
    Tells high room (max tall tall2) (many + many2) left
behind high room tall many rest tall2 many2 None a b (inl h) = inl (omega (arith, a, h))
behind high room tall many rest tall2 many2 None a b (inr h) = inr (omega (arith, b, h))
behind high room tall many rest tall2 many2 (Some last) a b h = (omega (arith, a, h.0), omega (arith, b, h.1))

beside : (high room tall many tall2 many2 : ℕ) (left : Option ℕ) (next : ℕ → Option ℕ) → Tells high room tall many left →
    ((rest : ℕ) → Tells high rest tall2 many2 (next rest)) → Tells high room (max tall tall2) (many + many2) (found left next)
beside high room tall many tall2 many2 None next (inl h) f = inl (omega (arith, h))
beside high room tall many tall2 many2 None next (inr h) f = inr (omega (arith, h))
beside high room tall many tall2 many2 (Some rest) next h f = behind high room tall many rest tall2 many2 (next rest) h.0 h.1 (f rest)

-- a derived type needs one of each
needs : (high room tall many : ℕ) (next : ℕ → ℕ → Option ℕ) → ((below left : ℕ) → Tells below left tall many (next below left)) →
    Tells high room (suc tall) (suc many) (found (one_less room) (λ left. found (one_less high) (λ below. next below left)))
needs high zero tall many next f = inr (omega arith)
needs zero (suc left) tall many next f = inl (omega arith)
needs (suc below) (suc left) tall many next f = derived below left tall many (next below left) (f below left)

mutual
  pub tells : (t : CType) (high room : ℕ) → Tells high room (height t) (parts t) (room_behind t high room)
  tells void high room = leaf high room
  tells (int kind) high room = leaf high room
  tells (enumeration tag) high room = leaf high room
  tells (pointer c t) high room = needs high room (height t) (parts t) (room_behind t) (tells t)
  tells (array c t n) high room = needs high room (height t) (parts t) (room_behind t) (tells t)
  tells (struct tag) high room = leaf high room
  tells (union tag) high room = leaf high room
  tells (function r ps v) high room =
      needs high room (max (height r) (heights ps)) (parts r + all_parts ps)
      (λ below left. found (room_behind r below left) (λ rest. room_behind_all ps below rest))
      (λ below left. beside below left (height r) (parts r) (heights ps) (all_parts ps) (room_behind r below left) (room_behind_all ps below)
      (tells r below left) (all_tell ps below))

  all_tell : (ps : Params) (high room : ℕ) → Tells high room (heights ps) (all_parts ps) (room_behind_all ps high room)
  all_tell none high room = (omega arith, omega arith)
  all_tell (more c t ps) high room =
      beside high room (height t) (parts t) (heights ps) (all_parts ps) (room_behind t high room) (room_behind_all ps high) (tells t high room)
      (all_tell ps high)

both : (tall many high room : ℕ) → tall ≤ high → many ≤ room → nat_le tall high && nat_le many room ≡ true
both tall many high room a b = grind (arith, nat_tests, a, b)

high_fails : (tall many high room : ℕ) → high < tall → nat_le tall high && nat_le many room ≡ false
high_fails tall many high room a = grind (arith, nat_tests, a)

many_fail : (tall many high room : ℕ) → room < many → nat_le tall high && nat_le many room ≡ false
many_fail tall many high room a = grind (arith, nat_tests, a)

abbrev pub is_some : Option ℕ → Bool
is_some None = false
is_some (Some n) = true

tested : (high room tall many : ℕ) (left : Option ℕ) → Tells high room tall many left → is_some left ≡ (nat_le tall high && nat_le many room)
tested high room tall many None (inl h) = sym (high_fails tall many high room h)
tested high room tall many None (inr h) = sym (many_fail tall many high room h)
tested high room tall many (Some rest) h = sym (both tall many high room h.0 (omega (arith, h.1)))

pub test_tells : (t : CType) → is_some (room_behind t height_limit parts_limit) ≡ is_within t
test_tells t = tested height_limit parts_limit (height t) (parts t) (room_behind t height_limit parts_limit) (tells t height_limit parts_limit)

within : (tall many high room : ℕ) → IsTrue (nat_le tall high && nat_le many room) → (tall ≤ high) × (many ≤ room)
within tall many high room h = grind (arith, nat_tests, h)

pub limits_tell : (t : CType) → IsTrue (is_within t) ↔ IsWithin t
limits_tell t = (
  λ h. let w = within (height t) (parts t) height_limit parts_limit h in record { low = w.0; few = w.1 },
  λ w. both (height t) (parts t) height_limit parts_limit w.low w.few,
)

-- Fixed places: an object that the text names or a literal, and an offset in it, whatever the input (own).
use Rattle.std.specs.Prelude.{
  ℕ,
  zero,
  suc,
  ◌+◌,
  ◌-◌,
  ◌*◌,
  ◌^◌,
  nat_lt,
  nat_le,
  ℤ,
  pos,
  negsuc,
  Bool,
  true,
  false,
  not,
  ◌&&◌,
  List,
  [],
  ◌∷◌,
  slice_get,
  Option,
  Some,
  None,
  Result,
  Ok,
  Err,
  if◌then◌else◌,
}
use Rattle.c_typed.specs.declared.tree.Typed.{Typed, fold-Typed}
use Rattle.c_typed.specs.declared.tree.Node.TheOpen as shape
use Rattle.c_typed.specs.declared.tree.Node.TheOpen.{Node-F, Typed-F}
use Rattle.c_typed.specs.declared.program.Program.{Program}
use Rattle.static_places.specs.declared.places.FixedBase.{FixedBase}
use Rattle.static_places.specs.declared.places.FixedBase.TheVariants as base
use Rattle.static_places.specs.Extents.{slot_size, literal_size}

-- what it lies in, and the offset there
abbrev pub Spot : Type 0
Spot = FixedBase × ℕ

abbrev pub node_constant : Node-F (Option ℤ) (Option ℤ) → Option ℤ
node_constant (shape.Const z) = Some z
node_constant _ = None

abbrev pub typed_constant : Typed-F (Option ℤ) (Option ℤ) → Option ℤ
typed_constant t = t.node

-- the constant that a tree is
abbrev pub constant_of : Typed → Option ℤ
constant_of = fold-Typed (Option ℤ) (Option ℤ) node_constant typed_constant

abbrev pub constant_at : Option Typed → Option ℤ
constant_at None = None
constant_at (Some t) = constant_of t

-- the constant index of a sum whose operands these are
abbrev pub index_of : List Typed → Option ℤ
index_of ts = constant_at (slice_get ts 1)

-- what a tree shows the node above it
pub record Shown : Type 0 where
  pub constant : Option ℤ
  pub spot : Option Spot

abbrev pub at_spot : Option Spot → Shown
at_spot spot = record { constant = None; spot = spot }

abbrev pub size_of_base : Program → ℕ → FixedBase → Option ℕ
size_of_base p function (base.Slot slot) = slot_size p function slot
size_of_base p function (base.Literal number) = literal_size (slice_get p.literals number)

-- further on by the offset of a member; no object has so many bytes that 64 bits don't count them
abbrev pub moved : ℕ → Option Spot → Option Spot
moved offset None = None
moved offset (Some spot) = if nat_lt (spot.1 + offset) (2 ^ 64) then Some (spot.0, spot.1 + offset) else None

-- on or back by so many bytes, within an object of this size or one past it (6.5.6p8)
abbrev pub stepped : ℕ → Bool → ℕ → Spot → Option Spot
stepped size true by spot = if nat_le by spot.1 && nat_le (spot.1 - by) size then Some (spot.0, spot.1 - by) else None
stepped size false by spot = if nat_le (spot.1 + by) size then Some (spot.0, spot.1 + by) else None

abbrev pub magnitude : ℤ → ℕ
magnitude (pos n) = n
magnitude (negsuc n) = suc n

abbrev pub is_below : ℤ → Bool
is_below (pos n) = false
is_below (negsuc n) = true

abbrev pub opposite : Bool → Bool → Bool
opposite true b = not b
opposite false b = b

abbrev pub small_magnitude : ℤ → Option ℕ
small_magnitude z = if nat_le (magnitude z) (2 ^ 40) then Some (magnitude z) else None

abbrev pub stepped_in : Option ℕ → Option ℕ → Bool → ℕ → Spot → Option Spot
stepped_in None size back each spot = None
stepped_in (Some count) None back each spot = None
stepped_in (Some count) (Some size) back each spot = stepped size back (count * each) spot

-- by a constant index; elements have a byte at least, so none of these objects has one whose index passes 2^40 (own)
abbrev pub indexed : Program → ℕ → ℕ → Bool → Option Spot → Option ℤ → Option Spot
indexed p function size subtract None index = None
indexed p function size subtract (Some spot) None = None
indexed p function size subtract (Some spot) (Some z) =
    stepped_in (small_magnitude z) (size_of_base p function spot.0) (opposite subtract (is_below z)) size spot

abbrev pub place_in : Option Shown → Option Spot
place_in None = None
place_in (Some s) = s.spot

abbrev pub constant_in : Option Shown → Option ℤ
constant_in None = None
constant_in (Some s) = s.constant

-- a node over its operands
abbrev pub node_shown : Program → ℕ → Node-F (List Shown → Shown) Shown → List Shown → Shown
node_shown p function (shape.Const z) operands = record { constant = Some z; spot = None }
node_shown p function (shape.Obj slot) operands = at_spot (Some (base.Slot slot, 0))
node_shown p function (shape.Str number) operands = at_spot (Some (base.Literal number, 0))
node_shown p function (shape.Member offset) operands = at_spot (moved offset (place_in (slice_get operands 0)))
node_shown p function (shape.PtrAdd size subtract) operands =
    at_spot (indexed p function size subtract (place_in (slice_get operands 0)) (constant_in (slice_get operands 1)))
node_shown p function _ operands = at_spot None

abbrev pub typed_shown : Typed-F (List Shown → Shown) Shown → Shown
typed_shown t = t.node t.children

abbrev pub shown : Program → ℕ → Typed → Shown
shown p function = fold-Typed (List Shown → Shown) Shown (node_shown p function) typed_shown

-- the fixed place that a tree gives, none where it gives none
abbrev pub fixed_place : Program → ℕ → Typed → Option Spot
fixed_place p function t = (shown p function t).spot

abbrev pub fixed_at : Program → ℕ → Option Typed → Option Spot
fixed_at p function None = None
fixed_at p function (Some t) = fixed_place p function t

-- the fixed place of the node at this place of a list, or what is left of the number behind the list
abbrev pub sought : Program → ℕ → ℕ → List Typed → Result ℕ (Option Spot)
sought p function n [] = Ok n
sought p function zero (t ∷ ts) = Err (fixed_place p function t)
sought p function (suc n) (t ∷ ts) = sought p function n ts

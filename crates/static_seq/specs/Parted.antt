-- Which accesses of one full expression never race (own; 6.5p2).
use Rattle.std.specs.Prelude.{ℕ, ◌+◌, nat_le, Bool, true, false, not, ◌&&◌, ◌||◌, ◌==◌, List, [], ◌∷◌, Option, Some, None, if◌then◌else◌}
use Rattle.c_typed.specs.declared.tree.Slot.{Slot}
use Rattle.c_typed.specs.declared.tree.Typed.{Typed}
use Rattle.c_typed.specs.declared.program.Program.{Program}
use Rattle.c_typed.specs.Tree.{tree_of}
use Rattle.c_typed.specs.Decide.{is_before}
use Rattle.static_places.specs.declared.places.FixedBase.{FixedBase}
use Rattle.static_places.specs.declared.places.FixedBase.TheVariants as base
use Rattle.static_places.specs.Preorder.{nodes_of}
use Rattle.static_places.specs.Fixed.{Spot}
use Rattle.static_places.specs.Private.{same_slot, is_private}
use Rattle.static_seq.specs.declared.accesses.Accessed.{Accessed}
use Rattle.static_seq.specs.declared.accesses.MemoryAccess.{MemoryAccess}
use Rattle.static_seq.specs.Accesses.{accesses_from}
use Rattle.static_seq.specs.Choices.{spared_of, in_branches}

-- 1. Both are reads.
abbrev pub both_read : MemoryAccess → MemoryAccess → Bool
both_read a b = not a.writes && not b.writes

-- 2. One is sequenced before the other for every choice of operands under which both are due: under that which evaluates no operand of
-- `&&` and `||` in which neither stands.
abbrev pub sequenced : Typed → MemoryAccess → MemoryAccess → Bool
sequenced root a b =
    let taken = spared_of (nodes_of root) a.at.place.node b.at.place.node
    in is_before taken 0 (tree_of root) a.at.place b.at.place || is_before taken 0 (tree_of root) b.at.place a.at.place

-- 3. They stand in the two branches of one `?:`.
abbrev pub branched : Typed → MemoryAccess → MemoryAccess → Bool
branched root a b = in_branches (nodes_of root) 0 a.at.place.node b.at.place.node

abbrev pub same_base : FixedBase → FixedBase → Bool
same_base (base.Slot a) (base.Slot b) = same_slot a b
same_base (base.Literal m) (base.Literal n) = m == n
same_base _ _ = false

-- two objects, or bytes that don't overlap
abbrev pub are_distant : Option Spot → ℕ → Option Spot → ℕ → Bool
are_distant (Some a) m (Some b) n = not (same_base a.0 b.0) || (nat_le (a.1 + m) b.1 || nat_le (b.1 + n) a.1)
are_distant _ m _ n = false

-- 4. Both places are fixed, and the objects differ or the byte ranges don't overlap.
abbrev pub distant : MemoryAccess → MemoryAccess → Bool
distant a b = are_distant a.spot a.length b.spot b.length

abbrev pub is_private_object : Program → ℕ → Option Slot → Bool
is_private_object p function None = false
is_private_object p function (Some slot) = is_private p function slot

abbrev pub is_fixed : Option Spot → Bool
is_fixed None = false
is_fixed (Some spot) = true

-- 5. One place is the Obj of a private object and the other isn't fixed.
abbrev pub secluded : Program → ℕ → MemoryAccess → MemoryAccess → Bool
secluded p function a b = not (is_fixed b.spot) && is_private_object p function a.object

abbrev pub parted : Program → ℕ → Typed → MemoryAccess → MemoryAccess → Bool
parted p function root a b =
    both_read a b || (distant a b || (branched root a b || (sequenced root a b || (secluded p function a b || secluded p function b a))))

-- the first of these that isn't parted from the access
abbrev pub first_beside : Program → ℕ → Typed → MemoryAccess → List MemoryAccess → Option Accessed
first_beside p function root a [] = None
first_beside p function root a (b ∷ bs) = if parted p function root a b then first_beside p function root a bs else Some b.at

abbrev pub Pair : Type 0
Pair = Accessed × Accessed

abbrev pub or_pair : Accessed → Option Accessed → Option Pair → Option Pair
or_pair a None pair = pair
or_pair a (Some b) pair = Some (a, b)

-- the least pair, by node and then `val`, `eff`, of which the second isn't parted from the first
abbrev pub first_pair : Program → ℕ → Typed → List MemoryAccess → Option Pair
first_pair p function root [] = None
first_pair p function root (a ∷ rest) = or_pair a.at (first_beside p function root a rest) (first_pair p function root rest)

-- the accesses of a full expression, by node and then `val`, `eff`
abbrev pub accesses : Program → ℕ → Typed → List MemoryAccess
accesses p function root = accesses_from p function 0 (nodes_of root)

abbrev pub unparted : Program → ℕ → Typed → Option Pair
unparted p function root = first_pair p function root (accesses p function root)

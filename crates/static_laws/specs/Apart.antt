-- What makes two accesses of a full expression never race, of what `static_seq` parts: whatever the input, the arguments, the address map and
-- the order (6.5p2).
use Rattle.std.specs.Prelude.{ℕ, Bool, true, false, not, ◌&&◌, ◌||◌, ◌==◌, List, [], ◌∷◌, length, slice_get, Option, Some, None}
use Rattle.c_typed.specs.declared.tree.Access.{Access}
use Rattle.c_typed.specs.declared.tree.Access.TheVariants as access
use Rattle.c_typed.specs.declared.tree.Node.{Node}
use Rattle.c_typed.specs.declared.tree.Node.TheOpen as shape
use Rattle.c_typed.specs.declared.tree.Node.TheOpen.{Node-F}
use Rattle.c_typed.specs.declared.tree.Typed.{Typed, out-Typed}
use Rattle.c_typed.specs.declared.program.Program.{Program}
use Rattle.static_places.specs.Preorder.{nodes_of}
use Rattle.static_places.specs.Fixed.{Spot}
use Rattle.static_seq.specs.declared.accesses.MemoryAccess.{MemoryAccess}
use Rattle.static_seq.specs.Choices.{node_of}
use Rattle.static_seq.specs.Parted.{both_read, sequenced, branched, same_base, distant, accesses}

-- Case 4 in two: the objects differ,
abbrev pub other_bases : Option Spot → Option Spot → Bool
other_bases (Some a) (Some b) = not (same_base a.0 b.0)
other_bases _ _ = false

abbrev pub other_objects : MemoryAccess → MemoryAccess → Bool
other_objects a b = other_bases a.spot b.spot

abbrev pub is_whole : Access → Bool
is_whole (access.Whole size align) = true
is_whole how = false

abbrev pub stores_whole_by : Node-F Node Typed → Bool
stores_whole_by (shape.Assign initializing how) = is_whole how
stores_whole_by n = false

abbrev pub stores_whole_at : Option Typed → Bool
stores_whole_at None = false
stores_whole_at (Some t) = stores_whole_by (node_of t)

-- a store of a whole structure or union, as long as the value that it stores
abbrev pub stores_whole : Typed → MemoryAccess → Bool
stores_whole root a = a.writes && stores_whole_at (slice_get (nodes_of root) a.at.place.node)

-- or the bytes don't overlap, where values are known to have as many bytes as their types, or neither stores a whole structure or union.
abbrev pub other_bytes : Bool → Typed → MemoryAccess → MemoryAccess → Bool
other_bytes sized root a b = distant a b && (sized || not (stores_whole root a || stores_whole root b))

-- by the cases 1 to 4
abbrev pub apart : Bool → Typed → MemoryAccess → MemoryAccess → Bool
apart sized root a b = both_read a b || (other_objects a b || (other_bytes sized root a b || (branched root a b || sequenced root a b)))

abbrev pub apart_from_all : Bool → Typed → MemoryAccess → List MemoryAccess → Bool
apart_from_all sized root a [] = true
apart_from_all sized root a (b ∷ bs) = apart sized root a b && apart_from_all sized root a bs

abbrev pub all_apart : Bool → Typed → List MemoryAccess → Bool
all_apart sized root [] = true
all_apart sized root (a ∷ rest) = apart_from_all sized root a rest && all_apart sized root rest

-- each pair of accesses of the full expression is apart
abbrev pub never_races : Bool → Program → ℕ → Typed → Bool
never_races sized p function root = all_apart sized root (accesses p function root)

abbrev pub has_branches_by : Node-F Node Typed → ℕ → Bool
has_branches_by shape.Cond count = count == 3
has_branches_by n count = true

-- each `?:` has a test and two branches, as in each program of the profile (6.5.15)
abbrev pub all_branch : List Typed → Bool
all_branch [] = true
all_branch (t ∷ ts) = has_branches_by (node_of t) (length (out-Typed t).children) && all_branch ts

-- Where a full expression stands, and what for, as the code gives it.
use Rattle.std.specs.Prelude.{◌≡◌, List, [], ◌∷◌, ◌++◌, map, Option, Some, None, refl}
use Rattle.std.specs.Borrow.{Bor}
use Rattle.c_types.specs.Types.{Qualified, qualified_of}
use Rattle.c_typed.specs.Sites.{Use, unused, tested, selects, returned, initializes, Blocks, inside}
use Rattle.lawful_trees.specs.declared.place.Purpose.{Purpose}
use Rattle.lawful_trees.specs.declared.place.Purpose.TheVariants.{Unused, Tested, Selects, Returned, Initializes}
use Rattle.lawful_trees.specs.declared.place.Around.{Around}

abbrev pub use_of : Purpose → Use
use_of Unused = unused
use_of Tested = tested
use_of Selects = selects
use_of Returned = returned
use_of Initializes = initializes

abbrev pub objects_of : Around → List Qualified
objects_of a = map qualified_of a.objects.now

-- the blocks round a place, the innermost last
abbrev pub blocks_of : Blocks → List Around → Blocks
blocks_of blocks [] = blocks
blocks_of blocks (a ∷ rest) = blocks_of (inside a.number (objects_of a) blocks) rest

-- one block more round it
pub blocks_of-last : (blocks : Blocks) (around : List Around) (a : Around) →
    blocks_of blocks (around ++ a ∷ []) ≡ inside a.number (objects_of a) (blocks_of blocks around)
blocks_of-last blocks [] a = refl
blocks_of-last blocks (b ∷ rest) a = blocks_of-last (inside b.number (objects_of b) blocks) rest a

abbrev pub block_seen : Option (Bor Around) → Option (List Qualified)
block_seen None = None
block_seen (Some a) = Some (objects_of a.now)

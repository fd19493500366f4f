-- The block of a number, found from the outermost on.
use Rattle.std.proofs.Common.{◌≡◌, ℕ, ◌==◌, if◌then◌else◌, List, [], ◌∷◌, Option, Some, refl}
use Rattle.c_types.specs.Types.{Qualified}
use Rattle.c_typed.specs.Sites.{Blocks, inside}
use Rattle.lawful_trees.specs.Places.{blocks_of, objects_of}
use Rattle.lawful_trees.specs.declared.place.Around.{Around}

-- the block that is found, or the last of that number behind it
abbrev pub block_from : Option (List Qualified) → ℕ → List Around → Option (List Qualified)
block_from found number [] = found
block_from found number (a ∷ rest) = block_from (if number == a.number then Some (objects_of a) else found) number rest

pub blocks_of-at : (blocks : Blocks) (number : ℕ) (around : List Around) →
    block_from (blocks.objects number) number around ≡ (blocks_of blocks around).objects number
blocks_of-at blocks number [] = refl
blocks_of-at blocks number (a ∷ rest) = blocks_of-at (inside a.number (objects_of a) blocks) number rest

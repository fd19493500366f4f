-- What the full expressions of a part of a function's statements are, and that they are lawful.
use Rattle.std.specs.Prelude.{◌≡◌, ◌+◌, length, take}
use Rattle.std.specs.List.{All}
use Rattle.c_types.specs.Types.{Signature}
use Rattle.c_typed.specs.declared.program.Program.{Program}
use Rattle.c_typed.specs.declared.statement.Body.{Body, fold-Body}
use Rattle.c_typed.specs.declared.statement.ForStart.{ForStart, fold-ForStart}
use Rattle.c_typed.specs.declared.statement.Block.{Block, fold-Block}
use Rattle.c_typed.specs.declared.statement.Entry.{Entry, fold-Entry}
use Rattle.c_typed.specs.Sites.{Found, Opened, Blocks, no_block, found_body, found_entry, found_start, found_block}
use Rattle.c_typed.specs.Lawful.{ExpressionIsLawful}
use Rattle.lawful_trees.specs.Places.{blocks_of}
use Rattle.lawful_bodies.specs.declared.full.Place.{Place}

abbrev pub in_body : Body → Found
in_body = fold-Body Found Found Opened Opened found_body found_entry found_start found_block

abbrev pub in_start : ForStart → Opened
in_start = fold-ForStart Found Found Opened Opened found_body found_entry found_start found_block

abbrev pub in_block : Block → Opened
in_block = fold-Block Found Found Opened Opened found_body found_entry found_start found_block

abbrev pub in_entry : Entry → Found
in_entry = fold-Entry Found Found Opened Opened found_body found_entry found_start found_block

abbrev pub blocks_at : Place → Blocks
blocks_at place = blocks_of no_block place.around.items

-- the full expressions of a part are lawful at this place, and are counted
pub record Passes (p : Program) (f : Signature) (before : Place) (found : Found) (after : Place) : Type 0 where
  pub around : after.around.items ≡ before.around.items
  pub lawful : All (ExpressionIsLawful p f) (found (blocks_at before))
  pub count : after.count ≡ before.count + length (found (blocks_at before))

-- the same of a block, which stays open
pub record Opens (p : Program) (f : Signature) (before : Place) (block : Opened) (after : Place) : Type 0 where
  pub kept : take (length before.around.items) after.around.items ≡ before.around.items
  pub blocks : blocks_at after ≡ block.around (blocks_at before)
  pub lawful : All (ExpressionIsLawful p f) (block.found (blocks_at before))
  pub count : after.count ≡ before.count + length (block.found (blocks_at before))

use Rattle.std.proofs.Common.{◌≡◌, map, drop}
use Rattle.static_places.specs.Private.{block_takes, entry_takes, any_of}
use Rattle.static_places.proofs.privacy.+body_takes.Given as goal

-- the entries that are left take the address where the block does
abbrev pub invariant-block_takes-loop-entry : goal.invariant-block_takes-loop-entry
invariant-block_takes-loop-entry l = any_of (map (entry_takes l.slot) (drop l.entry-index l.entry-items)) ≡ block_takes l.slot l.block

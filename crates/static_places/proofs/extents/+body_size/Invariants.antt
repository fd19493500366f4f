use Rattle.std.proofs.Common.{◌≡◌, map, drop}
use Rattle.static_places.specs.Extents.{block_size, entry_size, first_of}
use Rattle.static_places.proofs.extents.+body_size.Given as goal

-- the entries that are left give the size
abbrev pub invariant-block_size-loop-entry : goal.invariant-block_size-loop-entry
invariant-block_size-loop-entry l =
    first_of (map (entry_size l.tags l.number l.decl) (drop l.entry-index l.entry-items)) ≡ block_size l.tags l.number l.decl l.block

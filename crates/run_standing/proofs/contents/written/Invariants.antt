-- The bytes so far.
use Rattle.std.proofs.Common.{◌≡◌, map, take}
use Rattle.mem_objects.specs.Cells.{plain_cell}
use Rattle.run_standing.proofs.contents.written.Given as goal

abbrev pub invariant-loop-byte : goal.invariant-loop-byte
invariant-loop-byte l = l.block.cells ≡ map plain_cell (take l.byte-index l.bytes)

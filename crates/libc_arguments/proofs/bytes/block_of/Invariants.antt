-- The numbers so far.
use Rattle.std.proofs.Common.{◌≡◌, map, take}
use Rattle.mem_objects.specs.Cells.{plain_cell}
use Rattle.libc_arguments.proofs.bytes.block_of.Given as goal

abbrev pub invariant-loop-number : goal.invariant-loop-number
invariant-loop-number l = l.block.cells ≡ map plain_cell (take l.number-index l.numbers)

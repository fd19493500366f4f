-- So many so far.
use Rattle.std.proofs.Common.{◌≡◌, map, replicate}
use Rattle.mem_objects.specs.Cells.{plain_cell}
use Rattle.libc_arguments.proofs.bytes.filled.Given as goal

abbrev pub invariant-loop-turn : goal.invariant-loop-turn
invariant-loop-turn l = l.block.cells ≡ map plain_cell (replicate l._turn l.number)

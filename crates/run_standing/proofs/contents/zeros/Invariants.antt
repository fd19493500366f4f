-- So many so far.
use Rattle.std.proofs.Common.{◌≡◌, map, replicate}
use Rattle.mem_objects.specs.Cells.{plain_cell}
use Rattle.run_standing.proofs.contents.zeros.Given as goal

abbrev pub invariant-loop-turn : goal.invariant-loop-turn
invariant-loop-turn l = l.block.cells ≡ map plain_cell (replicate l._turn 0)

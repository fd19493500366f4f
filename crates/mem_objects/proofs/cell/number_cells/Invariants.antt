use Rattle.std.proofs.Common.{◌≡◌, ◌-◌, ◌++◌, length, take}
use Rattle.mem_objects.specs.Pieces.{plain_cells}
use Rattle.mem_objects.proofs.cell.number_cells.Given as goal

-- the bytes so far, and those that are left
abbrev pub invariant-loop-index : goal.invariant-loop-index
invariant-loop-index l = (length l.cells ≡ 8) × (take l.index l.cells ++ plain_cells (8 - l.index) l.rest ≡ plain_cells 8 l.number)

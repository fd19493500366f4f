use Rattle.std.proofs.Common.{◌≡◌, ◌-◌, ◌++◌, length, take}
use Rattle.mem_objects.specs.Pieces.{piece_cells}
use Rattle.mem_objects.proofs.cell.pointer_cells.Given as goal

-- the pieces so far, and those that are left
abbrev pub invariant-loop-index : goal.invariant-loop-index
invariant-loop-index l = (length l.cells ≡ 8) × (take l.index l.cells ++ piece_cells (8 - l.index) l.index l.origin l.rest ≡ piece_cells 8 0 l.origin l.addr)

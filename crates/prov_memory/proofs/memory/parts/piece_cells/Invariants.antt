use Rattle.std.proofs.Common.{◌≡◌, ◌-◌, ◌++◌}
use Rattle.mem_objects.specs.Pieces.{piece_cells}
use Rattle.prov_memory.proofs.memory.parts.piece_cells.Given as goal

-- the pieces so far, and those that are left
abbrev pub invariant-loop-index : goal.invariant-loop-index
invariant-loop-index l = l.cells.items ++ piece_cells (8 - l.index) l.index l.origin l.rest ≡ piece_cells 8 0 l.origin l.addr

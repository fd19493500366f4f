use Rattle.std.proofs.Common.{◌≡◌, ◌-◌, ◌++◌}
use Rattle.mem_objects.specs.Pieces.{plain_cells}
use Rattle.prov_memory.proofs.memory.parts.plain_cells.Given as goal

-- the bytes so far, and those that are left
abbrev pub invariant-loop-index : goal.invariant-loop-index
invariant-loop-index l = l.cells.items ++ plain_cells (l.count - l.index) l.rest ≡ plain_cells l.count l.number

use Rattle.std.proofs.Common.{◌≡◌, ◌+◌, ◌-◌}
use Rattle.mem_spec.specs.Acts.{are_pieces}
use Rattle.mem_objects.specs.Access.{range_in}
use Rattle.mem_objects.specs.Cells.{prov_numbered}
use Rattle.prov_memory.proofs.memory.Memory.are_pieces.Given as goal

-- the pieces so far are there, so those that are left decide
abbrev pub invariant-loop-index : goal.invariant-loop-index
invariant-loop-index l = are_pieces (prov_numbered l.self.origins l.number.number) 0 (range_in l.self l.cells l.from l.len) ≡
    are_pieces (prov_numbered l.self.origins l.number.number) l.index (range_in l.self l.cells (l.from + l.index) (l.len - l.index))

use Rattle.std.proofs.Common.{◌<◌, map}
use Rattle.c_types.specs.Types.{type_of}
use Rattle.mem_objects.specs.Cells.{cell_at, tagged_in}
use Rattle.mem_objects.specs.Memory.{Kept}
use Rattle.prov_memory.proofs.LoadLemmas.{IsRead, cap}
use Rattle.prov_memory.proofs.memory.load.number_at.Given as goal

-- the last bytes are read
abbrev pub invariant-loop-step : goal.invariant-loop-step
invariant-loop-step l = record {
  read : (m : Kept) → IsRead (λ at. tagged_in m.origins (map type_of m.types) (cell_at l.cells at)) l.from l.len l.step l.number;
  below : l.number < cap l.step;
}

use Rattle.std.proofs.Common.{◌≡◌, ◌+◌, ◌-◌, ◌<◌, map, true}
use Rattle.c_types.specs.Types.{type_of}
use Rattle.mem_spec.specs.Acts.{are_pieces}
use Rattle.mem_spec.specs.Store.{range_from}
use Rattle.mem_objects.specs.Cells.{cell_at, prov_numbered, tagged_in}
use Rattle.prov_memory.proofs.LoadLemmas.{IsRead, cap}
use Rattle.prov_memory.proofs.memory.Memory.pieces_number.Given as goal

-- the last bytes are read, and are the last pieces
abbrev pub invariant-loop-step : goal.invariant-loop-step
invariant-loop-step l = record {
  read : IsRead (λ at. tagged_in l.self.origins (map type_of l.self.types) (cell_at l.cells at)) l.from 8 l.step l.number;
  below : l.number < cap l.step;
  pieces : are_pieces (prov_numbered l.self.origins l.origin.number) (8 - l.step)
      (range_from (λ at. tagged_in l.self.origins (map type_of l.self.types) (cell_at l.cells at)) (l.from + (8 - l.step)) l.step)
      ≡ true;
}

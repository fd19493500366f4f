use Rattle.std.proofs.Common.{◌≡◌, ◌+◌, ◌-◌, ◌<◌, [], map, true}
use Rattle.c_types.specs.Types.{type_of}
use Rattle.mem_spec.specs.Store.{range_from}
use Rattle.mem_objects.specs.Cells.{cell_at, tagged_in}
use Rattle.mem_objects.specs.Loads.{origins_of}
use Rattle.mem_objects.specs.Memory.{Kept}
use Rattle.prov_memory.proofs.LoadLemmas.{IsRead, cap}
use Rattle.prov_memory.proofs.memory.load.seen_at.Given as goal

-- the last bytes are read, and where they are plain none of them is a piece
abbrev pub invariant-loop-step : goal.invariant-loop-step
invariant-loop-step l = record {
  read : (m : Kept) → IsRead (λ at. tagged_in m.origins (map type_of m.types) (cell_at l.cells at)) l.from l.len l.step l.number;
  below : l.number < cap l.step;
  plain : l.plain ≡ true
      → (m : Kept)
      → origins_of (range_from (λ at. tagged_in m.origins (map type_of m.types) (cell_at l.cells at)) (l.from + (l.len - l.step)) l.step) ≡ [];
}

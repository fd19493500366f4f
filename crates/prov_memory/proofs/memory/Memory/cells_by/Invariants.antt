use Rattle.std.proofs.Common.{◌≡◌, ◌+◌, ◌≤◌, ◌^◌, [], length, option_map, slice_get, Some, vec_len}
use Rattle.c_types.specs.Shapes.{form_of}
use Rattle.mem_objects.specs.Held.{Held}
use Rattle.mem_objects.specs.Memory.{AreKnown, CellsKnown}
use Rattle.mem_objects.specs.Tags.{AddsTypes, AreTagged, IsTaken}
use Rattle.prov_memory.proofs.memory.Memory.cells_by.Given as goal

-- the bytes so far
abbrev pub invariant-loop-offset : goal.invariant-loop-offset
invariant-loop-offset l = record {
  more : AddsTypes l.initial.self l.self;
  rest : record l.self { types = [] } ≡ record l.initial.self { types = [] };
  known : AreKnown l.initial.self → (h : Held) → slice_get l.initial.self.objects l.at ≡ Some h → CellsKnown (length l.initial.self.origins) l.cells.items;
  len : vec_len l.cells ≡ l.offset;
  taken : l.from + l.len ≤ 2 ^ 47 → AreTagged l.initial.self → (h : Held) → slice_get l.initial.self.objects l.at ≡ Some h →
      IsTaken l.initial.self l.self h (option_map (λ shape. form_of shape.value) l.declared) l.from l.offset l.cells.items;
}

use Rattle.std.proofs.Common.{◌≡◌, ◌+◌, ◌<◌, ◌++◌, length, map}
use Rattle.ub_base.specs.declared.names.Item.TheVariants.{Expose}
use Rattle.mem_objects.specs.Access.{range_in}
use Rattle.mem_objects.specs.Loads.{origins_of}
use Rattle.prov_memory.proofs.ShowLemmas.{showing}
use Rattle.prov_memory.proofs.memory.Memory.show_cells.Given as goal

-- what the bytes so far were made from is exposed
abbrev pub invariant-loop-at : goal.invariant-loop-at
invariant-loop-at l = record {
  shown : l.self ≡ showing (origins_of (range_in l.initial.self l.cells 0 l.at)) l.initial.self;
  items : length l.initial.t + 16 < 32 → l.t ≡ l.initial.t ++ map Expose (origins_of (range_in l.initial.self l.cells 0 l.at));
}

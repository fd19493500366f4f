use Rattle.std.proofs.Common.{◌≡◌, ◌+◌, ◌<◌, ◌++◌, length, map, slice_get, Some}
use Rattle.ub_base.specs.declared.names.Item.TheVariants.{Expose}
use Rattle.mem_objects.specs.Access.{bytes_in}
use Rattle.mem_objects.specs.Held.{Held}
use Rattle.mem_objects.specs.Loads.{origins_of}
use Rattle.prov_memory.proofs.ShowLemmas.{showing}
use Rattle.prov_memory.proofs.memory.Memory.show_all_pieces.Given as goal

-- what the bytes so far were made from is exposed
abbrev pub invariant-loop-offset : goal.invariant-loop-offset
invariant-loop-offset l = record {
  shown : (h : Held) → slice_get l.initial.self.objects l.at ≡ Some h →
      l.self ≡ showing (origins_of (bytes_in l.initial.self h l.from l.offset)) l.initial.self;
  items : (h : Held) → slice_get l.initial.self.objects l.at ≡ Some h → length l.initial.t + 16 < 32 → l.t ≡ l.initial.t ++
      map Expose (origins_of (bytes_in l.initial.self h l.from l.offset));
}

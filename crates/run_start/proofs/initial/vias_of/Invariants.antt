-- Those of the first stores.
use Rattle.std.proofs.Common.{◌≡◌, take}
use Rattle.mem_spec.specs.Streams.{Io}
use Rattle.mem_objects.specs.Keeps.{Keeps}
use Rattle.mem_objects.specs.Memory.{store_of}
use Rattle.mem_objects.specs.Tags.{AreTagged}
use Rattle.run_start.specs.Begins.{IsNamedVia}
use Rattle.run_state.specs.Stands.{AreEach}
use Rattle.run_start.proofs.initial.vias_of.Given as goal

abbrev pub invariant-loop-store : goal.invariant-loop-store
invariant-loop-store l = record {
  keeps : Keeps l.fn.memory l.memory;
  store : AreTagged l.fn.memory → (io : Io) → store_of l.memory io ≡ store_of l.fn.memory io;
  each : AreEach (IsNamedVia l.memory) (take l.store-index l.fn.code.tables.stores.items) l.vias.items;
}

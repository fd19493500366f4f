-- Those that were made so far.
use Rattle.std.proofs.Common.{◌≡◌, length, take}
use Rattle.mem_objects.specs.Made.{AreNamed}
use Rattle.run_start.specs.Begins.{AreBytesWhere}
use Rattle.run_state.specs.Stands.{AreEach}
use Rattle.run_start.proofs.initial.fillings_of.Given as goal

abbrev pub invariant-loop-constants : goal.invariant-loop-constants
invariant-loop-constants l = record {
  each : AreNamed l.fn.memory → AreEach (AreBytesWhere l.fn.memory l.fn.places) (take l.constants-index l.fn.code.tables.constants.items) l.all.items;
  count : length l.all.items ≡ l.constants-index;
}

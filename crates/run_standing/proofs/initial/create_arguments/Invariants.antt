-- Those created so far.
use Rattle.std.proofs.Common.{◌≡◌, ◌+◌, ◌<◌, ◌^◌, ◌∷◌, length, map, take, string_bytes}
use Rattle.mem_objects.specs.Keeps.{Keeps}
use Rattle.mem_objects.specs.Sound.{IsSound}
use Rattle.run_standing.specs.Standing.{AllCreated, AreArguments, arguments, program_name}
use Rattle.run_standing.specs.Starting.{AreMadeAll}
use Rattle.run_standing.proofs.initial.create_arguments.Given as goal

abbrev pub invariant-loop-arg : goal.invariant-loop-arg
invariant-loop-arg l = record {
  keeps : Keeps l.fn.m l.m;
  made : AreMadeAll l.m l.all;
  count : length l.all ≡ l.arg-index + 1;
  created : IsSound l.fn.m → length l.args + 1 < 2 ^ 32
      → AllCreated l.fn.m l.m (take (l.arg-index + 1) (arguments 0 (program_name ∷ map string_bytes l.args)));
  there : length l.args + 1 < 2 ^ 32 → AreArguments l.m 0 (take (l.arg-index + 1) (program_name ∷ map string_bytes l.args)) l.all;
}

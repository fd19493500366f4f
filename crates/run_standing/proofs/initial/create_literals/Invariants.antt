-- Those created so far.
use Rattle.std.proofs.Common.{◌≡◌, ◌<◌, ◌^◌, [], length, take}
use Rattle.ub_base.specs.declared.names.ObjName.TheVariants.{Lit}
use Rattle.mem_objects.specs.Keeps.{Keeps}
use Rattle.mem_objects.specs.Sound.{IsSound}
use Rattle.run_standing.specs.Standing.{AllCreated, literals}
use Rattle.run_values.specs.Placed.{AreAll}
use Rattle.run_standing.proofs.initial.create_literals.Given as goal

abbrev pub invariant-loop-literal : goal.invariant-loop-literal
invariant-loop-literal l = record {
  keeps : Keeps l.initial.m l.m;
  rest : l.places.objects ≡ l.initial.places.objects;
  placed : l.initial.places.literals ≡ [] → length l.literal-items < 2 ^ 32 → AreAll l.m (λ k. Lit k) l.places.literals l.literal-index;
  created : IsSound l.initial.m → l.initial.places.literals ≡ [] → length l.literal-items < 2 ^ 32
      → AllCreated l.initial.m l.m (take l.literal-index (literals 0 l.literal-items));
}

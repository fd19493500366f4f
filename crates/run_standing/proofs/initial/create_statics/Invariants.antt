-- Those created so far.
use Rattle.std.proofs.Common.{◌≡◌, ◌<◌, ◌^◌, [], length, take}
use Rattle.ub_base.specs.declared.names.ObjName.TheVariants.{Static}
use Rattle.mem_objects.specs.Keeps.{Keeps}
use Rattle.mem_objects.specs.Sound.{IsSound}
use Rattle.run_standing.specs.Standing.{StaticsCreated}
use Rattle.run_values.specs.Placed.{AreAll}
use Rattle.run_standing.proofs.initial.create_statics.Given as goal

abbrev pub invariant-loop-object : goal.invariant-loop-object
invariant-loop-object l = record {
  keeps : Keeps l.initial.m l.m;
  rest : l.places.literals ≡ l.initial.places.literals;
  placed : l.initial.places.objects ≡ [] → length l.object-items < 2 ^ 32 → AreAll l.m (λ k. Static k) l.places.objects l.object-index;
  created : IsSound l.initial.m → l.initial.places.objects ≡ [] → length l.object-items < 2 ^ 32
      → StaticsCreated l.initial.m l.m l.p.tags (take l.object-index l.object-items);
}

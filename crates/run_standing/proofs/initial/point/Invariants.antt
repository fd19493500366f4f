-- The pointers put so far.
use Rattle.std.proofs.Common.{◌≡◌, ◌*◌, ◌-◌, ◌<◌, ◌^◌, ℕ, List, length, min}
use Rattle.addr_map.specs.Sound.{Above}
use Rattle.ub_base.specs.declared.names.ObjName.{ObjName}
use Rattle.ub_base.specs.declared.names.ObjName.TheVariants.{Argv}
use Rattle.exposure.specs.declared.prov.Prov.TheVariants.{Whole}
use Rattle.mem_objects.specs.Keeps.{Keeps}
use Rattle.mem_objects.specs.Sound.{IsSound}
use Rattle.run_standing.specs.Outcomes.{LivesStay, Waits}
use Rattle.run_standing.specs.Standing.{AreArguments, StandsThere, vector}
use Rattle.run_standing.specs.Starting.{AreMadeAll}
use Rattle.run_values.proofs.Fills.{Alike}
use Rattle.run_standing.proofs.Vectors.{PointedSo}
use Rattle.run_standing.proofs.initial.point.Given as goal

abbrev pub invariant-loop-argument : goal.invariant-loop-argument
invariant-loop-argument l = record {
  keeps : IsSound l.initial.m → AreMadeAll l.initial.m l.arguments → Keeps l.initial.m l.m;
  alike : Alike l.m l.initial.m;
  offset : l.at ≡ min (8 * l.argument-index) (2 ^ 64 - 1);
  pointed : IsSound l.initial.m → AreMadeAll l.initial.m l.arguments → (x : ObjName) → l.vector.prov ≡ Whole x → (words : List (List ℕ))
      → AreArguments l.initial.m 0 words l.arguments → length words < 2 ^ 32 → PointedSo l.initial.m l.m x l.vector.addr words l.argument-index;
  live : IsSound l.initial.m → AreMadeAll l.initial.m l.arguments → StandsThere l.initial.m Argv l.vector → Above 16777216 l.initial.m.rows
      → (words : List (List ℕ)) → AreArguments l.initial.m 0 words l.arguments → length words < 2 ^ 32 → Waits l.initial.m (vector words)
      → LivesStay l.initial.m l.m;
}

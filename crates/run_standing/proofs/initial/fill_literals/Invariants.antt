-- Those filled so far.
use Rattle.std.proofs.Common.{◌<◌, ◌^◌, length, take}
use Rattle.addr_map.specs.Sound.{Above}
use Rattle.ub_base.specs.declared.names.ObjName.TheVariants.{Lit}
use Rattle.mem_objects.specs.Keeps.{Keeps}
use Rattle.run_standing.specs.Outcomes.{LivesStay, WaitAll}
use Rattle.run_standing.specs.Standing.{AllFilled, literals}
use Rattle.run_values.specs.Placed.{AreAll}
use Rattle.run_standing.proofs.initial.fill_literals.Given as goal

abbrev pub invariant-loop-number : goal.invariant-loop-number
invariant-loop-number l = record {
  keeps : Keeps l.initial.m l.m;
  filled : AreAll l.initial.m (λ k. Lit k) l.places.literals (length l.literal-items) → length l.literal-items < 2 ^ 32
      → AllFilled l.initial.m l.m (take l.number (literals 0 l.literal-items));
  live : AreAll l.initial.m (λ k. Lit k) l.places.literals (length l.p.literals) → length l.p.literals < 2 ^ 32 → Above 16777216 l.initial.m.rows
      → WaitAll l.initial.m (literals 0 l.p.literals) → LivesStay l.initial.m l.m;
}

-- Those filled so far.
use Rattle.std.proofs.Common.{ℕ, List, take}
use Rattle.addr_map.specs.Sound.{Above}
use Rattle.mem_objects.specs.Keeps.{Keeps}
use Rattle.run_standing.specs.Outcomes.{LivesStay, WaitAll}
use Rattle.run_standing.specs.Standing.{AllFilled, AreArguments, arguments}
use Rattle.run_standing.proofs.initial.fill_arguments.Given as goal

abbrev pub invariant-loop-argument : goal.invariant-loop-argument
invariant-loop-argument l = record {
  keeps : Keeps l.initial.m l.m;
  filled : (words : List (List ℕ)) → AreArguments l.initial.m 0 words l.arguments → AllFilled l.initial.m l.m (take l.argument-index (arguments 0 words));
  live : Above 16777216 l.initial.m.rows → (words : List (List ℕ)) → AreArguments l.initial.m 0 words l.arguments
      → WaitAll l.initial.m (arguments 0 words) → LivesStay l.initial.m l.m;
}

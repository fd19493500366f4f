-- Those filled so far.
use Rattle.std.proofs.Common.{List, take}
use Rattle.addr_map.specs.Sound.{Above}
use Rattle.c_typed.specs.Lawful.{IsLawful}
use Rattle.c_model.specs.Program.{Standing}
use Rattle.mem_objects.specs.Keeps.{Keeps}
use Rattle.mem_objects.specs.Sound.{IsSound}
use Rattle.run_standing.specs.Outcomes.{LivesStay, WaitAll}
use Rattle.run_standing.specs.Standing.{AllFilled, AreStatics}
use Rattle.run_values.specs.Placed.{ArePlaced}
use Rattle.run_standing.proofs.initial.fill_statics.Given as goal

abbrev pub invariant-loop-number : goal.invariant-loop-number
invariant-loop-number l = record {
  keeps : IsSound l.initial.m → IsLawful l.p → ArePlaced l.initial.m l.p l.places → Keeps l.initial.m l.m;
  filled : IsSound l.initial.m → IsLawful l.p → ArePlaced l.initial.m l.p l.places → (os : List Standing) → AreStatics l.p.tags 0 l.object-items os
      → AllFilled l.initial.m l.m (take l.number os);
  live : IsSound l.initial.m → IsLawful l.p → ArePlaced l.initial.m l.p l.places → Above 16777216 l.initial.m.rows → (os : List Standing)
      → AreStatics l.p.tags 0 l.p.statics os → WaitAll l.initial.m os → LivesStay l.initial.m l.m;
}

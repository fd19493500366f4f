-- The items of the first conflict so far conflict, what is kept is right, and of the nodes so far no operands clash, where there is no conflict.
use Rattle.std.specs.Prelude.{◌≡◌, ℕ, None}
use Rattle.evaluation_log.specs.FoundItems.{ItemsConflict}
use Rattle.run_evaluations.specs.Kept.{IsKept}
use Rattle.run_evaluations.specs.Loose.{IsLooseKept}
use Rattle.evaluation_log.specs.Ways.{IsRising}
use Rattle.evaluation_search.specs.First.{IsFirstOf}
use Rattle.run_evaluations.specs.First.{IsTopPair}
use Rattle.run_evaluations.specs.Ways.{AreOnWay, IsSameUnder, StandInOrder}
use Rattle.run_evaluations.proofs.WayLemmas.{Shape, NoneSoFar}
use Rattle.run_evaluations.proofs.open.Evaluations.found_on_way.Given as goal

abbrev pub invariant-loop-i : goal.invariant-loop-i
invariant-loop-i l = record {
  conflict : ItemsConflict l.best;
  kept : IsKept l.fn.self → IsKept l.self;
  loose : IsKept l.fn.self → IsLooseKept l.fn.self → IsLooseKept l.self;
  under : IsKept l.fn.self → IsLooseKept l.fn.self → IsSameUnder l.fn.self l.self;
  shape : IsRising l.way.above.items → (c : ℕ) × Shape l.fn.self l.self l.way.above.items l.i c;
  none : IsKept l.fn.self → IsRising l.way.above.items → l.best ≡ None → NoneSoFar l.under.map.now l.rules l.way.above.items l.fn.self l.i;
  first : IsKept l.fn.self → IsRising l.way.above.items → StandInOrder l.fn.self →
      IsFirstOf l.under.frames.now (IsTopPair l.under.frames.now l.under.map.now l.fn.self (AreOnWay l.rules l.way.above.items l.fn.self l.i)) l.best;
}

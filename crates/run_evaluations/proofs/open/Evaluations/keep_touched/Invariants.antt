-- What is kept is right so far.
use Rattle.run_evaluations.specs.Ends.{events_from}
use Rattle.run_evaluations.specs.Follows.{IsSameBefore}
use Rattle.run_evaluations.specs.Kept.{IsKept}
use Rattle.run_evaluations.specs.Loose.{IsLooseKept}
use Rattle.run_evaluations.proofs.open.Evaluations.keep_touched.Given as goal

abbrev pub invariant-loop-at : goal.invariant-loop-at
invariant-loop-at l = record {
  kept : IsKept l.fn.self → IsKept l.self;
  loose : IsLooseKept l.fn.self →
      IsLooseKept l.self;
  same : IsSameBefore l.fn.self l.self (events_from l.fn.self);
}

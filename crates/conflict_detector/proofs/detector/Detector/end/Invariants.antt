-- The first conflict so far is of two items that conflict, its two evaluations stand as it asks, and it is the first one of the frames that were left.
use Rattle.std.specs.Prelude.{◌≡◌, ◌-◌, ◌≤◌, List, length}
use Rattle.elaborate.specs.Roots.{trees_at}
use Rattle.evaluation_log.specs.FoundItems.{ItemsConflict}
use Rattle.run_evaluations.specs.Told.{Opened}
use Rattle.conflict_detector.specs.Apart.{FoundApart}
use Rattle.conflict_detector.specs.Complete.{AllEnd}
use Rattle.conflict_detector.specs.Recorded.{IsRecording}
use Rattle.conflict_detector.proofs.RunEnds.{Ending}
use Rattle.conflict_detector.proofs.detector.Detector.end.Given as goal

abbrev pub invariant-loop-i : goal.invariant-loop-i
invariant-loop-i l =
    let roots = l.fn.roots in
    let bs = l.fn.v.begun.now in
    let from = l.fn.self.recorded - 1 in
    let total = length bs - from in
    record {
      items : ItemsConflict l.best;
      apart : FoundApart (trees_at roots) l.best;
      counts : l.self.recorded ≡ l.fn.self.recorded;
      low : l.fn.self.recorded ≤ length bs → l.fn.self.recorded ≤ l.i;
      first : (os : List Opened) → IsRecording roots os l.fn.self → AllEnd roots bs from total os →
          Ending l.fn.v.frames.now l.fn.v.map.now roots bs from (l.i - from) total os l.best l.self;
    }

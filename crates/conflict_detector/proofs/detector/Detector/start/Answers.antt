use Rattle.conflict_detector.specs.Telling.{fresh}
use Rattle.conflict_detector.proofs.Leaving.{started_bare}
use Rattle.conflict_detector.proofs.detector.Detector.start.Goals as goal

pub returns-clause-starts : goal.returns-clause-starts
returns-clause-starts c = λ roots some i s.
    let r = c.in_ok-record.ensures.follows i.main s i.follows i.bare in
    (r.0, r.1, record { known = i.known; some = some; started = started_bare (fresh c.args.begun.now.frame c.args.begun.now.turn s) r.0 r.1; follows = r.2 })

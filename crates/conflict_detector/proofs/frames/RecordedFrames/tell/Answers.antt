use Rattle.conflict_detector.proofs.frames.RecordedFrames.tell.Goals as goal

pub returns-clause-enters : goal.returns-clause-enters
returns-clause-enters c = λ t ts f tells other kind.
    c.in_ok-enter.ensures.follows _ (record { follows = (c.in_ok-event.ensures.follows t ts f.follows tells).1 kind; names = f.names })

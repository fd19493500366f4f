use Rattle.conflict_detector.proofs.frames.RecordedFrames.settle.Goals as goal

pub returns : goal.returns
returns c = record { follows = λ t ts f. record { follows = c.in_ok-settle.ensures.follows t ts f.follows; names = f.names } }

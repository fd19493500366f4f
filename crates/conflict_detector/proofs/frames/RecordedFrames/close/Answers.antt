use Rattle.std.proofs.Common.{arith}
use Rattle.conflict_detector.proofs.Leaving.{down_all, down_none, down_one}
use Rattle.conflict_detector.proofs.frames.RecordedFrames.close.Goals as goal

pub loop-init : goal.loop-init
loop-init c = down_none c.args.self.now

pub loop-preserved : goal.loop-preserved
loop-preserved c =
    down_one c.args.self.now c.loop.self c.leave.new.self c.loop.counter c.loop.invariant
    (omega (arith, c.loop-test.true, c.len-end.ensures, c.args.self.now.names.ok.0)) c.in_ok-leave.ensures.follows

pub returns : goal.returns
returns c = record {
  follows =
      down_all c.args.self.now c.loop.self c.settle.new.self c.loop.counter c.loop.invariant
      (omega (arith, c.loop-test.false, c.len-end.ensures, c.args.self.now.names.ok.0)) c.in_ok-settle.ensures.follows;
}

use Rattle.std.proofs.Common.{arith}
use Rattle.conflict_detector.proofs.Leaving.{leaves_all, leaves_none, leaves_one, leaves_reach}
use Rattle.conflict_detector.proofs.frames.RecordedFrames.reach.Goals as goal

pub loop-init : goal.loop-init
loop-init c = leaves_none c.args.frame c.args.self.now

pub loop-preserved : goal.loop-preserved
loop-preserved c =
    leaves_one c.args.frame c.args.self.now c.loop.self c.leave.new.self c.loop.counter c.loop.invariant (c.is_top.ensures.no c.if-is_top.false)
    c.in_ok-leave.ensures.follows

pub returns-then-is_top : goal.returns-then-is_top
returns-then-is_top c = record {
  follows = leaves_reach c.args.frame c.args.self.now c.loop.self c.loop.counter c.loop.invariant (c.is_top.ensures.yes c.if-is_top.true);
}

pub returns : goal.returns
returns c = record {
  follows = λ os f in_it started. absurd (
      leaves_all c.args.frame c.args.self.now c.loop.self c.loop.counter c.loop.invariant
      (omega (arith, c.loop-test.false, c.len-end.ensures, c.args.self.now.names.ok.0)) os f in_it started);
}

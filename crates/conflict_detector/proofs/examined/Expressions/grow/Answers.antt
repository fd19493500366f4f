use Rattle.std.proofs.Common.{arith}
use Rattle.conflict_detector.proofs.Known.{right_more}
use Rattle.conflict_detector.proofs.examined.Expressions.grow.Goals as goal

pub loop-preserved : goal.loop-preserved
loop-preserved c = record {
  grown = omega (arith, c.in_ok-push.ensures.len, c.loop.invariant.grown);
  right = λ roots right. right_more roots c.loop.self.list.items c.push.new.self.items c.none.result c.in_ok-push.ensures.items c.none.ensures.rules
      c.none.ensures.quiet (c.loop.invariant.right roots right);
}

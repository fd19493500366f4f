use Rattle.std.proofs.Common.{below_more, arith}
use Rattle.evaluation_search.proofs.log.Log.some_large_meets.Goals as goal

pub loop-i-preserved : goal.loop-i-preserved
loop-i-preserved c = below_more _ _ c.loop-i.invariant (λ le. c.large_meets.ensures c.if-large_meets.false)

pub returns : goal.returns
returns c = λ h k le less. c.loop-i.invariant k (omega (arith, less, c.loop-i-test.false)) le
